-- The laws that every row of either end keeps, as tests on a case and a rule. What each means of a call stands in Meaning. Assumes nothing.
use Rattle.std.specs.Prelude.{◌+◌, ℕ, Bool, ◌&&◌, ◌||◌, cond, false, not, true, List, [], ◌++◌, ◌∷◌, eqb, leb}
use Rattle.signal.specs.Numbers.{answer_number}
use Rattle.signal.specs.declared.Answer.{Answer}
use Rattle.signal.specs.declared.Answer.TheVariants.{Done, NoMeaning, NotHeld, NumbersSpent}
use Rattle.signal.specs.declared.CauseCode.{CauseCode}
use Rattle.signal.specs.declared.CauseCode.TheVariants.{CallRejected, Section66}
use Rattle.rows.specs.Cases.{Asking, Case, Connected, DomainReleased, Expired, FoundNone, FoundPath, Happening, NamesIncumbent}
use Rattle.rows.specs.Cases.{NamesOther, NamesRerouting, PartyReleased, Role, SaidReady, SetUp, Triggered}
use Rattle.rows.specs.Checks.{number_stored}
use Rattle.rows.specs.Effects.{causes_of, gives_new}
use Rattle.rows.specs.Every.{conj}
use Rattle.rows.specs.Rules.{Closing, LeavesTimer, NewNumber, NoClosing, NoSlot, OldIncumbent, OldRerouting, Rejects, Rule, Saying}
use Rattle.rows.specs.Rules.{Says1, Says2, Says4, Says5, Says6, Says8, SaysAsCame, SaysNothing, SendsConnect, SendsSetup, Slot}
use Rattle.rows.specs.Rules.{StartsTimer, StopsTimer, Tells, Timer, Told, Untold, is_done, own_incumbent, own_rerouting}
use Rattle.rows.specs.States.{Phase, holds_incumbent, holds_rerouting, is_hard_phase, is_over, phase_number}

abbrev pub slot_number : Slot → ℕ
slot_number NoSlot = 0
slot_number OldIncumbent = 1
slot_number OldRerouting = 2
slot_number NewNumber = 3

abbrev pub timer_number : Timer → ℕ
timer_number LeavesTimer = 0
timer_number StartsTimer = 1
timer_number StopsTimer = 2

abbrev pub same_slot : Slot → Slot → Bool
same_slot a b = eqb (slot_number a) (slot_number b)

abbrev pub same_phase : Phase → Phase → Bool
same_phase a b = eqb (phase_number a) (phase_number b)

abbrev pub same_timer : Timer → Timer → Bool
same_timer a b = eqb (timer_number a) (timer_number b)

abbrev pub role_number : Role → ℕ
role_number NamesIncumbent = 0
role_number NamesRerouting = 1
role_number NamesOther = 2

abbrev pub same_role : Role → Role → Bool
same_role a b = eqb (role_number a) (role_number b)

abbrev pub saying_number : Saying → ℕ
saying_number SaysNothing = 0
saying_number Says1 = 1
saying_number Says2 = 2
saying_number Says4 = 4
saying_number Says5 = 5
saying_number Says6 = 6
saying_number Says8 = 8
saying_number SaysAsCame = 9

abbrev pub same_saying : Saying → Saying → Bool
same_saying a b = eqb (saying_number a) (saying_number b)

abbrev pub code_number : CauseCode → ℕ
code_number Section66 = 0
code_number CallRejected = 1

abbrev pub same_code : CauseCode → CauseCode → Bool
same_code a b = eqb (code_number a) (code_number b)

abbrev pub same_answer : Answer → Answer → Bool
same_answer a b = eqb (answer_number a) (answer_number b)

abbrev pub is_told : Told → Bool
is_told Untold = false
is_told (Tells say code) = true

abbrev pub is_closed : Closing → Bool
is_closed NoClosing = false
is_closed (SendsSetup slot) = true
is_closed (SendsConnect slot) = true
is_closed (Rejects say code) = true

abbrev pub once : Bool → ℕ
once b = cond b 1 0

-- how many signals a rule sends
abbrev pub sends : Rule → ℕ
sends rule =
    once (not (same_timer rule.timer LeavesTimer))
    + (once (not (same_slot rule.switch NoSlot))
    + (once (is_told rule.party) + (once (is_told rule.retires) + (once (is_told rule.drops) + once (is_closed rule.closing)))))

-- they fit the four places
abbrev pub fits : Rule → Bool
fits rule = leb (sends rule) 4

-- a refusal leaves the call as it is, and sends nothing
abbrev pub stillness : Case → Rule → List Bool
stillness c rule =
    same_phase rule.phase c.phase
    ∷ same_slot rule.incumbent (own_incumbent c.phase)
    ∷ same_slot rule.rerouting (own_rerouting c.phase)
    ∷ not rule.stores
    ∷ eqb (sends rule) 0
    ∷ []

abbrev pub is_quiet : Case → Rule → Bool
is_quiet c rule = is_done rule.answer || conj (stillness c rule)

abbrev pub is_expired : Happening → Bool
is_expired Triggered = false
is_expired FoundPath = false
is_expired FoundNone = false
is_expired (Connected role agreed) = false
is_expired (SetUp asked late) = false
is_expired (PartyReleased class) = false
is_expired (DomainReleased role class tried) = false
is_expired SaidReady = false
is_expired Expired = true

-- the timer: start on entering the Hard states, stop on leaving them other than by expiry (01, "Signals")
abbrev pub timer_wanted : Bool → Bool → Bool → Timer
timer_wanted expired before after =
    cond (not before && after) StartsTimer (cond (before && (not after && not expired)) StopsTimer LeavesTimer)

abbrev pub is_timed : Case → Rule → Bool
is_timed c rule = same_timer rule.timer (timer_wanted (is_expired c.happening) (is_hard_phase c.phase) (is_hard_phase rule.phase))

-- what a phase holds, as slots
abbrev pub slots_of : Phase → Slot → Slot → List Slot
slots_of phase i r = cond (holds_incumbent phase) (i ∷ []) [] ++ cond (holds_rerouting phase) (r ∷ []) []

abbrev pub given_slots : Rule → List Slot
given_slots rule = cond (gives_new rule) (NewNumber ∷ []) []

abbrev pub role_slots : Role → List Slot
role_slots NamesIncumbent = OldIncumbent ∷ []
role_slots NamesRerouting = OldRerouting ∷ []
role_slots NamesOther = []

-- the connections whose release an event reports
abbrev pub reported_slots : Happening → List Slot
reported_slots Triggered = []
reported_slots FoundPath = []
reported_slots FoundNone = []
reported_slots (Connected role agreed) = []
reported_slots (SetUp asked late) = []
reported_slots (PartyReleased class) = []
reported_slots (DomainReleased role class tried) = role_slots role
reported_slots SaidReady = []
reported_slots Expired = []

abbrev pub ended_slots : Rule → List Slot
ended_slots rule = cond (is_told rule.retires) (OldIncumbent ∷ []) [] ++ cond (is_told rule.drops) (OldRerouting ∷ []) []

-- how often a slot stands in a list
abbrev pub tally : Slot → List Slot → ℕ
tally x [] = 0
tally x (y ∷ more) = once (same_slot x y) + tally x more

abbrev pub tallies : List Slot → List Slot → List Bool
tallies a b =
    eqb (tally NoSlot a) (tally NoSlot b)
    ∷ eqb (tally OldIncumbent a) (tally OldIncumbent b)
    ∷ eqb (tally OldRerouting a) (tally OldRerouting b)
    ∷ eqb (tally NewNumber a) (tally NewNumber b)
    ∷ []

abbrev pub is_other : Role → Bool
is_other NamesIncumbent = false
is_other NamesRerouting = false
is_other NamesOther = true

-- the release of a connection that is not held is refused
abbrev pub knows_named : Happening → Bool
knows_named Triggered = true
knows_named FoundPath = true
knows_named FoundNone = true
knows_named (Connected role agreed) = true
knows_named (SetUp asked late) = true
knows_named (PartyReleased class) = true
knows_named (DomainReleased role class tried) = not (is_other role)
knows_named SaidReady = true
knows_named Expired = true

-- what is held before, with the number given, is what is held after and what has ended, each counted
abbrev pub balances : Case → Rule → List Bool
balances c rule =
    knows_named c.happening
    ∷ tallies (slots_of c.phase OldIncumbent OldRerouting ++ given_slots rule)
    (slots_of rule.phase rule.incumbent rule.rerouting ++ (reported_slots c.happening ++ ended_slots rule))

abbrev pub is_balanced : Case → Rule → Bool
is_balanced c rule = not (is_done rule.answer) || conj (balances c rule)

-- a switch names the incumbent after
abbrev pub switch_names : Rule → Bool
switch_names rule = same_slot rule.switch NoSlot || (same_slot rule.switch rule.incumbent && holds_incumbent rule.phase)

-- a setup names the number given, a connect the rerouting connection as held before
abbrev pub closing_names : Closing → Rule → Bool
closing_names NoClosing rule = true
closing_names (SendsSetup slot) rule = same_slot slot NewNumber && gives_new rule
closing_names (SendsConnect slot) rule = same_slot slot OldRerouting
closing_names (Rejects say code) rule = true

-- a new number is given only where there is room
abbrev pub has_room_for : Case → Rule → Bool
has_room_for c rule = c.room || not (gives_new rule)

abbrev pub same_bool : Bool → Bool → Bool
same_bool true b = b
same_bool false b = not b

abbrev pub is_partys : Happening → Bool
is_partys Triggered = false
is_partys FoundPath = false
is_partys FoundNone = false
is_partys (Connected role agreed) = false
is_partys (SetUp asked late) = false
is_partys (PartyReleased class) = true
is_partys (DomainReleased role class tried) = false
is_partys SaidReady = false
is_partys Expired = false

-- the node's own party is told exactly when the call ends otherwise than by its own release
abbrev pub ends_otherwise : Case → Phase → Bool
ends_otherwise c phase = not (is_over c.phase) && (is_over phase && not (is_partys c.happening))

abbrev pub sends_setup : Closing → Bool
sends_setup NoClosing = false
sends_setup (SendsSetup slot) = true
sends_setup (SendsConnect slot) = false
sends_setup (Rejects say code) = false

abbrev pub tells_party : Case → Rule → Bool
tells_party c rule = not (is_done rule.answer) || same_bool (is_told rule.party) (ends_otherwise c rule.phase)

-- a setup is accepted where its number is stored and it is not rejected; told what is sent last, and whether the number is stored
abbrev pub accepts : Closing → Bool → Bool
accepts NoClosing stores = stores
accepts (SendsSetup slot) stores = stores
accepts (SendsConnect slot) stores = stores
accepts (Rejects say code) stores = false

-- a number is given exactly with a setup that is sent or accepted
abbrev pub gives_with_setup : Rule → Bool
gives_with_setup rule = same_bool (gives_new rule) (sends_setup rule.closing || accepts rule.closing rule.stores)

-- and not with both
abbrev pub sets_up_once : Rule → Bool
sets_up_once rule = not (sends_setup rule.closing && accepts rule.closing rule.stores)

-- a number is given only on a path found, by a setup, or over an alternate path: no other event of either end asks for one
abbrev pub may_give : Happening → Bool
may_give Triggered = false
may_give FoundPath = true
may_give FoundNone = false
may_give (Connected role agreed) = false
may_give (SetUp asked late) = true
may_give (PartyReleased class) = false
may_give (DomainReleased role class tried) = true
may_give SaidReady = false
may_give Expired = false

-- all laws of a row
abbrev pub laws : Case → Rule → List Bool
laws c rule =
    fits rule
    ∷ is_quiet c rule
    ∷ is_timed c rule
    ∷ is_balanced c rule
    ∷ switch_names rule
    ∷ closing_names rule.closing rule
    ∷ has_room_for c rule
    ∷ tells_party c rule
    ∷ gives_with_setup rule
    ∷ sets_up_once rule
    ∷ []

abbrev pub is_lawful : Case → Rule → Bool
is_lawful c rule = conj (laws c rule)

-- What the documents ask of one end beside these laws, by case: 106; the cause with which a setup that has a meaning is rejected; the
-- releases that bear Cause code #21; and how many signals an event sends at most
pub record Wants : Type 0 where
  pub meaningless : Case → Bool
  pub rejected : Phase → Asking → Bool → List Saying
  pub retired21 : Case → Bool
  pub dropped21 : Case → Bool
  pub most : ℕ

abbrev pub is_empty : List Saying → Bool
is_empty [] = true
is_empty (say ∷ more) = false

-- the connection that an event names is held
abbrev pub holds_role : Phase → Role → Bool
holds_role phase NamesIncumbent = holds_incumbent phase
holds_role phase NamesRerouting = holds_rerouting phase
holds_role phase NamesOther = false

-- 107: a connect or a release for a connection names one that is not held, or a connect names the incumbent
abbrev pub names_unheld : Phase → Happening → Bool
names_unheld phase Triggered = false
names_unheld phase FoundPath = false
names_unheld phase FoundNone = false
names_unheld phase (Connected role agreed) = same_role role NamesIncumbent || not (holds_role phase role)
names_unheld phase (SetUp asked late) = false
names_unheld phase (PartyReleased class) = false
names_unheld phase (DomainReleased role class tried) = not (holds_role phase role)
names_unheld phase SaidReady = false
names_unheld phase Expired = false

-- 108: "path found", or a setup that would otherwise be accepted: what asks for a new number
abbrev pub asks_for : Wants → Phase → Happening → Bool
asks_for w phase Triggered = false
asks_for w phase FoundPath = true
asks_for w phase FoundNone = false
asks_for w phase (Connected role agreed) = false
asks_for w phase (SetUp asked late) = is_empty (w.rejected phase asked late)
asks_for w phase (PartyReleased class) = false
asks_for w phase (DomainReleased role class tried) = false
asks_for w phase SaidReady = false
asks_for w phase Expired = false

-- the first check that applies gives the answer
abbrev pub first_answer : Bool → Bool → Bool → Answer
first_answer meaningless unheld spent = cond meaningless NoMeaning (cond unheld NotHeld (cond spent NumbersSpent Done))

abbrev pub answer_in : Wants → Case → Answer
answer_in w c = first_answer (w.meaningless c) (names_unheld c.phase c.happening) (asks_for w c.phase c.happening && not c.room)

-- what a setup is rejected with, where it has a meaning; no other event is rejected
abbrev pub rejected_in : Wants → Case → Happening → List Saying
rejected_in w c Triggered = []
rejected_in w c FoundPath = []
rejected_in w c FoundNone = []
rejected_in w c (Connected role agreed) = []
rejected_in w c (SetUp asked late) = cond (w.meaningless c) [] (w.rejected c.phase asked late)
rejected_in w c (PartyReleased class) = []
rejected_in w c (DomainReleased role class tried) = []
rejected_in w c SaidReady = []
rejected_in w c Expired = []

-- a number is stored exactly by an accepted setup, and by one that is rejected with #6
abbrev pub stores_in : Wants → Case → Happening → Bool
stores_in w c Triggered = false
stores_in w c FoundPath = false
stores_in w c FoundNone = false
stores_in w c (Connected role agreed) = false
stores_in w c (SetUp asked late) = not (w.meaningless c) && number_stored (causes_of (w.rejected c.phase asked late)) c.room
stores_in w c (PartyReleased class) = false
stores_in w c (DomainReleased role class tried) = false
stores_in w c SaidReady = false
stores_in w c Expired = false

-- a saying that is a number
abbrev pub says_number : Saying → Bool
says_number SaysNothing = false
says_number Says1 = true
says_number Says2 = true
says_number Says4 = true
says_number Says5 = true
says_number Says6 = true
says_number Says8 = true
says_number SaysAsCame = false

-- the closing is that rejection, with a number and Cause code 6.6, exactly where there is one
abbrev pub rejects_with : List Saying → Closing → Bool
rejects_with [] NoClosing = true
rejects_with [] (SendsSetup slot) = true
rejects_with [] (SendsConnect slot) = true
rejects_with [] (Rejects say code) = false
rejects_with (wanted ∷ more) NoClosing = false
rejects_with (wanted ∷ more) (SendsSetup slot) = false
rejects_with (wanted ∷ more) (SendsConnect slot) = false
rejects_with (wanted ∷ more) (Rejects say code) =
    same_saying say wanted && (same_code code Section66 && (is_empty more && says_number wanted))

-- a rejected setup is one for a call, is answered 0, leaves the call in its state with what it holds, and sends that rejection alone
abbrev pub left_alone : Case → Rule → List Bool
left_alone c rule =
    is_done rule.answer
    ∷ not (is_over c.phase)
    ∷ same_phase rule.phase c.phase
    ∷ same_slot rule.incumbent (own_incumbent c.phase)
    ∷ same_slot rule.rerouting (own_rerouting c.phase)
    ∷ eqb (sends rule) 1
    ∷ []

abbrev pub leaves_rejected : List Saying → Case → Rule → Bool
leaves_rejected [] c rule = true
leaves_rejected (say ∷ more) c rule = conj (left_alone c rule)

-- a release bears Cause code #21, with no Rerouting cause, exactly where it is wanted
abbrev pub bears21 : Bool → Told → Bool
bears21 wanted Untold = not wanted
bears21 wanted (Tells say code) = same_bool wanted (same_code code CallRejected) && (not wanted || same_saying say SaysNothing)

-- all that one end's documents ask of a row
abbrev pub wants : Wants → Case → Rule → List Bool
wants w c rule =
    same_answer rule.answer (answer_in w c)
    ∷ same_bool rule.stores (stores_in w c c.happening)
    ∷ rejects_with (rejected_in w c c.happening) rule.closing
    ∷ leaves_rejected (rejected_in w c c.happening) c rule
    ∷ bears21 false rule.party
    ∷ bears21 (w.retired21 c) rule.retires
    ∷ bears21 (w.dropped21 c) rule.drops
    ∷ leb (sends rule) w.most
    ∷ []

abbrev pub is_wanted : Wants → Case → Rule → Bool
is_wanted w c rule = conj (wants w c rule)
