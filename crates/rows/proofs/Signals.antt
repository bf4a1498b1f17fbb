-- Timer, names, order, honesty and number of the signals, for any call and event, at either end. Assumes nothing.
use Prim.Native.Nat.{◌+◌, ◌≤◌, ℕ}
use native.Mathlib.Omega.{arith}
use mathlib.Core.Bool.{Bool, ◌&&◌, ◌||◌, cond, false, false≢true, not, or-true, true}
use mathlib.Core.List.{List, [], ◌++◌, ◌∷◌}
use mathlib.Core.Path.{◌∙◌, ◌≡◌, ap, refl, sym}
use lib.Dec.{eqb, ltb}
use lib.ListN.{length}
use borrow.Author.Tests.{eq-eqb, eqb-true, lt-ltb, ltb-true}
use Rattle.std.specs.Prelude.{Option, None, Some}
use Rattle.signal.specs.Counting.{CameSo, Honest, in_order, kind_number, named, of_kind, turn_of}
use Rattle.signal.specs.Signals.{places}
use Rattle.signal.specs.declared.Kind.{Kind}
use Rattle.signal.specs.declared.Kind.TheVariants.{CalledRelease, CallingRelease, ConnectRequest, IncumbentRelease, NoSignal, Rejection}
use Rattle.signal.specs.declared.Kind.TheVariants.{ReroutingRelease, SetupRequest, Switch, TimerStart, TimerStop}
use Rattle.signal.specs.declared.ReroutingCause.{ReroutingCause}
use Rattle.signal.specs.declared.Signal.{Signal}
use Rattle.events.specs.Events.{is_expiry, is_from_party, number_brought, received_in}
use Rattle.events.specs.declared.Event.{Event}
use Rattle.events.specs.declared.Event.TheVariants.{Connect, Expiry, FromDomain, FromParty, NoPath, PathFound, Ready, Setup, Trigger}
use Rattle.rows.proofs.Balance.{done, few, sent}
use Rattle.rows.proofs.Every.{Each, each, left, right}
use Rattle.rows.proofs.Same.{bool_same, phase_same, slot_same, timer_same}
use Rattle.rows.proofs.Sent.{append_none, kind_append, or_right, pad, placed, sent_length}
use Rattle.events.specs.declared.Node.{Node}
use Rattle.events.specs.declared.Node.TheVariants.{Destination, Source}
use Rattle.rows.specs.Cases.{Standing, case_of, happening_of, has_room}
use Rattle.rows.specs.Checks.{AllAre, AllIncumbent, Nones, is_its_incumbent, party_wanted, starts_wanted, stops_wanted, unrejected}
use Rattle.rows.specs.Effects.{closing_sent, gives_in, gives_new, party_kind, said, sent_by, switch_sent, timer_sent}
use Rattle.rows.specs.Effects.{told_sent, value}
use Rattle.rows.specs.Laws.{accepts, closing_names, ends_otherwise, fits, gives_with_setup, has_room_for, is_closed, is_expired, is_partys, is_quiet}
use Rattle.rows.specs.Laws.{is_timed, is_told, once, same_bool, same_slot, same_timer, sends, sends_setup, sets_up_once, stillness, switch_names}
use Rattle.rows.specs.Laws.{tells_party, timer_wanted}
use Rattle.rows.specs.Meaning.{accepted_by, given_by, stored_by}
use Rattle.rows.specs.Rules.{Closing, LeavesTimer, NewNumber, NoClosing, NoSlot, OldIncumbent, OldRerouting, Rejects, Rule, Saying}
use Rattle.rows.specs.Rules.{Says1, Says2, Says4, Says5, Says6, Says8, SaysAsCame, SaysNothing, SendsConnect, SendsSetup, Slot}
use Rattle.rows.specs.Rules.{StartsTimer, StopsTimer, Tells, Timer, Told, Untold, is_done}
use Rattle.rows.specs.States.{AtAwaiting, AtHardUnderway, AtHardWaiting, AtIdle, AtNull, AtSoftInitiated, AtSoftProceeding}
use Rattle.rows.specs.States.{AtSoftTriggered, Phase, built, holds_incumbent, incumbent_of, is_hard, is_hard_phase, is_null, is_over}
use Rattle.rows.specs.States.{phase_of, rerouting_of}
use Rattle.rows.specs.declared.Effect.{Effect}
use Rattle.rows.specs.declared.State.{State}
use Rattle.rows.specs.declared.State.TheVariants.{Awaiting, HardUnderway, HardWaiting, Idle, Null, SoftInitiated, SoftProceeding}
use Rattle.rows.specs.declared.State.TheVariants.{SoftTriggered}

-- a part of the signals is silent on another kind
pad_other : (k : Kind) → eqb 0 (kind_number k) ≡ false → (l : List Signal) → of_kind k (pad l) ≡ []
pad_other k h [] = simp h
pad_other k h (a ∷ []) = simp h
pad_other k h (a ∷ (b ∷ [])) = simp h
pad_other k h (a ∷ (b ∷ (c ∷ []))) = simp h
pad_other k h (a ∷ (b ∷ (c ∷ (d ∷ more)))) = refl

timer_other : (k : Kind) → eqb 1 (kind_number k) ≡ false → eqb 2 (kind_number k) ≡ false → (t : Timer) → of_kind k (timer_sent t) ≡ []
timer_other k h g LeavesTimer = refl
timer_other k h g StartsTimer = simp h
timer_other k h g StopsTimer = simp g

switch_other : (k : Kind) → eqb 3 (kind_number k) ≡ false → (s : State) (n : ℕ) (x : Slot) → of_kind k (switch_sent s n x) ≡ []
switch_other k h s n NoSlot = refl
switch_other k h s n OldIncumbent = simp h
switch_other k h s n OldRerouting = simp h
switch_other k h s n NewNumber = simp h

told_other : (k j : Kind) → eqb (kind_number j) (kind_number k) ≡ false → (n : ℕ) (got : Option ReroutingCause) (t : Told) →
    of_kind k (told_sent j n got t) ≡ []
told_other k j h n got Untold = refl
told_other k j h n got (Tells say code) = simp h

party_other : (k : Kind) → eqb 4 (kind_number k) ≡ false → eqb 10 (kind_number k) ≡ false → (node : Node) (got : Option ReroutingCause) (t : Told) →
    of_kind k (told_sent (party_kind node) 0 got t) ≡ []
party_other k h g Source got t = told_other k CallingRelease h 0 got t
party_other k h g Destination got t = told_other k CalledRelease g 0 got t

closing_other : (k : Kind) → eqb 7 (kind_number k) ≡ false → eqb 8 (kind_number k) ≡ false → eqb 9 (kind_number k) ≡ false →
    (s : State) (n : ℕ) (got : Option ReroutingCause) (x : Closing) → of_kind k (closing_sent s n got x) ≡ []
closing_other k f g h s n got NoClosing = refl
closing_other k f g h s n got (SendsSetup slot) = simp f
closing_other k f g h s n got (SendsConnect slot) = simp g
closing_other k f g h s n got (Rejects say code) = simp h

pub kind_placed : (k : Kind) → eqb 0 (kind_number k) ≡ false → (l : List Signal) → length l ≤ 4 → of_kind k (places l) ≡ of_kind k l
kind_placed k h l few = rw (placed l few) (simp (kind_append, pad_other k h, append_none))

-- what a phase is, built
phase_built : (phase : Phase) (i r : ℕ) → phase_of (built phase i r) ≡ phase
phase_built AtNull i r = refl
phase_built AtIdle i r = refl
phase_built AtHardWaiting i r = refl
phase_built AtHardUnderway i r = refl
phase_built AtSoftTriggered i r = refl
phase_built AtSoftProceeding i r = refl
phase_built AtSoftInitiated i r = refl
phase_built AtAwaiting i r = refl

incumbent_built : (phase : Phase) (i r : ℕ) → holds_incumbent phase ≡ true → is_its_incumbent (built phase i r) i ≡ true
incumbent_built AtNull i r h = absurd (false≢true h)
incumbent_built AtIdle i r h = eq-eqb i i refl
incumbent_built AtHardWaiting i r h = absurd (false≢true h)
incumbent_built AtHardUnderway i r h = absurd (false≢true h)
incumbent_built AtSoftTriggered i r h = eq-eqb i i refl
incumbent_built AtSoftProceeding i r h = eq-eqb i i refl
incumbent_built AtSoftInitiated i r h = eq-eqb i i refl
incumbent_built AtAwaiting i r h = eq-eqb i i refl

pub hard_is : (s : State) → is_hard_phase (phase_of s) ≡ is_hard s
hard_is Null = refl
hard_is (Idle i) = refl
hard_is HardWaiting = refl
hard_is (HardUnderway r) = refl
hard_is (SoftTriggered i) = refl
hard_is (SoftProceeding i r) = refl
hard_is (SoftInitiated i r) = refl
hard_is (Awaiting i r) = refl

pub over_is : (s : State) → is_over (phase_of s) ≡ is_null s
over_is Null = refl
over_is (Idle i) = refl
over_is HardWaiting = refl
over_is (HardUnderway r) = refl
over_is (SoftTriggered i) = refl
over_is (SoftProceeding i r) = refl
over_is (SoftInitiated i r) = refl
over_is (Awaiting i r) = refl

expiry_is : (s : State) (remote : ℕ) (e : Event) → is_expired (happening_of s remote e) ≡ is_expiry e
expiry_is s remote Trigger = refl
expiry_is s remote PathFound = refl
expiry_is s remote NoPath = refl
expiry_is s remote (Connect x agreed) = refl
expiry_is s remote (Setup code number) = refl
expiry_is s remote (FromParty cause) = refl
expiry_is s remote (FromDomain x cause tried) = refl
expiry_is s remote Ready = refl
expiry_is s remote Expiry = refl

starts_wanted_lem : (expired before after : Bool) → of_kind TimerStart (timer_sent (timer_wanted expired before after)) ≡ starts_wanted before after
starts_wanted_lem expired true true = refl
starts_wanted_lem true true false = refl
starts_wanted_lem false true false = refl
starts_wanted_lem expired false true = refl
starts_wanted_lem expired false false = refl

stops_wanted_lem : (expired before after : Bool) →
    of_kind TimerStop (timer_sent (timer_wanted expired before after)) ≡ stops_wanted expired before after
stops_wanted_lem expired true true = refl
stops_wanted_lem true true false = refl
stops_wanted_lem false true false = refl
stops_wanted_lem expired false true = refl
stops_wanted_lem expired false false = refl

all_told : (k : Kind) → eqb (kind_number k) (kind_number k) ≡ true → (n : ℕ) (got : Option ReroutingCause) (t : Told) →
    AllAre n (named (of_kind k (told_sent k n got t)))
all_told k h n got Untold = tt
all_told k h n got (Tells say code) = simp h (refl, tt)

all_connects : (s : State) (n : ℕ) (got : Option ReroutingCause) (x : Closing) (rule : Rule) → closing_names x rule ≡ true →
    AllAre (rerouting_of s) (named (of_kind ConnectRequest (closing_sent s n got x)))
all_connects s n got NoClosing rule p = tt
all_connects s n got (SendsSetup slot) rule p = tt
all_connects s n got (SendsConnect slot) rule p = (ap (value s n) (slot_same slot OldRerouting p), tt)
all_connects s n got (Rejects say code) rule p = tt

all_setups : (s : State) (n : ℕ) (got : Option ReroutingCause) (x : Closing) (rule : Rule) → closing_names x rule ≡ true →
    AllAre n (named (of_kind SetupRequest (closing_sent s n got x)))
all_setups s n got NoClosing rule p = tt
all_setups s n got (SendsSetup slot) rule p = (ap (value s n) (slot_same slot NewNumber (left (same_slot slot NewNumber) _ p)), tt)
all_setups s n got (SendsConnect slot) rule p = tt
all_setups s n got (Rejects say code) rule p = tt

-- a switch, where there is one, names the slot that it names
all_switches : (s : State) (n : ℕ) (x : Slot) (after : State) → (same_slot x NoSlot ≡ false → is_its_incumbent after (value s n x) ≡ true) →
    AllIncumbent after (named (of_kind Switch (switch_sent s n x)))
all_switches s n NoSlot after h = tt
all_switches s n OldIncumbent after h = (h refl, tt)
all_switches s n OldRerouting after h = (h refl, tt)
all_switches s n NewNumber after h = (h refl, tt)

-- the turns rise, from a bound on
abbrev rising : ℕ → List Signal → Bool
rising b [] = true
rising b (s ∷ more) = ltb b (turn_of s.kind) && rising (turn_of s.kind) more

lower : (a b : ℕ) (l : List Signal) → a ≤ b → rising b l ≡ true → rising a l ≡ true
lower a b [] h p = refl
lower a b (s ∷ more) h p =
    let above : ltb b (turn_of s.kind) ≡ true = left (ltb b (turn_of s.kind)) (rising (turn_of s.kind) more) p in
    simp (lt-ltb a (turn_of s.kind) (omega (arith, ltb-true b (turn_of s.kind) above))) (right (ltb b (turn_of s.kind)) (rising (turn_of s.kind) more) p)

timer_rises : (t : Timer) (l : List Signal) → rising 1 l ≡ true → rising 0 (timer_sent t ++ l) ≡ true
timer_rises LeavesTimer l p = lower 0 1 l (omega arith) p
timer_rises StartsTimer l p = p
timer_rises StopsTimer l p = p

switch_rises : (s : State) (n : ℕ) (x : Slot) (l : List Signal) → rising 2 l ≡ true → rising 1 (switch_sent s n x ++ l) ≡ true
switch_rises s n NoSlot l p = lower 1 2 l (omega arith) p
switch_rises s n OldIncumbent l p = p
switch_rises s n OldRerouting l p = p
switch_rises s n NewNumber l p = p

party_rises : (node : Node) (got : Option ReroutingCause) (t : Told) (l : List Signal) → rising 3 l ≡ true →
    rising 2 (told_sent (party_kind node) 0 got t ++ l) ≡ true
party_rises node got Untold l p = lower 2 3 l (omega arith) p
party_rises Source got (Tells say code) l p = p
party_rises Destination got (Tells say code) l p = p

retires_rises : (n : ℕ) (got : Option ReroutingCause) (t : Told) (l : List Signal) → rising 4 l ≡ true →
    rising 3 (told_sent IncumbentRelease n got t ++ l) ≡ true
retires_rises n got Untold l p = lower 3 4 l (omega arith) p
retires_rises n got (Tells say code) l p = p

drops_rises : (n : ℕ) (got : Option ReroutingCause) (t : Told) (l : List Signal) → rising 5 l ≡ true →
    rising 4 (told_sent ReroutingRelease n got t ++ l) ≡ true
drops_rises n got Untold l p = lower 4 5 l (omega arith) p
drops_rises n got (Tells say code) l p = p

closing_rises : (s : State) (n : ℕ) (got : Option ReroutingCause) (x : Closing) → rising 5 (closing_sent s n got x) ≡ true
closing_rises s n got NoClosing = refl
closing_rises s n got (SendsSetup slot) = refl
closing_rises s n got (SendsConnect slot) = refl
closing_rises s n got (Rejects say code) = refl

in_order_lem : (b : ℕ) (l : List Signal) → rising b l ≡ true → in_order (places l) ≡ true
in_order_lem b [] p = refl
in_order_lem b (x ∷ []) p = refl
in_order_lem b (x ∷ (y ∷ [])) p =
    let q : rising (turn_of x.kind) (y ∷ []) ≡ true = right (ltb b (turn_of x.kind)) _ p in
    simp (left (ltb (turn_of x.kind) (turn_of y.kind)) true q, or-true)
in_order_lem b (x ∷ (y ∷ (z ∷ []))) p =
    let q : rising (turn_of x.kind) (y ∷ z ∷ []) ≡ true = right (ltb b (turn_of x.kind)) _ p in
    let r : rising (turn_of y.kind) (z ∷ []) ≡ true = right (ltb (turn_of x.kind) (turn_of y.kind)) _ q in
    simp (left (ltb (turn_of x.kind) (turn_of y.kind)) (rising (turn_of y.kind) (z ∷ [])) q, left (ltb (turn_of y.kind) (turn_of z.kind)) true r, or-true)
in_order_lem b (x ∷ (y ∷ (z ∷ (w ∷ more)))) p =
    let q : rising (turn_of x.kind) (y ∷ z ∷ w ∷ more) ≡ true = right (ltb b (turn_of x.kind)) _ p in
    let r : rising (turn_of y.kind) (z ∷ w ∷ more) ≡ true = right (ltb (turn_of x.kind) (turn_of y.kind)) _ q in
    let t : rising (turn_of z.kind) (w ∷ more) ≡ true = right (ltb (turn_of y.kind) (turn_of z.kind)) _ r in
    simp (left (ltb (turn_of x.kind) (turn_of y.kind)) (rising (turn_of y.kind) (z ∷ w ∷ more)) q, left (ltb (turn_of y.kind) (turn_of z.kind)) (rising (turn_of z.kind) (w ∷ more)) r, left (ltb (turn_of z.kind) (turn_of w.kind)) (rising (turn_of w.kind) more) t, or-true)

four : (l : List Signal) → length (places l) ≡ 4
four [] = refl
four (x ∷ []) = refl
four (x ∷ (y ∷ [])) = refl
four (x ∷ (y ∷ (z ∷ []))) = refl
four (x ∷ (y ∷ (z ∷ (w ∷ more)))) = refl

-- a cause goes out as received only where it came
said_so : (got : Option ReroutingCause) (say : Saying) → CameSo got (said got say)
said_so got SaysNothing = tt
said_so got Says1 = tt
said_so got Says2 = tt
said_so got Says4 = tt
said_so got Says5 = tt
said_so got Says6 = tt
said_so got Says8 = tt
said_so None SaysAsCame = tt
said_so (Some k) SaysAsCame = refl

honest_append : (got : Option ReroutingCause) (a b : List Signal) → Honest got a → Honest got b → Honest got (a ++ b)
honest_append got [] b p q = q
honest_append got (s ∷ a) b p q = (p.0, honest_append got a b p.1 q)

honest_placed : (got : Option ReroutingCause) (l : List Signal) → Honest got l → Honest got (places l)
honest_placed got [] p = (tt, (tt, (tt, (tt, tt))))
honest_placed got (x ∷ []) p = (p.0, (tt, (tt, (tt, tt))))
honest_placed got (x ∷ (y ∷ [])) p = (p.0, (p.1.0, (tt, (tt, tt))))
honest_placed got (x ∷ (y ∷ (z ∷ []))) p = (p.0, (p.1.0, (p.1.1.0, (tt, tt))))
honest_placed got (x ∷ (y ∷ (z ∷ (w ∷ more)))) p = (p.0, (p.1.0, (p.1.1.0, (p.1.1.1.0, tt))))

timer_honest : (got : Option ReroutingCause) (t : Timer) → Honest got (timer_sent t)
timer_honest got LeavesTimer = tt
timer_honest got StartsTimer = (tt, tt)
timer_honest got StopsTimer = (tt, tt)

switch_honest : (got : Option ReroutingCause) (s : State) (n : ℕ) (x : Slot) → Honest got (switch_sent s n x)
switch_honest got s n NoSlot = tt
switch_honest got s n OldIncumbent = (tt, tt)
switch_honest got s n OldRerouting = (tt, tt)
switch_honest got s n NewNumber = (tt, tt)

told_honest : (got : Option ReroutingCause) (k : Kind) (n : ℕ) (t : Told) → Honest got (told_sent k n got t)
told_honest got k n Untold = tt
told_honest got k n (Tells say code) = (said_so got say, tt)

closing_honest : (got : Option ReroutingCause) (s : State) (n : ℕ) (x : Closing) → Honest got (closing_sent s n got x)
closing_honest got s n NoClosing = tt
closing_honest got s n (SendsSetup slot) = (tt, tt)
closing_honest got s n (SendsConnect slot) = (tt, tt)
closing_honest got s n (Rejects say code) = (said_so got say, tt)

-- the signals of a kind that no other field of a rule sends
kind_among : (k : Kind) → eqb 1 (kind_number k) ≡ false → eqb 2 (kind_number k) ≡ false → eqb 3 (kind_number k) ≡ false →
    eqb 5 (kind_number k) ≡ false → eqb 6 (kind_number k) ≡ false → eqb 7 (kind_number k) ≡ false → eqb 8 (kind_number k) ≡ false →
    eqb 9 (kind_number k) ≡ false → (l : List Signal) (s : State) (n : ℕ) (got : Option ReroutingCause) (rule : Rule) →
    of_kind k (timer_sent rule.timer ++ (switch_sent s n rule.switch ++ (l ++ (told_sent IncumbentRelease (incumbent_of s) got rule.retires ++ (told_sent ReroutingRelease (rerouting_of s) got rule.drops ++ closing_sent s n got rule.closing))))) ≡ of_kind k l
kind_among k a b c d e f g h l s n got rule =
    simp (
      kind_append,
      timer_other k a b,
      switch_other k c,
      told_other k IncumbentRelease d,
      told_other k ReroutingRelease e,
      closing_other k f g h,
      append_none,
    )

parties_in : (node : Node) (s : State) (n : ℕ) (got : Option ReroutingCause) (rule : Rule) →
    of_kind (party_kind node) (sent_by node s n got rule) ≡ of_kind (party_kind node) (told_sent (party_kind node) 0 got rule.party)
parties_in Source s n got rule =
    kind_among CallingRelease refl refl refl refl refl refl refl refl (told_sent CallingRelease 0 got rule.party) s n got rule
parties_in Destination s n got rule =
    kind_among CalledRelease refl refl refl refl refl refl refl refl (told_sent CalledRelease 0 got rule.party) s n got rule

party_kind_lem : (node : Node) → eqb 0 (kind_number (party_kind node)) ≡ false
party_kind_lem Source = refl
party_kind_lem Destination = refl

all_party : (node : Node) (got : Option ReroutingCause) (t : Told) →
    named (of_kind (party_kind node) (told_sent (party_kind node) 0 got t)) ≡ cond (is_told t) (0 ∷ []) []
all_party Source got Untold = refl
all_party Source got (Tells say code) = refl
all_party Destination got Untold = refl
all_party Destination got (Tells say code) = refl

party_is : (s : State) (remote : ℕ) (e : Event) → is_partys (happening_of s remote e) ≡ is_from_party e
party_is s remote Trigger = refl
party_is s remote PathFound = refl
party_is s remote NoPath = refl
party_is s remote (Connect x agreed) = refl
party_is s remote (Setup code number) = refl
party_is s remote (FromParty cause) = refl
party_is s remote (FromDomain x cause tried) = refl
party_is s remote Ready = refl
party_is s remote Expiry = refl

not_not : (a : Bool) → not (not a) ≡ a
not_not true = refl
not_not false = refl

-- every filled place has a kind, so that what is none is what was not filled
timer_some : (t : Timer) → of_kind NoSignal (timer_sent t) ≡ []
timer_some LeavesTimer = refl
timer_some StartsTimer = refl
timer_some StopsTimer = refl

pad_none : (l : List Signal) → Nones (of_kind NoSignal (pad l))
pad_none [] = (refl, (refl, (refl, (refl, tt))))
pad_none (a ∷ []) = (refl, (refl, (refl, tt)))
pad_none (a ∷ (b ∷ [])) = (refl, (refl, tt))
pad_none (a ∷ (b ∷ (c ∷ []))) = (refl, tt)
pad_none (a ∷ (b ∷ (c ∷ (d ∷ more)))) = tt

pad_length : (l : List Signal) → length l ≤ 4 → length (of_kind NoSignal (pad l)) + length l ≡ 4
pad_length [] h = refl
pad_length (a ∷ []) h = refl
pad_length (a ∷ (b ∷ [])) h = refl
pad_length (a ∷ (b ∷ (c ∷ []))) h = refl
pad_length (a ∷ (b ∷ (c ∷ (d ∷ [])))) h = refl
pad_length (a ∷ (b ∷ (c ∷ (d ∷ (e ∷ more))))) h = absurd (omega arith)

-- how many setups a closing sends
setups_sent : (s : State) (n : ℕ) (got : Option ReroutingCause) (x : Closing) →
    length (of_kind SetupRequest (closing_sent s n got x)) ≡ once (sends_setup x)
setups_sent s n got NoClosing = refl
setups_sent s n got (SendsSetup slot) = refl
setups_sent s n got (SendsConnect slot) = refl
setups_sent s n got (Rejects say code) = refl

one_long : (b : Bool) (n : ℕ) → length (cond b (n ∷ []) []) ≡ once b
one_long true n = refl
one_long false n = refl

-- a setup is sent or accepted, and not both
either_setup : (g s t : Bool) → same_bool g (s || t) ≡ true → not (s && t) ≡ true → once s + once t ≡ once g
either_setup true true true p q = absurd (false≢true q)
either_setup true true false p q = refl
either_setup true false true p q = refl
either_setup true false false p q = absurd (false≢true p)
either_setup false true true p q = absurd (false≢true p)
either_setup false true false p q = absurd (false≢true p)
either_setup false false true p q = absurd (false≢true p)
either_setup false false false p q = refl

module _ (node : Node) (x : Standing) (e : Event) (rule : Rule) (fit : fits rule ≡ true) where
  abbrev s : State
  s = x.state

  abbrev n : ℕ
  n = x.last + 1

  abbrev got : Option ReroutingCause
  got = received_in e

  abbrev all : List Signal
  all = sent node x e rule

  abbrev made : Effect
  made = done node x e rule

  none_in : of_kind NoSignal all ≡ []
  none_in =
      simp (
        kind_append,
        timer_some,
        switch_other NoSignal refl,
        party_other NoSignal refl refl,
        told_other NoSignal IncumbentRelease refl,
        told_other NoSignal ReroutingRelease refl,
        closing_other NoSignal refl refl refl,
        append_none,
      )

  pub blanks : of_kind NoSignal made.signals ≡ of_kind NoSignal (pad all)
  blanks =
      ap (of_kind NoSignal) (placed all (few node x e rule fit))
      ∙ (kind_append NoSignal all (pad all) ∙ ap (λ l. l ++ of_kind NoSignal (pad all)) none_in)

  pub blank : Nones (of_kind NoSignal made.signals)
  blank = rw blanks (pad_none all)

  pub unused : length (of_kind NoSignal made.signals) + sends rule ≡ 4
  unused = rw (blanks, ← sent_length node s n got rule) (pad_length all (few node x e rule fit))

  starts_in : of_kind TimerStart all ≡ of_kind TimerStart (timer_sent rule.timer)
  starts_in =
      simp (
        kind_append,
        switch_other TimerStart refl,
        party_other TimerStart refl refl,
        told_other TimerStart IncumbentRelease refl,
        told_other TimerStart ReroutingRelease refl,
        closing_other TimerStart refl refl refl,
        append_none,
      )

  stops_in : of_kind TimerStop all ≡ of_kind TimerStop (timer_sent rule.timer)
  stops_in =
      simp (
        kind_append,
        switch_other TimerStop refl,
        party_other TimerStop refl refl,
        told_other TimerStop IncumbentRelease refl,
        told_other TimerStop ReroutingRelease refl,
        closing_other TimerStop refl refl refl,
        append_none,
      )

  -- the phase of the state after is the rule's
  phase_after : phase_of made.state ≡ rule.phase
  phase_after = phase_built rule.phase (value s n rule.incumbent) (value s n rule.rerouting)

  hard_after : is_hard_phase rule.phase ≡ is_hard made.state
  hard_after = ap is_hard_phase (sym phase_after) ∙ hard_is made.state

  right_timer : is_timed (case_of x e) rule ≡ true → rule.timer ≡ timer_wanted (is_expiry e) (is_hard s) (is_hard made.state)
  right_timer p =
      timer_same rule.timer _ p
      ∙ (λ i. timer_wanted (expiry_is s x.remote e i) (hard_is s i) (hard_after i))

  pub starts : is_timed (case_of x e) rule ≡ true → of_kind TimerStart made.signals ≡ starts_wanted (is_hard s) (is_hard made.state)
  starts p =
      kind_placed TimerStart refl all (few node x e rule fit)
      ∙ (starts_in ∙ (ap (λ t. of_kind TimerStart (timer_sent t)) (right_timer p) ∙ starts_wanted_lem (is_expiry e) (is_hard s) (is_hard made.state)))

  pub stops : is_timed (case_of x e) rule ≡ true →
      of_kind TimerStop made.signals ≡ stops_wanted (is_expiry e) (is_hard s) (is_hard made.state)
  stops p =
      kind_placed TimerStop refl all (few node x e rule fit)
      ∙ (stops_in ∙ (ap (λ t. of_kind TimerStop (timer_sent t)) (right_timer p) ∙ stops_wanted_lem (is_expiry e) (is_hard s) (is_hard made.state)))

  retires_in : of_kind IncumbentRelease all ≡ of_kind IncumbentRelease (told_sent IncumbentRelease (incumbent_of s) got rule.retires)
  retires_in =
      simp (
        kind_append,
        timer_other IncumbentRelease refl refl,
        switch_other IncumbentRelease refl,
        party_other IncumbentRelease refl refl,
        told_other IncumbentRelease ReroutingRelease refl,
        closing_other IncumbentRelease refl refl refl,
        append_none,
      )

  drops_in : of_kind ReroutingRelease all ≡ of_kind ReroutingRelease (told_sent ReroutingRelease (rerouting_of s) got rule.drops)
  drops_in =
      simp (
        kind_append,
        timer_other ReroutingRelease refl refl,
        switch_other ReroutingRelease refl,
        party_other ReroutingRelease refl refl,
        told_other ReroutingRelease IncumbentRelease refl,
        closing_other ReroutingRelease refl refl refl,
        append_none,
      )

  switches_in : of_kind Switch all ≡ of_kind Switch (switch_sent s n rule.switch)
  switches_in =
      simp (
        kind_append,
        timer_other Switch refl refl,
        party_other Switch refl refl,
        told_other Switch IncumbentRelease refl,
        told_other Switch ReroutingRelease refl,
        closing_other Switch refl refl refl,
        append_none,
      )

  -- the signals of a closing's kind are the closing's
  closing_in : (k : Kind) → eqb 1 (kind_number k) ≡ false → eqb 2 (kind_number k) ≡ false → eqb 3 (kind_number k) ≡ false →
      eqb 4 (kind_number k) ≡ false → eqb 10 (kind_number k) ≡ false → eqb 5 (kind_number k) ≡ false → eqb 6 (kind_number k) ≡ false →
      of_kind k all ≡ of_kind k (closing_sent s n got rule.closing)
  closing_in k a b c d h f g =
      simp (
        kind_append,
        timer_other k a b,
        switch_other k c,
        party_other k d h,
        told_other k IncumbentRelease f,
        told_other k ReroutingRelease g,
      )

  pub rejects_in : of_kind Rejection made.signals ≡ of_kind Rejection (closing_sent s n got rule.closing)
  rejects_in = kind_placed Rejection refl all (few node x e rule fit) ∙ closing_in Rejection refl refl refl refl refl refl refl

  pub connects_in : of_kind ConnectRequest made.signals ≡ of_kind ConnectRequest (closing_sent s n got rule.closing)
  connects_in = kind_placed ConnectRequest refl all (few node x e rule fit) ∙ closing_in ConnectRequest refl refl refl refl refl refl refl

  switch_done : switch_names rule ≡ true → same_slot rule.switch NoSlot ≡ false →
      is_its_incumbent made.state (value s n rule.switch) ≡ true
  switch_done p some =
      let q : same_slot rule.switch rule.incumbent && holds_incumbent rule.phase ≡ true = or_right (same_slot rule.switch NoSlot) _ some p in
      rw (slot_same rule.switch rule.incumbent (left (same_slot rule.switch rule.incumbent) _ q))
      (incumbent_built rule.phase (value s n rule.incumbent) (value s n rule.rerouting) (right (same_slot rule.switch rule.incumbent) _ q))

  pub switched : switch_names rule ≡ true → AllIncumbent made.state (named (of_kind Switch made.signals))
  switched p =
      rw (kind_placed Switch refl all (few node x e rule fit), switches_in) (all_switches s n rule.switch made.state (switch_done p))

  pub incumbents : AllAre (incumbent_of s) (named (of_kind IncumbentRelease made.signals))
  incumbents =
      rw (kind_placed IncumbentRelease refl all (few node x e rule fit), retires_in)
      (all_told IncumbentRelease refl (incumbent_of s) got rule.retires)

  pub reroutings : AllAre (rerouting_of s) (named (of_kind ReroutingRelease made.signals))
  reroutings =
      rw (kind_placed ReroutingRelease refl all (few node x e rule fit), drops_in)
      (all_told ReroutingRelease refl (rerouting_of s) got rule.drops)

  pub connects : closing_names rule.closing rule ≡ true → AllAre (rerouting_of s) (named (of_kind ConnectRequest made.signals))
  connects p =
      rw (kind_placed ConnectRequest refl all (few node x e rule fit), closing_in ConnectRequest refl refl refl refl refl refl refl)
      (all_connects s n got rule.closing rule p)

  pub setups : closing_names rule.closing rule ≡ true → AllAre n (named (of_kind SetupRequest made.signals))
  setups p =
      rw (kind_placed SetupRequest refl all (few node x e rule fit), closing_in SetupRequest refl refl refl refl refl refl refl)
      (all_setups s n got rule.closing rule p)

  pub ordered : in_order made.signals ≡ true
  ordered =
      in_order_lem 0 all
      (timer_rises rule.timer _
      (switch_rises s n rule.switch _
      (party_rises node got rule.party _
      (retires_rises (incumbent_of s) got rule.retires _ (drops_rises (rerouting_of s) got rule.drops _ (closing_rises s n got rule.closing))))))

  pub all_four : length made.signals ≡ 4
  all_four = four all

  pub honest : Honest got made.signals
  honest =
      honest_placed got all
      (honest_append got (timer_sent rule.timer) _ (timer_honest got rule.timer)
      (honest_append got (switch_sent s n rule.switch) _ (switch_honest got s n rule.switch)
      (honest_append got (told_sent (party_kind node) 0 got rule.party) _ (told_honest got (party_kind node) 0 rule.party)
      (honest_append got (told_sent IncumbentRelease (incumbent_of s) got rule.retires) _ (told_honest got IncumbentRelease (incumbent_of s) rule.retires)
      (honest_append got (told_sent ReroutingRelease (rerouting_of s) got rule.drops) _ (told_honest got ReroutingRelease (rerouting_of s) rule.drops)
      (closing_honest got s n rule.closing))))))

  -- a release of the party that a refusal would not send
  untold : is_quiet (case_of x e) rule ≡ true → is_done rule.answer ≡ false → is_told rule.party ≡ false
  untold still refused =
      let tests : Each (stillness (case_of x e) rule) = each (stillness (case_of x e) rule) (or_right (is_done rule.answer) _ refused still) in
      none_of (is_told rule.party) (eqb-true (sends rule) 0 tests.1.1.1.1.0)
    where
      none_of : (b : Bool) →
          once (not (same_timer rule.timer LeavesTimer)) + (once (not (same_slot rule.switch NoSlot)) + (once b + (once (is_told rule.retires) + (once (is_told rule.drops) + once (is_closed rule.closing))))) ≡ 0 → b ≡ false
      none_of true p = absurd (omega arith)
      none_of false p = refl

  same_over : is_quiet (case_of x e) rule ≡ true → is_done rule.answer ≡ false → is_over rule.phase ≡ is_over (phase_of s)
  same_over still refused =
      let tests : Each (stillness (case_of x e) rule) = each (stillness (case_of x e) rule) (or_right (is_done rule.answer) _ refused still) in
      ap is_over (phase_same rule.phase (phase_of s) tests.0)

  told_so : is_quiet (case_of x e) rule ≡ true → tells_party (case_of x e) rule ≡ true →
      is_told rule.party ≡ ends_otherwise (case_of x e) rule.phase
  told_so still p = by (is_done rule.answer) refl
    where
      both_over : (b c : Bool) → false ≡ (not b && (b && c))
      both_over true c = refl
      both_over false c = refl

      by : (b : Bool) → is_done rule.answer ≡ b → is_told rule.party ≡ ends_otherwise (case_of x e) rule.phase
      by true finished = bool_same (is_told rule.party) (ends_otherwise (case_of x e) rule.phase) (or_right (not (is_done rule.answer)) _ (simp finished) p)
      by false refused =
          untold still refused
          ∙ (both_over (is_over (phase_of s)) (not (is_partys (happening_of s x.remote e)))
          ∙ ap (λ b. not (is_over (phase_of s)) && (b && not (is_partys (happening_of s x.remote e)))) (sym (same_over still refused)))

  pub tells : is_quiet (case_of x e) rule ≡ true → tells_party (case_of x e) rule ≡ true →
      named (of_kind (party_kind node) made.signals) ≡ party_wanted (not (is_null s)) (not (is_null made.state)) e
  tells still p =
      ap named (kind_placed (party_kind node) (party_kind_lem node) all (few node x e rule fit) ∙ parties_in node s n got rule)
      ∙ (all_party node got rule.party
      ∙ (λ i. cond (told_so still p i) (0 ∷ []) [])
      ∙ λ i. cond (not (over_is s i) && (after i && not (party_is s x.remote e i))) (0 ∷ []) [])
    where
      after : is_over rule.phase ≡ not (not (is_null made.state))
      after = ap is_over (sym phase_after) ∙ (over_is made.state ∙ sym (not_not (is_null made.state)))

  pub lives : gives_new rule ≡ true → is_null made.state ≡ false
  lives g = sym (over_is made.state) ∙ (ap is_over phase_after ∙ holding rule.phase g)
    where
      holding : (phase : Phase) → gives_in phase rule.incumbent rule.rerouting ≡ true → is_over phase ≡ false
      holding AtNull h = absurd (false≢true h)
      holding AtIdle h = refl
      holding AtHardWaiting h = absurd (false≢true h)
      holding AtHardUnderway h = refl
      holding AtSoftTriggered h = refl
      holding AtSoftProceeding h = refl
      holding AtSoftInitiated h = refl
      holding AtAwaiting h = refl

  pub roomy : has_room_for (case_of x e) rule ≡ true → gives_new rule ≡ true → has_room x.last ≡ true
  roomy p g = by (has_room x.last) (rw g at p)
    where
      by : (b : Bool) → b || false ≡ true → b ≡ true
      by true q = refl
      by false q = q

  -- of what is stored, that of a setup which is not rejected
  accepted_long : length (accepted_by e made) ≡ once (accepts rule.closing rule.stores)
  accepted_long = ap (λ rs. length (unrejected rs (stored_by e made))) rejects_in ∙ by rule.closing rule.stores
    where
      by : (y : Closing) (b : Bool) →
          length (unrejected (of_kind Rejection (closing_sent s n got y)) (cond b (number_brought e ∷ []) [])) ≡ once (accepts y b)
      by NoClosing b = one_long b (number_brought e)
      by (SendsSetup slot) b = one_long b (number_brought e)
      by (SendsConnect slot) b = one_long b (number_brought e)
      by (Rejects say code) b = refl

  pub given : gives_with_setup rule ≡ true → sets_up_once rule ≡ true →
      length (of_kind SetupRequest made.signals) + length (accepted_by e made) ≡ length (given_by x made)
  given p q =
      rw (
        kind_placed SetupRequest refl all (few node x e rule fit),
        closing_in SetupRequest refl refl refl refl refl refl refl,
        setups_sent s n got rule.closing,
        accepted_long,
        one_long (gives_new rule) n,
      )
      (either_setup (gives_new rule) (sends_setup rule.closing) (accepts rule.closing rule.stores) p q)
