-- The balance of slots is the balance of connection numbers, for any call and event, at either end; and a refusal leaves all as it was. Assumes nothing.
use Prim.Native.Nat.{◌*◌, ◌+◌, ◌≤◌, ℕ}
use native.Mathlib.Nat.{add-mul, one-mul, zero-mul}
use native.Mathlib.Omega.{arith}
use mathlib.Core.Bool.{Bool, cond, false, false≢true, not, true}
use mathlib.Core.List.{List, [], ◌++◌, ◌∷◌}
use mathlib.Core.Path.{◌∙◌, ◌≡◌, ap, refl}
use lib.ListN.{length}
use borrow.Author.Tests.{eqb-true, leb-true}
use Rattle.std.specs.Prelude.{Option}
use Rattle.signal.proofs.Counting.{count_append}
use Rattle.signal.specs.Counting.{count, ended_sent, one}
use Rattle.signal.specs.Signals.{places}
use Rattle.signal.specs.declared.Kind.TheVariants.{IncumbentRelease, ReroutingRelease}
use Rattle.signal.specs.declared.ReroutingCause.{ReroutingCause}
use Rattle.signal.specs.declared.Signal.{Signal}
use Rattle.events.specs.Events.{received_in, reported}
use Rattle.events.specs.declared.Event.{Event}
use Rattle.events.specs.declared.Event.TheVariants.{Connect, Expiry, FromDomain, FromParty, NoPath, PathFound, Ready, Setup, Trigger}
use Rattle.rows.proofs.Every.{Each, each, right}
use Rattle.rows.proofs.Same.{not_so, phase_same, slot_same}
use Rattle.rows.proofs.Sent.{append_none, empty_of, ended_append, or_right, pad, placed, sent_length}
use Rattle.events.specs.declared.Node.{Node}
use Rattle.events.specs.declared.Node.TheVariants.{Destination, Source}
use Rattle.rows.specs.Cases.{NamesIncumbent, NamesOther, NamesRerouting, Standing, case_of, happening_of, is_incumbent, is_rerouting}
use Rattle.rows.specs.Effects.{closing_sent, effect, gives_in, gives_new, party_kind, sent_by, state_after, switch_sent}
use Rattle.rows.specs.Effects.{timer_sent, told_sent, value}
use Rattle.rows.specs.Laws.{balances, ended_slots, fits, given_slots, is_balanced, is_other, is_quiet, is_told, knows_named, reported_slots}
use Rattle.rows.specs.Laws.{role_slots, same_phase, same_slot, sends, slots_of, stillness, tallies, tally}
use Rattle.rows.specs.Meaning.{Still, ended_got, given_by}
use Rattle.rows.specs.Rules.{Closing, LeavesTimer, NewNumber, NoClosing, NoSlot, OldIncumbent, OldRerouting, Rejects, Rule}
use Rattle.rows.specs.Rules.{SendsConnect, SendsSetup, Slot, StartsTimer, StopsTimer, Tells, Timer, Told, Untold, is_done}
use Rattle.rows.specs.Rules.{own_incumbent, own_rerouting}
use Rattle.rows.specs.States.{AtAwaiting, AtHardUnderway, AtHardWaiting, AtIdle, AtNull, AtSoftInitiated, AtSoftProceeding}
use Rattle.rows.specs.States.{AtSoftTriggered, Phase, built, held_in, holds_incumbent, holds_rerouting, incumbent_of, phase_of}
use Rattle.rows.specs.States.{rerouting_of}
use Rattle.rows.specs.declared.Effect.{Effect}
use Rattle.rows.specs.declared.State.{State}
use Rattle.rows.specs.declared.State.TheVariants.{Awaiting, HardUnderway, HardWaiting, Idle, Null, SoftInitiated, SoftProceeding}
use Rattle.rows.specs.declared.State.TheVariants.{SoftTriggered}

-- the numbers in a list of slots
abbrev values_of : State → ℕ → List Slot → List ℕ
values_of s n [] = []
values_of s n (x ∷ more) = value s n x ∷ values_of s n more

values_append : (s : State) (n : ℕ) (a b : List Slot) → values_of s n (a ++ b) ≡ values_of s n a ++ values_of s n b
values_append s n [] b = refl
values_append s n (x ∷ a) b = ap (λ l. value s n x ∷ l) (values_append s n a b)

-- a count is the tallies of the slots, each times its own
module _ (x : ℕ) (s : State) (n : ℕ) where
  weighed : (l : List Slot) →
      count x (values_of s n l) ≡ tally NoSlot l * one x 0 + (tally OldIncumbent l * one x (incumbent_of s) + (tally OldRerouting l * one x (rerouting_of s) + tally NewNumber l * one x n))
  weighed [] = simp (zero-mul) (omega arith)
  weighed (NoSlot ∷ l) = simp (weighed l, add-mul, one-mul, zero-mul) (omega arith)
  weighed (OldIncumbent ∷ l) = simp (weighed l, add-mul, one-mul, zero-mul) (omega arith)
  weighed (OldRerouting ∷ l) = simp (weighed l, add-mul, one-mul, zero-mul) (omega arith)
  weighed (NewNumber ∷ l) = simp (weighed l, add-mul, one-mul, zero-mul) (omega arith)

  -- equal tallies are equal counts
  same_counts : (a b : List Slot) → Each (tallies a b) → count x (values_of s n a) ≡ count x (values_of s n b)
  same_counts a b p =
      rw (weighed a, weighed b)
      (simp (eqb-true (tally NoSlot a) (tally NoSlot b) p.0, eqb-true (tally OldIncumbent a) (tally OldIncumbent b) p.1.0, eqb-true (tally OldRerouting a) (tally OldRerouting b) p.1.1.0, eqb-true (tally NewNumber a) (tally NewNumber b) p.1.1.1.0))

-- what a state holds, before and after, as slots
held_before : (s : State) (n : ℕ) → held_in s ≡ values_of s n (slots_of (phase_of s) OldIncumbent OldRerouting)
held_before Null n = refl
held_before (Idle i) n = refl
held_before HardWaiting n = refl
held_before (HardUnderway r) n = refl
held_before (SoftTriggered i) n = refl
held_before (SoftProceeding i r) n = refl
held_before (SoftInitiated i r) n = refl
held_before (Awaiting i r) n = refl

held_after : (s : State) (n : ℕ) (phase : Phase) (i r : Slot) →
    held_in (built phase (value s n i) (value s n r)) ≡ values_of s n (slots_of phase i r)
held_after s n AtNull i r = refl
held_after s n AtIdle i r = refl
held_after s n AtHardWaiting i r = refl
held_after s n AtHardUnderway i r = refl
held_after s n AtSoftTriggered i r = refl
held_after s n AtSoftProceeding i r = refl
held_after s n AtSoftInitiated i r = refl
held_after s n AtAwaiting i r = refl

-- the connections that are released, as slots
timer_ends : (t : Timer) → ended_sent (timer_sent t) ≡ []
timer_ends LeavesTimer = refl
timer_ends StartsTimer = refl
timer_ends StopsTimer = refl

switch_ends : (s : State) (n : ℕ) (x : Slot) → ended_sent (switch_sent s n x) ≡ []
switch_ends s n NoSlot = refl
switch_ends s n OldIncumbent = refl
switch_ends s n OldRerouting = refl
switch_ends s n NewNumber = refl

party_ends : (node : Node) (got : Option ReroutingCause) (t : Told) → ended_sent (told_sent (party_kind node) 0 got t) ≡ []
party_ends Source got Untold = refl
party_ends Source got (Tells say code) = refl
party_ends Destination got Untold = refl
party_ends Destination got (Tells say code) = refl

retires_ends : (s : State) (n : ℕ) (got : Option ReroutingCause) (t : Told) →
    ended_sent (told_sent IncumbentRelease (incumbent_of s) got t) ≡ values_of s n (cond (is_told t) (OldIncumbent ∷ []) [])
retires_ends s n got Untold = refl
retires_ends s n got (Tells say code) = refl

drops_ends : (s : State) (n : ℕ) (got : Option ReroutingCause) (t : Told) →
    ended_sent (told_sent ReroutingRelease (rerouting_of s) got t) ≡ values_of s n (cond (is_told t) (OldRerouting ∷ []) [])
drops_ends s n got Untold = refl
drops_ends s n got (Tells say code) = refl

closing_ends : (s : State) (n : ℕ) (got : Option ReroutingCause) (x : Closing) → ended_sent (closing_sent s n got x) ≡ []
closing_ends s n got NoClosing = refl
closing_ends s n got (SendsSetup slot) = refl
closing_ends s n got (SendsConnect slot) = refl
closing_ends s n got (Rejects say code) = refl

pad_ends : (l : List Signal) → ended_sent (pad l) ≡ []
pad_ends [] = refl
pad_ends (a ∷ []) = refl
pad_ends (a ∷ (b ∷ [])) = refl
pad_ends (a ∷ (b ∷ (c ∷ []))) = refl
pad_ends (a ∷ (b ∷ (c ∷ (d ∷ more)))) = refl

ended_is : (node : Node) (s : State) (n : ℕ) (got : Option ReroutingCause) (rule : Rule) →
    ended_sent (sent_by node s n got rule) ≡ values_of s n (ended_slots rule)
ended_is node s n got rule =
    simp (ended_append, timer_ends, switch_ends, party_ends, retires_ends s n got rule.retires, drops_ends s n got rule.drops, closing_ends, append_none, values_append)

ends_placed : (l : List Signal) → length l ≤ 4 → ended_sent (places l) ≡ ended_sent l
ends_placed l h = rw (placed l h) (simp (ended_append, pad_ends, append_none))

-- the number given, as a slot
given_is : (s : State) (n : ℕ) (gives : Bool) → cond gives (n ∷ []) [] ≡ values_of s n (cond gives (NewNumber ∷ []) [])
given_is s n true = refl
given_is s n false = refl

-- a phase with its own connections is the state that it was
own_state : (s : State) (n : ℕ) → built (phase_of s) (value s n (own_incumbent (phase_of s))) (value s n (own_rerouting (phase_of s))) ≡ s
own_state Null n = refl
own_state (Idle i) n = refl
own_state HardWaiting n = refl
own_state (HardUnderway r) n = refl
own_state (SoftTriggered i) n = refl
own_state (SoftProceeding i r) n = refl
own_state (SoftInitiated i r) n = refl
own_state (Awaiting i r) n = refl

-- and holds no new one
own_gives : (phase : Phase) → gives_in phase (own_incumbent phase) (own_rerouting phase) ≡ false
own_gives AtNull = refl
own_gives AtIdle = refl
own_gives AtHardWaiting = refl
own_gives AtHardUnderway = refl
own_gives AtSoftTriggered = refl
own_gives AtSoftProceeding = refl
own_gives AtSoftInitiated = refl
own_gives AtAwaiting = refl

-- the connection whose release came, as a slot
named_is : (s : State) (n x : ℕ) (b d : Bool) → is_incumbent s x ≡ b → is_rerouting s x ≡ d →
    not (is_other (cond b NamesIncumbent (cond d NamesRerouting NamesOther))) ≡ true →
    x ∷ [] ≡ values_of s n (role_slots (cond b NamesIncumbent (cond d NamesRerouting NamesOther)))
named_is s n x true d p q known = ap (λ y. y ∷ []) (eqb-true x (incumbent_of s) (right (holds_incumbent (phase_of s)) _ p))
named_is s n x false true p q known = ap (λ y. y ∷ []) (eqb-true x (rerouting_of s) (right (holds_rerouting (phase_of s)) _ q))
named_is s n x false false p q known = absurd (false≢true known)

got_is : (s : State) (n remote : ℕ) (e : Event) → knows_named (happening_of s remote e) ≡ true →
    reported e ≡ values_of s n (reported_slots (happening_of s remote e))
got_is s n remote Trigger known = refl
got_is s n remote PathFound known = refl
got_is s n remote NoPath known = refl
got_is s n remote (Connect x agreed) known = refl
got_is s n remote (Setup code number) known = refl
got_is s n remote (FromParty cause) known = refl
got_is s n remote (FromDomain x cause tried) known = named_is s n x (is_incumbent s x) (is_rerouting s x) refl refl known
got_is s n remote Ready known = refl
got_is s n remote Expiry known = refl

counts : (x : ℕ) (s : State) (n : ℕ) (a b : List Slot) →
    count x (values_of s n (a ++ b)) ≡ count x (values_of s n a) + count x (values_of s n b)
counts x s n a b = simp (values_append, count_append)

-- five lists of numbers that are five lists of slots balance as the slots do
summed : (x : ℕ) (s : State) (n : ℕ) (a b k g d : List Slot) (held given kept got sent : List ℕ) → held ≡ values_of s n a →
    given ≡ values_of s n b → kept ≡ values_of s n k → got ≡ values_of s n g → sent ≡ values_of s n d →
    Each (tallies (a ++ b) (k ++ (g ++ d))) → count x held + count x given ≡ count x kept + (count x got + count x sent)
summed x s n a b k g d held given kept got sent p q r t u balance =
    rw (p, q, r, t, u) (omega (arith, same_counts x s n (a ++ b) (k ++ (g ++ d)) balance, counts x s n a b, counts x s n k (g ++ d), counts x s n g d))

-- a rule that keeps the phase and its own connections leaves the state, and gives no number
pub record Stays (s : State) (n : ℕ) (rule : Rule) : Type 0 where
  pub state : state_after s n rule ≡ s
  pub gives : gives_new rule ≡ false

pub stays_put : (s : State) (n : ℕ) (rule : Rule) → same_phase rule.phase (phase_of s) ≡ true →
    same_slot rule.incumbent (own_incumbent (phase_of s)) ≡ true → same_slot rule.rerouting (own_rerouting (phase_of s)) ≡ true →
    Stays s n rule
stays_put s n rule p q r =
    let phase = phase_same rule.phase (phase_of s) p in
    let i = slot_same rule.incumbent (own_incumbent (phase_of s)) q in
    let j = slot_same rule.rerouting (own_rerouting (phase_of s)) r in
    record {
      state = (λ k. built (phase k) (value s n (i k)) (value s n (j k))) ∙ own_state s n;
      gives = (λ k. gives_in (phase k) (i k) (j k)) ∙ own_gives (phase_of s);
    }

module _ (node : Node) (x : Standing) (e : Event) (rule : Rule) where
  abbrev pub sent : List Signal
  sent = sent_by node x.state (x.last + 1) (received_in e) rule

  abbrev pub done : Effect
  done = effect node x.state (x.last + 1) (received_in e) rule

  pub few : fits rule ≡ true → length sent ≤ 4
  few p = rw (sent_length node x.state (x.last + 1) (received_in e) rule) (leb-true (sends rule) 4 p)

  -- a refusal leaves the call and sends nothing
  pub quiet : is_quiet (case_of x e) rule ≡ true → is_done rule.answer ≡ false → Still x done
  quiet p refused =
      let tests : Each (stillness (case_of x e) rule) = each (stillness (case_of x e) rule) (or_right (is_done rule.answer) _ refused p) in
      let put = stays_put x.state (x.last + 1) rule tests.0 tests.1.0 tests.1.1.0 in
      let none' : length sent ≡ 0 = rw (sent_length node x.state (x.last + 1) (received_in e) rule) (eqb-true (sends rule) 0 tests.1.1.1.1.0) in
      record { state = put.state; gives = put.gives; stores = not_so rule.stores tests.1.1.1.0; signals = ap places (empty_of sent none') }

  abbrev Balanced : Type 0
  Balanced =
      (n : ℕ) →
      count n (held_in x.state) + count n (given_by x done)
      ≡ count n (held_in done.state) + (count n (ended_got e done) + count n (ended_sent done.signals))

  balanced_done : is_done rule.answer ≡ true → fits rule ≡ true → is_balanced (case_of x e) rule ≡ true → Balanced
  balanced_done finished fit balance n =
      let tests : Each (balances (case_of x e) rule) = each (balances (case_of x e) rule) (or_right (not (is_done rule.answer)) _ (simp finished) balance) in
      summed n x.state (x.last + 1)
      (slots_of (phase_of x.state) OldIncumbent OldRerouting)
      (given_slots rule)
      (slots_of rule.phase rule.incumbent rule.rerouting)
      (reported_slots (happening_of x.state x.remote e))
      (ended_slots rule)
      (held_in x.state)
      (given_by x done)
      (held_in done.state)
      (ended_got e done)
      (ended_sent done.signals)
      (held_before x.state (x.last + 1))
      (given_is x.state (x.last + 1) (gives_new rule))
      (held_after x.state (x.last + 1) rule.phase rule.incumbent rule.rerouting)
      (rw finished (got_is x.state (x.last + 1) x.remote e tests.0))
      (rw (ends_placed sent (few fit)) (ended_is node x.state (x.last + 1) (received_in e) rule))
      tests.1

  balanced_refused : is_done rule.answer ≡ false → is_quiet (case_of x e) rule ≡ true → Balanced
  balanced_refused refused p n =
      let q = quiet p refused in
      rw (q.signals, q.state, q.gives, refused) (omega arith)

  pub balanced : fits rule ≡ true → is_quiet (case_of x e) rule ≡ true → is_balanced (case_of x e) rule ≡ true → Balanced
  balanced fit still balance = by (is_done rule.answer) refl
    where
      by : (b : Bool) → is_done rule.answer ≡ b → Balanced
      by true finished = balanced_done finished fit balance
      by false refused = balanced_refused refused still
