-- Two rules that keep the laws of every row and what the papers say elsewhere at one case are one. Assumes nothing.
use Prim.Native.Nat.{◌+◌}
use native.Mathlib.Omega.{arith}
use mathlib.Core.Bool.{Bool, cond, false, false≢true, not, true, true≢false}
use mathlib.Core.List.{List, [], ◌++◌, ◌∷◌}
use mathlib.Core.Path.{◌∙◌, ◌≡◌, ap, refl, sym}
use lib.Dec.{eqb}
use borrow.Author.Tests.{eqb-true}
use Rattle.rows.proofs.Every.{Each, each}
use Rattle.rows.proofs.Same.{answer_same, bool_same, closing_same, not_so, phase_same, slot_same, timer_same, told_same}
use Rattle.rows.proofs.Sent.{or_right}
use Rattle.rows.specs.Cases.{Case}
use Rattle.rows.specs.Effects.{gives_in}
use Rattle.rows.specs.Every.{conj}
use Rattle.rows.specs.Laws.{balances, ended_slots, ends_otherwise, given_slots, is_closed, is_expired, is_quiet, is_told, once}
use Rattle.rows.specs.Laws.{reported_slots, same_slot, same_timer, sends, slots_of, stillness, tally, timer_wanted}
use Rattle.rows.specs.Papers.{Papers, carries, closing_by, drops_by, fixes, incumbent_wanted, next_by, party_by, rerouting_wanted}
use Rattle.rows.specs.Papers.{retires_by, switch_by, when_done}
use Rattle.rows.specs.Rules.{Closing, LeavesTimer, NewNumber, NoClosing, NoSlot, OldIncumbent, OldRerouting, Rejects, Rule}
use Rattle.rows.specs.Rules.{SendsConnect, SendsSetup, Slot, StartsTimer, StopsTimer, Tells, Timer, Told, Untold, is_done}
use Rattle.rows.specs.Rules.{own_incumbent, own_rerouting, refuses}
use Rattle.rows.specs.States.{is_hard_phase}

-- what carries the same, and is told alike, is the same
alike : (t u wanted : Told) → is_told t ≡ is_told u → carries t wanted ≡ true → carries u wanted ≡ true → t ≡ u
alike Untold Untold wanted h p q = refl
alike Untold (Tells say code) wanted h p q = absurd (false≢true h)
alike (Tells say code) Untold wanted h p q = absurd (true≢false h)
alike (Tells say code) (Tells other also) wanted h p q = told_same (Tells say code) wanted p ∙ sym (told_same (Tells other also) wanted q)

-- a rule is its fields
same_rule : (a b : Rule) → a.answer ≡ b.answer → a.phase ≡ b.phase → a.incumbent ≡ b.incumbent → a.rerouting ≡ b.rerouting →
    a.stores ≡ b.stores → a.timer ≡ b.timer → a.switch ≡ b.switch → a.party ≡ b.party → a.retires ≡ b.retires →
    a.drops ≡ b.drops → a.closing ≡ b.closing → a ≡ b
same_rule a b p1 p2 p3 p4 p5 p6 p7 p8 p9 p10 p11 =
    λ i. record { answer = p1 i; phase = p2 i; incumbent = p3 i; rerouting = p4 i; stores = p5 i; timer = p6 i; switch = p7 i; party = p8 i; retires = p9 i; drops = p10 i; closing = p11 i }

timer_none : (t : Timer) → once (not (same_timer t LeavesTimer)) ≡ 0 → t ≡ LeavesTimer
timer_none LeavesTimer p = refl
timer_none StartsTimer p = absurd (omega arith)
timer_none StopsTimer p = absurd (omega arith)

slot_none : (x : Slot) → once (not (same_slot x NoSlot)) ≡ 0 → x ≡ NoSlot
slot_none NoSlot p = refl
slot_none OldIncumbent p = absurd (omega arith)
slot_none OldRerouting p = absurd (omega arith)
slot_none NewNumber p = absurd (omega arith)

told_none : (t : Told) → once (is_told t) ≡ 0 → t ≡ Untold
told_none Untold p = refl
told_none (Tells say code) p = absurd (omega arith)

closing_none : (x : Closing) → once (is_closed x) ≡ 0 → x ≡ NoClosing
closing_none NoClosing p = refl
closing_none (SendsSetup slot) p = absurd (omega arith)
closing_none (SendsConnect slot) p = absurd (omega arith)
closing_none (Rejects say code) p = absurd (omega arith)

-- a quiet refusal is the refusal with its answer
refused_is : (c : Case) (rule : Rule) → is_done rule.answer ≡ false → is_quiet c rule ≡ true → rule ≡ refuses rule.answer c.phase
refused_is c rule refused p =
    let t : Each (stillness c rule) = each (stillness c rule) (or_right (is_done rule.answer) _ refused p) in
    let none : sends rule ≡ 0 = eqb-true (sends rule) 0 t.1.1.1.1.0 in
    same_rule rule (refuses rule.answer c.phase) refl
    (phase_same rule.phase c.phase t.0)
    (slot_same rule.incumbent (own_incumbent c.phase) t.1.0)
    (slot_same rule.rerouting (own_rerouting c.phase) t.1.1.0)
    (not_so rule.stores t.1.1.1.0)
    (timer_none rule.timer (omega arith))
    (slot_none rule.switch (omega arith))
    (told_none rule.party (omega arith))
    (told_none rule.retires (omega arith))
    (told_none rule.drops (omega arith))
    (closing_none rule.closing (omega arith))

tally_append : (x : Slot) (a b : List Slot) → tally x (a ++ b) ≡ tally x a + tally x b
tally_append x [] b = omega arith
tally_append x (y ∷ a) b = simp (tally_append x a b) (omega arith)

ends_incumbent : (x y : Bool) → tally OldIncumbent (cond x (OldIncumbent ∷ []) [] ++ cond y (OldRerouting ∷ []) []) ≡ once x
ends_incumbent true true = refl
ends_incumbent true false = refl
ends_incumbent false true = refl
ends_incumbent false false = refl

ends_rerouting : (x y : Bool) → tally OldRerouting (cond x (OldIncumbent ∷ []) [] ++ cond y (OldRerouting ∷ []) []) ≡ once y
ends_rerouting true true = refl
ends_rerouting true false = refl
ends_rerouting false true = refl
ends_rerouting false false = refl

once_same : (x y : Bool) → once x ≡ once y → x ≡ y
once_same true true p = refl
once_same true false p = absurd (omega arith)
once_same false true p = absurd (omega arith)
once_same false false p = refl

-- two balances over the same holdings and reports node the same
ended_same : (x : Slot) (held got given given' kept kept' ended ended' : List Slot) → given ≡ given' → kept ≡ kept' →
    eqb (tally x (held ++ given)) (tally x (kept ++ (got ++ ended))) ≡ true →
    eqb (tally x (held ++ given')) (tally x (kept' ++ (got ++ ended'))) ≡ true → tally x ended ≡ tally x ended'
ended_same x held got given given' kept kept' ended ended' p q r t =
    omega (arith, ap (tally x) p, ap (tally x) q, eqb-true (tally x (held ++ given)) (tally x (kept ++ (got ++ ended))) r, eqb-true (tally x (held ++ given')) (tally x (kept' ++ (got ++ ended'))) t, tally_append x held given, tally_append x held given', tally_append x kept (got ++ ended), tally_append x got ended, tally_append x kept' (got ++ ended'), tally_append x got ended')

module _ (papers : Papers) (c : Case) (a b : Rule) (pa : Each (fixes papers c a)) (pb : Each (fixes papers c b)) where
  answers : a.answer ≡ b.answer
  answers = answer_same a.answer (papers.answer c) pa.0 ∙ sym (answer_same b.answer (papers.answer c) pb.0)

  module _ (da : is_done a.answer ≡ true) (db : is_done b.answer ≡ true) where
    when_a : (x : Bool) → when_done a x ≡ true → x ≡ true
    when_a x p = or_right (not (is_done a.answer)) x (simp da) p

    when_b : (x : Bool) → when_done b x ≡ true → x ≡ true
    when_b x p = or_right (not (is_done b.answer)) x (simp db) p

    phases : a.phase ≡ b.phase
    phases = phase_same a.phase (next_by papers c) (when_a _ pa.1.1.1.1.0) ∙ sym (phase_same b.phase (next_by papers c) (when_b _ pb.1.1.1.1.0))

    stored : a.stores ≡ b.stores
    stored = bool_same a.stores (papers.stores c) (when_a _ pa.1.1.1.1.1.0) ∙ sym (bool_same b.stores (papers.stores c) (when_b _ pb.1.1.1.1.1.0))

    switches : a.switch ≡ b.switch
    switches = slot_same a.switch (switch_by papers c) (when_a _ pa.1.1.1.1.1.1.0) ∙ sym (slot_same b.switch (switch_by papers c) (when_b _ pb.1.1.1.1.1.1.0))

    closings : a.closing ≡ b.closing
    closings = closing_same a.closing (closing_by papers c) (when_a _ pa.1.1.1.1.1.1.1.0) ∙ sym (closing_same b.closing (closing_by papers c) (when_b _ pb.1.1.1.1.1.1.1.0))

    incumbents : a.incumbent ≡ b.incumbent
    incumbents =
        slot_same a.incumbent (incumbent_wanted a.phase a.switch) (when_a _ pa.1.1.1.1.1.1.1.1.0)
        ∙ ((λ i. incumbent_wanted (phases i) (switches i))
        ∙ sym (slot_same b.incumbent (incumbent_wanted b.phase b.switch) (when_b _ pb.1.1.1.1.1.1.1.1.0)))

    reroutings : a.rerouting ≡ b.rerouting
    reroutings =
        slot_same a.rerouting (rerouting_wanted a.phase a.closing a.stores) (when_a _ pa.1.1.1.1.1.1.1.1.1.0)
        ∙ ((λ i. rerouting_wanted (phases i) (closings i) (stored i))
        ∙ sym (slot_same b.rerouting (rerouting_wanted b.phase b.closing b.stores) (when_b _ pb.1.1.1.1.1.1.1.1.1.0)))

    timers : a.timer ≡ b.timer
    timers =
        timer_same a.timer (timer_wanted (is_expired c.happening) (is_hard_phase c.phase) (is_hard_phase a.phase)) pa.1.1.0
        ∙ ((λ i. timer_wanted (is_expired c.happening) (is_hard_phase c.phase) (is_hard_phase (phases i)))
        ∙ sym (timer_same b.timer (timer_wanted (is_expired c.happening) (is_hard_phase c.phase) (is_hard_phase b.phase)) pb.1.1.0))

    parties : a.party ≡ b.party
    parties =
        alike a.party b.party (party_by papers c)
        (bool_same (is_told a.party) (ends_otherwise c a.phase) (when_a _ pa.1.1.1.1.1.1.1.1.1.1.0)
        ∙ (ap (ends_otherwise c) phases ∙ sym (bool_same (is_told b.party) (ends_otherwise c b.phase) (when_b _ pb.1.1.1.1.1.1.1.1.1.1.0))))
        (when_a _ pa.1.1.1.1.1.1.1.1.1.1.1.0)
        (when_b _ pb.1.1.1.1.1.1.1.1.1.1.1.0)

    balance_a : Each (balances c a)
    balance_a = each (balances c a) (when_a _ pa.1.1.1.0)

    balance_b : Each (balances c b)
    balance_b = each (balances c b) (when_b _ pb.1.1.1.0)

    ended : (x : Slot) →
        eqb (tally x (slots_of c.phase OldIncumbent OldRerouting ++ given_slots a)) (tally x (slots_of a.phase a.incumbent a.rerouting ++ (reported_slots c.happening ++ ended_slots a))) ≡ true → eqb (tally x (slots_of c.phase OldIncumbent OldRerouting ++ given_slots b)) (tally x (slots_of b.phase b.incumbent b.rerouting ++ (reported_slots c.happening ++ ended_slots b))) ≡ true → tally x (ended_slots a) ≡ tally x (ended_slots b)
    ended x p q =
        ended_same x (slots_of c.phase OldIncumbent OldRerouting) (reported_slots c.happening) (given_slots a) (given_slots b)
        (slots_of a.phase a.incumbent a.rerouting)
        (slots_of b.phase b.incumbent b.rerouting)
        (ended_slots a)
        (ended_slots b)
        (λ i. cond (gives_in (phases i) (incumbents i) (reroutings i)) (NewNumber ∷ []) [])
        (λ i. slots_of (phases i) (incumbents i) (reroutings i))
        p q

    retired : a.retires ≡ b.retires
    retired =
        alike a.retires b.retires (retires_by papers c)
        (once_same (is_told a.retires) (is_told b.retires)
        (omega (arith, ended OldIncumbent balance_a.1.1.0 balance_b.1.1.0, ends_incumbent (is_told a.retires) (is_told a.drops), ends_incumbent (is_told b.retires) (is_told b.drops))))
        (when_a _ pa.1.1.1.1.1.1.1.1.1.1.1.1.0)
        (when_b _ pb.1.1.1.1.1.1.1.1.1.1.1.1.0)

    dropped : a.drops ≡ b.drops
    dropped =
        alike a.drops b.drops (drops_by papers c)
        (once_same (is_told a.drops) (is_told b.drops)
        (omega (arith, ended OldRerouting balance_a.1.1.1.0 balance_b.1.1.1.0, ends_rerouting (is_told a.retires) (is_told a.drops), ends_rerouting (is_told b.retires) (is_told b.drops))))
        (when_a _ pa.1.1.1.1.1.1.1.1.1.1.1.1.1.0)
        (when_b _ pb.1.1.1.1.1.1.1.1.1.1.1.1.1.0)

    one_done : a ≡ b
    one_done = same_rule a b answers phases incumbents reroutings stored timers switches parties retired dropped closings

  one_refused : is_done a.answer ≡ false → is_done b.answer ≡ false → a ≡ b
  one_refused ra rb = refused_is c a ra pa.1.0 ∙ (ap (λ x. refuses x c.phase) answers ∙ sym (refused_is c b rb pb.1.0))

  one : a ≡ b
  one = by (is_done a.answer) refl
    where
      by : (x : Bool) → is_done a.answer ≡ x → a ≡ b
      by true d = one_done d (rw answers at d)
      by false d = one_refused d (rw answers at d)

-- whatever the papers say: a rule that keeps the laws at a case is the one in a table that keeps them there
pub only : (papers : Papers) (c : Case) (rule row : Rule) → conj (fixes papers c rule) ≡ true → conj (fixes papers c row) ≡ true →
    rule ≡ row
only papers c rule row p q = one papers c rule row (each (fixes papers c rule) p) (each (fixes papers c row) q)
