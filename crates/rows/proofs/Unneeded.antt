-- A rule that gives no number does the same whatever the next number is. So code that has no next number in hand meets the rule all the same.
-- Assumes nothing.
use Prim.Native.Nat.{◌+◌, ℕ}
use mathlib.Core.Bool.{Bool, ◌&&◌, ◌||◌, cond, false, false≢true, true, true≢false}
use mathlib.Core.List.{◌++◌}
use mathlib.Core.Path.{◌∙◌, ◌≡◌, ap, refl, sym}
use lib.Dec.{ltb}
use Rattle.std.specs.Prelude.{Option, None, Some}
use Rattle.signal.specs.Numbers.{fresh_after}
use Rattle.signal.specs.Signals.{places}
use Rattle.signal.specs.declared.ReroutingCause.{ReroutingCause}
use Rattle.signal.specs.declared.Kind.TheVariants.{IncumbentRelease, ReroutingRelease}
use Rattle.rows.proofs.Every.{Each, each, left, right}
use Rattle.rows.proofs.Same.{slot_same}
use Rattle.rows.proofs.Sent.{or_right}
use Rattle.events.specs.declared.Node.{Node}
use Rattle.rows.specs.Cases.{Case, has_room}
use Rattle.rows.specs.Effects.{closing_sent, effect, gives_in, gives_new, is_new, is_next, next_number, party_kind, switch_sent}
use Rattle.rows.specs.Effects.{timer_sent, told_sent, value}
use Rattle.rows.specs.Laws.{closing_names, fits, has_room_for, is_lawful, laws, same_slot, switch_names}
use Rattle.rows.specs.Rules.{Closing, NewNumber, NoClosing, NoSlot, OldIncumbent, OldRerouting, Rejects, Rule, SendsConnect}
use Rattle.rows.specs.Rules.{SendsSetup, Slot}
use Rattle.rows.specs.States.{AtAwaiting, AtHardUnderway, AtHardWaiting, AtIdle, AtNull, AtSoftInitiated, AtSoftProceeding}
use Rattle.rows.specs.States.{AtSoftTriggered, Phase, built, holds_incumbent, incumbent_of, rerouting_of}
use Rattle.rows.specs.declared.State.{State}

or_none : (a b : Bool) → a || b ≡ false → (a ≡ false) × (b ≡ false)
or_none true b p = absurd (true≢false p)
or_none false b p = (refl, p)

module _ (s : State) (n m : ℕ) where
  value_either : (x : Slot) → is_new x ≡ false → value s n x ≡ value s m x
  value_either NoSlot p = refl
  value_either OldIncumbent p = refl
  value_either OldRerouting p = refl
  value_either NewNumber p = absurd (true≢false p)

  state_either : (phase : Phase) (i r : Slot) → gives_in phase i r ≡ false →
      built phase (value s n i) (value s n r) ≡ built phase (value s m i) (value s m r)
  state_either AtNull i r p = refl
  state_either AtIdle i r p = ap (λ x. built AtIdle x 0) (value_either i (or_none (is_new i) false p).0)
  state_either AtHardWaiting i r p = refl
  state_either AtHardUnderway i r p = ap (λ x. built AtHardUnderway 0 x) (value_either r p)
  state_either AtSoftTriggered i r p = ap (λ x. built AtSoftTriggered x 0) (value_either i (or_none (is_new i) false p).0)
  state_either AtSoftProceeding i r p = let q : (is_new i ≡ false) × (is_new r ≡ false) = or_none (is_new i) (is_new r) p in λ k. built AtSoftProceeding (value_either i q.0 k) (value_either r q.1 k)
  state_either AtSoftInitiated i r p = let q : (is_new i ≡ false) × (is_new r ≡ false) = or_none (is_new i) (is_new r) p in λ k. built AtSoftInitiated (value_either i q.0 k) (value_either r q.1 k)
  state_either AtAwaiting i r p = let q : (is_new i ≡ false) × (is_new r ≡ false) = or_none (is_new i) (is_new r) p in λ k. built AtAwaiting (value_either i q.0 k) (value_either r q.1 k)

  switch_either : (x : Slot) → is_new x ≡ false → switch_sent s n x ≡ switch_sent s m x
  switch_either NoSlot p = refl
  switch_either OldIncumbent p = refl
  switch_either OldRerouting p = refl
  switch_either NewNumber p = absurd (true≢false p)

  closing_either : (got : Option ReroutingCause) (x : Closing) (rule : Rule) → gives_new rule ≡ false → closing_names x rule ≡ true →
      closing_sent s n got x ≡ closing_sent s m got x
  closing_either got NoClosing rule p q = refl
  closing_either got (SendsSetup slot) rule p q =
      absurd (false≢true (sym p ∙ right (same_slot slot NewNumber) (gives_new rule) q))
  closing_either got (SendsConnect slot) rule p q = rw (slot_same slot OldRerouting q)
  closing_either got (Rejects say code) rule p q = refl

-- an incumbent of a phase that holds one is no new number where none is given
old_incumbent : (phase : Phase) (i r : Slot) → holds_incumbent phase ≡ true → gives_in phase i r ≡ false → is_new i ≡ false
old_incumbent phase i r h p = (or_none (is_new i) _ (rw h at p)).0

old_switch : (rule : Rule) → switch_names rule ≡ true → gives_new rule ≡ false → is_new rule.switch ≡ false
old_switch rule p g = by (same_slot rule.switch NoSlot) refl
  where
    by : (b : Bool) → same_slot rule.switch NoSlot ≡ b → is_new rule.switch ≡ false
    by true q = rw (slot_same rule.switch NoSlot q)
    by false q =
        let t : same_slot rule.switch rule.incumbent && holds_incumbent rule.phase ≡ true = or_right (same_slot rule.switch NoSlot) _ q p in
        rw (slot_same rule.switch rule.incumbent (left (same_slot rule.switch rule.incumbent) _ t))
        (old_incumbent rule.phase rule.incumbent rule.rerouting (right (same_slot rule.switch rule.incumbent) _ t) g)

pub either : (node : Node) (s : State) (n m : ℕ) (got : Option ReroutingCause) (rule : Rule) → gives_new rule ≡ false → switch_names rule ≡ true →
    closing_names rule.closing rule ≡ true → effect node s n got rule ≡ effect node s m got rule
either node s n m got rule g p q =
    λ k. record {
      answer = rule.answer;
      state = state_either s n m rule.phase rule.incumbent rule.rerouting g k;
      gives = gives_new rule;
      stores = rule.stores;
      signals =
          places
          (timer_sent rule.timer
          ++ (switch_either s n m rule.switch (old_switch rule p g) k
          ++ (told_sent (party_kind node) 0 got rule.party
          ++ (told_sent IncumbentRelease (incumbent_of s) got rule.retires
          ++ (told_sent ReroutingRelease (rerouting_of s) got rule.drops ++ closing_either s n m got rule.closing rule g q k)))));
    }

pub room_is : (last : ℕ) → is_next (fresh_after last) ≡ has_room last
room_is last = by (ltb last 65535)
  where
    by : (b : Bool) → is_next (cond b (Some (last + 1)) None) ≡ b
    by true = refl
    by false = refl

-- the next number as the code has it, and as a lawful rule wants it
pub fresh_either : (node : Node) (s : State) (last : ℕ) (got : Option ReroutingCause) (c : Case) (rule : Rule) → c.room ≡ has_room last →
    is_lawful c rule ≡ true → effect node s (next_number (fresh_after last)) got rule ≡ effect node s (last + 1) got rule
fresh_either node s last got c rule room p =
    let t : Each (laws c rule) = each (laws c rule) p in
    by (ltb last 65535) refl (gives_new rule) refl t.1.1.1.1.0 t.1.1.1.1.1.0 t.1.1.1.1.1.1.0
  where
    by : (b : Bool) → ltb last 65535 ≡ b → (g : Bool) → gives_new rule ≡ g → switch_names rule ≡ true →
        closing_names rule.closing rule ≡ true → has_room_for c rule ≡ true →
        effect node s (next_number (fresh_after last)) got rule ≡ effect node s (last + 1) got rule
    by true q g h names closes fits = rw q refl
    by false q false h names closes fits = either node s (next_number (fresh_after last)) (last + 1) got rule h names closes
    by false q true h names closes fits = absurd (let f : ◌≡◌ {A = Bool} false true = simp (room, q, h) at fits in false≢true f)
