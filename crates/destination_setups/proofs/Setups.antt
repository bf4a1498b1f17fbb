-- The rows of a setup at the destination, as the code asks for them: without a number, by the code, and outside Null. Assumes nothing.
use native.Mathlib.Omega.{arith}
use mathlib.Core.Bool.{Bool, ◌&&◌, cond, false, not, true, true≢false}
use mathlib.Core.Path.{◌≡◌, refl, sym}
use lib.Dec.{eqb, leb}
use borrow.Author.Tests.{eqb-false, eqb-true, le-leb, lt-leb}
use Prim.Native.Nat.{ℕ}
use Rattle.std.specs.Prelude.{Option, None}
use Rattle.signal.specs.Numbers.{is_clearing}
use Rattle.signal.specs.declared.Answer.TheVariants.{NoMeaning}
use Rattle.signal.specs.declared.Switchover.{Switchover}
use Rattle.rows.specs.Cases.{AsksClearing, AsksImmediate, AsksOther, asking_of}
use Rattle.rows.specs.Effects.{refused_in}
use Rattle.rows.specs.Rules.{Rule}
use Rattle.rows.specs.Situations.{asks_unrecognized}
use Rattle.rows.specs.States.{AtAwaiting, AtHardUnderway, AtHardWaiting, AtIdle, AtNull, AtSoftInitiated, AtSoftProceeding}
use Rattle.rows.specs.States.{AtSoftTriggered, Phase, is_hard_phase, is_null, phase_of}
use Rattle.rows.specs.declared.State.{State}
use Rattle.rows.specs.declared.State.TheVariants.{Awaiting, HardUnderway, HardWaiting, Idle, Null, SoftInitiated, SoftProceeding}
use Rattle.rows.specs.declared.State.TheVariants.{SoftTriggered}
use Rattle.source_rows.specs.Shared.{in_call, rejected_old, rejected_unsupported}
use Rattle.destination_rows.specs.Rows.{at_destination, hard_setup_in, setup_asked_here, soft_setup_in}
use Rattle.destination_setups.specs.Effects.{setup_spent}

-- without a number
pub hard_spent : (s : State) → setup_spent s ≡ at_destination s None None (hard_setup_in (phase_of s) false)
hard_spent Null = refl
hard_spent (Idle i) = refl
hard_spent HardWaiting = refl
hard_spent (HardUnderway r) = refl
hard_spent (SoftTriggered i) = refl
hard_spent (SoftProceeding i r) = refl
hard_spent (SoftInitiated i r) = refl
hard_spent (Awaiting i r) = refl

pub soft_spent : (s : State) → setup_spent s ≡ at_destination s None None (soft_setup_in (phase_of s) false)
soft_spent Null = refl
soft_spent (Idle i) = refl
soft_spent HardWaiting = refl
soft_spent (HardUnderway r) = refl
soft_spent (SoftTriggered i) = refl
soft_spent (SoftProceeding i r) = refl
soft_spent (SoftInitiated i r) = refl
soft_spent (Awaiting i r) = refl

-- by the code, whichever the state
other_is : (late : Bool) (phase : Phase) (room : Bool) →
    setup_asked_here AsksOther late phase room ≡ cond (not (is_hard_phase phase)) (rejected_unsupported phase) (cond late (rejected_old phase) (hard_setup_in phase room))
other_is late AtNull room = refl
other_is late AtIdle room = refl
other_is late AtHardWaiting room = refl
other_is late AtHardUnderway room = refl
other_is late AtSoftTriggered room = refl
other_is late AtSoftProceeding room = refl
other_is late AtSoftInitiated room = refl
other_is late AtAwaiting room = refl

pub asked_is : (code : Switchover) (late : Bool) (phase : Phase) (room : Bool) →
    setup_asked_here (asking_of code) late phase room ≡ cond (asks_unrecognized (asking_of code) && not (is_hard_phase phase)) (rejected_unsupported phase) (cond late (rejected_old phase) (cond (is_clearing code) (soft_setup_in phase room) (hard_setup_in phase room)))
asked_is code late phase room = by (eqb code.code 0) (eqb code.code 1) refl refl
  where
    by : (a b : Bool) → eqb code.code 0 ≡ a → eqb code.code 1 ≡ b →
        setup_asked_here (cond a AsksImmediate (cond b AsksClearing AsksOther)) late phase room ≡ cond (asks_unrecognized (cond a AsksImmediate (cond b AsksClearing AsksOther)) && not (is_hard_phase phase)) (rejected_unsupported phase) (cond late (rejected_old phase) (cond b (soft_setup_in phase room) (hard_setup_in phase room)))
    by true true p q =
        let z : code.code ≡ 0 = eqb-true code.code 0 p in
        let u : code.code ≡ 1 = eqb-true code.code 1 q in
        absurd (omega arith)
    by true false p q = refl
    by false true p q = refl
    by false false p q = other_is late phase room

-- a code is unrecognised exactly above 1
pub unrecognized_is : (code : Switchover) → asks_unrecognized (asking_of code) ≡ not (leb code.code 1)
unrecognized_is code = by (eqb code.code 0) (eqb code.code 1) refl refl
  where
    by : (a b : Bool) → eqb code.code 0 ≡ a → eqb code.code 1 ≡ b →
        asks_unrecognized (cond a AsksImmediate (cond b AsksClearing AsksOther)) ≡ not (leb code.code 1)
    by true b p q = let z : code.code ≡ 0 = eqb-true code.code 0 p in rw (le-leb code.code 1 (omega arith)) refl
    by false true p q = let u : code.code ≡ 1 = eqb-true code.code 1 q in rw (le-leb code.code 1 (omega arith)) refl
    by false false p q =
        let z : code.code ≡ 0 → ⊥ = eqb-false code.code 0 p in
        let u : code.code ≡ 1 → ⊥ = eqb-false code.code 1 q in
        rw (lt-leb code.code 1 (omega arith)) refl

-- outside Null
pub in_call_lem : (s : State) (row : Rule) → is_null s ≡ false → in_call (phase_of s) row ≡ row
in_call_lem Null row h = absurd (true≢false h)
in_call_lem (Idle i) row h = refl
in_call_lem HardWaiting row h = refl
in_call_lem (HardUnderway r) row h = refl
in_call_lem (SoftTriggered i) row h = refl
in_call_lem (SoftProceeding i r) row h = refl
in_call_lem (SoftInitiated i r) row h = refl
in_call_lem (Awaiting i r) row h = refl

-- and in it
pub null_met : (s : State) (row : Rule) (next : Option ℕ) → is_null s ≡ true → refused_in NoMeaning s ≡ at_destination s next None (in_call (phase_of s) row)
null_met Null row next h = refl
null_met (Idle i) row next h = absurd (true≢false (sym h))
null_met HardWaiting row next h = absurd (true≢false (sym h))
null_met (HardUnderway r) row next h = absurd (true≢false (sym h))
null_met (SoftTriggered i) row next h = absurd (true≢false (sym h))
null_met (SoftProceeding i r) row next h = absurd (true≢false (sym h))
null_met (SoftInitiated i r) row next h = absurd (true≢false (sym h))
null_met (Awaiting i r) row next h = absurd (true≢false (sym h))
