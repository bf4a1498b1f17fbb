-- The first two rows of a setup, by its code, as the code asks for it. Assumes nothing.
use native.Mathlib.Omega.{arith}
use mathlib.Core.Bool.{Bool, cond, false, true}
use mathlib.Core.Path.{◌≡◌, refl}
use lib.Dec.{eqb}
use borrow.Author.Tests.{eqb-true}
use Rattle.signal.specs.Numbers.{is_clearing}
use Rattle.signal.specs.declared.Switchover.{Switchover}
use Rattle.rows.specs.Cases.{AsksClearing, AsksImmediate, AsksOther, asking_of}
use Rattle.rows.specs.States.{Phase}
use Rattle.source_rows.specs.Shared.{rejected_old, rejected_unsupported}
use Rattle.source_rows.specs.Rows.{setup_asked, setup_in}

-- rows 1 and 2 of a setup, by its code
pub asked_is : (code : Switchover) (late : Bool) (phase : Phase) (room : Bool) →
    setup_asked (asking_of code) late phase room ≡ cond (is_clearing code) (cond late (rejected_old phase) (setup_in phase room)) (rejected_unsupported phase)
asked_is code late phase room = by (eqb code.code 0) (eqb code.code 1) refl refl
  where
    by : (a b : Bool) → eqb code.code 0 ≡ a → eqb code.code 1 ≡ b →
        setup_asked (cond a AsksImmediate (cond b AsksClearing AsksOther)) late phase room ≡ cond b (cond late (rejected_old phase) (setup_in phase room)) (rejected_unsupported phase)
    by true true p q =
        let z : code.code ≡ 0 = eqb-true code.code 0 p in
        let u : code.code ≡ 1 = eqb-true code.code 1 q in
        absurd (omega arith)
    by true false p q = refl
    by false true p q = refl
    by false false p q = refl
