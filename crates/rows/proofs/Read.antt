-- How a case is read off a call and an event, in the words of the checks (specs/Checks): what an end's documents ask for by case is what
-- they ask of the call. Assumes nothing.
use Prim.Native.Nat.{ℕ}
use native.Mathlib.Omega.{arith}
use mathlib.Core.Bool.{Bool, cond, false, true}
use mathlib.Core.Path.{◌≡◌, ap, refl}
use lib.Dec.{eqb}
use borrow.Author.Tests.{eqb-true}
use Rattle.std.specs.Prelude.{Option, None, Some}
use Rattle.signal.specs.Numbers.{is_clearing}
use Rattle.signal.specs.declared.ReroutingCause.{ReroutingCause}
use Rattle.signal.specs.declared.Switchover.{Switchover}
use Rattle.rows.proofs.Claims.{phase_exactly}
use Rattle.rows.specs.Cases.{AsksClearing, AsksImmediate, AsksOther, asking_of, asks_clearing, came_none, class_of}
use Rattle.rows.specs.Checks.{has_no_cause}
use Rattle.rows.specs.States.{is_at, is_in, phase_number, phase_of, state_number}
use Rattle.rows.specs.declared.Class.TheVariants.{CameComplete, CameOther, CameOutside}
use Rattle.rows.specs.declared.State.{State}

pub number_is : (s : State) → phase_number (phase_of s) ≡ state_number s
number_is = phase_exactly.read

pub at_is : (n : ℕ) (s : State) → is_in n (phase_of s) ≡ is_at n s
at_is n s = ap (λ (m : ℕ). eqb m n) (number_is s)

pub clearing_is : (code : Switchover) → asks_clearing (asking_of code) ≡ is_clearing code
clearing_is code = by (eqb code.code 0) (eqb code.code 1) refl refl
  where
    by : (a b : Bool) → eqb code.code 0 ≡ a → eqb code.code 1 ≡ b →
        asks_clearing (cond a AsksImmediate (cond b AsksClearing AsksOther)) ≡ b
    by true true p q =
        let z : code.code ≡ 0 = eqb-true code.code 0 p in
        let u : code.code ≡ 1 = eqb-true code.code 1 q in
        absurd (omega arith)
    by true false p q = refl
    by false true p q = refl
    by false false p q = refl

pub missing_is : (cause : Option ReroutingCause) → came_none (class_of cause) ≡ has_no_cause cause
missing_is None = refl
missing_is (Some k) = by (eqb k.number 1) (eqb k.number 4)
  where
    by : (a b : Bool) → came_none (cond a CameOutside (cond b CameComplete CameOther)) ≡ false
    by true b = refl
    by false true = refl
    by false false = refl
