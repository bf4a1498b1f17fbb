-- The claims on cases and rules (specs/Claims), proved. Assumes nothing.
use Prim.Native.Nat.{ℕ}
use mathlib.Core.Bool.{Bool, ◌||◌, cond, false, false≢true, true}
use mathlib.Core.Logic.{◌↔◌}
use mathlib.Core.Path.{◌∙◌, ◌≡◌, ap, refl, sym}
use lib.Dec.{eqb}
use borrow.Author.Tests.{eqb-true, lt-ltb, ltb-true}
use Rattle.std.specs.Prelude.{Option, None, Some}
use Rattle.signal.specs.declared.ReroutingCause.{ReroutingCause}
use Rattle.rows.proofs.Wanted.{its_incumbent}
use Rattle.rows.specs.Cases.{NamesIncumbent, NamesOther, NamesRerouting, Standing, class_of, is_incumbent, is_rerouting}
use Rattle.rows.specs.Checks.{holds}
use Rattle.rows.specs.States.{AtAwaiting, AtHardUnderway, AtHardWaiting, AtIdle, AtNull, AtSoftInitiated, AtSoftProceeding}
use Rattle.rows.specs.States.{AtSoftTriggered, Phase, built, phase_number, phase_of, state_number}
use Rattle.rows.specs.declared.Class.TheVariants.{CameComplete, CameNone, CameOther, CameOutside}
use Rattle.rows.specs.declared.State.{State}
use Rattle.rows.specs.declared.State.TheVariants.{Awaiting, HardUnderway, HardWaiting, Idle, Null, SoftInitiated, SoftProceeding}
use Rattle.rows.specs.declared.State.TheVariants.{SoftTriggered}
use Rattle.rows.specs.Claims as claim

-- a choice of one of three different ones by two tests: which one it is tells what the tests say
module _ {A : Type 0} {x y z : A} where
  chose_first : (y ≡ x → false ≡ true) → (z ≡ x → false ≡ true) → (a b : Bool) → cond a x (cond b y z) ≡ x → a ≡ true
  chose_first n m true b p = refl
  chose_first n m false true p = n p
  chose_first n m false false p = m p

  chose_second : (x ≡ y → false ≡ true) → (z ≡ y → false ≡ true) → (a b : Bool) → cond a x (cond b y z) ≡ y → b ≡ true
  chose_second n m true b p = absurd (false≢true (n p))
  chose_second n m false true p = refl
  chose_second n m false false p = m p

  chose_third : (x ≡ z → false ≡ true) → (y ≡ z → false ≡ true) → (a b : Bool) → cond a x (cond b y z) ≡ z → a || (b || false) ≡ false
  chose_third n m true b p = sym (n p)
  chose_third n m false true p = sym (m p)
  chose_third n m false false p = refl

unnamed : (a b : Bool) → a || (b || false) ≡ false → cond a NamesIncumbent (cond b NamesRerouting NamesOther) ≡ NamesOther
unnamed true b p = cc
unnamed false true p = cc
unnamed false false p = refl

some_came : (k : ReroutingCause) (a b : Bool) → cond a CameOutside (cond b CameComplete CameOther) ≡ CameNone → Some k ≡ None
some_came k true b p = cc
some_came k false true p = cc
some_came k false false p = cc

complete_came : (k : ReroutingCause) → (class_of (Some k) ≡ CameComplete) ↔ (k.number ≡ 4)
complete_came k = (λ p. eqb-true k.number 4 (chose_second (λ q. cc) (λ q. cc) (eqb k.number 1) _ p), λ q. rw q)

outside_came : (k : ReroutingCause) → (class_of (Some k) ≡ CameOutside) ↔ (k.number ≡ 1)
outside_came k = (λ p. eqb-true k.number 1 (chose_first (λ q. cc) (λ q. cc) _ (eqb k.number 4) p), λ q. rw q)

none_came : (got : Option ReroutingCause) → class_of got ≡ CameNone → got ≡ None
none_came None p = refl
none_came (Some k) p = some_came k (eqb k.number 1) (eqb k.number 4) p

pub class_exactly : claim.ClassExactly
class_exactly = record { none = λ got. (none_came got, λ q. rw q); outside = outside_came; complete = complete_came }

pub asking_exactly : claim.AskingExactly
asking_exactly =
    record {
      clearing = λ s. (λ p. eqb-true s.code 1 (chose_second (λ q. cc) (λ q. cc) (eqb s.code 0) _ p), λ q. rw q);
      immediate = λ s. (λ p. eqb-true s.code 0 (chose_first (λ q. cc) (λ q. cc) _ (eqb s.code 1) p), λ q. rw q);
    }

held_is : (s : State) (c : ℕ) → holds s c ≡ is_incumbent s c || (is_rerouting s c || false)
held_is Null c = refl
held_is (Idle i) c = refl
held_is HardWaiting c = refl
held_is (HardUnderway r) c = refl
held_is (SoftTriggered i) c = refl
held_is (SoftProceeding i r) c = refl
held_is (SoftInitiated i r) c = refl
held_is (Awaiting i r) c = refl

pub role_exactly : claim.RoleExactly
role_exactly =
    record {
      incumbent = λ s c. (
        λ p. sym (its_incumbent s c) ∙ chose_first (λ q. cc) (λ q. cc) (is_incumbent s c) (is_rerouting s c) p,
        λ q. ap (λ b. cond b NamesIncumbent (cond (is_rerouting s c) NamesRerouting NamesOther)) (its_incumbent s c ∙ q),
      );
      unheld = λ s c. (
        λ p. held_is s c ∙ chose_third (λ q. cc) (λ q. cc) (is_incumbent s c) (is_rerouting s c) p,
        λ q. unnamed (is_incumbent s c) (is_rerouting s c) (sym (held_is s c) ∙ q),
      );
    }

pub room_exactly : claim.RoomExactly
room_exactly last = (ltb-true last 65535, lt-ltb last 65535)

phase_read : (s : State) → phase_number (phase_of s) ≡ state_number s
phase_read Null = refl
phase_read (Idle i) = refl
phase_read HardWaiting = refl
phase_read (HardUnderway r) = refl
phase_read (SoftTriggered i) = refl
phase_read (SoftProceeding i r) = refl
phase_read (SoftInitiated i r) = refl
phase_read (Awaiting i r) = refl

phase_built : (phase : Phase) (i r : ℕ) → state_number (built phase i r) ≡ phase_number phase
phase_built AtNull i r = refl
phase_built AtIdle i r = refl
phase_built AtHardWaiting i r = refl
phase_built AtHardUnderway i r = refl
phase_built AtSoftTriggered i r = refl
phase_built AtSoftProceeding i r = refl
phase_built AtSoftInitiated i r = refl
phase_built AtAwaiting i r = refl

pub phase_exactly : claim.PhaseExactly
phase_exactly = record { read = phase_read; built = phase_built }

pub case_hands_on : (x : Standing) → claim.CaseHandsOn x
case_hands_on x =
    record {
      phase = λ e. phase_read x.state;
      hard = λ e. refl;
      soft = λ e. refl;
      room = λ e. room_exactly x.last;
      trigger = refl;
      path = refl;
      no_path = refl;
      connect = λ c agreed. refl;
      setup = λ code number. refl;
      from_party = λ got. refl;
      from_domain = λ c got tried. refl;
      ready = refl;
      expiry = refl;
    }

pub said_exactly : (got : Option ReroutingCause) → claim.SaidExactly got
said_exactly None =
    record {
      nothing = refl;
      number1 = refl;
      number2 = refl;
      number4 = refl;
      number5 = refl;
      number6 = refl;
      number8 = refl;
      as_came = λ k. (λ p. cc, λ q. cc);
      came_not = (λ p. refl, λ q. refl);
    }
said_exactly (Some j) =
    record {
      nothing = refl;
      number1 = refl;
      number2 = refl;
      number4 = refl;
      number5 = refl;
      number6 = refl;
      number8 = refl;
      as_came = λ k. (λ p. cc, λ q. cc);
      came_not = (λ p. cc, λ q. cc);
    }
