-- The claims on an admission (specs/Claims), proved. Assumes nothing.
use Prim.Native.Nat.{ℕ}
use native.Mathlib.Omega.{arith}
use mathlib.Core.Bool.{Bool, cond, false, false≢true, true, true≢false}
use mathlib.Core.Path.{◌≡◌, refl}
use lib.Dec.{eqb}
use Rattle.std.specs.Prelude.{Err}
use borrow.Author.Tests.{eq-eqb, eqb-true, ne_eqb}
use Rattle.signal.specs.declared.Answer.TheVariants.{KeyZero}
use Rattle.events.specs.declared.Act.{Act}
use Rattle.events.specs.declared.Act.TheVariants.{Meets, Opens}
use Rattle.admission.specs.Claims.{refusal_number}
use Rattle.admission.specs.Admission.{act_admitted, admission_of}
use Rattle.admission.specs.Claims as claim

-- no check behind the first gives its number
not_102 : (act : Act) (missing full : Bool) → refusal_number (act_admitted act missing full) ≡ 102 → ⊥
not_102 (Opens wanted) true true h = omega arith
not_102 (Opens wanted) true false h = omega arith
not_102 (Opens wanted) false full h = omega arith
not_102 (Meets e) true full h = omega arith
not_102 (Meets e) false full h = omega arith

pub refused_102 : claim.Refused102
refused_102 key act missing full = (by_key (eqb key 0) refl, λ e. rw (eq-eqb key 0 e))
  where
    by_key : (b : Bool) → eqb key 0 ≡ b → refusal_number (cond b (Err KeyZero) (act_admitted act missing full)) ≡ 102 → key ≡ 0
    by_key true t h = eqb-true key 0 t
    by_key false t h = absurd (not_102 act missing full h)

pub refused_103 : claim.Refused103
refused_103 key wanted true true z = rw (ne_eqb key 0 z) (λ h. absurd (omega arith), λ e. absurd (true≢false e))
refused_103 key wanted true false z = rw (ne_eqb key 0 z) (λ h. absurd (omega arith), λ e. absurd (true≢false e))
refused_103 key wanted false full z = rw (ne_eqb key 0 z) (λ h. refl, λ e. refl)

pub refused_104 : claim.Refused104
refused_104 key wanted true true z = rw (ne_eqb key 0 z) (λ h. (refl, refl), λ e. refl)
refused_104 key wanted true false z = rw (ne_eqb key 0 z) (λ h. absurd (omega arith), λ e. absurd (false≢true e.1))
refused_104 key wanted false full z = rw (ne_eqb key 0 z) (λ h. absurd (omega arith), λ e. absurd (false≢true e.0))

pub refused_105 : claim.Refused105
refused_105 key e true full z = rw (ne_eqb key 0 z) (λ h. refl, λ e. refl)
refused_105 key e false full z = rw (ne_eqb key 0 z) (λ h. absurd (omega arith), λ e. absurd (false≢true e))

pub opening_goes_on : claim.OpeningGoesOn
opening_goes_on key wanted z = rw (ne_eqb key 0 z)

pub event_goes_on : claim.EventGoesOn
event_goes_on key e full z = rw (ne_eqb key 0 z)

pub full_is_read_last : claim.FullIsReadLast
full_is_read_last = (on_record_lem, λ key e missing full. refl)
  where
    on_record_lem : (key : ℕ) (act : Act) (full : Bool) → admission_of key act false full ≡ admission_of key act false true
    on_record_lem key (Opens wanted) full = refl
    on_record_lem key (Meets e) full = refl
