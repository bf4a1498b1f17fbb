-- A record is read and its fault sought by the same tests: where one says bad, the other tells a byte. Assumes nothing.
use Prim.Native.Nat.{ℕ, ◌<◌}
use native.Mathlib.Omega.{arith}
use mathlib.Core.Path.{◌≡◌, refl}
use mathlib.Core.Bool.{Bool, true, false, ◌||◌, cond}
use lib.Dec.{eqb, ltb}
use borrow.Author.Tests.{ltb-true, ltb-false, lt-ltb, le-ltb, ne_eqb}
use Rattle.events.specs.declared.Act.{Act}
use Rattle.event_record.specs.Record.{number_of, open_of, connect_of, calling_of, called_of, request_of}
use Rattle.event_fault.specs.Fault.{misses, open_fault, connection_fault, connect_fault, calling_fault, called_fault, kind_fault}
use Rattle.event_fault.specs.declared.Expected.{Expected}
use Rattle.event_fault.specs.declared.Fault.{Fault}
use Rattle.std.specs.Prelude.{Option, Some, None}
use Rattle.event_fault.proofs.ByKind.{by_kind}

pub data Alike : Option Act → Option Fault → Type 0 where
  both_bad : {byte value : ℕ} {expected : Expected} → Alike None (misses byte value expected)
  both_sound : {act : Act} → Alike (Some act) None

-- one test more in front of both
tested : (t : Bool) (byte value : ℕ) (expected : Expected) {r : Option Act} {f : Option Fault} → Alike r f →
    Alike (cond t None r) (cond t (misses byte value expected) f)
tested true byte value expected a = both_bad
tested false byte value expected a = a

sound_where : (t : Bool) (act : Act) {r : Option Act} {f : Option Fault} → Alike r f → Alike (cond t (Some act) r) (cond t None f)
sound_where true act a = both_sound
sound_where false act a = a

open_alike : (named hard soft : ℕ) → Alike (open_of named hard soft) (open_fault named hard soft)
open_alike named hard soft =
    sound_where (eqb named 0) _ (tested (ltb 1 named) _ _ _ (tested (ltb 1 hard) _ _ _ (tested (ltb 2 soft) _ _ _ both_sound)))

-- a number of four octets is above 65,535 exactly where one of the first two is not 0
above_exactly : (a b c d : ℕ) → c < 256 → d < 256 → ltb 65535 (number_of a b c d) ≡ (ltb 0 a || ltb 0 b)
above_exactly a b c d p q = by_tests (ltb 0 a) (ltb 0 b) refl refl
  where
    by_tests : (s t : Bool) → ltb 0 a ≡ s → ltb 0 b ≡ t → ltb 65535 (number_of a b c d) ≡ (s || t)
    by_tests true t e f = lt-ltb 65535 (number_of a b c d) (omega (arith, ltb-true 0 a e))
    by_tests false true e f = lt-ltb 65535 (number_of a b c d) (omega (arith, ltb-true 0 b f))
    by_tests false false e f = le-ltb 65535 (number_of a b c d) (omega (arith, ltb-false 0 a e, ltb-false 0 b f))

tested_twice : (s t : Bool) (byte value other another : ℕ) (expected wanted : Expected) (act : Act) →
    Alike (cond (s || t) None (Some act)) (cond s (misses byte value expected) (cond t (misses other another wanted) None))
tested_twice true t byte value other another expected wanted act = both_bad
tested_twice false true byte value other another expected wanted act = both_bad
tested_twice false false byte value other another expected wanted act = both_sound

connection_alike : (a b c d : ℕ) (act : Act) → c < 256 → d < 256 →
    Alike (cond (ltb 65535 (number_of a b c d)) None (Some act)) (connection_fault a b)
connection_alike a b c d act p q = rw (above_exactly a b c d p q) (tested_twice (ltb 0 a) (ltb 0 b) _ _ _ _ _ _ _)

module _ (first second third a b c d : ℕ) (p : c < 256) (q : d < 256) where
  connect_alike : Alike (connect_of first (number_of a b c d)) (connect_fault first a b)
  connect_alike = tested (ltb 1 first) _ _ _ (connection_alike a b c d _ p q)

  calling_alike : Alike (calling_of first second third) (calling_fault first third)
  calling_alike = tested (ltb 1 first) _ _ _ (tested (ltb 2 third) _ _ _ both_sound)

  called_alike : Alike (called_of first second third (number_of a b c d)) (called_fault first third a b)
  called_alike = tested (ltb 1 first) _ _ _ (tested (ltb 2 third) _ _ _ (connection_alike a b c d _ p q))

  -- no kind above 9 is named
  above : (kind : ℕ) → 9 < kind → Alike (request_of kind first second third (number_of a b c d)) (kind_fault kind first second third a b)
  above kind h =
      rw (
        lt-ltb 9 kind h,
        ne_eqb kind 0 (λ e. omega arith),
        ne_eqb kind 4 (λ e. omega arith),
        ne_eqb kind 5 (λ e. omega arith),
        ne_eqb kind 6 (λ e. omega arith),
        ne_eqb kind 7 (λ e. omega arith),
        ne_eqb kind 1 (λ e. omega arith),
        ne_eqb kind 2 (λ e. omega arith),
        ne_eqb kind 3 (λ e. omega arith),
        ne_eqb kind 8 (λ e. omega arith),
        ne_eqb kind 9 (λ e. omega arith),
      ) both_bad

  pub kind_alike : (kind : ℕ) → Alike (request_of kind first second third (number_of a b c d)) (kind_fault kind first second third a b)
  kind_alike =
      by_kind (λ kind. Alike (request_of kind first second third (number_of a b c d)) (kind_fault kind first second third a b))
      (open_alike first second third)
      both_sound
      both_sound
      both_sound
      connect_alike
      both_sound
      calling_alike
      called_alike
      both_sound
      both_sound
      above
