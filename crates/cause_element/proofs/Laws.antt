-- How much of a string is its element, by its length. Assumes nothing.
use Prim.Native.Nat.{ℕ, ◌≤◌, ◌<◌, zero-le}
use mathlib.Core.Path.{◌≡◌, refl, subst}
use mathlib.Core.Bool.{Bool, true, false, cond}
use mathlib.Core.List.{List}
use lib.Dec.{ltb}
use lib.ListN.{length}
use borrow.Author.Tests.{lt-ltb, le-ltb, ltb-false}
use Rattle.cause_element.specs.Element.{whole_length, element_length}

-- too short for its length, and neither that nor under four octets
pub cut : (octets : List ℕ) (n : ℕ) → 4 ≤ length octets → n ≡ whole_length octets → length octets < n → 0 ≡ element_length octets
cut octets n h e l = rw (le-ltb (length octets) 4 h, lt-ltb (length octets) (whole_length octets) (subst (λ m. length octets < m) e l))

pub enough : (octets : List ℕ) (n : ℕ) → 4 ≤ length octets → n ≡ whole_length octets → n ≤ length octets → n ≡ element_length octets
enough octets n h e l = rw (le-ltb (length octets) 4 h, le-ltb (length octets) (whole_length octets) (subst (λ m. m ≤ length octets) e l)) e

-- an element never reaches past its string
pub never_past : (octets : List ℕ) → element_length octets ≤ length octets
never_past octets = by_tests (ltb (length octets) 4) (ltb (length octets) (whole_length octets)) refl
  where
    by_tests : (b d : Bool) → ltb (length octets) (whole_length octets) ≡ d → cond b 0 (cond d 0 (whole_length octets)) ≤ length octets
    by_tests true d e = zero-le
    by_tests false true e = zero-le
    by_tests false false e = ltb-false (length octets) (whole_length octets) e
