-- Octets brought to the front of a buffer. Assumes nothing.
use Prim.Native.Nat.{ℕ, ◌-◌, ◌%◌, ◌≤◌, ◌<◌}
use native.Mathlib.Omega.{arith}
use mathlib.Core.Path.{◌≡◌, refl, ◌∙◌, ap}
use mathlib.Core.Bool.{Bool, true, false, cond}
use mathlib.Core.List.{List}
use lib.Dec.{ltb}
use lib.ListN.{length}
use borrow.Author.Tests.{lt-ltb, le-ltb}
use Rattle.event_record.specs.Places.{rest_length, brought_from, rest_kept}

-- where there are not so many octets nothing is kept, and else what stands behind the last whole record
pub none_kept : (octets : List ℕ) (filled : ℕ) → length octets < filled →
    (0 ≡ rest_length octets filled) × (octets ≡ rest_kept octets filled)
unfolding rest_length
none_kept octets filled h = rw (lt-ltb _ _ h) (refl, refl)

pub rest_kept_lem : (octets l : List ℕ) (filled index : ℕ) → filled ≤ length octets → index ≡ filled % 16 →
    l ≡ brought_from octets (filled - filled % 16) index →
    (filled % 16 ≡ rest_length octets filled) × (l ≡ rest_kept octets filled)
unfolding rest_length
rest_kept_lem octets l filled index h i e = rw (le-ltb _ _ h) (refl, e ∙ ap (brought_from octets (filled - filled % 16)) i)

-- what is kept is less than a record
pub rest_short : (octets : List ℕ) (filled kept : ℕ) → kept ≡ rest_length octets filled → kept ≤ 15
unfolding rest_length
rest_short octets filled kept e = by_test (ltb (length octets) filled) e
  where
    by_test : (b : Bool) → kept ≡ cond b 0 (filled % 16) → kept ≤ 15
    by_test true e = omega arith
    by_test false e = omega arith
