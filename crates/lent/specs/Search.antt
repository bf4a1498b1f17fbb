-- What a walk over a list finds: the first element with a key; what is known after reading every element once, or until it is enough; and
-- the element at a place. For any list, any way to read the key, and any answer. Assumes nothing.
use Rattle.std.specs.Prelude.{ℕ, ◌+◌, eqb, ltb, get_or, length, set, List, [], ◌∷◌, Bool, cond}

module _ {X F : Type 0} (key : X → ℕ) (hit : ℕ → X → F) (none : F) where
  -- where the first of them stands at i
  unfoldable pub first_from : ℕ → ℕ → List X → F
  first_from k i [] = none
  first_from k i (c ∷ cs) = cond (eqb (key c) k) (hit i c) (first_from k (i + 1) cs)

-- A list read from its first, which stands at i: what is known so far, s, is stepped by each element.
module _ {X Y : Type 0} (step : Y → ℕ → X → Y) where
  unfoldable pub read_from : ℕ → Y → List X → Y
  read_from i s [] = s
  read_from i s (c ∷ cs) = read_from (i + 1) (step s i c) cs

-- The same, but only until what is known is enough.
module _ {X Y : Type 0} (enough : Y → Bool) (step : Y → ℕ → X → Y) where
  unfoldable pub read_until : ℕ → Y → List X → Y
  read_until i s [] = s
  read_until i s (c ∷ cs) = cond (enough s) s (read_until (i + 1) (step s i c) cs)

-- The element at a place, and none past the end.
module _ {X F : Type 0} (hit : ℕ → X → F) (none : F) (any : X) where
  abbrev pub element_at : List X → ℕ → F
  element_at cs i = cond (ltb i (length cs)) (hit i (get_or cs i any)) none

-- The key of each element set at its place, where the first of them stands at i; past the end none is.
module _ {X : Type 0} (key : X → ℕ) where
  abbrev pub keys_from : ℕ → List ℕ → List X → List ℕ
  keys_from i ks cs = read_from (λ zs j c. set zs j (key c)) i ks cs
