-- A list of numbers in which no number but 0 stands twice, as a test and in natural terms. Assumes nothing.
use Rattle.std.specs.Prelude.{◌≡◌, Bool, true, false, not, ◌&&◌, ◌||◌, List, [], ◌∷◌, ◌↔◌, ℕ, ◌<◌, eqb, ltb, length, get_or, take}

-- x is one of the list
unfoldable pub has : ℕ → List ℕ → Bool
has x [] = false
has x (y ∷ ys) = eqb y x || has x ys

-- no number but 0 stands twice
unfoldable pub distinct_of : List ℕ → Bool
distinct_of [] = true
distinct_of (x ∷ xs) = (eqb x 0 || not (has x xs)) && distinct_of xs

-- among the first n, where there are n
abbrev pub unique_of : List ℕ → ℕ → Bool
unique_of ks n = not (ltb (length ks) n) && distinct_of (take n ks)

-- the same in natural terms: two different places that hold one number hold 0
abbrev pub Distinct : List ℕ → Type 0
Distinct xs = (j k : ℕ) → j < k → k < length xs → get_or xs j 0 ≡ get_or xs k 0 → get_or xs j 0 ≡ 0

-- The claim: the test says exactly that. (01, 101: two non-empty records with one key.) Proof: proofs/Laws.antt.
abbrev pub DistinctExactly : Type 0
DistinctExactly = (xs : List ℕ) → (distinct_of xs ≡ true) ↔ Distinct xs
