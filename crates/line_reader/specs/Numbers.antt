-- A word as a number in decimal (docs/BENCH.md, "script"). Assumes nothing.
use Rattle.std.specs.Prelude.{ℕ, ◌+◌, ◌-◌, ◌*◌, Bool, true, false, cond, List, [], ◌∷◌, ltb, leb, Option, Some, None}

abbrev pub is_digit : ℕ → Bool
is_digit b = cond (ltb b 48) false (leb b 57)

abbrev pub all_digits : List ℕ → Bool
all_digits [] = true
all_digits (b ∷ bs) = cond (is_digit b) (all_digits bs) false

-- one digit at least
abbrev pub is_decimal : List ℕ → Bool
is_decimal [] = false
is_decimal (b ∷ bs) = all_digits (b ∷ bs)

-- what digits behind a number make of it
abbrev pub value_from : ℕ → List ℕ → ℕ
value_from n [] = n
value_from n (b ∷ bs) = value_from (n * 10 + b - 48) bs

abbrev pub value_of : List ℕ → ℕ
value_of word = value_from 0 word

-- digits alone, leading zeros among them, and at most the limit
unfoldable pub number_up_to : ℕ → List ℕ → Option ℕ
number_up_to limit word = cond (is_decimal word) (cond (leb (value_of word) limit) (Some (value_of word)) None) None
