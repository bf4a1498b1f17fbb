-- The words of a line (docs/BENCH.md, "script"), over the octets of it that are left. Assumes nothing.
use Rattle.std.specs.Prelude.{ℕ, ◌-◌, Bool, true, false, not, ◌||◌, cond, List, [], ◌∷◌, eqb, length, drop}

-- space, tab and carriage return
abbrev pub is_blank : ℕ → Bool
is_blank b = eqb b 32 || (eqb b 9 || eqb b 13)

-- `#`, which starts a comment, is of no word either
abbrev pub is_of_word : ℕ → Bool
is_of_word b = cond (is_blank b) false (not (eqb b 35))

-- the octets at the front that pass a test, and what follows them
abbrev pub front : (ℕ → Bool) → List ℕ → List ℕ
front test [] = []
front test (b ∷ bs) = cond (test b) (b ∷ front test bs) []

abbrev pub past : (ℕ → Bool) → List ℕ → List ℕ
past test [] = []
past test (b ∷ bs) = cond (test b) (past test bs) (b ∷ bs)

-- the next word, blanks in front of it left out; empty at the end and at a comment
unfoldable pub first_word : List ℕ → List ℕ
first_word rest = front is_of_word (past is_blank rest)

-- what is left behind it
unfoldable pub after_word : List ℕ → List ℕ
after_word rest = past is_of_word (past is_blank rest)

-- the place in a line at which so much of it is left
abbrev pub place_before : List ℕ → List ℕ → ℕ
place_before line rest = length line - length rest

abbrev pub place_after : List ℕ → ℕ → ℕ
place_after line at = place_before line (after_word (drop at line))

-- octet by octet
abbrev pub same_text : List ℕ → List ℕ → Bool
same_text [] [] = true
same_text [] (b ∷ bs) = false
same_text (a ∷ more) [] = false
same_text (a ∷ more) (b ∷ bs) = cond (eqb a b) (same_text more bs) false
