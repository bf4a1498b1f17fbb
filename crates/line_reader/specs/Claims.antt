-- What is claimed of the words of a line (docs/BENCH.md, "script"). Proofs: proofs/Claims.antt. Assumes nothing.
use Rattle.std.specs.Prelude.{ℕ, ◌≡◌, true, List, [], ◌∷◌, ◌++◌, ◌⊎◌}
use Rattle.line_reader.specs.Words.{is_blank, first_word, after_word}

-- A comment, from its `#` on, changes no word in front of it, also right behind one; and no word is sought in it.
abbrev pub CommentIsNoWord : Type 0
CommentIsNoWord =
    (rest comment : List ℕ) →
    (first_word (rest ++ (35 ∷ comment)) ≡ first_word rest) × (after_word (rest ++ (35 ∷ comment)) ≡ after_word rest ++ (35 ∷ comment))

-- A blank behind all else changes no word, and is left behind the last one or passed over.
abbrev pub BlankBehindIsNoWord : Type 0
BlankBehindIsNoWord =
    (rest : List ℕ) (b : ℕ) → is_blank b ≡ true →
    (first_word (rest ++ (b ∷ [])) ≡ first_word rest)
    × ((after_word (rest ++ (b ∷ [])) ≡ after_word rest ++ (b ∷ [])) ⊎ (after_word (rest ++ (b ∷ [])) ≡ after_word rest))
