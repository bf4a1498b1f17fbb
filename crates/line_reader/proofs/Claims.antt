-- The claims on the words of a line (specs/Claims), proved. Assumes nothing.
use Prim.Native.Nat.{ℕ}
use mathlib.Core.Path.{◌≡◌, refl, sym, ◌∙◌, ap}
use mathlib.Core.Bool.{Bool, true, false, cond}
use mathlib.Core.List.{List, [], ◌∷◌, ◌++◌}
use mathlib.Core.Logic.{◌⊎◌, inl, inr, ⊎_elim}
use Rattle.line_reader.specs.Words.{is_blank, is_of_word, front, past, first_word, after_word}
use Rattle.line_reader.specs.Claims as claim

-- what passes a test ends in front of an octet that does not
module _ (test : ℕ → Bool) (b : ℕ) (more : List ℕ) (stops : test b ≡ false) where
  front_ends : (l : List ℕ) → front test (l ++ (b ∷ more)) ≡ front test l
  front_ends [] = rw stops
  front_ends (x ∷ xs) = by_test (test x) (front_ends xs)
    where
      by_test : (t : Bool) → front test (xs ++ (b ∷ more)) ≡ front test xs →
          cond t (x ∷ front test (xs ++ (b ∷ more))) [] ≡ cond t (x ∷ front test xs) []
      by_test true rest = ap (λ l. x ∷ l) rest
      by_test false rest = refl

  past_keeps : (l : List ℕ) → past test (l ++ (b ∷ more)) ≡ past test l ++ (b ∷ more)
  past_keeps [] = rw stops
  past_keeps (x ∷ xs) = by_test (test x) (past_keeps xs)
    where
      by_test : (t : Bool) → past test (xs ++ (b ∷ more)) ≡ past test xs ++ (b ∷ more) →
          cond t (past test (xs ++ (b ∷ more))) (x ∷ (xs ++ (b ∷ more))) ≡ cond t (past test xs) (x ∷ xs) ++ (b ∷ more)
      by_test true rest = rest
      by_test false rest = refl

pub comment_is_no_word : claim.CommentIsNoWord
unfolding first_word after_word
comment_is_no_word rest comment = (
  ap (front is_of_word) (past_keeps is_blank 35 comment refl rest) ∙ front_ends is_of_word 35 comment refl (past is_blank rest),
  ap (past is_of_word) (past_keeps is_blank 35 comment refl rest) ∙ past_keeps is_of_word 35 comment refl (past is_blank rest),
)

-- a blank at the very end goes with the blanks in front of it, and else stays behind the word
module _ (b : ℕ) (blank : is_blank b ≡ true) where
  ends_word : is_of_word b ≡ false
  ends_word = rw blank

  past_blanks : (l : List ℕ) → (past is_blank (l ++ (b ∷ [])) ≡ past is_blank l ++ (b ∷ [])) ⊎
      ((past is_blank (l ++ (b ∷ [])) ≡ []) × (past is_blank l ≡ []))
  past_blanks [] = inr (rw blank, refl)
  past_blanks (x ∷ xs) = by_test (is_blank x) (past_blanks xs)
    where
      by_test : (t : Bool) → (past is_blank (xs ++ (b ∷ [])) ≡ past is_blank xs ++ (b ∷ [])) ⊎
          ((past is_blank (xs ++ (b ∷ [])) ≡ []) × (past is_blank xs ≡ [])) →
          (cond t (past is_blank (xs ++ (b ∷ []))) (x ∷ (xs ++ (b ∷ []))) ≡ cond t (past is_blank xs) (x ∷ xs) ++ (b ∷ [])) ⊎
          ((cond t (past is_blank (xs ++ (b ∷ []))) (x ∷ (xs ++ (b ∷ []))) ≡ []) × (cond t (past is_blank xs) (x ∷ xs) ≡ []))
      by_test true rest = rest
      by_test false rest = inl refl

pub blank_behind_is_no_word : claim.BlankBehindIsNoWord
unfolding first_word after_word
blank_behind_is_no_word rest b blank = (
  ⊎_elim
      (λ e. ap (front is_of_word) e ∙ front_ends is_of_word b [] (ends_word b blank) (past is_blank rest))
      (λ e. ap (front is_of_word) e.0 ∙ sym (ap (front is_of_word) e.1))
      (past_blanks b blank rest),
  ⊎_elim
      (λ e. inl (ap (past is_of_word) e ∙ past_keeps is_of_word b [] (ends_word b blank) (past is_blank rest)))
      (λ e. inr (ap (past is_of_word) e.0 ∙ sym (ap (past is_of_word) e.1)))
      (past_blanks b blank rest),
)
