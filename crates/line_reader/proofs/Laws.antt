-- The laws of words: what passes a test at the front, and places in a line. Assumes nothing.
use Prim.Native.Nat.{ℕ, ◌+◌, ◌-◌, ◌≤◌}
use native.Mathlib.Omega.{arith}
use mathlib.Core.Path.{◌≡◌, refl, sym, ◌∙◌, ap}
use mathlib.Core.Bool.{Bool, true, false, cond, ◌&&◌}
use mathlib.Core.List.{List, [], ◌∷◌, ◌++◌}
use lib.Dec.{leb, eqb}
use Rattle.std.specs.Cmp.Lexicographic.{pointwise}
use lib.ListN.{length, take, drop, length-append, length-drop, drop_of_length-le}
use lib.Seq.{drop-drop, drop-append_seam, take_at}
use borrow.Author.Tests.{leb-true, leb-false}
use Rattle.line_reader.specs.Words.{is_blank, is_of_word, front, past, first_word, after_word, place_before, place_after, same_text}

-- the place of an end of a line
pub place_back : (l rest : List ℕ) (n : ℕ) → rest ≡ drop n l → drop (place_before l rest) l ≡ rest
place_back l rest n e = by_test (leb n (length l)) refl
  where
    by_test : (t : Bool) → leb n (length l) ≡ t → drop (place_before l rest) l ≡ rest
    by_test true h =
        let k : length l - length rest ≡ n = omega (arith, leb-true n (length l) h, length-drop n l, ap length e) in
        ap (λ m. drop m l) k ∙ sym e
    by_test false h =
        let far : length l ≤ n = omega (arith, leb-false n (length l) h) in
        let none : rest ≡ [] = e ∙ drop_of_length-le l far in
        let k : length l ≤ length l - length rest = omega (arith, ap length none) in
        drop_of_length-le l k ∙ sym none

module _ (test : ℕ → Bool) where
  pub both : (l : List ℕ) → front test l ++ past test l ≡ l
  both [] = refl
  both (b ∷ bs) = by_test (test b) (both bs)
    where
      by_test : (t : Bool) → front test bs ++ past test bs ≡ bs → cond t (b ∷ front test bs) [] ++ cond t (past test bs) (b ∷ bs) ≡ b ∷ bs
      by_test true rest = ap (λ l. b ∷ l) rest
      by_test false rest = refl

  past_is : (l : List ℕ) → past test l ≡ drop (length (front test l)) l
  past_is l = sym (ap (drop (length (front test l))) (sym (both l)) ∙ drop-append_seam (front test l) (past test l))

  pub past_back : (l : List ℕ) (at : ℕ) → drop (place_before l (past test (drop at l))) l ≡ past test (drop at l)
  past_back l at =
      place_back l (past test (drop at l)) (at + length (front test (drop at l)))
      (past_is (drop at l) ∙ drop-drop (length (front test (drop at l))) at l)

  pub no_longer : (l : List ℕ) → length (front test l) + length (past test l) ≡ length l
  no_longer l = sym (length-append (front test l) (past test l)) ∙ ap length (both l)

-- a word between its two places
module _ (l : List ℕ) (at from to : ℕ) (f : from ≡ place_before l (past is_blank (drop at l)))
    (t : to ≡ place_before l (past is_of_word (drop from l))) where
  start : drop from l ≡ past is_blank (drop at l)
  start = ap (λ n. drop n l) f ∙ past_back is_blank l at

  pub in_order : from ≤ to
  in_order =
      omega (arith, length-drop from l, ap length start, no_longer is_of_word (drop from l), no_longer is_blank (drop at l), length-drop at l)

  pub word_is : take (to - from) (drop from l) ≡ first_word (drop at l)
  unfolding first_word
  word_is =
      let n : length (front is_of_word (drop from l)) ≡ to - from =
      omega (arith, length-drop from l, no_longer is_of_word (drop from l), in_order, ap length start, no_longer is_blank (drop at l), length-drop at l) in
      ap (take (to - from)) (sym (both is_of_word (drop from l)))
      ∙ (take_at (front is_of_word (drop from l)) (past is_of_word (drop from l)) (to - from) n ∙ ap (front is_of_word) start)

  pub after_is : to ≡ place_after l at
  unfolding after_word
  after_is = t ∙ ap (λ r. place_before l (past is_of_word r)) start

-- what is left behind the next word
pub behind : (l : List ℕ) (at place : ℕ) → place ≡ place_after l at → drop place l ≡ after_word (drop at l)
unfolding after_word
behind l at place e =
    let from = place_before l (past is_blank (drop at l)) in
    let start : drop from l ≡ past is_blank (drop at l) = past_back is_blank l at in
    ap (λ n. drop n l) (e ∙ ap (λ r. place_before l (past is_of_word r)) (sym start)) ∙ (past_back is_of_word l from ∙ ap (past is_of_word) start)

-- as `==` compares them
pub same_is : (a b : List ℕ) → same_text a b ≡ pointwise eqb a b
same_is [] [] = refl
same_is [] (y ∷ b) = refl
same_is (x ∷ a) [] = refl
same_is (x ∷ a) (y ∷ b) = by_test (eqb x y) (same_is a b)
  where
    by_test : (t : Bool) → same_text a b ≡ pointwise eqb a b → cond t (same_text a b) false ≡ (t && pointwise eqb a b)
    by_test true rest = rest
    by_test false rest = refl
