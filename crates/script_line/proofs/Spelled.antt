-- A number that is spelled in decimal is read again as that number, and ends where a blank or the line's end follows. Assumes nothing.
use Prim.Native.Nat.{ℕ, zero, suc, ◌+◌, ◌-◌, ◌*◌, ◌/◌, ◌%◌, ◌≤◌, ◌<◌}
use native.Mathlib.Omega.{arith}
use mathlib.Core.Path.{◌≡◌, refl, ◌∙◌, ap}
use mathlib.Core.Bool.{Bool, true, false, cond, false≢true}
use mathlib.Core.List.{List, [], ◌∷◌, ◌++◌}
use lib.Dec.{ltb}
use borrow.Author.Tests.{le-ltb, le-leb, ltb-true, ltb-false, ne_eqb}
use Rattle.std.proofs.Common.{Some}
use Rattle.lines.specs.Lines.{spelled, number_text}
use Rattle.line_reader.specs.Words.{is_blank, is_of_word, front, past, first_word, after_word, same_text}
use Rattle.line_reader.specs.Numbers.{is_digit, all_digits, is_decimal, value_from, number_up_to}
use Rattle.line_reader.proofs.Numbers.{digit_is}
use Rattle.event_words.specs.Words.{then_number}

-- digits are octets of a word
no_blank : (b : ℕ) → is_digit b ≡ true → is_blank b ≡ false
no_blank b d =
    let at = digit_is b d in
    rw (ne_eqb b 32 (λ e. omega arith), ne_eqb b 9 (λ e. omega arith), ne_eqb b 13 (λ e. omega arith))

of_word : (b : ℕ) → is_digit b ≡ true → is_of_word b ≡ true
of_word b d = let at = digit_is b d in rw (no_blank b d, ne_eqb b 35 (λ e. omega arith))

-- a word ends in front of this
abbrev pub Parted : List ℕ → Type 0
Parted [] = Unit {0}
Parted (b ∷ bs) = is_of_word b ≡ false

front_ends : (tail : List ℕ) → Parted tail → front is_of_word tail ≡ []
front_ends [] p = refl
front_ends (b ∷ bs) p = rw p

past_ends : (tail : List ℕ) → Parted tail → past is_of_word tail ≡ tail
past_ends [] p = refl
past_ends (b ∷ bs) p = rw p

-- the first of some digits, and the others
digits_split : (b : ℕ) (bs : List ℕ) → all_digits (b ∷ bs) ≡ true → (is_digit b ≡ true) × (all_digits bs ≡ true)
digits_split b bs d = by_test (is_digit b) d
  where
    by_test : (t : Bool) → cond t (all_digits bs) false ≡ true → (t ≡ true) × (all_digits bs ≡ true)
    by_test true d = (refl, d)
    by_test false d = absurd (false≢true d)

front_digits : (ds tail : List ℕ) → all_digits ds ≡ true → Parted tail → front is_of_word (ds ++ tail) ≡ ds
front_digits [] tail d p = front_ends tail p
front_digits (b ∷ bs) tail d p = let s = digits_split b bs d in rw (of_word b s.0) (ap (λ l. b ∷ l) (front_digits bs tail s.1 p))

past_digits : (ds tail : List ℕ) → all_digits ds ≡ true → Parted tail → past is_of_word (ds ++ tail) ≡ tail
past_digits [] tail d p = past_ends tail p
past_digits (b ∷ bs) tail d p = let s = digits_split b bs d in rw (of_word b s.0) (past_digits bs tail s.1 p)

no_blanks : (ds tail : List ℕ) → is_decimal ds ≡ true → past is_blank (ds ++ tail) ≡ ds ++ tail
no_blanks [] tail d = absurd (false≢true d)
no_blanks (b ∷ bs) tail d = let s = digits_split b bs d in rw (no_blank b s.0)

-- a number spelled is digits
digits_append : (a b : List ℕ) → all_digits a ≡ true → all_digits b ≡ true → all_digits (a ++ b) ≡ true
digits_append [] b d e = e
digits_append (x ∷ a) b d e = let s = digits_split x a d in rw s.0 (digits_append a b s.1 e)

one_digit : (n : ℕ) → n < 10 → all_digits ((48 + n) ∷ []) ≡ true
one_digit n h = rw (le-ltb (48 + n) 48 (omega arith), le-leb (48 + n) 57 (omega arith))

spelled_digits : (f n : ℕ) → all_digits (spelled f n) ≡ true
unfolding spelled
spelled_digits zero n = refl
spelled_digits (suc f) n = by_test (ltb n 10) refl (spelled_digits f (n / 10))
  where
    by_test : (t : Bool) → ltb n 10 ≡ t → all_digits (spelled f (n / 10)) ≡ true →
        all_digits (cond t ((48 + n) ∷ []) (spelled f (n / 10) ++ ((48 + n % 10) ∷ []))) ≡ true
    by_test true h rest = one_digit n (ltb-true n 10 h)
    by_test false h rest = digits_append (spelled f (n / 10)) ((48 + n % 10) ∷ []) rest (one_digit (n % 10) (omega arith))

-- one at least
is_number : (a : List ℕ) (b : ℕ) → all_digits (a ++ (b ∷ [])) ≡ true → is_decimal (a ++ (b ∷ [])) ≡ true
is_number [] b d = d
is_number (x ∷ a) b d = d

spelled_number : (f n : ℕ) → is_decimal (spelled (suc f) n) ≡ true
unfolding spelled
spelled_number f n = by_test (ltb n 10) (spelled_digits (suc f) n)
  where
    by_test : (t : Bool) → all_digits (cond t ((48 + n) ∷ []) (spelled f (n / 10) ++ ((48 + n % 10) ∷ []))) ≡ true →
        is_decimal (cond t ((48 + n) ∷ []) (spelled f (n / 10) ++ ((48 + n % 10) ∷ []))) ≡ true
    by_test true d = d
    by_test false d = is_number (spelled f (n / 10)) (48 + n % 10) d

-- and its value is the number
value_append : (n : ℕ) (a : List ℕ) (b : ℕ) → value_from n (a ++ (b ∷ [])) ≡ value_from n a * 10 + b - 48
value_append n [] b = refl
value_append n (x ∷ a) b = value_append (n * 10 + x - 48) a b

spelled_value : (f n : ℕ) → n < f → value_from 0 (spelled f n) ≡ n
unfolding spelled
spelled_value zero n h = absurd (omega arith)
spelled_value (suc f) n h = by_test (ltb n 10) refl (λ k. spelled_value f (n / 10) k)
  where
    by_test : (t : Bool) → ltb n 10 ≡ t → (n / 10 < f → value_from 0 (spelled f (n / 10)) ≡ n / 10) →
        value_from 0 (cond t ((48 + n) ∷ []) (spelled f (n / 10) ++ ((48 + n % 10) ∷ []))) ≡ n
    by_test true e rest = let v : 0 * 10 + (48 + n) - 48 ≡ n = omega arith in v
    by_test false e rest =
        let ten : 10 ≤ n = ltb-false n 10 e in
        let v : value_from 0 (spelled f (n / 10)) ≡ n / 10 = rest (omega arith) in
        value_append 0 (spelled f (n / 10)) (48 + n % 10) ∙ omega arith

pub text_number : (n : ℕ) → is_decimal (number_text n) ≡ true
unfolding number_text
text_number n = spelled_number n n

text_digits : (n : ℕ) → all_digits (number_text n) ≡ true
unfolding number_text
text_digits n = spelled_digits (suc n) n

text_value : (n : ℕ) → value_from 0 (number_text n) ≡ n
unfolding number_text
text_value n = spelled_value (suc n) n (omega arith)

-- a number behind a blank is the next word, and reads as itself
module _ (n : ℕ) (tail : List ℕ) (p : Parted tail) where
  pub number_first : first_word (then_number n ++ tail) ≡ number_text n
  unfolding first_word
  number_first = ap (front is_of_word) (no_blanks (number_text n) tail (text_number n)) ∙ front_digits (number_text n) tail (text_digits n) p

  pub number_after : after_word (then_number n ++ tail) ≡ tail
  unfolding after_word
  number_after = ap (past is_of_word) (no_blanks (number_text n) tail (text_number n)) ∙ past_digits (number_text n) tail (text_digits n) p

pub number_reads : (limit n : ℕ) → n ≤ limit → number_up_to limit (number_text n) ≡ Some n
unfolding number_up_to
number_reads limit n h = rw (text_number n, text_value n, le-leb n limit h)

-- and is no name
no_name : (word : List ℕ) (b : ℕ) (bs : List ℕ) → all_digits word ≡ true → 57 < b → same_text word (b ∷ bs) ≡ false
no_name [] b bs d h = refl
no_name (x ∷ a) b bs d h =
    let at = digit_is x (digits_split x a d).0 in
    rw (ne_eqb x b (λ e. omega arith))

pub number_no_name : (n b : ℕ) (bs : List ℕ) → 57 < b → same_text (number_text n) (b ∷ bs) ≡ false
number_no_name n b bs h = no_name (number_text n) b bs (text_digits n) h
