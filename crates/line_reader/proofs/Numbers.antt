-- A number read digit by digit. Assumes nothing.
use Prim.Native.Nat.{ℕ, suc, ◌+◌, ◌-◌, ◌*◌, ◌≤◌, ◌<◌}
use native.Mathlib.Omega.{arith}
use mathlib.Core.Path.{◌≡◌, refl, sym, ◌∙◌, ap}
use mathlib.Core.Bool.{Bool, true, false, cond, false≢true}
use mathlib.Core.List.{List, [], ◌∷◌}
use lib.Dec.{ltb, leb}
use Rattle.std.specs.Bool.{◌==◌}
use Rattle.std.proofs.lemmas.Option.{cond_some}
use lib.ListN.{length, get_or, drop}
use lib.Seq.{drop-cons}
use borrow.Author.Tests.{eqb-true, lt-leb, ltb-false, leb-true}
use Rattle.std.proofs.Common.{Option, Some, None}
use Rattle.line_reader.specs.Numbers.{is_digit, all_digits, is_decimal, value_from, number_up_to}

-- what is still to come behind a number
abbrev pub number_from : ℕ → ℕ → List ℕ → Option ℕ
number_from limit n rest = cond (all_digits rest) (cond (leb (value_from n rest) limit) (Some (value_from n rest)) None) None

pub none : (limit : ℕ) (word : List ℕ) → true ≡ (length word == 0) → None ≡ number_up_to limit word
unfolding number_up_to
none limit [] e = refl
none limit (b ∷ bs) e = absurd (omega (arith, eqb-true (length (b ∷ bs)) 0 (sym e)))

pub begun : (limit : ℕ) (word : List ℕ) → false ≡ (length word == 0) → number_from limit 0 (drop 0 word) ≡ number_up_to limit word
unfolding number_up_to
begun limit [] e = absurd (false≢true e)
begun limit (b ∷ bs) e = refl

-- where the digits stand
pub digit_is : (b : ℕ) → is_digit b ≡ true → (48 ≤ b) × (b ≤ 57)
digit_is b d = by_tests (ltb b 48) (leb b 57) refl refl d
  where
    by_tests : (low high : Bool) → ltb b 48 ≡ low → leb b 57 ≡ high → cond low false high ≡ true → (48 ≤ b) × (b ≤ 57)
    by_tests true high l h d = absurd (false≢true d)
    by_tests false false l h d = absurd (false≢true d)
    by_tests false true l h d = (ltb-false b 48 l, leb-true b 57 h)

-- digits make a number no smaller; this is asked where they are digits
pub grows : (n : ℕ) (rest : List ℕ) → all_digits rest ≡ true → n ≤ value_from n rest
grows n [] d = omega arith
grows n (b ∷ bs) d = by_tests (ltb b 48) (leb b 57) refl (grows (n * 10 + b - 48) bs) d
  where
    by_tests : (low high : Bool) → ltb b 48 ≡ low → (all_digits bs ≡ true → n * 10 + b - 48 ≤ value_from (n * 10 + b - 48) bs) →
        cond (cond low false high) (all_digits bs) false ≡ true → n ≤ value_from (n * 10 + b - 48) bs
    by_tests false true l more d = omega (arith, more d, ltb-false b 48 l)
    by_tests false false l more d = absurd (false≢true d)
    by_tests true high l more d = absurd (false≢true d)

too_high : (limit n : ℕ) (rest : List ℕ) → limit < n → number_from limit n rest ≡ None
too_high limit n rest h = by_test (all_digits rest) refl
  where
    by_test : (t : Bool) → all_digits rest ≡ t →
        cond t (cond (leb (value_from n rest) limit) (Some (value_from n rest)) None) None ≡ None
    by_test true d = rw (lt-leb (value_from n rest) limit (omega (arith, grows n rest d)))
    by_test false d = refl

-- a digit that takes the number above the limit leaves none
pub above : (limit : ℕ) (word : List ℕ) (n i d : ℕ) → i < length word → number_from limit n (drop i word) ≡ number_up_to limit word →
    Some d ≡ cond (is_digit (get_or word i 0)) (Some (get_or word i 0 - 48)) None → limit < n * 10 + d → None ≡ number_up_to limit word
above limit word n i d h e read more =
    let b = get_or word i 0 in
    let digit = cond_some (is_digit b) (b - 48) d (sym read) in
    let at = digit_is b digit.0 in
    let high : number_from limit (n * 10 + b - 48) (drop (suc i) word) ≡ None = too_high limit _ (drop (suc i) word) (omega arith) in
    let step : number_from limit n (b ∷ drop (suc i) word) ≡ None = rw digit.0 high in
    sym (ap (number_from limit n) (drop-cons word i 0 h) ∙ step) ∙ e

-- a number that is read is at most the limit
pub at_most : (limit : ℕ) (word : List ℕ) (n : ℕ) → number_up_to limit word ≡ Some n → n ≤ limit
unfolding number_up_to
at_most limit word n e = by_tests (is_decimal word) (leb (value_from 0 word) limit) refl e
  where
    by_tests : (d l : Bool) → leb (value_from 0 word) limit ≡ l →
        cond d (cond l (Some (value_from 0 word)) None) None ≡ Some n → n ≤ limit
    by_tests true true l e = let m : value_from 0 word ≡ n = cc in omega (arith, leb-true (value_from 0 word) limit l)
    by_tests true false l e = absurd (let z : ◌≡◌ {A = ℕ} 0 1 = cc in omega arith)
    by_tests false low l e = absurd (let z : ◌≡◌ {A = ℕ} 0 1 = cc in omega arith)
