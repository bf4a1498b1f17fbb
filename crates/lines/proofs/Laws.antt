-- The laws of a text put into a buffer, and of a number in decimal. Assumes nothing.
use Prim.Native.Nat.{ℕ, zero, suc, ◌+◌, ◌-◌, ◌*◌, ◌/◌, ◌%◌, ◌^◌, ◌≤◌, ◌<◌}
use native.Mathlib.Omega.{arith}
use native.Mathlib.Nat.{pow-suc}
use mathlib.Core.Path.{◌≡◌, refl, sym, ◌∙◌, ap}
use mathlib.Core.List.{List, [], ◌∷◌, ◌++◌}
use lib.ListN.{length, set, take, get_or}
use lib.Seq.{take-suc, take-length}
use borrow.Author.Tests.{lt-ltb, le-ltb}
use Rattle.io.specs.Digits.{hex_digit_ascii, last_digits, IsDigitCount}
use Rattle.lines.specs.Lines.{Page, page, put_byte, put_text, spelled, number_text}

-- a byte, with room and without
pub put_in : (l : List ℕ) (i b : ℕ) → i < length l → page (set l i b) (i + 1) ≡ put_byte (page l i) b
unfolding put_byte
put_in l i b h = rw (lt-ltb i (length l) h)

pub put_past : (l : List ℕ) (i b : ℕ) → length l ≤ i → page l i ≡ put_byte (page l i) b
unfolding put_byte
put_past l i b h = rw (le-ltb i (length l) h)

-- two texts put one after the other are the two put as one
pub put_append : (p : Page) (a b : List ℕ) → put_text p (a ++ b) ≡ put_text (put_text p a) b
unfolding put_text
put_append p [] b = refl
put_append p (x ∷ a) b = put_append (put_byte p x) a b

pub put_one : (p : Page) (b : ℕ) → put_text p (b ∷ []) ≡ put_byte p b
unfolding put_text
put_one p b = refl

pub put_none : (p : Page) → put_text p [] ≡ p
unfolding put_text
put_none p = refl

pub and_then : (p q r : Page) (a b : List ℕ) → q ≡ put_text p a → r ≡ put_text q b → r ≡ put_text p (a ++ b)
and_then p q r a b f g = g ∙ (ap (λ s. put_text s b) f ∙ sym (put_append p a b))

-- one byte more of a word
pub one_more : (p q r : Page) (word : List ℕ) (i : ℕ) → i < length word → q ≡ put_text p (take i word) → r ≡ put_byte q (get_or word i 0) → r ≡ put_text p (take (i + 1) word)
one_more p q r word i h f g =
    let e : i + 1 ≡ suc i = omega arith in
    g ∙ (ap (λ s. put_byte s (get_or word i 0)) f
    ∙ (sym (put_one (put_text p (take i word)) (get_or word i 0))
    ∙ (sym (put_append p (take i word) (get_or word i 0 ∷ [])) ∙ (ap (put_text p) (sym (take-suc word i 0 h)) ∙ ap (λ n. put_text p (take n word)) (sym e)))))

pub whole_word : (p q : Page) (word : List ℕ) (i : ℕ) → i ≡ length word → q ≡ put_text p (take i word) → q ≡ put_text p word
whole_word p q word i e f = f ∙ ap (put_text p) (ap (λ n. take n word) e ∙ take-length word)

-- the fewest digits of a number are the number spelled
one_digit : (k n : ℕ) → n < 10 → last_digits 10 1 n ≡ spelled (suc k) n
unfolding spelled
one_digit k n h =
    let e : n % 10 ≡ n = omega arith in
    rw (lt-ltb n 10 h, e, lt-ltb n 10 h)

more_digits : (k n : ℕ) (front : List ℕ) → 10 ≤ n → front ≡ spelled k (n / 10) → front ++ (hex_digit_ascii (n % 10) ∷ []) ≡ spelled (suc k) n
unfolding spelled
more_digits k n front h e =
    let l : n % 10 < 10 = omega arith in
    rw (le-ltb n 10 h, lt-ltb (n % 10) 10 l, e)

-- a power of ten is above its exponent
above : (k : ℕ) → k < 10 ^ k
above zero = omega arith
above (suc k) = tens (10 ^ k) (10 ^ suc k) (pow-suc 10 k) (above k)
  where
    tens : (p q : ℕ) → q ≡ p * 10 → k < p → suc k < q
    tens p q e h = omega arith

-- without its last digit a number takes one digit fewer
fewer : (k n : ℕ) → IsDigitCount 10 1 n (suc (suc k)) → (10 ≤ n) × IsDigitCount 10 1 (n / 10) (suc k)
fewer k n w =
    let e : suc k - 1 ≡ k = omega arith in
    let f : suc (suc k) - 1 ≡ suc k = omega arith in
    by_powers (10 ^ k) (10 ^ (suc k - 1)) (10 ^ suc k) (10 ^ (suc (suc k) - 1)) (10 ^ suc (suc k)) (ap (λ m. 10 ^ m) e) (ap (λ m. 10 ^ m) f) (pow-suc 10 k) (pow-suc 10 (suc k)) (above k) w.1 (w.2 (omega arith))
  where
    by_powers : (p p' q q' r : ℕ) → p' ≡ p → q' ≡ q → q ≡ p * 10 → r ≡ q * 10 → k < p → n < r → q' ≤ n → (10 ≤ n) × ((1 ≤ suc k) × (n / 10 < q) × (1 < suc k → p' ≤ n / 10))
    by_powers p p' q q' r a b e f h under over = (omega arith, (omega arith, omega arith, λ more. omega arith))

pub spells : (k f n : ℕ) → k ≤ f → IsDigitCount 10 1 n k → last_digits 10 k n ≡ spelled f n
spells zero f n le w = absurd (omega (arith, w.0))
spells (suc k) zero n le w = absurd (omega arith)
spells (suc zero) (suc f) n le w = one_digit f n w.1
spells (suc (suc k)) (suc f) n le w = more_digits f n _ (fewer k n w).0 (spells (suc k) f (n / 10) (omega arith) (fewer k n w).1)

-- no number has more digits than one more than itself
few : (k n : ℕ) → IsDigitCount 10 1 n k → k ≤ suc n
few zero n w = omega arith
few (suc zero) n w = omega arith
few (suc (suc k)) n w =
    let f : suc (suc k) - 1 ≡ suc k = omega arith in
    below (10 ^ suc k) (10 ^ (suc (suc k) - 1)) (ap (λ m. 10 ^ m) f) (above (suc k)) (w.2 (omega arith))
  where
    below : (p q : ℕ) → q ≡ p → suc k < p → q ≤ n → suc (suc k) ≤ suc n
    below p q e h l = omega arith

pub number_is : (k n : ℕ) → IsDigitCount 10 1 n k → last_digits 10 k n ≡ number_text n
unfolding number_text
number_is k n w = spells k (suc n) n (few k n w) w
