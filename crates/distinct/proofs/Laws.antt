-- What `has` and `distinct_of` mean, by the places of a list, and what a loop over the places needs. Assumes nothing.
use mathlib.Core.Path.{◌≡◌, refl, sym, ◌∙◌, ap}
use Prim.Native.Nat.{ℕ, zero, suc, ◌+◌, ◌≤◌, ◌<◌, zero-le, suc-le-suc}
use native.Mathlib.Nat.{not-suc-le-zero, le_of_suc-le-suc}
use native.Mathlib.Numerals.{add-one}
use native.Mathlib.Omega.{arith}
use mathlib.Core.Bool.{Bool, true, false, not, ◌&&◌, ◌||◌, or-false, true≢false, false≢true}
use mathlib.Core.List.{List, [], ◌∷◌}
use lib.Dec.{eqb}
use lib.ListN.{length, get_or, take}
use lib.Seq.{get_or-take, length-take-le}
use borrow.Author.Tests.{eqb-true, eqb-false, eq-eqb, ne_eqb}
use Rattle.distinct.specs.Distinct.{has, distinct_of, Distinct, DistinctExactly}

-- Bools
pub no_true : (t : Bool) → (t ≡ true → ⊥) → t ≡ false
no_true true h = absurd (h refl)
no_true false h = refl

pub no_both : (t : Bool) → t ≡ true → t ≡ false → ⊥
no_both t p q = true≢false (sym p ∙ q)

or_left : (t a : Bool) → t ≡ true → (t || a) ≡ true
or_left true a h = refl
or_left false a h = absurd (false≢true h)

or_right : (t a : Bool) → a ≡ true → (t || a) ≡ true
or_right true a h = refl
or_right false a h = h

or_none : (t a : Bool) → t ≡ false → a ≡ false → (t || a) ≡ false
or_none true a h g = h
or_none false a h g = g

or_three : (t a b : Bool) → (t || (a || b)) ≡ ((t || a) || b)
or_three true a b = refl
or_three false a b = refl

-- `has`
pub has_at : (x : ℕ) (xs : List ℕ) (j : ℕ) → j < length xs → get_or xs j 0 ≡ x → has x xs ≡ true
unfolding has
has_at x [] j l e = absurd (not-suc-le-zero l)
has_at x (y ∷ ys) zero l e = or_left (eqb y x) (has x ys) (eq-eqb y x e)
has_at x (y ∷ ys) (suc j) l e = or_right (eqb y x) (has x ys) (has_at x ys j (le_of_suc-le-suc l) e)

pub has_none : (x : ℕ) (xs : List ℕ) → ((j : ℕ) → j < length xs → get_or xs j 0 ≡ x → ⊥) → has x xs ≡ false
unfolding has
has_none x [] h = refl
has_none x (y ∷ ys) h =
    or_none (eqb y x) (has x ys) (ne_eqb y x (h zero (suc-le-suc zero-le)))
    (has_none x ys (λ j l. h (suc j) (suc-le-suc l)))

has_suc : (x : ℕ) (xs : List ℕ) (j : ℕ) → j < length xs → has x (take (suc j) xs) ≡ (has x (take j xs) || eqb (get_or xs j 0) x)
unfolding has
has_suc x [] j l = absurd (not-suc-le-zero l)
has_suc x (y ∷ ys) zero l = or-false (eqb y x)
has_suc x (y ∷ ys) (suc j) l =
    ap (λ (t : Bool). eqb y x || t) (has_suc x ys j (le_of_suc-le-suc l))
    ∙ or_three (eqb y x) (has x (take j ys)) (eqb (get_or ys j 0) x)

pub has_next : (x : ℕ) (xs : List ℕ) (j : ℕ) → j < length xs → has x (take (j + 1) xs) ≡ (has x (take j xs) || eqb (get_or xs j 0) x)
has_next x xs j l = rw add-one (has_suc x xs j l)

-- of the first n: none of them is x; not none of them is x
pub among_none : (x : ℕ) (xs : List ℕ) (n : ℕ) → n ≤ length xs → has x (take n xs) ≡ false → (j : ℕ) → j < n → get_or xs j 0 ≡ x → ⊥
among_none x xs n l h j lt e =
    let g : j < length (take n xs) = rw (length-take-le n xs l) lt in
    no_both (has x (take n xs)) (has_at x (take n xs) j g (get_or-take n xs j 0 lt ∙ e)) h

pub among_some : (x : ℕ) (xs : List ℕ) (n : ℕ) → n ≤ length xs → has x (take n xs) ≡ true → ((j : ℕ) → j < n → get_or xs j 0 ≡ x → ⊥) → ⊥
among_some x xs n l h none =
    no_both (has x (take n xs)) h
    (has_none x (take n xs) (λ j lt e.
    let g : j < n = rw (length-take-le n xs l) at lt in
    none j g (sym (get_or-take n xs j 0 g) ∙ e)))

-- `distinct_of`
tail_ok : (t a d : Bool) → ((t || not a) && d) ≡ true → d ≡ true
tail_ok true a d h = h
tail_ok false true d h = absurd (false≢true h)
tail_ok false false d h = h

head_zero : (t a d : Bool) → a ≡ true → ((t || not a) && d) ≡ true → t ≡ true
head_zero true a d g h = refl
head_zero false true d g h = h
head_zero false false d g h = g

all_ok : (t a d : Bool) → d ≡ true → (t ≡ false → a ≡ false) → ((t || not a) && d) ≡ true
all_ok true a d g h = g
all_ok false true d g h = sym (h refl)
all_ok false false d g h = g

pub sound : (xs : List ℕ) → distinct_of xs ≡ true → Distinct xs
unfolding distinct_of
sound [] h j k lt l e = absurd (not-suc-le-zero l)
sound (x ∷ xs) h j zero lt l e = absurd (not-suc-le-zero lt)
sound (x ∷ xs) h zero (suc k) lt l e =
    eqb-true x 0 (head_zero (eqb x 0) (has x xs) (distinct_of xs) (has_at x xs k (le_of_suc-le-suc l) (sym e)) h)
sound (x ∷ xs) h (suc j) (suc k) lt l e =
    sound xs (tail_ok (eqb x 0) (has x xs) (distinct_of xs) h) j k (le_of_suc-le-suc lt) (le_of_suc-le-suc l) e

pub complete : (xs : List ℕ) → Distinct xs → distinct_of xs ≡ true
unfolding distinct_of
complete [] h = refl
complete (x ∷ xs) h =
    all_ok (eqb x 0) (has x xs) (distinct_of xs)
    (complete xs (λ j k lt l e. h (suc j) (suc k) (suc-le-suc lt) (suc-le-suc l) e))
    (λ f. has_none x xs (λ k l e. eqb-false x 0 f (h zero (suc k) (suc-le-suc zero-le) (suc-le-suc l) (sym e))))

-- the key at k is none of those before it, or it is 0
abbrev pub First : List ℕ → ℕ → Type 0
First xs k = (j : ℕ) → j < k → get_or xs j 0 ≡ get_or xs k 0 → get_or xs j 0 ≡ 0

pub done : (xs : List ℕ) (i : ℕ) → length xs ≤ i → ((k : ℕ) → k < i → First xs k) → distinct_of xs ≡ true
done xs i l h = complete xs (λ j k lt lk e. let g : k < i = omega arith in h k g j lt e)

pub twice : (xs : List ℕ) (i : ℕ) → i < length xs → (get_or xs i 0 ≡ 0 → ⊥) → has (get_or xs i 0) (take i xs) ≡ true → distinct_of xs ≡ false
twice xs i l ne h =
    let li : i ≤ length xs = omega arith in
    no_true (distinct_of xs) (λ e. among_some (get_or xs i 0) xs i li h (λ j lt g. ne (sym g ∙ sound xs e j i lt l g)))

-- the claim
pub distinct_exactly : DistinctExactly
distinct_exactly xs = (sound xs, complete xs)
