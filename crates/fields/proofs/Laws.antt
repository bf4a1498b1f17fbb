-- The laws of digits stored at their places, and of a field put with room for it. Assumes nothing.
use Prim.Native.Nat.{ℕ, zero, suc, ◌+◌, ◌-◌, ◌/◌, ◌%◌, ◌≤◌, ◌<◌}
use native.Mathlib.Omega.{arith}
use native.Mathlib.Nat.{lt-suc_self}
use mathlib.Core.Path.{◌≡◌, refl, sym, ◌∙◌, ap}
use mathlib.Core.List.{List, [], ◌∷◌, ◌++◌, append_assoc}
use borrow.Author.Tests.{lt-ltb}
use lib.ListN.{length, take, drop, set, length-append, take-append-drop, length-set}
use lib.Seq.{drop-cons, lt-length-set, get_or-set_same, drop-set-lt, take-set-le}
use Rattle.io.specs.Digits.{hex_digit_ascii, last_digits, IsDigitCount}
use Rattle.lines.specs.Lines.{page, put_text, spelled, number_text}
use Rattle.lines.proofs.Claims.{put_with_room}
use Rattle.lines.proofs.Laws.{put_in, put_one, and_then, number_is}
use Rattle.fields.specs.Fields.{spliced}

drop_set : (xs : List ℕ) (p g : ℕ) → p < length xs → drop p (set xs p g) ≡ g ∷ drop (suc p) xs
drop_set xs p g h =
    drop-cons (set xs p g) p 0 (lt-length-set xs p g h) ∙ simp (get_or-set_same xs p g 0 h, drop-set-lt (suc p) xs p g (lt-suc_self p))

glyph_is : (n : ℕ) → hex_digit_ascii (n % 10) ≡ 48 + n % 10
glyph_is n = let h : n % 10 < 10 = omega arith in rw (lt-ltb (n % 10) 10 h)

one_more : (xs : List ℕ) (p j n : ℕ) → p < length xs →
    last_digits 10 j (n / 10) ++ drop p (set xs p (48 + n % 10)) ≡ last_digits 10 (suc j) n ++ drop (suc p) xs
one_more xs p j n h =
    ap (λ (l : List ℕ). last_digits 10 j (n / 10) ++ l) (drop_set xs p (48 + n % 10) h ∙ ap (λ (g : ℕ). g ∷ drop (suc p) xs) (sym (glyph_is n)))
    ∙ sym (append_assoc (last_digits 10 j (n / 10)) (hex_digit_ascii (n % 10) ∷ []) (drop (suc p) xs))

-- one digit more, in front of those that stand there
pub again : (xs : List ℕ) (at j n : ℕ) → 0 < j → at + j ≤ length xs →
    last_digits 10 (j - 1) (n / 10) ++ drop (at + (j - 1)) (set xs (at + (j - 1)) (48 + n % 10)) ≡ last_digits 10 j n ++ drop (at + j) xs
again xs at zero n z h = absurd (omega arith)
again xs at (suc i) n z h =
    let e : suc i - 1 ≡ i = omega arith in
    let f : at + suc i ≡ suc (at + i) = omega arith in
    rw (e, f) (one_more xs (at + i) i n (omega arith))

-- and two more
pub again_two : (xs : List ℕ) (at j n : ℕ) → 1 < j → at + j ≤ length xs →
    last_digits 10 (j - 2) (n / 10 / 10) ++ drop (at + (j - 2))
    (set (set xs (at + j - 1) (48 + n % 10)) (at + j - 2) (48 + n / 10 % 10)) ≡ last_digits 10 j n ++ drop (at + j) xs
again_two xs at j n h room =
    let p : at + j - 1 ≡ at + (j - 1) = omega arith in
    let q : at + j - 2 ≡ at + (j - 1 - 1) = omega arith in
    let r : j - 2 ≡ j - 1 - 1 = omega arith in
    let l : length (set xs (at + (j - 1)) (48 + n % 10)) ≡ length xs = length-set xs (at + (j - 1)) (48 + n % 10) in
    rw (p, q, r)
    (again (set xs (at + (j - 1)) (48 + n % 10)) at (j - 1) (n / 10) (omega arith) (omega arith) ∙ again xs at j n (omega arith) room)

pub length_digits : (k n : ℕ) → length (last_digits 10 k n) ≡ k
length_digits zero n = refl
length_digits (suc k) n =
    length-append (last_digits 10 k (n / 10)) (hex_digit_ascii (n % 10) ∷ []) ∙ (ap (λ (m : ℕ). m + 1) (length_digits k (n / 10)) ∙ omega arith)

pub finish : (o xs : List ℕ) (at k n j rest : ℕ) → j ≤ 0 → take at o ≡ take at xs →
    last_digits 10 j rest ++ drop (at + j) o ≡ last_digits 10 k n ++ drop (at + k) xs → o ≡ spliced xs at (last_digits 10 k n)
unfolding spliced
finish o xs at k n zero rest z p q =
    let e : at + 0 ≡ at = omega arith in
    sym (take-append-drop at o) ∙ (ap (λ (l : List ℕ). l ++ drop at o) p
    ∙ ap (λ (l : List ℕ). take at xs ++ l) (ap (λ (m : ℕ). drop m o) (sym e)
    ∙ (q ∙ ap (λ (m : ℕ). last_digits 10 k n ++ drop (at + m) xs) (sym (length_digits k n)))))
finish o xs at k n (suc j) rest z p q = absurd (omega arith)

-- the first digit, where their number is odd
pub finish_odd : (o xs : List ℕ) (at k n j rest : ℕ) → 0 < j → j ≤ 1 → at + j ≤ length o → take at o ≡ take at xs →
    last_digits 10 j rest ++ drop (at + j) o ≡ last_digits 10 k n ++ drop (at + k) xs → set o at (48 + rest % 10) ≡ spliced xs at (last_digits 10 k n)
finish_odd o xs at k n j rest l m room p q =
    let e : j ≡ 1 = omega arith in
    let f : at + (j - 1) ≡ at = omega arith in
    let g : j - 1 ≡ 0 = omega arith in
    let a = rw (f, g) at (again o at j rest l room) in
    finish (set o at (48 + rest % 10)) xs at k n 0 (rest / 10) (omega arith) (take-set-le at o at (48 + rest % 10) (omega arith) ∙ p)
    (rw (omega_zero at) (a ∙ q))
  where
    omega_zero : (x : ℕ) → x + 0 ≡ x
    omega_zero x = omega arith

-- a text at its place, where there is room, is the text put
put_spliced : (xs o : List ℕ) (at : ℕ) (text : List ℕ) → at + length text ≤ length xs → o ≡ spliced xs at text →
    page o (at + length text) ≡ put_text (page xs at) text
unfolding spliced
put_spliced xs o at text room e = ap (λ (l : List ℕ). page l (at + length text)) e ∙ sym (put_with_room xs at text room)

-- the digits, and the byte behind them
pub put_long : (xs o : List ℕ) (at n e k : ℕ) → IsDigitCount 10 1 n k → at + k < length o → length o ≡ length xs →
    o ≡ spliced xs at (last_digits 10 k n) → page (set o (at + k) e) (at + k + 1) ≡ put_text (page xs at) (number_text n ++ (e ∷ []))
put_long xs o at n e k few room same is =
    let l : length (last_digits 10 k n) ≡ k = length_digits k n in
    let p : page o (at + k) ≡ put_text (page xs at) (last_digits 10 k n) = rw l at (put_spliced xs o at (last_digits 10 k n) (omega arith) is) in
    and_then _ _ _ _ _ (p ∙ ap (put_text (page xs at)) (number_is k n few)) (put_in o (at + k) e room ∙ sym (put_one (page o (at + k)) e))

-- a number of one digit is its own digit
one_digit : (n : ℕ) → n < 10 → number_text n ≡ (48 + n) ∷ []
unfolding number_text spelled
one_digit n h = rw (lt-ltb n 10 h)

-- and the byte behind it
pub put_short : (xs : List ℕ) (at n e : ℕ) → n < 10 → at + 1 < length xs →
    page (set (set xs at (48 + n)) (at + 1) e) (at + 2) ≡ put_text (page xs at) (number_text n ++ (e ∷ []))
put_short xs at n e h room =
    let f : at + 2 ≡ at + 1 + 1 = omega arith in
    let l : length (set xs at (48 + n)) ≡ length xs = length-set xs at (48 + n) in
    rw (one_digit n h, f)
    (and_then _ _ _ _ _ (put_in xs at (48 + n) (omega arith) ∙ sym (put_one (page xs at) (48 + n)))
    (put_in (set xs at (48 + n)) (at + 1) e (omega arith) ∙ sym (put_one (page (set xs at (48 + n)) (at + 1)) e)))
