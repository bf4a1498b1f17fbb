-- The claims on a text that is put (specs/Claims), proved. Assumes nothing.
use Prim.Native.Nat.{ℕ, suc, ◌+◌, ◌≤◌, ◌<◌}
use native.Mathlib.Omega.{arith}
use mathlib.Core.Path.{◌≡◌, refl, sym, ◌∙◌, ap, subst}
use mathlib.Core.Bool.{Bool, true, false, cond}
use mathlib.Core.List.{List, [], ◌∷◌, ◌++◌, append_assoc}
use lib.Dec.{ltb}
use lib.ListN.{length, set, take, drop, take-append-drop, length-set}
use lib.Seq.{take-suc, take-set-le, get_or-set_same, lt-length-set, drop-set-lt}
use borrow.Author.Tests.{ltb-true}
use Rattle.lines.specs.Lines.{page, put_byte, put_text}
use Rattle.lines.specs.Claims as claim
use Rattle.lines.proofs.Laws.{put_in}

-- a byte that has been stored stands behind what stood before it
stored : (l : List ℕ) (at b : ℕ) → at < length l → take (at + 1) (set l at b) ≡ take at l ++ (b ∷ [])
stored l at b h =
    let e : at + 1 ≡ suc at = omega arith in
    rw (e, take-suc (set l at b) at 0 (lt-length-set l at b h), take-set-le at l at b (omega arith), get_or-set_same l at b 0 h)

-- and the rest of a text behind it
behind : (l : List ℕ) (at b : ℕ) (bs : List ℕ) → at < length l →
    page (take (at + 1) (set l at b) ++ (bs ++ drop (at + 1 + length bs) (set l at b))) (at + 1 + length bs)
    ≡ page (take at l ++ ((b ∷ bs) ++ drop (at + length (b ∷ bs)) l)) (at + length (b ∷ bs))
behind l at b bs h =
    let e : at + 1 + length bs ≡ at + suc (length bs) = omega arith in
    rw (stored l at b h, drop-set-lt (at + 1 + length bs) l at b (omega arith), e, append_assoc (take at l) (b ∷ []) (bs ++ drop (at + suc (length bs)) l))

pub put_with_room : claim.PutWithRoom
unfolding put_text
put_with_room l at [] room =
    let e : at + 0 ≡ at = omega arith in
    rw e (ap (λ k. page k at) (sym (take-append-drop at l)))
put_with_room l at (b ∷ bs) room =
    let within : at + suc (length bs) ≤ length l = room in
    let h : at < length l = omega arith in
    ap (λ p. put_text p bs) (sym (put_in l at b h))
    ∙ (put_with_room (set l at b) (at + 1) bs (omega (arith, length-set l at b)) ∙ behind l at b bs h)

-- one byte keeps the length, and a place within
by_test : (l : List ℕ) (at b : ℕ) (room : Bool) → (room ≡ true → at < length l) →
    (length (cond room (page (set l at b) (at + 1)) (page l at)).bytes ≡ length l) × (at ≤ length l → (cond room (page (set l at b) (at + 1)) (page l at)).at ≤ length l)
by_test l at b true more = (length-set l at b, λ h. omega (arith, more refl))
by_test l at b false more = (refl, λ h. h)

byte_within : (l : List ℕ) (at b : ℕ) → (length (put_byte (page l at) b).bytes ≡ length l) × (at ≤ length l → (put_byte (page l at) b).at ≤ length l)
unfolding put_byte
byte_within l at b = by_test l at b (ltb at (length l)) (ltb-true at (length l))

pub stays_within : claim.StaysWithin
unfolding put_text
stays_within l at [] = (refl, λ h. h)
stays_within l at (b ∷ bs) =
    let one = byte_within l at b in
    let rest = stays_within (put_byte (page l at) b).bytes (put_byte (page l at) b).at bs in
    (rest.0 ∙ one.0, λ h. subst (λ n. (put_text (put_byte (page l at) b) bs).at ≤ n) one.0 (rest.1 (subst (λ n. (put_byte (page l at) b).at ≤ n) (sym one.0) (one.1 h))))
