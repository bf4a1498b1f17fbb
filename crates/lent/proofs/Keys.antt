-- The keys of a list, set one by one in a list of numbers that is long enough: its first numbers are they, in order.
--     keys_length     the list of numbers stays as long as it was.        keys_are     its first `length ys` numbers are the keys of ys
--     key_at, key_past, keys_end     a loop that sets them: at an element, also past the end of the numbers, and past the last
use mathlib.Core.Path.{◌≡◌, refl, sym, ◌∙◌, ap}
use Prim.Native.Nat.{ℕ, ◌+◌, ◌≤◌, ◌<◌}
use native.Mathlib.Nat.{add-zero}
use native.Mathlib.Numerals.{add-one}
use native.Mathlib.Omega.{arith}
use mathlib.Core.List.{List, [], ◌∷◌, ◌++◌, map, append-nil, append_assoc}
use lib.ListN.{length, get_or, take, drop, set, length-set}
use lib.Seq.{take-suc-set}
use Rattle.std.proofs.lemmas.List.{set_past}
use Rattle.lent.specs.Search.{read_from, keys_from}
use Rattle.lent.proofs.Search.{next_at, end_at}

module _ {X : Type 0} (key : X → ℕ) where
  length_from : (i : ℕ) (ks : List ℕ) (cs : List X) → length (keys_from key i ks cs) ≡ length ks
  unfolding read_from
  length_from i ks [] = refl
  length_from i ks (c ∷ cs) = length_from (i + 1) (set ks i (key c)) cs ∙ length-set ks i (key c)

  pub keys_length : (ks : List ℕ) (cs : List X) → length (keys_from key 0 ks cs) ≡ length ks
  keys_length ks cs = length_from 0 ks cs

  from : (i : ℕ) (ks : List ℕ) (cs : List X) → i + length cs ≤ length ks → take (i + length cs) (keys_from key i ks cs) ≡ take i ks ++ map key cs
  unfolding read_from
  from i ks [] l = ap (λ (m : ℕ). take m ks) (add-zero i) ∙ sym (append-nil (take i ks))
  from i ks (c ∷ cs) l =
      let e : i + length (c ∷ cs) ≡ i + 1 + length cs = omega arith in
      let li : i < length ks = omega (arith, l) in
      let l₁ : i + 1 + length cs ≤ length (set ks i (key c)) = rw (length-set ks i (key c)) (omega (arith, l)) in
      ap (λ (m : ℕ). take m (keys_from key (i + 1) (set ks i (key c)) cs)) e ∙
      (from (i + 1) (set ks i (key c)) cs l₁ ∙
      (ap (λ (m : ℕ). take m (set ks i (key c)) ++ map key cs) (add-one i) ∙
      (ap (λ (us : List ℕ). us ++ map key cs) (take-suc-set ks i (key c) li) ∙ append_assoc (take i ks) (key c ∷ []) (map key cs))))

  pub keys_are : (ks : List ℕ) (cs : List X) → length cs ≤ length ks → take (length cs) (keys_from key 0 ks cs) ≡ map key cs
  keys_are ks cs l =
      let e : 0 + length cs ≡ length cs = omega arith in
      let l₀ : 0 + length cs ≤ length ks = omega (arith, l) in
      ap (λ (m : ℕ). take m (keys_from key 0 ks cs)) (sym e) ∙ from 0 ks cs l₀

  -- one element further: its key is set at its place, and past the end of the list of numbers nowhere
  pub key_at : (ks : List ℕ) (ys : List X) (i : ℕ) (d : X) → i < length ys →
      keys_from key i ks (drop i ys) ≡ keys_from key (i + 1) (set ks i (key (get_or ys i d))) (drop (i + 1) ys)
  key_at ks ys i d l = next_at (λ zs j c. set zs j (key c)) ys i ks d l

  pub key_past : (ks : List ℕ) (ys : List X) (i : ℕ) (d : X) → i < length ys → length ks ≤ i →
      keys_from key i ks (drop i ys) ≡ keys_from key (i + 1) ks (drop (i + 1) ys)
  key_past ks ys i d l p =
      key_at ks ys i d l ∙ ap (λ (zs : List ℕ). keys_from key (i + 1) zs (drop (i + 1) ys)) (set_past ks i (key (get_or ys i d)) p)

  pub keys_end : (ks : List ℕ) (ys : List X) (i : ℕ) → i ≡ length ys → keys_from key i ks (drop i ys) ≡ ks
  keys_end ks ys i e = end_at (λ zs j c. set zs j (key c)) ys i ks e
