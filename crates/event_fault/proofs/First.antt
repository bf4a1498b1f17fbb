-- The byte that a fault tells is the first that is not named. Assumes nothing.
use Prim.Native.Nat.{ℕ, zero, suc, ◌≤◌, ◌<◌}
use native.Mathlib.Omega.{arith}
use mathlib.Core.Path.{◌≡◌, refl, sym, subst}
use mathlib.Core.Bool.{Bool, true, false, ◌||◌, cond}
use lib.Dec.{eqb, ltb}
use borrow.Author.Tests.{eqb-true, eqb-false, ltb-true, ltb-false, lt-ltb}
use Rattle.event_fault.specs.Claims.{has_connection, highest_first, highest_second, highest_third, highest}
use Rattle.event_fault.specs.Fault.{misses, open_fault, connection_fault, connect_fault, calling_fault, called_fault, kind_fault}
use Rattle.event_fault.specs.declared.Expected.TheVariants.{NamedOrNot, HardFlag, SoftService, PolicyFlag, CausePresent}
use Rattle.event_fault.specs.declared.Expected.TheVariants.{CrankbackFound, SmallConnection}
use Rattle.event_fault.specs.declared.Fault.{Fault}
use Rattle.std.specs.Prelude.{Option, Some, None}
use Rattle.event_fault.proofs.ByKind.{by_kind}

-- what holds below a number, one by one
abbrev pub Below : (ℕ → Type 0) → ℕ → Type 0
Below P zero = Unit {0}
Below P (suc n) = Below P n × P n

pub below : (P : ℕ → Type 0) (n : ℕ) → Below P n → (i : ℕ) → i < n → P i
below P zero all i h = absurd (omega arith)
below P (suc n) all i h = by_order (eqb i n) refl (λ under. below P n all.0 i under)
  where
    by_order : (t : Bool) → eqb i n ≡ t → (i < n → P i) → P i
    by_order true e rest = subst P (sym (eqb-true i n e)) all.1
    by_order false e rest = let other = eqb-false i n e in rest (omega arith)

-- a fault: the value told is the byte's, is not named, and all before it is; none: every byte is named
abbrev pub Tells : (ℕ → ℕ) → ℕ → Option Fault → Type 0
Tells o kind None = (i : ℕ) → o i ≤ highest kind (o 1) i
Tells o kind (Some f) =
    (o f.octet ≡ f.value) × ((o f.octet ≤ highest kind (o 1) f.octet → ⊥) × Below (λ i. o i ≤ highest kind (o 1) i) f.octet)

module _ (o : ℕ → ℕ) (octets : (i : ℕ) → o i < 256) where
  any : (i : ℕ) → o i ≤ 255
  any i = let h = octets i in omega arith

  -- every byte is named where the six are that can be wrong
  picked : (i k here other : ℕ) → o k ≤ here → o i ≤ other → o i ≤ cond (eqb i k) here other
  picked i k here other p q = by_test (eqb i k) refl
    where
      by_test : (t : Bool) → eqb i k ≡ t → o i ≤ cond t here other
      by_test true e = subst (λ n. o n ≤ here) (sym (eqb-true i k e)) p
      by_test false e = q

  picked_either : (i j k here other : ℕ) → o j ≤ here → o k ≤ here → o i ≤ other → o i ≤ cond (eqb i j || eqb i k) here other
  picked_either i j k here other p q r = by_test (eqb i j) refl
    where
      by_test : (t : Bool) → eqb i j ≡ t → o i ≤ cond (t || eqb i k) here other
      by_test true e = subst (λ n. o n ≤ here) (sym (eqb-true i j e)) p
      by_test false e = picked i k here other q r

  all_named : (kind : ℕ) → o 0 ≤ 9 → o 1 ≤ highest_first kind → o 2 ≤ highest_second kind (o 1) → o 3 ≤ highest_third kind (o 1) →
      o 8 ≤ cond (has_connection kind) 0 255 → o 9 ≤ cond (has_connection kind) 0 255 → (i : ℕ) → o i ≤ highest kind (o 1) i
  all_named kind zeroth first second third eighth ninth i =
      picked i 0 _ _ zeroth (picked i 1 _ _ first
      (picked i 2 _ _ second (picked i 3 _ _ third (picked_either i 8 9 _ _ eighth ninth (any i)))))

  open_tells : o 0 ≤ 9 → Tells o 0 (open_fault (o 1) (o 2) (o 3))
  open_tells k = by_named (eqb (o 1) 0) refl
    where
      by_soft : eqb (o 1) 0 ≡ false → o 1 ≤ 1 → o 2 ≤ 1 → (t : Bool) → ltb 2 (o 3) ≡ t →
          Tells o 0 (cond t (misses 3 (o 3) SoftService) None)
      by_soft n a b true e = let h = ltb-true 2 (o 3) e in rw n (refl, (λ l. omega arith, (((tt, omega arith), a), b)))
      by_soft n a b false e = all_named 0 (omega arith) a (rw n b) (rw n (ltb-false 2 (o 3) e)) (any 8) (any 9)

      by_hard : eqb (o 1) 0 ≡ false → o 1 ≤ 1 → (t : Bool) → ltb 1 (o 2) ≡ t →
          Tells o 0 (cond t (misses 2 (o 2) HardFlag) (cond (ltb 2 (o 3)) (misses 3 (o 3) SoftService) None))
      by_hard n a true e = let h = ltb-true 1 (o 2) e in rw n (refl, (λ l. omega arith, ((tt, omega arith), a)))
      by_hard n a false e = by_soft n a (ltb-false 1 (o 2) e) (ltb 2 (o 3)) refl

      by_first : eqb (o 1) 0 ≡ false → (t : Bool) → ltb 1 (o 1) ≡ t →
          Tells o 0 (cond t (misses 1 (o 1) NamedOrNot)
          (cond (ltb 1 (o 2)) (misses 2 (o 2) HardFlag) (cond (ltb 2 (o 3)) (misses 3 (o 3) SoftService) None)))
      by_first n true e = let h = ltb-true 1 (o 1) e in (refl, (λ l. omega arith, (tt, omega arith)))
      by_first n false e = by_hard n (ltb-false 1 (o 1) e) (ltb 1 (o 2)) refl

      by_named : (t : Bool) → eqb (o 1) 0 ≡ t →
          Tells o 0 (cond t None (cond (ltb 1 (o 1)) (misses 1 (o 1) NamedOrNot)
          (cond (ltb 1 (o 2)) (misses 2 (o 2) HardFlag) (cond (ltb 2 (o 3)) (misses 3 (o 3) SoftService) None))))
      by_named true n = let z = eqb-true (o 1) 0 n in all_named 0 (omega arith) (omega arith) (rw n (any 2)) (rw n (any 3)) (any 8) (any 9)
      by_named false n = by_first n (ltb 1 (o 1)) refl

  -- bytes 8 and 9 of a connection, where bytes 0 to 3 are named
  connection_tells : (kind : ℕ) → has_connection kind ≡ true → o 0 ≤ 9 → o 1 ≤ highest_first kind → o 2 ≤ highest_second kind (o 1) →
      o 3 ≤ highest_third kind (o 1) →
      Tells o kind (connection_fault (o 8) (o 9))
  connection_tells kind has zeroth first second third = by_highest (ltb 0 (o 8)) refl
    where
      before : Below (λ i. o i ≤ highest kind (o 1) i) 8
      before = ((((((((tt, zeroth), first), second), third), any 4), any 5), any 6), any 7)

      by_high : o 8 ≤ 0 → (t : Bool) → ltb 0 (o 9) ≡ t → Tells o kind (cond t (misses 9 (o 9) SmallConnection) None)
      by_high a true e = let h = ltb-true 0 (o 9) e in (refl, (rw has (λ l. omega arith), (before, rw has a)))
      by_high a false e = all_named kind zeroth first second third (rw has a) (rw has (ltb-false 0 (o 9) e))

      by_highest : (t : Bool) → ltb 0 (o 8) ≡ t →
          Tells o kind (cond t (misses 8 (o 8) SmallConnection) (cond (ltb 0 (o 9)) (misses 9 (o 9) SmallConnection) None))
      by_highest true e = let h = ltb-true 0 (o 8) e in (refl, (rw has (λ l. omega arith), before))
      by_highest false e = by_high (ltb-false 0 (o 8) e) (ltb 0 (o 9)) refl

  connect_tells : o 0 ≤ 9 → Tells o 4 (connect_fault (o 1) (o 8) (o 9))
  connect_tells k = by_policy (ltb 1 (o 1)) refl
    where
      by_policy : (t : Bool) → ltb 1 (o 1) ≡ t → Tells o 4 (cond t (misses 1 (o 1) PolicyFlag) (connection_fault (o 8) (o 9)))
      by_policy true e = let h = ltb-true 1 (o 1) e in (refl, (λ l. omega arith, (tt, omega arith)))
      by_policy false e = connection_tells 4 refl (omega arith) (ltb-false 1 (o 1) e) (any 2) (any 3)

  -- a release, with what follows where bytes 1 and 3 are named
  release_tells : (kind : ℕ) (rest : Option Fault) → o 0 ≤ 9 → highest_first kind ≡ 1 → highest_second kind (o 1) ≡ 255 →
      highest_third kind (o 1) ≡ 2 → (o 1 ≤ 1 → o 3 ≤ 2 → Tells o kind rest) →
      Tells o kind (cond (ltb 1 (o 1)) (misses 1 (o 1) CausePresent) (cond (ltb 2 (o 3)) (misses 3 (o 3) CrankbackFound) rest))
  release_tells kind rest zeroth one two three then = by_present (ltb 1 (o 1)) refl
    where
      by_back : o 1 ≤ 1 → (t : Bool) → ltb 2 (o 3) ≡ t → Tells o kind (cond t (misses 3 (o 3) CrankbackFound) rest)
      by_back a true e = let h = ltb-true 2 (o 3) e in (refl, (λ l. omega arith, (((tt, zeroth), omega arith), omega (arith, any 2))))
      by_back a false e = then a (ltb-false 2 (o 3) e)

      by_present : (t : Bool) → ltb 1 (o 1) ≡ t →
          Tells o kind (cond t (misses 1 (o 1) CausePresent) (cond (ltb 2 (o 3)) (misses 3 (o 3) CrankbackFound) rest))
      by_present true e = let h = ltb-true 1 (o 1) e in (refl, (λ l. omega arith, (tt, zeroth)))
      by_present false e = by_back (ltb-false 1 (o 1) e) (ltb 2 (o 3)) refl

  calling_tells : o 0 ≤ 9 → Tells o 6 (calling_fault (o 1) (o 3))
  calling_tells k = release_tells 6 None (omega arith) refl refl refl (λ a b. all_named 6 (omega arith) a (any 2) b (any 8) (any 9))

  called_tells : o 0 ≤ 9 → Tells o 7 (called_fault (o 1) (o 3) (o 8) (o 9))
  called_tells k =
      release_tells 7 (connection_fault (o 8) (o 9)) (omega arith) refl refl refl (λ a b. connection_tells 7 refl (omega arith) a (any 2) b)

  -- byte 0 where it is not the kind itself: at the destination the two releases change places, and no other kind does
  abbrev pub Names : ℕ → Type 0
  Names kind = (kind ≤ 9 → o 0 ≤ 9) × (9 < kind → o 0 ≡ kind)

  pub kind_tells : (kind : ℕ) → Names kind → Tells o kind (kind_fault kind (o 1) (o 2) (o 3) (o 8) (o 9))
  kind_tells =
      by_kind (λ kind. Names kind → Tells o kind (kind_fault kind (o 1) (o 2) (o 3) (o 8) (o 9)))
      (λ k. open_tells (k.0 (omega arith)))
      (λ k. all_named 1 (k.0 (omega arith)) (any 1) (any 2) (any 3) (any 8) (any 9))
      (λ k. all_named 2 (k.0 (omega arith)) (any 1) (any 2) (any 3) (any 8) (any 9))
      (λ k. all_named 3 (k.0 (omega arith)) (any 1) (any 2) (any 3) (any 8) (any 9))
      (λ k. connect_tells (k.0 (omega arith)))
      (λ k. all_named 5 (k.0 (omega arith)) (any 1) (any 2) (any 3) (any 8) (any 9))
      (λ k. calling_tells (k.0 (omega arith)))
      (λ k. called_tells (k.0 (omega arith)))
      (λ k. all_named 8 (k.0 (omega arith)) (any 1) (any 2) (any 3) (any 8) (any 9))
      (λ k. all_named 9 (k.0 (omega arith)) (any 1) (any 2) (any 3) (any 8) (any 9))
      (λ kind h k. let e = k.1 h in rw (lt-ltb 9 kind h) (e, (λ l. omega arith, tt)))
