-- The steps of the loops over the chains, on lists alone: the walk along a chain, and one number more. Assumes nothing.
use mathlib.Core.Path.{◌≡◌, refl, sym, ◌∙◌, ap}
use mathlib.Core.Logic.{⊎_elim}
use mathlib.Core.Bool.{Bool, true, false}
use mathlib.Core.List.{List}
use Prim.Native.Nat.{ℕ, ◌+◌, ◌≤◌, ◌<◌}
use native.Mathlib.Nat.{eq-or-lt_of_le}
use native.Mathlib.Omega.{arith}
use lib.Dec.{eqb}
use lib.ListN.{length, get_or, set, replicate, length-set, length-replicate, get_or-replicate}
use lib.Seq.{get_or-set_same, get_or-set_other}
use borrow.Author.Count.{below_none, below_more}
use borrow.Author.Tests.{eqb-true, eqb-false}
use Rattle.distinct.proofs.Laws.{First}
use Rattle.distinct.specs.Chain.{slot_of, Last, Links, Walk}

pub ended : {xs nexts : List ℕ} {i x a : ℕ} → Walk xs nexts i x a → a ≡ 0 → (j : ℕ) → j < i → get_or xs j 0 ≡ x → ⊥
ended w z j l e = let g = w.rest j l e in omega arith

pub onward : {xs nexts : List ℕ} {i x a : ℕ} → Walk xs nexts i x a → (p : ℕ) → a ≡ p + 1 → (get_or xs p 0 ≡ x → ⊥) →
    Walk xs nexts i x (get_or nexts p 0)
onward {xs} {nexts} {i} {x} {a} w p e ne =
    let lp : p < i = omega (arith, w.low) in
    let s : slot_of (get_or xs p 0) ≡ slot_of x = w.own p e in
    let k : Last xs p (slot_of (get_or xs p 0)) (get_or nexts p 0) = w.links p lp in
    record {
      within = w.within;
      small = w.small;
      solid = w.solid;
      links = w.links;
      low = omega (arith, k.low);
      rest = λ j l q. ⊎_elim (λ jp. absurd (ne (ap (λ (n : ℕ). get_or xs n 0) (sym jp) ∙ q)))
          (λ lt. k.all j lt (λ z. w.solid (sym q ∙ z)) (ap slot_of q ∙ sym s))
          (let g : j ≤ p = omega (arith, w.rest j l q) in eq-or-lt_of_le g);
      own = λ r g. k.own r g ∙ s;
    }

-- after i keys
pub record Chained (xs heads nexts : List ℕ) (i : ℕ) : Type 0 where
  pub within : i ≤ length xs
  pub small : length xs ≤ 1024
  pub heads_size : length heads ≡ 1024
  pub nexts_size : length nexts ≡ 1024
  pub first : (k : ℕ) → k < i → First xs k
  pub last : (b : ℕ) → b < 1024 → Last xs i b (get_or heads b 0)
  pub links : Links xs nexts i

pub slot_small : (x : ℕ) → slot_of x < 1024
unfolding slot_of
slot_small x = omega arith

none_yet : (xs : List ℕ) (b : ℕ) → Last xs 0 b 0
none_yet xs b = record { low = omega arith; all = λ j l _ _. l; own = λ p e. absurd (omega arith) }

pub start : (xs : List ℕ) → length xs ≤ 1024 → Chained xs (replicate 1024 0) (replicate 1024 0) 0
start xs l =
    record {
      within = omega arith;
      small = l;
      heads_size = length-replicate {A = ℕ} 1024 0;
      nexts_size = length-replicate {A = ℕ} 1024 0;
      first = below_none (First xs);
      last = λ b lb. rw (get_or-replicate {A = ℕ} 1024 b 0 0 lb) (none_yet xs b);
      links = below_none (λ (k : ℕ). Last xs k (slot_of (get_or xs k 0)) (get_or (replicate 1024 0) k 0));
    }

keep_last : {xs : List ℕ} {i b a : ℕ} → Last xs i b a → ((get_or xs i 0 ≡ 0 → ⊥) → slot_of (get_or xs i 0) ≡ b → ⊥) → Last xs (i + 1) b a
keep_last {xs} {i} {b} {a} l h =
    record {
      low = omega (arith, l.low);
      all = below_more (λ (j : ℕ). (get_or xs j 0 ≡ 0 → ⊥) → slot_of (get_or xs j 0) ≡ b → j < a) i l.all (λ ne s. absurd (h ne s));
      own = l.own;
    }

new_last : (xs : List ℕ) (i : ℕ) → Last xs (i + 1) (slot_of (get_or xs i 0)) (i + 1)
new_last xs i =
    record {
      low = omega arith;
      all = λ j l _ _. l;
      own = λ p e. let g : p ≡ i = omega arith in ap (λ (n : ℕ). slot_of (get_or xs n 0)) g;
    }

module _ {xs heads nexts : List ℕ} {i : ℕ} (m : Chained xs heads nexts i) (l : i < length xs) where
  pub enter : (get_or xs i 0 ≡ 0 → ⊥) → Walk xs nexts i (get_or xs i 0) (get_or heads (slot_of (get_or xs i 0)) 0)
  enter ne =
      let k = m.last (slot_of (get_or xs i 0)) (slot_small (get_or xs i 0)) in
      record {
        within = m.within;
        small = omega (arith, m.within, m.small);
        solid = ne;
        links = m.links;
        low = k.low;
        rest = λ j lj e. k.all j lj (λ z. ne (sym e ∙ z)) (ap slot_of e);
        own = k.own;
      }

  linked : Links xs (set nexts i (get_or heads (slot_of (get_or xs i 0)) 0)) (i + 1)
  linked =
      let h = get_or heads (slot_of (get_or xs i 0)) 0 in
      let li : i < length nexts = omega (arith, m.small, m.nexts_size) in
      below_more (λ (k : ℕ). Last xs k (slot_of (get_or xs k 0)) (get_or (set nexts i h) k 0)) i
      (λ k lk. let ne : k ≡ i → ⊥ = λ e. omega arith in rw (get_or-set_other nexts i k h 0 ne) (m.links k lk))
      (rw (get_or-set_same nexts i h 0 li) (m.last (slot_of (get_or xs i 0)) (slot_small (get_or xs i 0))))

  pub skip : get_or xs i 0 ≡ 0 → Chained xs heads (set nexts i (get_or heads (slot_of (get_or xs i 0)) 0)) (i + 1)
  skip z =
      record {
        within = omega arith;
        small = m.small;
        heads_size = m.heads_size;
        nexts_size = simp length-set m.nexts_size;
        first = below_more (First xs) i m.first (λ j lt g. g ∙ z);
        last = λ b lb. keep_last (m.last b lb) (λ ne _. ne z);
        links = linked;
      }

  headed : (b : ℕ) → b < 1024 → (t : Bool) → eqb b (slot_of (get_or xs i 0)) ≡ t →
      Last xs (i + 1) b (get_or (set heads (slot_of (get_or xs i 0)) (i + 1)) b 0)
  headed b lb true e =
      let s = slot_of (get_or xs i 0) in
      let q : b ≡ s = eqb-true b s e in
      let ls : s < length heads = rw m.heads_size (slot_small (get_or xs i 0)) in
      rw (q, get_or-set_same heads s (i + 1) 0 ls) (new_last xs i)
  headed b lb false e =
      let s = slot_of (get_or xs i 0) in
      rw (get_or-set_other heads s b (i + 1) 0 (eqb-false b s e)) (keep_last (m.last b lb) (λ _ g. eqb-false b s e (sym g)))

  pub put : ((j : ℕ) → j < i → get_or xs j 0 ≡ get_or xs i 0 → ⊥) →
      Chained xs (set heads (slot_of (get_or xs i 0)) (i + 1)) (set nexts i (get_or heads (slot_of (get_or xs i 0)) 0)) (i + 1)
  put none =
      record {
        within = omega arith;
        small = m.small;
        heads_size = simp length-set m.heads_size;
        nexts_size = simp length-set m.nexts_size;
        first = below_more (First xs) i m.first (λ j lt e. absurd (none j lt e));
        last = λ b lb. headed b lb (eqb b (slot_of (get_or xs i 0))) refl;
        links = linked;
      }
