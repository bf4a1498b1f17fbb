-- The laws of a table of records with keys. Assumes nothing.
use Prim.Native.Nat.{ℕ, zero, suc}
use mathlib.Core.Path.{◌≡◌, refl, sym, ◌∙◌, ap}
use mathlib.Core.Bool.{Bool, true, false, ◌||◌, cond, true≢false, false≢true}
use mathlib.Core.List.{List, [], ◌∷◌}
use mathlib.Core.Logic.{◌⊎◌, inl, inr}
use lib.Dec.{eqb}
use lib.ListN.{replicate}
use borrow.Author.Tests.{eqb-true, eqb-false, eq-eqb, ne_eqb}
use Rattle.lent.specs.Keyed.{on_record, record_of, replaced_for}

module _ {X : Type 0} (key : X → ℕ) (none : X) where
  abbrev on : ℕ → List X → Bool
  on k ys = on_record key k ys

  abbrev of : ℕ → List X → X
  of k ys = record_of key none k ys

  abbrev put : ℕ → X → List X → List X
  put j d ys = replaced_for key j d ys

  -- the record of a key that is on record has that key, and that of another is none
  pub has_key : (k : ℕ) (ys : List X) → on k ys ≡ true → key (of k ys) ≡ k
  has_key k [] h = absurd (false≢true h)
  has_key k (c ∷ cs) h = by_test (eqb (key c) k) refl h (has_key k cs)
    where
      by_test : (b : Bool) → eqb (key c) k ≡ b → (b || on k cs) ≡ true → (on k cs ≡ true → key (of k cs) ≡ k) → key (cond b c (of k cs)) ≡ k
      by_test true e t rest = eqb-true (key c) k e
      by_test false e t rest = rest t

  pub is_none : (k : ℕ) (ys : List X) → on k ys ≡ false → of k ys ≡ none
  is_none k [] h = refl
  is_none k (c ∷ cs) h = by_test (eqb (key c) k) h (is_none k cs)
    where
      by_test : (b : Bool) → (b || on k cs) ≡ false → (on k cs ≡ false → of k cs ≡ none) → cond b c (of k cs) ≡ none
      by_test true t rest = absurd (true≢false t)
      by_test false t rest = rest t

  -- a table of nothing but records without a key has no key
  pub none_on : (k n : ℕ) → (key none ≡ k → ⊥) → on k (replicate n none) ≡ false
  none_on k zero other = refl
  none_on k (suc n) other = rw (ne_eqb (key none) k other, none_on k n other)

  -- a record replaced under another key leaves a key as it was
  pub same_on : (k j : ℕ) (d : X) (ys : List X) → (j ≡ k → ⊥) → (key d ≡ k → ⊥) → on k (put j d ys) ≡ on k ys
  same_on k j d [] other new = refl
  same_on k j d (c ∷ cs) other new = by_test (eqb (key c) j) refl (same_on k j d cs other new)
    where
      by_test : (b : Bool) → eqb (key c) j ≡ b → on k (put j d cs) ≡ on k cs →
          on k (cond b (d ∷ cs) (c ∷ put j d cs)) ≡ (eqb (key c) k || on k cs)
      by_test true e rest = rw (ne_eqb (key d) k new, ne_eqb (key c) k (λ s. other (sym (eqb-true (key c) j e) ∙ s)))
      by_test false e rest = ap (λ t. eqb (key c) k || t) rest

  pub same_of : (k j : ℕ) (d : X) (ys : List X) → (j ≡ k → ⊥) → (key d ≡ k → ⊥) → of k (put j d ys) ≡ of k ys
  same_of k j d [] other new = refl
  same_of k j d (c ∷ cs) other new = by_test (eqb (key c) j) refl (same_of k j d cs other new)
    where
      by_test : (b : Bool) → eqb (key c) j ≡ b → of k (put j d cs) ≡ of k cs →
          of k (cond b (d ∷ cs) (c ∷ put j d cs)) ≡ cond (eqb (key c) k) c (of k cs)
      by_test true e rest = rw (ne_eqb (key d) k new, ne_eqb (key c) k (λ s. other (sym (eqb-true (key c) j e) ∙ s)))
      by_test false e rest = ap (λ t. cond (eqb (key c) k) c t) rest

  -- a record put under its own key, over that key or over one where it was not on record, is the record of the key
  pub new_of : (k j : ℕ) (d : X) (ys : List X) → on j ys ≡ true → key d ≡ k → (j ≡ k) ⊎ (on k ys ≡ false) → of k (put j d ys) ≡ d
  new_of k j d [] h own free = absurd (false≢true h)
  new_of k j d (c ∷ cs) h own free = by_test (eqb (key c) j) refl h free (new_of k j d cs)
    where
      past : (b : Bool) → eqb (key c) j ≡ false → eqb (key c) k ≡ b → (j ≡ k) ⊎ ((b || on k cs) ≡ false) →
          (b ≡ false) × ((j ≡ k) ⊎ (on k cs ≡ false))
      past true e s (inl same) = absurd (eqb-false (key c) j e (eqb-true (key c) k s ∙ sym same))
      past true e s (inr none') = absurd (true≢false none')
      past false e s (inl same) = (refl, inl same)
      past false e s (inr none') = (refl, inr none')

      by_test : (b : Bool) → eqb (key c) j ≡ b → (b || on j cs) ≡ true → (j ≡ k) ⊎ ((eqb (key c) k || on k cs) ≡ false)
          → (on j cs ≡ true → key d ≡ k → (j ≡ k) ⊎ (on k cs ≡ false) → of k (put j d cs) ≡ d) → of k (cond b (d ∷ cs) (c ∷ put j d cs)) ≡ d
      by_test true e t f rest = rw (eq-eqb (key d) k own)
      by_test false e t f rest = let p = past (eqb (key c) k) e refl f in rw p.0 (rest t own p.1)

  -- a key stands at most once
  abbrev pub Once : ℕ → List X → Type 0
  Once k [] = Unit {0}
  Once k (c ∷ cs) = (key c ≡ k → on k cs ≡ false) × Once k cs

  pub once_none : (k : ℕ) (ys : List X) → on k ys ≡ false → Once k ys
  once_none k [] h = tt
  once_none k (c ∷ cs) h = let rest = behind (eqb (key c) k) h in (λ _. rest, once_none k cs rest)
    where
      behind : (b : Bool) → (b || on k cs) ≡ false → on k cs ≡ false
      behind true t = absurd (true≢false t)
      behind false t = t

  -- it does so after any record but one with that key was put
  off_put : (k j : ℕ) (d : X) (ys : List X) → (key d ≡ k → ⊥) → on k ys ≡ false → on k (put j d ys) ≡ false
  off_put k j d [] new h = refl
  off_put k j d (c ∷ cs) new h = by_tests (eqb (key c) j) (eqb (key c) k) refl h (off_put k j d cs new)
    where
      by_tests : (b own : Bool) → eqb (key c) k ≡ own → (own || on k cs) ≡ false → (on k cs ≡ false → on k (put j d cs) ≡ false) →
          on k (cond b (d ∷ cs) (c ∷ put j d cs)) ≡ false
      by_tests b true o t rest = absurd (true≢false t)
      by_tests true false o t rest = rw (ne_eqb (key d) k new, t)
      by_tests false false o t rest = rw (o, rest t)

  pub once_same : (k j : ℕ) (d : X) (ys : List X) → (key d ≡ k → ⊥) → Once k ys → Once k (put j d ys)
  once_same k j d [] new h = tt
  once_same k j d (c ∷ cs) new h = by_test (eqb (key c) j) (once_same k j d cs new h.1)
    where
      by_test : (b : Bool) → Once k (put j d cs) → Once k (cond b (d ∷ cs) (c ∷ put j d cs))
      by_test true rest = (λ s. absurd (new s), h.1)
      by_test false rest = (λ s. off_put k j d cs new (h.0 s), rest)

  -- after one with that key was put where none stood
  pub once_new : (k j : ℕ) (d : X) (ys : List X) → on k ys ≡ false → Once k (put j d ys)
  once_new k j d [] h = tt
  once_new k j d (c ∷ cs) h = by_tests (eqb (key c) j) (eqb (key c) k) refl h (once_new k j d cs)
    where
      by_tests : (b own : Bool) → eqb (key c) k ≡ own → (own || on k cs) ≡ false → (on k cs ≡ false → Once k (put j d cs)) →
          Once k (cond b (d ∷ cs) (c ∷ put j d cs))
      by_tests b true o t rest = absurd (true≢false t)
      by_tests true false o t rest = (λ _. t, once_none k cs t)
      by_tests false false o t rest = (λ s. absurd (eqb-false (key c) k o s), rest t)

  -- and after its own record was replaced
  pub once_own : (k : ℕ) (d : X) (ys : List X) → Once k ys → Once k (put k d ys)
  once_own k d [] h = tt
  once_own k d (c ∷ cs) h = by_test (eqb (key c) k) refl (once_own k d cs h.1)
    where
      by_test : (b : Bool) → eqb (key c) k ≡ b → Once k (put k d cs) → Once k (cond b (d ∷ cs) (c ∷ put k d cs))
      by_test true e rest = (λ _. h.0 (eqb-true (key c) k e), h.1)
      by_test false e rest = (λ s. absurd (eqb-false (key c) k e s), rest)

  -- a key that stands once, and whose record is replaced by one without it, is gone
  pub gone : (k : ℕ) (d : X) (ys : List X) → Once k ys → (key d ≡ k → ⊥) → on k (put k d ys) ≡ false
  gone k d [] h new = refl
  gone k d (c ∷ cs) h new = by_test (eqb (key c) k) refl (gone k d cs h.1 new)
    where
      by_test : (b : Bool) → eqb (key c) k ≡ b → on k (put k d cs) ≡ false → on k (cond b (d ∷ cs) (c ∷ put k d cs)) ≡ false
      by_test true e rest = rw (ne_eqb (key d) k new, h.0 (eqb-true (key c) k e))
      by_test false e rest = rw (e, rest)
