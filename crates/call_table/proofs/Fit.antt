-- What the code's test of a table says, in natural terms and both ways. Assumes nothing.
use Prim.Native.Nat.{◌<◌, ◌≤◌, suc, suc-le-suc, zero, zero-le, ℕ}
use native.Mathlib.Nat.{le_of_suc-le-suc, not-suc-le-zero}
use native.Mathlib.Omega.{arith}
use mathlib.Core.Bool.{Bool, ◌&&◌, cond, false, false≢true, not, true, true≢false}
use mathlib.Core.List.{List, [], ◌∷◌, map}
use mathlib.Core.Logic.{◌↔◌}
use mathlib.Core.Path.{◌∙◌, ◌≡◌, refl, sym}
use lib.Dec.{eqb, leb, ltb}
use lib.ListN.{get_or-map, get_or, length, length-map}
use borrow.Author.Tests.{eqb-false, eqb-true, le-leb, le-ltb, leb-true, ltb-false, ne_eqb, not-true}
use Rattle.distinct.proofs.Laws.{distinct_exactly}
use Rattle.distinct.specs.Distinct.{distinct_of}
use Rattle.signal.proofs.Counting.{one_most, one_other, one_same, one_self}
use Rattle.signal.specs.Counting.{count, one}
use Rattle.signal.specs.Numbers.{soft_number}
use Rattle.signal.specs.declared.Soft.{Soft}
use Rattle.signal.specs.declared.Soft.TheVariants.{Asymmetric, NoSoft, Symmetric}
use Rattle.rows.specs.States.{held_in, is_null}
use Rattle.rows.specs.declared.State.{State}
use Rattle.rows.specs.declared.State.TheVariants.{Awaiting, HardUnderway, HardWaiting, Idle, Null, SoftInitiated, SoftProceeding}
use Rattle.rows.specs.declared.State.TheVariants.{SoftTriggered}
use Rattle.call.specs.Record.{emptied}
use Rattle.call.specs.declared.Call.{Call}
use Rattle.call_table.specs.Claims.{FitRecord, InUse}
use Rattle.call_table.specs.Fit.{are_within, every_fit, fit_held, fit_keys, fit_record, is_emptied, is_within}
use Rattle.call_table.specs.Claims as claim

-- both of two tests
and_both : (a b : Bool) → (a && b) ≡ true → (a ≡ true) × (b ≡ true)
and_both true b p = (refl, p)
and_both false b p = absurd (false≢true p)

both_and : (a b : Bool) → a ≡ true → b ≡ true → (a && b) ≡ true
both_and true b p q = q
both_and false b p q = p

not_held : (a : Bool) → a ≡ false → not a ≡ true
not_held true p = absurd (true≢false p)
not_held false p = refl

-- a number that is within
abbrev pub Within : ℕ → ℕ → Type 0
Within last x = (1 ≤ x) × (x ≤ last)

within_is : (last x : ℕ) → (is_within last x ≡ true) ↔ Within last x
within_is last x = (
  λ p.
      let q : (not (eqb x 0) ≡ true) × (leb x last ≡ true) = and_both (not (eqb x 0)) (leb x last) p in
      let z : x ≡ 0 → ⊥ = eqb-false x 0 (not-true (eqb x 0) q.0) in
      (omega arith, leb-true x last q.1),
  λ w. both_and (not (eqb x 0)) (leb x last) (not_held (eqb x 0) (ne_eqb x 0 (λ z. omega arith))) (le-leb x last w.1),
)

-- held numbers that are within, and differ
pub record Well (last : ℕ) (xs : List ℕ) : Type 0 where
  pub within : (x : ℕ) → 1 ≤ count x xs → Within last x
  pub differ : (x : ℕ) → count x xs ≤ 1

none_well : (last : ℕ) → Well last []
none_well last = record { within = λ x h. absurd (omega arith); differ = λ x. omega arith }

pub one_well : (last i : ℕ) → Within last i ↔ Well last (i ∷ [])
one_well last i = (
  λ w.
      record {
        within = λ x h. let e : x ≡ i = one_same x i (omega arith) in omega arith;
        differ = λ x. omega (arith, one_most x i);
      },
  λ w. w.within i (omega (arith, one_self i)),
)

abbrev Two : ℕ → ℕ → ℕ → Type 0
Two last i r = (i ≡ r → ⊥) × (Within last i × Within last r)

two_is : (last i r : ℕ) → (are_within last i r ≡ true) ↔ Two last i r
two_is last i r = (
  λ p.
      let q : (not (eqb i r) ≡ true) × ((is_within last i && is_within last r) ≡ true) = and_both (not (eqb i r)) (is_within last i && is_within last r) p in
      let w : (is_within last i ≡ true) × (is_within last r ≡ true) = and_both (is_within last i) (is_within last r) q.1 in
      (eqb-false i r (not-true (eqb i r) q.0), ((within_is last i).0 w.0, (within_is last r).0 w.1)),
  λ t.
      both_and (not (eqb i r)) (is_within last i && is_within last r) (not_held (eqb i r) (ne_eqb i r t.0))
      (both_and (is_within last i) (is_within last r) ((within_is last i).1 t.1.0) ((within_is last r).1 t.1.1)),
)

-- a test that follows from another adds nothing to it
implied : (a b : Bool) → (b ≡ true → a ≡ true) → b ≡ (a && b)
implied true b h = refl
implied false true h = absurd (false≢true (h refl))
implied false false h = refl

-- where a held number is within, the last number is not 0
within_given : (last x : ℕ) → is_within last x ≡ (not (eqb last 0) && is_within last x)
within_given last x = implied (not (eqb last 0)) (is_within last x) (λ p.
    let w : Within last x = (within_is last x).0 p in
    not_held (eqb last 0) (ne_eqb last 0 (λ z. omega arith)))

two_given : (last i r : ℕ) → are_within last i r ≡ (not (eqb last 0) && are_within last i r)
two_given last i r = implied (not (eqb last 0)) (are_within last i r) (λ p.
    let w : Within last i = ((two_is last i r).0 p).1.0 in
    not_held (eqb last 0) (ne_eqb last 0 (λ z. omega arith)))

-- what the code tests of a state in use: the last number only where nothing is held
abbrev pub tested : ℕ → State → Bool
tested last Null = false
tested last (Idle i) = is_within last i
tested last HardWaiting = not (eqb last 0)
tested last (HardUnderway r) = is_within last r
tested last (SoftTriggered i) = is_within last i
tested last (SoftProceeding i r) = are_within last i r
tested last (SoftInitiated i r) = are_within last i r
tested last (Awaiting i r) = are_within last i r

and_false : (a : Bool) → false ≡ (a && false)
and_false true = refl
and_false false = refl

and_true : (a : Bool) → a ≡ (a && true)
and_true true = refl
and_true false = refl

pub tested_is : (last : ℕ) (s : State) → tested last s ≡ (not (eqb last 0) && fit_held last s)
tested_is last Null = and_false (not (eqb last 0))
tested_is last (Idle i) = within_given last i
tested_is last HardWaiting = and_true (not (eqb last 0))
tested_is last (HardUnderway r) = within_given last r
tested_is last (SoftTriggered i) = within_given last i
tested_is last (SoftProceeding i r) = two_given last i r
tested_is last (SoftInitiated i r) = two_given last i r
tested_is last (Awaiting i r) = two_given last i r

pub by_equal : {X : Type 0} (x y : ℕ) → (x ≡ y → X) → ((x ≡ y → ⊥) → X) → X
by_equal {X} x y f g = by_test (eqb x y) refl
  where
    by_test : (b : Bool) → eqb x y ≡ b → X
    by_test true p = f (eqb-true x y p)
    by_test false p = g (eqb-false x y p)

two_well : (last i r : ℕ) → Two last i r ↔ Well last (i ∷ r ∷ [])
two_well last i r = (
  λ t.
      record {
        within = λ x h. by_equal x i (λ e. rw e t.1.0) (λ n.
            let z : one x i ≡ 0 = one_other x i n in
            let e : x ≡ r = one_same x r (omega arith) in
            rw e t.1.1);
        differ = λ x. by_equal x i (λ e.
            let z : one x r ≡ 0 = one_other x r (λ q. t.0 (sym e ∙ q)) in
            omega (arith, one_most x i)) (λ n. let z : one x i ≡ 0 = one_other x i n in omega (arith, one_most x r));
      },
  λ w. (
    λ e.
        let z : one i r ≡ 1 = rw (sym e) (one_self i) in
        omega (arith, w.differ i, one_self i),
    (w.within i (omega (arith, one_self i)), w.within r (omega (arith, one_self r))),
  ),
)

-- what a state in use holds
held_is : (last : ℕ) (s : State) → (fit_held last s ≡ true) ↔ ((is_null s ≡ false) × Well last (held_in s))
held_is last Null = (λ p. absurd (false≢true p), λ q. absurd (true≢false q.0))
held_is last (Idle i) = (λ p. (refl, (one_well last i).0 ((within_is last i).0 p)), λ q. (within_is last i).1 ((one_well last i).1 q.1))
held_is last HardWaiting = (λ p. (refl, none_well last), λ q. refl)
held_is last (HardUnderway r) = (λ p. (refl, (one_well last r).0 ((within_is last r).0 p)), λ q. (within_is last r).1 ((one_well last r).1 q.1))
held_is last (SoftTriggered i) = (λ p. (refl, (one_well last i).0 ((within_is last i).0 p)), λ q. (within_is last i).1 ((one_well last i).1 q.1))
held_is last (SoftProceeding i r) = (λ p. (refl, (two_well last i r).0 ((two_is last i r).0 p)), λ q. (two_is last i r).1 ((two_well last i r).1 q.1))
held_is last (SoftInitiated i r) = (λ p. (refl, (two_well last i r).0 ((two_is last i r).0 p)), λ q. (two_is last i r).1 ((two_well last i r).1 q.1))
held_is last (Awaiting i r) = (λ p. (refl, (two_well last i r).0 ((two_is last i r).0 p)), λ q. (two_is last i r).1 ((two_well last i r).1 q.1))

-- an empty record
soft_none : (s : Soft) → eqb (soft_number s) 0 ≡ true → s ≡ NoSoft
soft_none NoSoft p = refl
soft_none Asymmetric p = absurd (false≢true p)
soft_none Symmetric p = absurd (false≢true p)

state_null : (s : State) → is_null s ≡ true → s ≡ Null
state_null Null p = refl
state_null (Idle i) p = absurd (false≢true p)
state_null HardWaiting p = absurd (false≢true p)
state_null (HardUnderway r) p = absurd (false≢true p)
state_null (SoftTriggered i) p = absurd (false≢true p)
state_null (SoftProceeding i r) p = absurd (false≢true p)
state_null (SoftInitiated i r) p = absurd (false≢true p)
state_null (Awaiting i r) p = absurd (false≢true p)

emptied_is : (c : Call) → c.key ≡ 0 → is_emptied c ≡ true → c ≡ emptied
emptied_is c k p =
    let a = and_both (not c.hard) _ p in
    let b = and_both (eqb (soft_number c.soft) 0) _ a.1 in
    let d = and_both (is_null c.state) _ b.1 in
    let e = and_both (eqb c.last 0) (eqb c.remote 0) d.1 in
    λ j. record {
      key = k j;
      hard = not-true c.hard a.0 j;
      soft = soft_none c.soft b.0 j;
      state = state_null c.state d.0 j;
      last = eqb-true c.last 0 e.0 j;
      remote = eqb-true c.remote 0 e.1 j;
    }

-- a record in use
used_is : (c : Call) → ((not (eqb c.last 0) && fit_held c.last c.state) ≡ true) ↔ InUse c
used_is c = (
  λ p.
      let q = and_both (not (eqb c.last 0)) (fit_held c.last c.state) p in
      let z : c.last ≡ 0 → ⊥ = eqb-false c.last 0 (not-true (eqb c.last 0) q.0) in
      let h = (held_is c.last c.state).0 q.1 in
      record {
        live = h.0;
        given = omega arith;
        held = record { within = h.1.within; differ = h.1.differ };
      },
  λ u.
      both_and (not (eqb c.last 0)) (fit_held c.last c.state)
      (not_held (eqb c.last 0) (ne_eqb c.last 0 (λ z. omega (arith, u.given))))
      ((held_is c.last c.state).1 (u.live, record { within = u.held.within; differ = u.held.differ })),
)

pub record_is : (c : Call) → (fit_record c ≡ true) ↔ FitRecord c
record_is c = by_test (eqb c.key 0) refl
  where
    by_test : (b : Bool) → eqb c.key 0 ≡ b → (cond b (is_emptied c) (not (eqb c.last 0) && fit_held c.last c.state) ≡ true) ↔ FitRecord c
    by_test true t = (
      λ p. record { empty = λ k. emptied_is c k p; used = λ n. absurd (n (eqb-true c.key 0 t)) },
      λ f. rw (f.empty (eqb-true c.key 0 t)),
    )
    by_test false t = (
      λ p. record { empty = λ k. absurd (eqb-false c.key 0 t k); used = λ n. (used_is c).0 p },
      λ f. (used_is c).1 (f.used (eqb-false c.key 0 t)),
    )

every_fit_lem : (ys : List Call) → every_fit ys ≡ true → (i : ℕ) → i < length ys → FitRecord (get_or ys i emptied)
every_fit_lem [] p i l = absurd (not-suc-le-zero l)
every_fit_lem (c ∷ cs) p zero l = (record_is c).0 (and_both (fit_record c) (every_fit cs) p).0
every_fit_lem (c ∷ cs) p (suc i) l = every_fit_lem cs (and_both (fit_record c) (every_fit cs) p).1 i (le_of_suc-le-suc l)

fit_every : (ys : List Call) → ((i : ℕ) → i < length ys → FitRecord (get_or ys i emptied)) → every_fit ys ≡ true
fit_every [] h = refl
fit_every (c ∷ cs) h =
    both_and (fit_record c) (every_fit cs) ((record_is c).1 (h zero (suc-le-suc zero-le)))
    (fit_every cs (λ i l. h (suc i) (suc-le-suc l)))

-- the keys of a row, by place
key_at : (ys : List Call) (i : ℕ) → get_or (map (λ c. c.key) ys) i 0 ≡ (get_or ys i emptied).key
key_at ys i = get_or-map (λ (c : Call). c.key) ys i emptied

pub fit_exactly : claim.FitExactly
fit_exactly ys = (
  λ p.
      let q = and_both (fit_keys ys) (every_fit ys) p in
      let k = and_both (not (ltb 1024 (length ys))) (distinct_of (map (λ c. c.key) ys)) q.0 in
      let d = (distinct_exactly (map (λ c. c.key) ys)).0 k.1 in
      record {
        few = ltb-false 1024 (length ys) (not-true (ltb 1024 (length ys)) k.0);
        keys = λ i j l m e.
            sym (key_at ys i) ∙ d i j l (rw (length-map ys (λ (c : Call). c.key)) m) (key_at ys i ∙ (e ∙ sym (key_at ys j)));
        each = every_fit_lem ys q.1;
      },
  λ f.
      both_and (fit_keys ys) (every_fit ys)
      (both_and (not (ltb 1024 (length ys))) (distinct_of (map (λ c. c.key) ys))
      (not_held (ltb 1024 (length ys)) (le-ltb 1024 (length ys) f.few))
      ((distinct_exactly (map (λ c. c.key) ys)).1 (λ i j l m e.
      key_at ys i ∙ f.keys i j l (rw (length-map ys (λ (c : Call). c.key)) at m) (sym (key_at ys i) ∙ (e ∙ key_at ys j)))))
      (fit_every ys f.each),
)
