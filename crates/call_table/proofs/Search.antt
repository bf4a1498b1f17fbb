-- What one reading of a row finds: the first record with the key, the first empty one, and whether every record is fit. Assumes nothing.
use Prim.Native.Nat.{◌+◌, ◌<◌, suc, zero, ℕ}
use native.Mathlib.Nat.{le_of_suc-le-suc, not-suc-le-zero}
use native.Mathlib.Omega.{arith}
use mathlib.Core.Bool.{Bool, ◌&&◌, ◌||◌, and_assoc, and-true, cond, false, not, true}
use mathlib.Core.List.{List, [], ◌∷◌}
use mathlib.Core.Path.{◌∙◌, ◌≡◌, ap, refl, sym}
use lib.Dec.{eqb}
use lib.ListN.{get_or, length}
use borrow.Author.Tests.{eq-eqb, eqb-false, eqb-true}
use Rattle.std.specs.Prelude.{Option, Some, None, is_none, option_map}
use Rattle.std.specs.Option.{option_or}
use Rattle.std.proofs.lemmas.Option.{some_pair_parts}
use Rattle.lent.specs.Search.{first_from, read_from}
use Rattle.call.specs.Record.{emptied}
use Rattle.call.specs.declared.Call.{Call}
use Rattle.call_table.specs.Claims.{call_of, has_call}
use Rattle.call_table.specs.Fit.{every_fit, fit_record}
use Rattle.call_table.specs.Table.{call_in, later_of, seen_of, sought_at_start, sought_in, sought_of, start_of, step_of}
use Rattle.call_table.specs.declared.Seen.{Seen}
use Rattle.call_table.specs.declared.Sought.{Sought}

-- a record and its place, where one is found
abbrev pub Found : Type 0
Found = Option (ℕ × Call)

-- the place of what is found
abbrev pub place_of : Found → Option ℕ
place_of f = option_map (λ p. p.0) f

-- the first record with a key, where the first of the row stands at i
abbrev pub first : ℕ → ℕ → List Call → Found
first k i ys = first_from (λ c. c.key) (λ j c. Some (j, c)) None k i ys

one_more : (f : Found) (k i : ℕ) (c : Call) (cs : List Call) → option_or (later_of f k c.key (i, c)) (first k (i + 1) cs) ≡ option_or f (first k i (c ∷ cs))
unfolding first_from
one_more (Some (j, d)) k i c cs = refl
one_more None k i c cs = by_test (eqb c.key k)
  where
    by_test : (b : Bool) → option_or (cond b (Some (i, c)) None) (first k (i + 1) cs) ≡ cond b (Some (i, c)) (first k (i + 1) cs)
    by_test true = refl
    by_test false = refl

or_nothing : (f : Found) → f ≡ option_or f None
or_nothing (Some (j, d)) = refl
or_nothing None = refl

sought_from : (key i : ℕ) (s : Sought (ℕ × Call)) (ys : List Call) → read_from (λ s i c. sought_of s key c.key (i, c)) i s ys ≡ record { found = option_or s.found (first key i ys); free = option_or s.free (first 0 i ys) }
unfolding read_from first_from
sought_from key i s [] = λ j. record { found = or_nothing s.found j; free = or_nothing s.free j }
sought_from key i s (c ∷ cs) =
    sought_from key (i + 1) (sought_of s key c.key (i, c)) cs
    ∙ (λ j. record { found = one_more s.found key i c cs j; free = one_more s.free 0 i c cs j })

-- what is found stays, whatever comes behind it
pub found_stays : (key i : ℕ) (s : Sought (ℕ × Call)) (ys : List Call) {j : ℕ} {c : Call} → s.found ≡ Some (j, c)
    → (read_from (λ s i c. sought_of s key c.key (i, c)) i s ys).found ≡ Some (j, c)
found_stays key i s ys e = ap (λ (t : Sought (ℕ × Call)). t.found) (sought_from key i s ys) ∙ ap (λ (f : Found). option_or f (first key i ys)) e

-- the record with the key is the first that has it, and the empty one the lowest
pub sought_is : (ys : List Call) (key : ℕ) → sought_in ys key ≡ record { found = first key 0 ys; free = first 0 0 ys }
sought_is ys key = sought_from key 0 (sought_at_start key) ys

seen_from : (key i : ℕ) (s : Seen) (ys : List Call) → read_from (λ s i c. step_of s key i c) i s ys ≡ record { sound = s.sound && every_fit ys; sought = read_from (λ s i c. sought_of s key c.key (i, c)) i s.sought ys }
unfolding read_from
seen_from key i s [] = λ j. record { sound = sym (and-true s.sound) j; sought = s.sought }
seen_from key i s (c ∷ cs) =
    seen_from key (i + 1) (step_of s key i c) cs
    ∙ (λ j. record { sound = and_assoc s.sound (fit_record c) (every_fit cs) j; sought = read_from (λ s i c. sought_of s key c.key (i, c)) (i + 1) (sought_of s.sought key c.key (i, c)) cs })

-- every record is fit, exactly where each was
pub seen_is : (ys : List Call) (key : ℕ) → seen_of ys key ≡ record { sound = every_fit ys; sought = sought_in ys key }
seen_is ys key = seen_from key 0 (start_of key) ys

-- a record that is found stands in the row, and has the key
pub record FoundAt (k i j : ℕ) (c : Call) (ys : List Call) : Type 0 where
  pub place : ℕ
  pub at : j ≡ i + place
  pub inside : place < length ys
  pub there : get_or ys place emptied ≡ c
  pub named : c.key ≡ k
  pub before : (m : ℕ) → m < place → (get_or ys m emptied).key ≡ k → ⊥

before_it : (d : Call) (ds : List Call) (k n : ℕ) → (d.key ≡ k → ⊥) → ((m : ℕ) → m < n → (get_or ds m emptied).key ≡ k → ⊥) → (m : ℕ) → m < suc n → (get_or (d ∷ ds) m emptied).key ≡ k → ⊥
before_it d ds k n h g zero l e = h e
before_it d ds k n h g (suc m) l e = g m (le_of_suc-le-suc l) e

pub found_at : (k i j : ℕ) (c : Call) (ys : List Call) → first k i ys ≡ Some (j, c) → FoundAt k i j c ys
unfolding first_from
found_at k i j c [] p = absurd (never p)
  where
    never : ◌≡◌ {A = Found} None (Some (j, c)) → ⊥
    never e = cc
found_at k i j c (d ∷ ds) p = by_test (found_at k (i + 1) j c ds) (eqb d.key k) refl p
  where
    by_test : (first k (i + 1) ds ≡ Some (j, c) → FoundAt k (i + 1) j c ds) → (b : Bool) → eqb d.key k ≡ b → cond b (Some (i, d)) (first k (i + 1) ds) ≡ Some (j, c) → FoundAt k i j c (d ∷ ds)
    by_test onward true t q =
        let parts = some_pair_parts i j d c q in
        let jo : i ≡ j = parts.0 in
        let co : d ≡ c = parts.1 in
        record { place = 0; at = omega arith; inside = omega arith; there = co; named = ap (λ (x : Call). x.key) (sym co) ∙ eqb-true d.key k t; before = λ m l q. omega arith }
    by_test onward false t q =
        let r : FoundAt k (i + 1) j c ds = onward q in
        record { place = suc r.place; at = omega (arith, r.at); inside = omega (arith, r.inside); there = r.there; named = r.named; before = before_it d ds k r.place (eqb-false d.key k t) r.before }

pub on_record_lem : (k i : ℕ) (ys : List Call) → not (is_none (first k i ys)) ≡ has_call k ys
unfolding first_from
on_record_lem k i [] = refl
on_record_lem k i (c ∷ cs) = by_test (on_record_lem k (i + 1) cs) (eqb c.key k)
  where
    by_test : not (is_none (first k (i + 1) cs)) ≡ has_call k cs → (b : Bool) →
        not (is_none (cond b (Some (i, c)) (first k (i + 1) cs))) ≡ (b || has_call k cs)
    by_test h true = refl
    by_test h false = h

pub call_of_lem : (k i : ℕ) (ys : List Call) → call_in (first k i ys) ≡ call_of k ys
unfolding first_from
call_of_lem k i [] = refl
call_of_lem k i (c ∷ cs) = by_test (call_of_lem k (i + 1) cs) (eqb c.key k)
  where
    by_test : call_in (first k (i + 1) cs) ≡ call_of k cs → (b : Bool) → call_in (cond b (Some (i, c)) (first k (i + 1) cs)) ≡ cond b c (call_of k cs)
    by_test h true = refl
    by_test h false = h

or_true_by : (a : Bool) {b : Bool} → b ≡ true → (a || b) ≡ true
or_true_by true p = refl
or_true_by false p = p

-- on record, by place
pub stands_on_record : (k i : ℕ) (ys : List Call) → i < length ys → (get_or ys i emptied).key ≡ k → has_call k ys ≡ true
stands_on_record k i [] l e = absurd (not-suc-le-zero l)
stands_on_record k zero (c ∷ cs) l e = rw (eq-eqb c.key k e)
stands_on_record k (suc i) (c ∷ cs) l e = or_true_by (eqb c.key k) (stands_on_record k i cs (le_of_suc-le-suc l) e)
