-- Two wrong answers of each public function of distinct. Each theorem speaks of the function's contract as the
-- prover makes it from the source: that its `ensures` holds of the wrong answer, with any value where a variable stands,
-- is false. Assumes nothing.
use Prim.Native.Nat.{ℕ}
use native.Mathlib.Omega.{arith}
use mathlib.Core.Bool.{Bool, true, false}
use mathlib.Core.List.{List, [], ◌∷◌}
use mathlib.Core.Path.{◌≡◌}
use seplogic.Ra.Ura.{Ura}
use base.Logic.{SProp, ent}
use contract.Lifetimes.{Lfts}
use contract.Monad.{Fun, fact, fact_mono}
use denote.Ref.{Bor}
use types.Logic.{Logic}
use prog.Memory.{Memory}
use prog.Routine.{Routine}
use Rattle.distinct.specs.Distinct.{has, distinct_of}
use Rattle.distinct.specs.contracts.distinct as distinct
use Rattle.distinct.specs.contracts.unique as unique

-- something that is lent; where it stands says nothing here
abbrev lent : {X : Type 0} → X → Bor X
lent xs = record { ref_ptr = (0, 0); now = xs }

module _ {M : Type 1} {𝓤 : Ura M} (𝓛 : Logic 𝓤) (memory : Memory → SProp 𝓤) (run : Routine → Fun 𝓤) where
  -- it is false: the logic proves falsity from it
  abbrev NeverHolds : SProp 𝓤 → Type 1
  NeverHolds says = ent 𝓤 says (fact 𝓤 ⊥)

  -- distinct: of keys, whether none but 0 stands twice
  abbrev distinct_shuts_out : List ℕ → Bool → Type 1
  distinct_shuts_out keys r =
      (κs : Lfts 1) → NeverHolds ((distinct.clauses 𝓛 memory run κs (lent keys, tt)).ensures tt r (lent keys, tt))

  -- 0 alone may stand twice (01, 101: two non-empty records with one key)
  pub number_1_may_stand_twice : distinct_shuts_out (1 ∷ 1 ∷ []) true
  unfolding has distinct_of
  number_1_may_stand_twice κs = fact_mono 𝓤 _ _ (λ h. let z : ◌≡◌ {A = ℕ} 0 1 = cc in omega arith)

  -- no earlier place is missed
  pub earlier_place_is_missed : distinct_shuts_out (7 ∷ 0 ∷ 8 ∷ 7 ∷ []) true
  unfolding has distinct_of
  earlier_place_is_missed κs = fact_mono 𝓤 _ _ (λ h. let z : ◌≡◌ {A = ℕ} 0 1 = cc in omega arith)

  -- unique: of keys and a number, whether there are so many and none of them but 0 stands twice
  abbrev unique_shuts_out : List ℕ → ℕ → Bool → Type 1
  unique_shuts_out keys n r =
      (κs : Lfts 1) → NeverHolds ((unique.clauses 𝓛 memory run κs (lent keys, (n, tt))).ensures tt r (lent keys, (n, tt)))

  -- as many keys as there are may be asked for (01, "Edges": 1,024 records pass)
  pub a_full_list_is_turned_away : unique_shuts_out (1 ∷ 2 ∷ []) 2 false
  unfolding has distinct_of
  a_full_list_is_turned_away κs = fact_mono 𝓤 _ _ (λ h. let z : ◌≡◌ {A = ℕ} 0 1 = cc in omega arith)

  -- more keys than there are is refused (01, "Edges": 1,025 give 101)
  pub too_many_are_let_through : unique_shuts_out (1 ∷ 2 ∷ []) 3 true
  unfolding has distinct_of
  too_many_are_let_through κs = fact_mono 𝓤 _ _ (λ h. let z : ◌≡◌ {A = ℕ} 0 1 = cc in omega arith)

  -- a number that stands a second time at the last place is told
  pub duplicate_at_the_last_place_missed : unique_shuts_out (1 ∷ 2 ∷ 1 ∷ []) 3 true
  unfolding has distinct_of
  duplicate_at_the_last_place_missed κs = fact_mono 𝓤 _ _ (λ h. let z : ◌≡◌ {A = ℕ} 0 1 = cc in omega arith)
