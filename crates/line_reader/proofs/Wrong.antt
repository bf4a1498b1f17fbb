-- Two wrong answers of each public function of line_reader. Each theorem speaks of the function's contract as the
-- prover makes it from the source: that its `ensures` holds of the wrong answer, with any value where a variable stands,
-- is false. Assumes nothing.
use Prim.Native.Nat.{ℕ}
use native.Mathlib.Omega.{arith}
use mathlib.Core.Bool.{Bool, true}
use mathlib.Core.List.{List, [], ◌∷◌}
use mathlib.Core.Path.{◌≡◌}
use seplogic.Ra.Ura.{Ura}
use base.Logic.{SProp, ent}
use contract.Lifetimes.{Lfts}
use contract.Monad.{Fun, fact, fact_mono}
use denote.Ref.{Bor}
use types.Logic.{Logic}
use prog.Memory.{Memory}
use prog.Routine.{Routine}
use Rattle.std.proofs.Common.{Option, Some, None}
use Rattle.line_reader.specs.Numbers.{number_up_to}
use Rattle.line_reader.specs.Words.{first_word, after_word}
use Rattle.line_reader.specs.contracts.after as after
use Rattle.line_reader.specs.contracts.is as is
use Rattle.line_reader.specs.contracts.number as number

-- something that is lent; where it stands says nothing here
abbrev lent : {X : Type 0} → X → Bor X
lent xs = record { ref_ptr = (0, 0); now = xs }

module _ {M : Type 1} {𝓤 : Ura M} (𝓛 : Logic 𝓤) (memory : Memory → SProp 𝓤) (run : Routine → Fun 𝓤) where
  -- it is false: the logic proves falsity from it
  abbrev NeverHolds : SProp 𝓤 → Type 1
  NeverHolds says = ent 𝓤 says (fact 𝓤 ⊥)

  -- after: of a line and a place in it, the place behind the next word
  abbrev after_shuts_out : List ℕ → ℕ → ℕ → Type 1
  after_shuts_out line at r =
      (κs : Lfts 1) → NeverHolds ((after.clauses 𝓛 memory run κs (lent line, (at, tt))).ensures tt r (lent line, (at, tt)))

  -- a tab parts words (docs/BENCH.md, "script"): "a", TAB, "b"
  pub tab_is_no_blank : after_shuts_out (97 ∷ 9 ∷ 98 ∷ []) 0 3
  unfolding after_word
  tab_is_no_blank κs = fact_mono 𝓤 _ _ (λ h. omega arith)

  -- and so does a carriage return
  pub carriage_return_is_no_blank : after_shuts_out (97 ∷ 13 ∷ 98 ∷ []) 0 3
  unfolding after_word
  carriage_return_is_no_blank κs = fact_mono 𝓤 _ _ (λ h. omega arith)

  -- is: of a line, a place in it and a name, whether the next word is the name
  abbrev is_shuts_out : List ℕ → ℕ → List ℕ → Bool → Type 1
  is_shuts_out line at name r =
      (κs : Lfts 2) → NeverHolds ((is.clauses 𝓛 memory run κs (lent line, (at, (lent name, tt)))
      ).ensures tt r (lent line, (at, (lent name, tt))))

  -- the word is sought from the place on: behind the "a" of "a b"
  pub always_the_first_word_of_the_line : is_shuts_out (97 ∷ 32 ∷ 98 ∷ []) 1 (97 ∷ []) true
  unfolding first_word
  always_the_first_word_of_the_line κs = fact_mono 𝓤 _ _ (λ h. let z : ◌≡◌ {A = ℕ} 0 1 = cc in omega arith)

  -- each octet is compared with the one at the same place: "aa" is not "ab"
  pub every_octet_compared_with_the_first : is_shuts_out (97 ∷ 97 ∷ []) 0 (97 ∷ 98 ∷ []) true
  unfolding first_word
  every_octet_compared_with_the_first κs = fact_mono 𝓤 _ _ (λ h. let z : ◌≡◌ {A = ℕ} 0 1 = cc in omega arith)

  -- number: of a line, a place in it and a limit, what the next word says as a number
  abbrev number_shuts_out : List ℕ → ℕ → ℕ → Option ℕ → Type 1
  number_shuts_out line at limit r =
      (κs : Lfts 1) → NeverHolds ((number.clauses 𝓛 memory run κs (lent line, (at, (limit, tt)))
      ).ensures tt r (lent line, (at, (limit, tt))))

  -- decimal digits alone are a number (docs/BENCH.md, "script"): ":" stands behind "9"
  pub colon_is_a_digit : number_shuts_out (58 ∷ []) 0 255 (Some 10)
  unfolding first_word number_up_to
  colon_is_a_digit κs = fact_mono 𝓤 _ _ (λ h. let z : ◌≡◌ {A = ℕ} 0 1 = cc in omega arith)

  -- from 0 to the limit, which is let through
  pub limit_itself_is_refused : number_shuts_out (57 ∷ []) 0 9 None
  unfolding first_word number_up_to
  limit_itself_is_refused κs = fact_mono 𝓤 _ _ (λ h. let z : ◌≡◌ {A = ℕ} 0 1 = cc in omega arith)
