-- Two wrong answers of each public function of fields. Each theorem speaks of the function's contract as the
-- prover makes it from the source: that its `ensures` holds of the wrong answer, with any value where a variable stands,
-- is false. Assumes nothing.
use Prim.Native.Nat.{ℕ}
use native.Mathlib.Omega.{arith}
use mathlib.Core.List.{List, [], ◌∷◌}
use mathlib.Core.Path.{◌≡◌, ap}
use lib.ListN.{get_or, replicate}
use seplogic.Ra.Ura.{Ura}
use base.Logic.{SProp, ent}
use contract.Lifetimes.{Lfts}
use contract.Monad.{Fun, fact, fact_mono}
use denote.MutBor.{MutBor}
use types.Logic.{Logic}
use prog.Memory.{Memory}
use prog.Routine.{Routine}
use Rattle.lines.specs.Line.{with_text}
use Rattle.lines.specs.declared.Line.{Line}
use Rattle.lines.proofs.Lines.{line_of}
use Rattle.lines.specs.Lines.{put_byte, put_text, spelled, number_text}
use Rattle.fields.specs.contracts.put_field as put_field
use Rattle.fields.specs.contracts.put_count as put_count

-- something that is lent to be changed; where it stands says nothing here
abbrev lent_mut : {X : Type 0} → X → MutBor X
lent_mut xs = record { ref_ptr = (0, 0); ghost_name = 0; now = xs }

module _ {M : Type 1} {𝓤 : Ura M} (𝓛 : Logic 𝓤) (memory : Memory → SProp 𝓤) (run : Routine → Fun 𝓤) where
  -- it is false: the logic proves falsity from it
  abbrev NeverHolds : SProp 𝓤 → Type 1
  NeverHolds says = ent 𝓤 says (fact 𝓤 ⊥)

  -- put_field: of a line, by its buffer and its place, a number and its end, the place where the line goes on, and what is left in its buffer
  abbrev put_field_shuts_out : List ℕ → ℕ → ℕ → ℕ → ℕ → List ℕ → Type 1
  put_field_shuts_out out at number end r left =
      (κs : Lfts 2) → NeverHolds ((put_field.clauses 𝓛 memory run κs (lent_mut (line_of out at), (number, (end, tt)))
      ).ensures tt tt (lent_mut (line_of left r), (number, (end, tt))))

  -- a number of one digit and its end take two places
  pub field_ends_a_place_early : (left : List ℕ) → put_field_shuts_out (0 ∷ 0 ∷ 0 ∷ []) 0 5 32 1 left
  unfolding with_text put_byte put_text spelled number_text
  field_ends_a_place_early left κs = fact_mono 𝓤 _ _ (λ h. let z : ◌≡◌ {A = ℕ} 1 _ = ap (λ (l : Line). l.at) h in omega arith)

  -- a hundred is the first number of three digits
  pub hundred_has_two_digits : (r : ℕ) → put_field_shuts_out (0 ∷ 0 ∷ 0 ∷ 0 ∷ []) 0 100 32 r (48 ∷ 48 ∷ 32 ∷ 0 ∷ [])
  unfolding with_text put_byte put_text spelled number_text
  hundred_has_two_digits r κs = fact_mono 𝓤 _ _ (λ h. let z : ◌≡◌ {A = ℕ} 48 _ = ap (λ (l : Line). get_or l.buffer.now 0 0) h in omega arith)

  -- near the end of a buffer the number is put too
  pub near_the_end_every_number_is_0 : (r : ℕ) → put_field_shuts_out (0 ∷ 0 ∷ []) 0 7 32 r (48 ∷ 32 ∷ [])
  unfolding with_text put_byte put_text spelled number_text
  near_the_end_every_number_is_0 r κs =
      fact_mono 𝓤 _ _ (λ h. let z : ◌≡◌ {A = ℕ} 48 _ = ap (λ (l : Line). get_or l.buffer.now 0 0) h in omega arith)

  -- put_count: the same of a count
  abbrev put_count_shuts_out : List ℕ → ℕ → ℕ → ℕ → ℕ → List ℕ → Type 1
  put_count_shuts_out out at count end r left =
      (κs : Lfts 2) → NeverHolds ((put_count.clauses 𝓛 memory run κs (lent_mut (line_of out at), (count, (end, tt)))
      ).ensures tt tt (lent_mut (line_of left r), (count, (end, tt))))

  -- the digit before the last is what is left by ten of the tens: 12 is not "22"
  pub tens_one_too_high : (r : ℕ) → put_count_shuts_out (replicate 12 0) 0 12 32 r (50 ∷ 50 ∷ 32 ∷ replicate 9 0)
  unfolding with_text put_byte put_text spelled number_text
  tens_one_too_high r κs = fact_mono 𝓤 _ _ (λ h. let z : ◌≡◌ {A = ℕ} 50 _ = ap (λ (l : Line). get_or l.buffer.now 0 0) h in omega arith)

  -- near the end of a buffer the count is put too
  pub near_the_end_every_count_is_0 : (r : ℕ) → put_count_shuts_out (0 ∷ 0 ∷ []) 0 7 32 r (48 ∷ 32 ∷ [])
  unfolding with_text put_byte put_text spelled number_text
  near_the_end_every_count_is_0 r κs =
      fact_mono 𝓤 _ _ (λ h. let z : ◌≡◌ {A = ℕ} 48 _ = ap (λ (l : Line). get_or l.buffer.now 0 0) h in omega arith)
