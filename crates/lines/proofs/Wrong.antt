-- Two wrong answers of each public function of lines. Each theorem speaks of the function's contract as the
-- prover makes it from the source: that its `ensures` holds of the wrong answer, with any value where a variable stands,
-- is false. Assumes nothing.
use Prim.Native.Nat.{ℕ}
use native.Mathlib.Omega.{arith}
use mathlib.Core.List.{List, [], ◌∷◌}
use mathlib.Core.Path.{◌≡◌, ap}
use lib.ListN.{get_or}
use seplogic.Ra.Ura.{Ura}
use base.Logic.{SProp, ent}
use contract.Lifetimes.{Lfts}
use contract.Monad.{Fun, fact, fact_mono}
use denote.MutBor.{MutBor}
use denote.Ref.{Bor}
use types.Logic.{Logic}
use prog.Memory.{Memory}
use prog.Routine.{Routine}
use Rattle.lines.specs.Line.{with_byte, with_text}
use Rattle.lines.specs.declared.Line.{Line}
use Rattle.lines.proofs.Lines.{line_of}
use Rattle.lines.specs.Lines.{put_byte, put_text, spelled, number_text}
use Rattle.lines.specs.contracts.Line.put_byte as put_byte
use Rattle.lines.specs.contracts.Line.put_word as put_word
use Rattle.lines.specs.contracts.Line.put_number as put_number
use Rattle.lines.specs.contracts.Line.put_numbered as put_numbered

-- something that is lent; where it stands says nothing here
abbrev lent : {X : Type 0} → X → Bor X
lent xs = record { ref_ptr = (0, 0); now = xs }

-- something that is lent to be changed
abbrev lent_mut : {X : Type 0} → X → MutBor X
lent_mut xs = record { ref_ptr = (0, 0); ghost_name = 0; now = xs }

module _ {M : Type 1} {𝓤 : Ura M} (𝓛 : Logic 𝓤) (memory : Memory → SProp 𝓤) (run : Routine → Fun 𝓤) where
  -- it is false: the logic proves falsity from it
  abbrev NeverHolds : SProp 𝓤 → Type 1
  NeverHolds says = ent 𝓤 says (fact 𝓤 ⊥)

  -- put_byte: of a line, by its buffer and its place and a byte, the place where the line goes on, and what is left in its buffer
  abbrev put_byte_shuts_out : List ℕ → ℕ → ℕ → ℕ → List ℕ → Type 1
  put_byte_shuts_out out at byte r left =
      (κs : Lfts 2) → NeverHolds ((put_byte.clauses 𝓛 memory run κs (lent_mut (line_of out at), (byte, tt))
      ).ensures tt tt (lent_mut (line_of left r), (byte, tt)))

  -- the next byte goes right behind
  pub byte_moves_two_places : (left : List ℕ) → put_byte_shuts_out (0 ∷ 0 ∷ []) 0 65 2 left
  unfolding with_byte put_byte
  byte_moves_two_places left κs = fact_mono 𝓤 _ _ (λ h. let z : ◌≡◌ {A = ℕ} 2 _ = ap (λ (l : Line). l.at) h in omega arith)

  -- the byte that is given is stored
  pub another_byte_is_stored : (r : ℕ) → put_byte_shuts_out (0 ∷ 0 ∷ []) 0 65 r (0 ∷ 0 ∷ [])
  unfolding with_byte put_byte
  another_byte_is_stored r κs = fact_mono 𝓤 _ _ (λ h. let z : ◌≡◌ {A = ℕ} 0 _ = ap (λ (l : Line). get_or l.buffer.now 0 0) h in omega arith)

  -- put_word: of a line, by its buffer and its place and a word, the same
  abbrev put_word_shuts_out : List ℕ → ℕ → List ℕ → ℕ → List ℕ → Type 1
  put_word_shuts_out out at word r left =
      (κs : Lfts 3) → NeverHolds ((put_word.clauses 𝓛 memory run κs (lent_mut (line_of out at), (lent word, tt))
      ).ensures tt tt (lent_mut (line_of left r), (lent word, tt)))

  -- the whole word is put, here "abc"
  pub word_from_its_second_byte : (r : ℕ) → put_word_shuts_out (0 ∷ 0 ∷ 0 ∷ []) 0 (97 ∷ 98 ∷ 99 ∷ []) r (98 ∷ 99 ∷ 0 ∷ [])
  unfolding with_text put_byte put_text
  word_from_its_second_byte r κs =
      fact_mono 𝓤 _ _ (λ h. let z : ◌≡◌ {A = ℕ} 98 _ = ap (λ (l : Line). get_or l.buffer.now 0 0) h in omega arith)

  -- each byte goes behind the one before
  pub word_at_one_place : (r : ℕ) → put_word_shuts_out (0 ∷ 0 ∷ 0 ∷ []) 0 (97 ∷ 98 ∷ 99 ∷ []) r (99 ∷ 0 ∷ 0 ∷ [])
  unfolding with_text put_byte put_text
  word_at_one_place r κs = fact_mono 𝓤 _ _ (λ h. let z : ◌≡◌ {A = ℕ} 99 _ = ap (λ (l : Line). get_or l.buffer.now 0 0) h in omega arith)

  -- put_number: of a line, by its buffer and its place and a number, the same
  abbrev put_number_shuts_out : List ℕ → ℕ → ℕ → ℕ → List ℕ → Type 1
  put_number_shuts_out out at number r left =
      (κs : Lfts 2) → NeverHolds ((put_number.clauses 𝓛 memory run κs (lent_mut (line_of out at), (number, tt))
      ).ensures tt tt (lent_mut (line_of left r), (number, tt)))

  -- the number that is given is put
  pub every_number_is_0 : (r : ℕ) → put_number_shuts_out (0 ∷ 0 ∷ []) 0 7 r (48 ∷ 0 ∷ [])
  unfolding with_text put_byte put_text spelled number_text
  every_number_is_0 r κs = fact_mono 𝓤 _ _ (λ h. let z : ◌≡◌ {A = ℕ} 48 _ = ap (λ (l : Line). get_or l.buffer.now 0 0) h in omega arith)

  -- a digit is its ASCII code: 12 is not "13"
  pub last_digit_one_too_high : (r : ℕ) → put_number_shuts_out (0 ∷ 0 ∷ []) 0 12 r (49 ∷ 51 ∷ [])
  unfolding with_text put_byte put_text spelled number_text
  last_digit_one_too_high r κs = fact_mono 𝓤 _ _ (λ h. let z : ◌≡◌ {A = ℕ} 51 _ = ap (λ (l : Line). get_or l.buffer.now 1 0) h in omega arith)

  -- put_numbered: of a line, a word and a number, the same
  abbrev put_numbered_shuts_out : List ℕ → ℕ → List ℕ → ℕ → ℕ → List ℕ → Type 1
  put_numbered_shuts_out out at word number r left =
      (κs : Lfts 3) → NeverHolds ((put_numbered.clauses 𝓛 memory run κs (lent_mut (line_of out at), (lent word, (number, tt)))
      ).ensures tt tt (lent_mut (line_of left r), (lent word, (number, tt))))

  -- the number stands behind the word: not "7a"
  pub number_before_its_word : (r : ℕ) → put_numbered_shuts_out (0 ∷ 0 ∷ []) 0 (97 ∷ []) 7 r (55 ∷ 97 ∷ [])
  unfolding with_text put_byte put_text spelled number_text
  number_before_its_word r κs = fact_mono 𝓤 _ _ (λ h. let z : ◌≡◌ {A = ℕ} 55 _ = ap (λ (l : Line). get_or l.buffer.now 0 0) h in omega arith)

  -- and is put even where the word is empty
  pub empty_word_takes_its_number_along : (left : List ℕ) → put_numbered_shuts_out (0 ∷ []) 0 [] 7 0 left
  unfolding with_text put_byte put_text spelled number_text
  empty_word_takes_its_number_along left κs = fact_mono 𝓤 _ _ (λ h. let z : ◌≡◌ {A = ℕ} 0 _ = ap (λ (l : Line). l.at) h in omega arith)
