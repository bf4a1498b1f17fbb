-- Two wrong answers of each public function of streams. Each theorem speaks of the function's contract as the
-- prover makes it from the source: that its `ensures` holds of the wrong answer, with any value where a variable stands,
-- is false. Assumes nothing.
use Prim.Native.Nat.{ℕ, zero, suc}
use native.Mathlib.Omega.{arith}
use mathlib.Core.List.{List, [], ◌∷◌}
use mathlib.Core.Path.{◌≡◌, ap, refl, subst}
use lib.ListN.{get_or, length}
use seplogic.Ra.Ura.{Ura}
use base.Logic.{SProp, ent}
use base.Logic.{sep, via, fst∗, snd∗}
use contract.Lifetimes.{Lfts}
use contract.Monad.{Fun, fact, fact_mono}
use denote.MutBor.{MutBor}
use denote.Param.{number}
use denote.Ref.{Bor}
use denote.RattleType.{RattleType}
use mir.Syntax.{Dict}
use types.Logic.{Logic}
use prog.Memory.{Memory}
use prog.Routine.{Routine}
use Rattle.std.specs.Prelude.{Result, Ok, Err, Some, ◌<◌, ◌≤◌, take}
use Rattle.std.specs.Io.KnownBytes.{Appends, Consumes, IsAtEnd, Keeps}
use Rattle.std.specs.declared.io.traits.Read as Read
use Rattle.std.specs.declared.io.traits.Write as Write
use Rattle.lines.specs.declared.Line.{Line}
use Rattle.streams.specs.declared.Failure.{Failure}
use Rattle.streams.specs.declared.Failure.TheVariants.{Reading, Writing}
use Rattle.streams.specs.Streams.{told_of}
use Rattle.streams.specs.contracts.Failure.told as Failure-told
use Rattle.streams.specs.contracts.read_some as read_some
use Rattle.streams.specs.contracts.read_full as read_full
use Rattle.streams.specs.contracts.write_all as write_all
use Rattle.lines.proofs.Lines.{line_of}
use Rattle.streams.specs.contracts.write_line as write_line
use Rattle.streams.specs.contracts.write_long as write_long
use Rattle.streams.specs.contracts.zeros as zeros

-- something that is lent; where it stands says nothing here
abbrev lent : {X : Type 0} → X → Bor X
lent xs = record { ref_ptr = (0, 0); now = xs }

-- something that is lent to be changed
abbrev lent_mut : {X : Type 0} → X → MutBor X
lent_mut xs = record { ref_ptr = (0, 0); ghost_name = 0; now = xs }

-- the octet 3 is no front of 2 and 3
other_front : (n : ℕ) → ◌≡◌ {A = List ℕ} (3 ∷ []) (take n (2 ∷ 3 ∷ [])) → ⊥
other_front zero e = let z : ◌≡◌ {A = ℕ} 1 0 = ap (λ (xs : List ℕ). length xs) e in omega arith
other_front (suc n) e = let z : ◌≡◌ {A = ℕ} 3 2 = ap (λ (xs : List ℕ). get_or xs 0 0) e in omega arith

module _ {M : Type 1} {𝓤 : Ura M} (𝓛 : Logic 𝓤) (memory : Memory → SProp 𝓤) (run : Routine → Fun 𝓤) where
  -- it is false: the logic proves falsity from it
  abbrev NeverHolds : SProp 𝓤 → Type 1
  NeverHolds says = ent 𝓤 says (fact 𝓤 ⊥)

  -- of two clauses, one that is false is enough
  first_fails : (P Q : Type 0) → (P → ⊥) → NeverHolds (sep 𝓤 (fact 𝓤 P) (fact 𝓤 Q))
  first_fails P Q wrong = via 𝓤 (fact 𝓤 P) (fst∗ 𝓤 (fact 𝓤 P) (fact 𝓤 Q)) (fact_mono 𝓤 P ⊥ wrong)

  second_fails : (P Q : Type 0) → (Q → ⊥) → NeverHolds (sep 𝓤 (fact 𝓤 P) (fact 𝓤 Q))
  second_fails P Q wrong = via 𝓤 (fact 𝓤 Q) (snd∗ 𝓤 (fact 𝓤 P) (fact 𝓤 Q)) (fact_mono 𝓤 Q ⊥ wrong)

  -- Failure::told: of a failure, the octets that are told
  abbrev Failure-told_shuts_out : Failure → List ℕ → Type 1
  Failure-told_shuts_out failure r =
      (κs : Lfts 0) → NeverHolds ((Failure-told.clauses 𝓛 memory run κs (failure, tt)).ensures tt r (failure, tt))

  -- a read is no write
  pub reading_told_as_writing : Failure-told_shuts_out Reading (told_of Writing)
  reading_told_as_writing κs = fact_mono 𝓤 _ _ (λ h.
      let z : ◌≡◌ {A = ℕ} 119 114 = ap (λ (xs : List ℕ). get_or xs 2 0) h in omega arith)

  -- the line ends there
  pub line_goes_on : (r : List ℕ) → get_or r 15 0 ≡ 32 → Failure-told_shuts_out Writing r
  line_goes_on r blank κs = fact_mono 𝓤 _ _ (λ h. let z : ◌≡◌ {A = ℕ} (get_or r 15 0) 10 = ap (λ (xs : List ℕ). get_or xs 15 0) h in omega arith)

  -- zeros: of a number of octets, those answered
  abbrev zeros_shuts_out : RattleType → List ℕ → Type 1
  zeros_shuts_out N r = (κs : Lfts 1) → NeverHolds ((zeros.clauses N 𝓛 memory run κs tt).ensures tt r tt)

  -- its octets are zeros
  pub buffer_begins_with_a_blank : (rest : List ℕ) → zeros_shuts_out (number 4096) (32 ∷ rest)
  buffer_begins_with_a_blank rest κs =
      second_fails _ _ (λ h. let z : ◌≡◌ {A = ℕ} 32 0 = ap (λ (xs : List ℕ). get_or xs 0 0) h in omega arith)

  -- it has room for all that is asked for
  pub buffer_an_octet_short : (r : List ℕ) → 4095 ≡ length r → zeros_shuts_out (number 4096) r
  buffer_an_octet_short r short κs = first_fails _ _ (λ h. omega arith)

  -- so of a large one
  pub large_buffer_begins_with_a_blank : (rest : List ℕ) → zeros_shuts_out (number 65536) (32 ∷ rest)
  large_buffer_begins_with_a_blank rest κs =
      second_fails _ _ (λ h. let z : ◌≡◌ {A = ℕ} 32 0 = ap (λ (xs : List ℕ). get_or xs 0 0) h in omega arith)

  -- it has more room than a smaller one
  pub large_buffer_of_4096_octets : (r : List ℕ) → 4096 ≡ length r → zeros_shuts_out (number 65536) r
  large_buffer_of_4096_octets r short κs = first_fails _ _ (λ h. omega arith)

  -- read_some: of a stream and a buffer, how many octets came, what is left of the stream, and what is left in the buffer
  abbrev read_some_shuts_out : (R : RattleType) → Read.Ghosts R.Denot → Dict → R.Denot → List ℕ → Result ℕ Failure → R.Denot → List ℕ → Type 1
  read_some_shuts_out R reads dict input buf r rest left =
      (κs : Lfts 3) → NeverHolds ((read_some.clauses R reads dict 𝓛 memory run κs (lent_mut input, (lent_mut buf, tt))
      ).ensures tt r (lent_mut rest, (lent_mut left, tt)))

  -- no more octets came than there is room for
  pub one_octet_more_than_there_is_room : (R : RattleType) (reads : Read.Ghosts R.Denot) (dict : Dict) (input rest : R.Denot) (a b : ℕ) →
      read_some_shuts_out R reads dict input (0 ∷ 0 ∷ []) (Ok 3) rest (a ∷ b ∷ [])
  one_octet_more_than_there_is_room R reads dict input rest a b κs = first_fails _ _ (λ h. let z : 3 ≤ 2 = h.0 in omega arith)

  -- what is at the front of the buffer is what is gone from the stream: of 1, 2 and 3, as these are taken, the first is not 7
  pub other_octets_than_the_streams : (R : RattleType) (reads : Read.Ghosts R.Denot) (dict : Dict) (input rest : R.Denot) (b : ℕ) →
      reads.remaining input ≡ Some (1 ∷ 2 ∷ 3 ∷ []) → reads.remaining rest ≡ Some (3 ∷ []) →
      read_some_shuts_out R reads dict input (0 ∷ 0 ∷ []) (Ok 2) rest (7 ∷ b ∷ [])
  other_octets_than_the_streams R reads dict input rest b before after κs = second_fails _ _ (λ h.
      let gone = subst (λ new. Consumes (Some (1 ∷ 2 ∷ 3 ∷ [])) new (7 ∷ b ∷ [])) after
      (subst (λ old. Consumes old (reads.remaining rest) (7 ∷ b ∷ [])) before h.0) in
      let z : ◌≡◌ {A = ℕ} 1 7 = ap (λ (xs : List ℕ). get_or xs 0 0) gone in omega arith)

  -- a read that failed took nothing
  pub failed_read_takes_an_octet : (R : RattleType) (reads : Read.Ghosts R.Denot) (dict : Dict) (input rest : R.Denot) (left : List ℕ)
      (e : Failure) →
      reads.remaining input ≡ Some (1 ∷ 2 ∷ []) → reads.remaining rest ≡ Some (2 ∷ []) →
      read_some_shuts_out R reads dict input (0 ∷ 0 ∷ []) (Err e) rest left
  failed_read_takes_an_octet R reads dict input rest left e before after κs = second_fails _ _ (λ h.
      let kept = subst (λ new. Keeps (Some (1 ∷ 2 ∷ [])) new) after (subst (λ old. Keeps old (reads.remaining rest)) before h.0) in
      let z : ◌≡◌ {A = ℕ} 2 1 = ap (λ (xs : List ℕ). get_or xs 0 0) kept in omega arith)

  -- where there is room, none came only at the end of the stream, and this one has three octets more
  pub none_came_before_the_end : (R : RattleType) (reads : Read.Ghosts R.Denot) (dict : Dict) (input rest : R.Denot) (left : List ℕ) →
      reads.remaining rest ≡ Some (1 ∷ 2 ∷ 3 ∷ []) → length left ≡ 2 → read_some_shuts_out R reads dict input (0 ∷ 0 ∷ []) (Ok 0) rest left
  none_came_before_the_end R reads dict input rest left after room κs = second_fails _ _ (λ h.
      let ended = subst (λ new. IsAtEnd new) after (h.1 refl (omega arith)) in
      let z : ◌≡◌ {A = ℕ} 3 0 = ap (λ (xs : List ℕ). length xs) ended in omega arith)

  -- read_full: the same, but that it answers a number always
  abbrev read_full_shuts_out : (R : RattleType) → Read.Ghosts R.Denot → Dict → R.Denot → List ℕ → ℕ → R.Denot → List ℕ → Type 1
  read_full_shuts_out R reads dict input buf r rest left =
      (κs : Lfts 3) → NeverHolds ((read_full.clauses R reads dict 𝓛 memory run κs (lent_mut input, (lent_mut buf, tt))
      ).ensures tt r (lent_mut rest, (lent_mut left, tt)))

  -- what came is in the buffer
  pub more_octets_than_the_buffer_has : (R : RattleType) (reads : Read.Ghosts R.Denot) (dict : Dict) (input rest : R.Denot) (a b : ℕ) →
      read_full_shuts_out R reads dict input (0 ∷ 0 ∷ []) 3 rest (a ∷ b ∷ [])
  more_octets_than_the_buffer_has R reads dict input rest a b κs = first_fails _ _ (λ h. let z : 3 ≤ 2 = h.0 in omega arith)

  -- all that is gone from the stream is told
  pub octet_gone_and_not_told : (R : RattleType) (reads : Read.Ghosts R.Denot) (dict : Dict) (input rest : R.Denot) (a b : ℕ) →
      reads.remaining input ≡ Some (1 ∷ 2 ∷ 3 ∷ []) → reads.remaining rest ≡ Some (3 ∷ []) →
      read_full_shuts_out R reads dict input (0 ∷ 0 ∷ []) 1 rest (a ∷ b ∷ [])
  octet_gone_and_not_told R reads dict input rest a b before after κs = second_fails _ _ (λ h.
      let gone = subst (λ new. Consumes (Some (1 ∷ 2 ∷ 3 ∷ [])) new (a ∷ [])) after
      (subst (λ old. Consumes old (reads.remaining rest) (a ∷ [])) before h) in
      let z : ◌≡◌ {A = ℕ} 3 2 = ap (λ (xs : List ℕ). length xs) gone in omega arith)

  -- write_all: of a stream and octets, whether all are written, and what is written then
  abbrev write_all_shuts_out : (W : RattleType) → Write.Ghosts W.Denot → Dict → W.Denot → List ℕ → Result Unit Failure → W.Denot → Type 1
  write_all_shuts_out W writes dict output buf r written =
      (κs : Lfts 3) → NeverHolds ((write_all.clauses W writes dict 𝓛 memory run κs (lent_mut output, (lent buf, tt))
      ).ensures tt r (lent_mut written, (lent buf, tt)))

  -- where all is told to be written, all is
  pub last_octet_not_written : (W : RattleType) (writes : Write.Ghosts W.Denot) (dict : Dict) (output written : W.Denot) →
      writes.contents output ≡ Some (1 ∷ []) → writes.contents written ≡ Some (1 ∷ 2 ∷ []) →
      write_all_shuts_out W writes dict output (2 ∷ 3 ∷ []) (Ok tt) written
  last_octet_not_written W writes dict output written before after κs = fact_mono 𝓤 _ _ (λ h.
      let grown = subst (λ new. Appends (Some (1 ∷ [])) new (2 ∷ 3 ∷ [])) after
      (subst (λ old. Appends old (writes.contents written) (2 ∷ 3 ∷ [])) before h) in
      let z : ◌≡◌ {A = ℕ} 2 3 = ap (λ (xs : List ℕ). length xs) grown in omega arith)

  -- of no octets none is left unwritten, so that no write of them fails
  pub write_of_nothing_fails : (W : RattleType) (writes : Write.Ghosts W.Denot) (dict : Dict) (output written : W.Denot) (e : Failure) →
      write_all_shuts_out W writes dict output [] (Err e) written
  write_of_nothing_fails W writes dict output written e κs = fact_mono 𝓤 _ _ (λ h. let z : h.0.0 < 0 = h.0.1 in omega arith)

  -- where a write failed, what had gone before it is the front of what was given
  pub failed_write_leaves_other_octets : (W : RattleType) (writes : Write.Ghosts W.Denot) (dict : Dict) (output written : W.Denot) (e : Failure) →
      writes.contents output ≡ Some [] → writes.contents written ≡ Some (3 ∷ []) →
      write_all_shuts_out W writes dict output (2 ∷ 3 ∷ []) (Err e) written
  failed_write_leaves_other_octets W writes dict output written e before after κs = fact_mono 𝓤 _ _ (λ h.
      let grown = subst (λ new. Appends (Some []) new (take h.0.0 (2 ∷ 3 ∷ []))) after
      (subst (λ old. Appends old (writes.contents written) (take h.0.0 (2 ∷ 3 ∷ []))) before h.0.2) in
      other_front h.0.0 grown)

  -- what failed is told to be what failed
  pub failed_write_told_as_a_read : (W : RattleType) (writes : Write.Ghosts W.Denot) (dict : Dict) (output written : W.Denot) (buf : List ℕ) →
      write_all_shuts_out W writes dict output buf (Err Reading) written
  failed_write_told_as_a_read W writes dict output written buf κs = fact_mono 𝓤 _ _ (λ h. let z : Reading ≡ Writing = h.1 in cc)

  -- write_line: of a stream and a line, by its buffer and its place, whether it is written, and what is written then
  abbrev write_line_shuts_out : (W : RattleType) → Write.Ghosts W.Denot → Dict → W.Denot → List ℕ → ℕ → Result Unit Failure → W.Denot → Type 1
  write_line_shuts_out W writes dict output buf n r written =
      (κs : Lfts 4) → NeverHolds ((write_line.clauses W writes dict 𝓛 memory run κs (lent_mut output, (lent (line_of buf n), tt))
      ).ensures tt r (lent_mut written, (lent (line_of buf n), tt)))

  -- a full buffer may have been cut
  pub full_buffer_is_written : (W : RattleType) (writes : Write.Ghosts W.Denot) (dict : Dict) (output written : W.Denot) →
      write_line_shuts_out W writes dict output (2 ∷ 3 ∷ []) 2 (Ok tt) written
  full_buffer_is_written W writes dict output written κs = fact_mono 𝓤 _ _ (λ h.
      let z : ◌≡◌ {A = Result Unit Failure} (Ok tt) (Err Writing) = (h.1 (omega arith)).0 in cc)

  -- what stands behind a line is not written
  pub octet_behind_a_line_is_written : (W : RattleType) (writes : Write.Ghosts W.Denot) (dict : Dict) (output written : W.Denot) →
      writes.contents output ≡ Some [] → writes.contents written ≡ Some (2 ∷ 3 ∷ []) →
      write_line_shuts_out W writes dict output (2 ∷ 3 ∷ []) 1 (Ok tt) written
  octet_behind_a_line_is_written W writes dict output written before after κs = fact_mono 𝓤 _ _ (λ h.
      let grown = subst (λ new. Appends (Some []) new (2 ∷ [])) after
      (subst (λ old. Appends old (writes.contents written) (2 ∷ [])) before (h.0 (omega arith))) in
      let z : ◌≡◌ {A = ℕ} 2 1 = ap (λ (xs : List ℕ). length xs) grown in omega arith)

  -- write_long: of a stream, a line and a limit, whether it went well, what is written then, and the line that is left
  abbrev write_long_shuts_out : (W : RattleType) → Write.Ghosts W.Denot → Dict → W.Denot → Line → ℕ → Result Unit Failure → W.Denot → Line → Type 1
  write_long_shuts_out W writes dict output line limit r written left =
      (κs : Lfts 4) → NeverHolds ((write_long.clauses W writes dict 𝓛 memory run κs (lent_mut output, (lent_mut line, (limit, tt)))
      ).ensures tt r (lent_mut written, (lent_mut left, (limit, tt))))

  -- a line as long as the limit waits for more
  pub line_as_long_as_the_limit_is_written : (W : RattleType) (writes : Write.Ghosts W.Denot) (dict : Dict) (output written : W.Denot)
      (left : Line) →
      writes.contents output ≡ Some [] → writes.contents written ≡ Some (2 ∷ []) →
      write_long_shuts_out W writes dict output (line_of (2 ∷ 3 ∷ []) 1) 1 (Ok tt) written left
  line_as_long_as_the_limit_is_written W writes dict output written left before after κs = fact_mono 𝓤 _ _ (λ h.
      let kept = subst (λ new. Keeps (Some []) new) after (subst (λ old. Keeps old (writes.contents written)) before (h.1 (omega arith)).1) in
      let z : ◌≡◌ {A = ℕ} 1 0 = ap (λ (xs : List ℕ). length xs) kept in omega arith)

  -- a line that is written begins anew
  pub written_line_goes_on : (W : RattleType) (writes : Write.Ghosts W.Denot) (dict : Dict) (output written : W.Denot) (left : List ℕ) →
      write_long_shuts_out W writes dict output (line_of (2 ∷ 3 ∷ []) 1) 0 (Ok tt) written (line_of left 1)
  written_line_goes_on W writes dict output written left κs = fact_mono 𝓤 _ _ (λ h.
      let z : ◌≡◌ {A = ℕ} 1 0 = ap (λ (l : Line). l.at) (h.0 (omega arith)).1 in omega arith)
