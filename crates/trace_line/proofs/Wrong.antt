-- Two wrong answers of each public function of trace_line. Each theorem speaks of the function's contract as the
-- prover makes it from the source: that its `ensures` holds of the wrong answer, with any value where a variable stands,
-- is false. Assumes nothing.
use Prim.Native.Nat.{ℕ}
use native.Mathlib.Omega.{arith}
use mathlib.Core.List.{List}
use mathlib.Core.Path.{◌≡◌, ap}
use lib.ListN.{get_or, replicate}
use seplogic.Ra.Ura.{Ura}
use base.Logic.{SProp, ent}
use contract.Lifetimes.{Lfts}
use contract.Monad.{Fun, fact, fact_mono}
use denote.MutBor.{MutBor}
use types.Logic.{Logic}
use prog.Memory.{Memory}
use prog.Routine.{Routine}
use Rattle.call.specs.declared.Outcome.{Outcome}
use Rattle.lines.specs.Line.{with_text}
use Rattle.lines.specs.declared.Line.{Line}
use Rattle.lines.proofs.Lines.{line_of}
use Rattle.lines.specs.Lines.{ascii, put_byte, put_text, spelled, number_text}
use Rattle.trace_line.specs.Claims.{line, after_b13, all_different}
use Rattle.trace_line.specs.Line.{first_line, numbers_text, rest_text, line_text}
use Rattle.trace_line.specs.declared.Columns.TheVariants.{Trace, Watch}
use Rattle.trace_line.specs.declared.Columns.{Columns}
use Rattle.trace_line.specs.contracts.put_first_line as put_first_line
use Rattle.trace_line.specs.contracts.put_line as put_line

-- something that is lent to be changed; where it stands says nothing here
abbrev lent_mut : {X : Type 0} → X → MutBor X
lent_mut xs = record { ref_ptr = (0, 0); ghost_name = 0; now = xs }

module _ {M : Type 1} {𝓤 : Ura M} (𝓛 : Logic 𝓤) (memory : Memory → SProp 𝓤) (run : Routine → Fun 𝓤) where
  -- it is false: the logic proves falsity from it
  abbrev NeverHolds : SProp 𝓤 → Type 1
  NeverHolds says = ent 𝓤 says (fact 𝓤 ⊥)

  -- put_first_line: of a line, by its buffer and its place and the columns, the place where the line goes on, and what is left in its buffer
  abbrev put_first_line_shuts_out : List ℕ → ℕ → Columns → ℕ → List ℕ → Type 1
  put_first_line_shuts_out out at columns r left =
      (κs : Lfts 2) → NeverHolds ((put_first_line.clauses 𝓛 memory run κs (lent_mut (line_of out at), (columns, tt))
      ).ensures tt tt (lent_mut (line_of left r), (columns, tt)))

  -- 01, "The trace": the first line is always those fixed bytes
  pub first_line_names_another_column :
      (r : ℕ) →
      put_first_line_shuts_out (replicate 46 0) 0 Trace r (line (ascii "line answer state incumbent rerouting numbers"))
  unfolding with_text put_byte put_text first_line
  first_line_names_another_column r κs =
      fact_mono 𝓤 _ _ (λ h. let z : ◌≡◌ {A = ℕ} 115 _ = ap (λ (l : Line). get_or l.buffer.now 44 0) h in omega arith)

  -- the watch shows the signals too (docs/BENCH.md)
  pub watch_names_no_signals :
      (r : ℕ) →
      put_first_line_shuts_out (replicate 50 0) 0 Watch r (line (ascii "line answer state incumbent rerouting number last"))
  unfolding with_text put_byte put_text first_line
  watch_names_no_signals r κs = fact_mono 𝓤 _ _ (λ h. let z : ◌≡◌ {A = ℕ} 10 _ = ap (λ (l : Line). get_or l.buffer.now 49 0) h in omega arith)

  -- put_line: of a line, by its buffer and its place, the columns, a count and an outcome, the same; here of one whose numbers all differ
  abbrev put_line_shuts_out : List ℕ → ℕ → Columns → ℕ → Outcome → ℕ → List ℕ → Type 1
  put_line_shuts_out out at columns count outcome r left =
      (κs : Lfts 2) → NeverHolds ((put_line.clauses 𝓛 memory run κs (lent_mut (line_of out at), (columns, (count, (outcome, tt))))
      ).ensures tt tt (lent_mut (line_of left r), (columns, (count, (outcome, tt)))))

  -- 01, "The trace": the incumbent stands before the rerouting connection
  pub rerouting_before_incumbent :
      (r : ℕ) →
      put_line_shuts_out (replicate 18 0) 0 Trace 20 all_different r (line (ascii "20 107 7 22 21 23"))
  unfolding with_text put_byte put_text spelled number_text numbers_text rest_text line_text
  rerouting_before_incumbent r κs =
      fact_mono 𝓤 _ _ (λ h. let z : ◌≡◌ {A = ℕ} 50 _ = ap (λ (l : Line). get_or l.buffer.now 10 0) h in omega arith)

  -- a blank parts the last number from the signals (B13, as docs/BENCH.md has it)
  pub watch_parts_the_signals_by_a_dash :
      (r : ℕ) →
      put_line_shuts_out (replicate 48 0) 0 Watch 13 after_b13 r (line (ascii "13 0 1 4 0 5 4-switch 4, release incumbent 3 #4"))
  unfolding with_text put_byte put_text spelled number_text numbers_text rest_text line_text
  watch_parts_the_signals_by_a_dash r κs =
      fact_mono 𝓤 _ _ (λ h. let z : ◌≡◌ {A = ℕ} 45 _ = ap (λ (l : Line). get_or l.buffer.now 14 0) h in omega arith)

  -- the seventh number of the watch is the last connection number given
  pub watch_shows_the_key_for_the_last_number :
      (r : ℕ) →
      put_line_shuts_out (replicate 23 0) 0 Watch 20 all_different r (line (ascii "20 107 7 21 22 23 25 -"))
  unfolding with_text put_byte put_text spelled number_text numbers_text rest_text line_text
  watch_shows_the_key_for_the_last_number r κs =
      fact_mono 𝓤 _ _ (λ h. let z : ◌≡◌ {A = ℕ} 53 _ = ap (λ (l : Line). get_or l.buffer.now 19 0) h in omega arith)
