-- Two wrong answers of each public function of trace_run. Each theorem speaks of the function's contract as the
-- prover makes it from the source: that its `ensures` holds of the wrong answer, with any value where a variable stands,
-- is false. Assumes nothing.
use Prim.Native.Nat.{ℕ}
use native.Mathlib.Omega.{arith}
use mathlib.Core.Bool.{Bool, cond, true}
use mathlib.Core.List.{List, [], ◌∷◌, ◌++◌}
use mathlib.Core.Path.{◌≡◌, ap}
use lib.ListN.{get_or, replicate}
use seplogic.Ra.Ura.{Ura}
use base.Logic.{SProp, ent}
use contract.Lifetimes.{Lfts}
use contract.Monad.{Fun, fact, fact_mono}
use denote.MutBor.{MutBor}
use denote.Ref.{Bor}
use types.Logic.{Logic}
use prog.Memory.{Memory}
use prog.Routine.{Routine}
use Rattle.call.specs.Record.{emptied}
use Rattle.call.specs.declared.Call.{Call}
use Rattle.distinct.specs.Distinct.{has, distinct_of}
use Rattle.event_record.specs.Places.{record_at}
use Rattle.lent.specs.Search.{read_from}
use Rattle.lines.specs.Lines.{Page, ascii, put_byte, put_text, spelled, number_text}
use Rattle.trace_line.specs.Claims.{line}
use Rattle.trace_line.specs.Line.{numbers_text, rest_text, line_text}
use Rattle.trace_line.specs.declared.Columns.TheVariants.{Trace}
use Rattle.trace_line.specs.declared.Columns.{Columns}
use Rattle.events.specs.declared.Node.{Node}
use Rattle.events.specs.declared.Node.TheVariants.{Source, Destination}
use Rattle.trace_run.specs.Run.{on_request, shown_of}
use Rattle.trace_run.specs.declared.Stop.{Stop}
use Rattle.trace_run.specs.contracts.run as the_run

-- something that is lent; where it stands says nothing here
abbrev lent : {X : Type 0} → X → Bor X
lent xs = record { ref_ptr = (0, 0); now = xs }

-- something that is lent to be changed
abbrev lent_mut : {X : Type 0} → X → MutBor X
lent_mut xs = record { ref_ptr = (0, 0); ghost_name = 0; now = xs }

-- a record that is a kind, a key below 256, and no more
abbrev plain : ℕ → ℕ → List ℕ
plain kind key = kind ∷ 0 ∷ 0 ∷ 0 ∷ 0 ∷ 0 ∷ 0 ∷ key ∷ 0 ∷ 0 ∷ 0 ∷ 0 ∷ 0 ∷ 0 ∷ 0 ∷ 0 ∷ []

-- 64 empty records
abbrev empty : List Call
empty = replicate 64 emptied

module _ {M : Type 1} {𝓤 : Ura M} (𝓛 : Logic 𝓤) (memory : Memory → SProp 𝓤) (run : Routine → Fun 𝓤) where
  -- it is false: the logic proves falsity from it
  abbrev NeverHolds : SProp 𝓤 → Type 1
  NeverHolds says = ent 𝓤 says (fact 𝓤 ⊥)

  -- run: of an end, a table, octets, a buffer, the columns and a count, how far the run has come, and what is left in the buffer
  abbrev run_at_shuts_out : Node → List Call → List ℕ → List ℕ → Columns → ℕ → Stop → List ℕ → Type 1
  run_at_shuts_out node table input out columns start r left =
      (κs : Lfts 2) → NeverHolds ((the_run.clauses 𝓛 memory run κs (node, (table, (lent input, (lent_mut out, (columns, (start, tt))))))
      ).ensures tt r (node, (table, (lent input, (lent_mut left, (columns, (start, tt)))))))

  abbrev run_shuts_out : List Call → List ℕ → List ℕ → Columns → ℕ → Stop → List ℕ → Type 1
  run_shuts_out table input out columns start r left = run_at_shuts_out Source table input out columns start r left

  -- 01, "The trace": each line has the record count, from 1
  pub records_counted_by_two :
      (after : List Call) (at : ℕ) (good : Bool) (left : List ℕ) →
      run_shuts_out empty (plain 0 7) [] Trace 0 (record { table = after; at = at; count = 2; good = good }) left
  unfolding numbers_text rest_text line_text on_request record_at shown_of read_from has distinct_of
  records_counted_by_two after at good left κs = fact_mono 𝓤 _ _ (λ h. let z : ◌≡◌ {A = ℕ} 2 _ = h.1.0 in omega arith)

  -- a bad record ends the run: there is no kind 10
  pub run_goes_on_behind_a_bad_record :
      (after : List Call) (at count : ℕ) (left : List ℕ) →
      run_shuts_out empty (plain 10 7) [] Trace 0 (record { table = after; at = at; count = count; good = true }) left
  unfolding numbers_text rest_text line_text on_request record_at shown_of read_from has distinct_of
  run_goes_on_behind_a_bad_record after at count left κs =
      fact_mono 𝓤 _ _ (λ h. let z : ◌≡◌ {A = ℕ} 1 _ = ap (λ (b : Bool). cond b 1 0) h.1.1.0 in omega arith)

  -- and prints `bad`
  pub bad_told_in_capitals : (r : Stop) → run_shuts_out empty (plain 10 7) (replicate 4 0) Trace 0 r (line (ascii "BAD"))
  unfolding put_byte put_text numbers_text rest_text line_text on_request record_at shown_of read_from has distinct_of
  bad_told_in_capitals r κs =
      fact_mono 𝓤 _ _ (λ h. let z : ◌≡◌ {A = ℕ} 66 _ = ap (λ (p : Page). get_or p.bytes 0 0) h.1.1.1.0 in omega arith)

  -- an opening takes the lowest empty record
  pub opening_finds_no_empty_record :
      (at count : ℕ) (good : Bool) (left : List ℕ) →
      run_shuts_out empty (plain 0 7) [] Trace 0 (record { table = empty; at = at; count = count; good = good }) left
  unfolding numbers_text rest_text line_text on_request record_at shown_of read_from has distinct_of
  opening_finds_no_empty_record at count good left κs =
      fact_mono 𝓤 _ _ (λ h. let z : ◌≡◌ {A = ℕ} 0 _ = ap (λ (ys : List Call). (get_or ys 0 emptied).key) h.0 in omega arith)

  -- a call that ended is not on record, and its key is not found again: an opening, its release, and a trigger behind them are 0, 0 and
  -- 105
  pub key_of_an_ended_call_still_found :
      (r : Stop) →
      run_shuts_out empty (plain 0 7 ++ (plain 6 7 ++ plain 1 7)) (replicate 38 0) Trace 0 r
      (line (ascii "1 0 1 1 0 0") ++ (line (ascii "2 0 0 0 0 0") ++ line (ascii "3 106 0 0 0 0")))
  unfolding put_byte put_text spelled number_text numbers_text rest_text line_text on_request record_at shown_of read_from has distinct_of
  key_of_an_ended_call_still_found r κs =
      fact_mono 𝓤 _ _ (λ h. let z : ◌≡◌ {A = ℕ} 54 _ = ap (λ (p : Page). get_or p.bytes 28 0) h.1.1.1.0 in omega arith)

  -- the destination takes a setup for an immediate switchover without symmetric soft too, and is in Hard Initiated; the source answers 106
  pub destination_answers_as_the_source :
      (r : Stop) →
      run_at_shuts_out Destination empty (plain 0 7 ++ (5 ∷ 0 ∷ 0 ∷ 0 ∷ 0 ∷ 0 ∷ 0 ∷ 7 ∷ 0 ∷ 0 ∷ 0 ∷ 3 ∷ 0 ∷ 0 ∷ 0 ∷ 0 ∷ []))
      (replicate 26 0) Trace 0 r
      (line (ascii "1 0 1 1 0 0") ++ line (ascii "2 106 1 1 0 0"))
  unfolding put_byte put_text spelled number_text numbers_text rest_text line_text on_request record_at shown_of read_from has distinct_of
  destination_answers_as_the_source r κs =
      fact_mono 𝓤 _ _ (λ h. let z : ◌≡◌ {A = ℕ} 49 _ = ap (λ (p : Page). get_or p.bytes 14 0) h.1.1.1.0 in omega arith)
