-- The claims on a run (specs/Claims), proved. Assumes nothing.
use Rattle.std.specs.Prelude.{None, Option, Some}
use Prim.Native.Nat.{ℕ, zero, suc, ◌+◌, ◌*◌, ◌≤◌}
use native.Mathlib.Omega.{arith}
use mathlib.Core.Path.{◌≡◌, refl, sym, ◌∙◌, ap}
use mathlib.Core.Bool.{Bool, true, false, cond}
use mathlib.Core.List.{List, [], ◌∷◌, ◌++◌, append_assoc, append-nil}
use lib.ListN.{take, drop, replicate}
use lib.Seq.{drop-drop}
use Rattle.distinct.specs.Distinct.{has, distinct_of}
use Rattle.lent.specs.Search.{read_from}
use Rattle.lines.specs.Lines.{number_text, spelled}
use Rattle.call.specs.Events.{half_of}
use Rattle.call.specs.declared.Call.{Call}
use Rattle.call.specs.Record.{emptied}
use Rattle.signal.specs.Numbers.{answer_number}
use Rattle.events.specs.declared.Node.{Node}
use Rattle.call_table.specs.declared.Ran.{Ran}
use Rattle.call_table.specs.Table.{ran_of, table_of}
use Rattle.call_table.specs.Claims.{FitTable, TableClaims}
use Rattle.call_table.proofs.Fit.{fit_exactly}
use Rattle.call.proofs.Ends.{lawful_at}
use Rattle.call_table.proofs.All as any
use Rattle.events.specs.declared.Act.{Act}
use Rattle.event_record.specs.Record.{decoded_at}
use Rattle.trace_line.specs.declared.Columns.{Columns}
use Rattle.trace_line.specs.Line.{first_line, numbers_text, rest_text, line_text}
use Rattle.event_record.specs.Places.{record_at}
use Rattle.trace_run.specs.Run.{Past, begin, after_records, on_request, on_decoded, shown_of, bad_line}
use Rattle.trace_run.specs.Story.{story, destination_story}
use Rattle.trace_run.specs.Claims as claim
use Rattle.trace_run.specs.Claims.{Asked, AfterOne, checked_run, unchecked_run, printed_of}
use Rattle.trace_run.proofs.Empty.{empty_is_fit}
use Rattle.trace_run.proofs.Steps.{still}

pub five_lines : claim.FiveLines
unfolding printed_of first_line line_text numbers_text rest_text number_text spelled on_request record_at shown_of read_from has distinct_of
five_lines = refl

pub story_is_printed : claim.StoryIsPrinted
unfolding story printed_of first_line line_text numbers_text rest_text number_text spelled on_request record_at shown_of read_from has
    distinct_of
story_is_printed = refl

pub destination_story_is_printed : claim.DestinationStoryIsPrinted
unfolding destination_story printed_of first_line line_text numbers_text rest_text number_text spelled on_request record_at shown_of
    read_from has distinct_of
destination_story_is_printed = refl

-- ---- at an end of the call
module _ (node : Node) where
  abbrev table_claims : TableClaims (half_of node)
  table_claims = any.claims (half_of node) (lawful_at node)

  abbrev step_by : Ran → List Call → AfterOne
  step_by d ys = record { answer = answer_number d.done.answer; signals = d.done.signals; table = ys }

  -- over a fit table, and so over every table that is reached from one
  same_run : (asked : List Asked) (ys : List Call) → FitTable ys → checked_run node asked ys ≡ unchecked_run node asked ys
  same_run [] ys f = refl
  same_run (a ∷ more) ys f =
      let e = table_claims.fit_needs_no_check ys a.key a.act ((fit_exactly ys).1 f) in
      ap (λ (l : List AfterOne). step_by (ran_of (half_of node) ys a.key a.act) (table_of (half_of node) ys a.key a.act) ∷ l)
      (same_run more (table_of (half_of node) ys a.key a.act) (table_claims.stays_fit ys a.key a.act f))
      ∙ (λ j. step_by (sym e.0 j) (sym e.1 j) ∷ unchecked_run node more (sym e.1 j))

  no_check : (n : ℕ) → n ≤ 1024 → (asked : List Asked) →
      checked_run node asked (replicate n emptied) ≡ unchecked_run node asked (replicate n emptied)
  no_check n few asked = same_run asked (replicate n emptied) (empty_is_fit n few)

  on_fit : (w : Columns) (p : Past) (key : ℕ) (q : Option Act) → FitTable p.table → FitTable (on_request node w p key q).table
  unfolding on_request
  on_fit w p key None f = f
  on_fit w p key (Some act) f = table_claims.stays_fit p.table key act f

  by_good : (w : Columns) (s : List ℕ) (p : Past) (r : ℕ) (b : Bool) → FitTable (after_records node w s p r).table →
      FitTable
      (cond b (on_decoded node w (after_records node w s p r) (decoded_at node (record_at s (r * 16)))) (after_records node w s p r)).table
  by_good w s p r true f =
      on_fit w (after_records node w s p r) (decoded_at node (record_at s (r * 16))).key (decoded_at node (record_at s (r * 16))).request f
  by_good w s p r false f = f

  run_fit : (w : Columns) (s : List ℕ) (p : Past) (r : ℕ) → FitTable p.table → FitTable (after_records node w s p r).table
  run_fit w s p zero f = f
  run_fit w s p (suc r) f = by_good w s p r (after_records node w s p r).good (run_fit w s p r f)

  -- the record of a chunk is that of the whole
  same_record : (s : List ℕ) (m k : ℕ) → record_at (drop (m * 16) s) (k * 16) ≡ record_at s ((k + m) * 16)
  unfolding record_at
  same_record s m k =
      let e : m * 16 + k * 16 ≡ (k + m) * 16 = omega arith in
      ap (take 16) (drop-drop (k * 16) (m * 16) s ∙ ap (λ (n : ℕ). drop n s) e)

  -- a run with a text in front of what it prints
  abbrev behind : List ℕ → Past → Past
  behind front q = record { table = q.table; text = front ++ q.text; count = q.count; good = q.good }

  on_behind : (w : Columns) (front : List ℕ) (q : Past) (key : ℕ) (x : Option Act) →
      on_request node w (behind front q) key x ≡ behind front (on_request node w q key x)
  unfolding on_request
  on_behind w front q key None = λ i. record { table = q.table; text = append_assoc front q.text bad_line i; count = q.count; good = false }
  on_behind w front q key (Some act) = λ i.
      record {
        table = table_of (half_of node) q.table key act;
        text = append_assoc front q.text (line_text w (q.count + 1) (shown_of node q.table key act)) i;
        count = q.count + 1;
        good = true;
      }

  next_behind : (w : Columns) (front : List ℕ) (q : Past) (os : List ℕ) (b : Bool) →
      cond b (on_decoded node w (behind front q) (decoded_at node os)) (behind front q)
      ≡ behind front (cond b (on_decoded node w q (decoded_at node os)) q)
  next_behind w front q os true = on_behind w front q (decoded_at node os).key (decoded_at node os).request
  next_behind w front q os false = refl

  nothing_yet : (q : Past) → q.good ≡ true → q ≡ behind q.text (begin q.table q.count)
  nothing_yet q g i = record { table = q.table; text = sym (append-nil q.text) i; count = q.count; good = g i }

  chunks : (w : Columns) (s : List ℕ) (p : Past) (m k : ℕ) → (after_records node w s p m).good ≡ true →
      after_records node w s p (k + m)
      ≡ behind (after_records node w s p m).text
      (after_records node w (drop (m * 16) s) (begin (after_records node w s p m).table (after_records node w s p m).count) k)
  chunks w s p m zero g =
      let e : 0 + m ≡ m = omega arith in
      ap (after_records node w s p) e ∙ nothing_yet (after_records node w s p m) g
  chunks w s p m (suc k) g =
      let e : suc k + m ≡ suc (k + m) = omega arith in
      let c : Past =
      after_records node w (drop (m * 16) s) (begin (after_records node w s p m).table (after_records node w s p m).count) k in
      ap (after_records node w s p) e
      ∙ (ap (λ (q : Past). cond q.good (on_decoded node w q (decoded_at node (record_at s ((k + m) * 16)))) q) (chunks w s p m k g)
      ∙ (next_behind w (after_records node w s p m).text c (record_at s ((k + m) * 16)) c.good
      ∙ ap (λ (os : List ℕ). behind (after_records node w s p m).text (cond c.good (on_decoded node w c (decoded_at node os)) c))
      (sym (same_record s m k))))

-- ---- at either
pub no_check_needed : claim.NoCheckNeeded
no_check_needed = no_check

pub stays_fit : claim.RunStaysFit
stays_fit = run_fit

pub bad_ends : claim.BadEnds
bad_ends = still

pub in_chunks : claim.InChunks
in_chunks = chunks
