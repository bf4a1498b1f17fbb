-- What a run of the trace prints (01, "The trace"): event records of 16 octets each, over a table of calls. Each is one opening or event by
-- key, as `call_table::handle` does it at an end of the call: `ran_of` and `table_of` are the two that its contract fixes. Assumes nothing.
use Rattle.std.specs.Prelude.{ℕ, zero, suc, ◌+◌, ◌*◌, ◌/◌, Bool, true, false, cond, List, [], ◌∷◌, ◌++◌, length, None, Option, Some}
use Rattle.lines.specs.Lines.{ascii}
use Rattle.call.specs.Events.{half_of}
use Rattle.call.specs.declared.Call.{Call}
use Rattle.call.specs.declared.Outcome.{Outcome}
use Rattle.events.specs.declared.Act.{Act}
use Rattle.events.specs.declared.Node.{Node}
use Rattle.call_table.specs.Claims.{call_of}
use Rattle.call_table.specs.Table.{ran_of, table_of}
use Rattle.event_record.specs.declared.Decoded.{Decoded}
use Rattle.event_record.specs.Places.{record_at}
use Rattle.event_record.specs.Record.{decoded_at}
use Rattle.trace_line.specs.declared.Columns.{Columns}
use Rattle.trace_line.specs.Line.{line_text}

-- how far a run has come: the table, what has been printed, the count of records, and whether none of them was bad
pub record Past : Type 0 where
  pub table : List Call
  pub text : List ℕ
  pub count : ℕ
  pub good : Bool

-- at the start of a chunk nothing has been printed of it
abbrev pub begin : List Call → ℕ → Past
begin ys n = record { table = ys; text = []; count = n; good = true }

-- `bad` on a line of its own; nothing is done, and nothing is counted
abbrev pub bad_line : List ℕ
bad_line = ascii "bad" ++ (10 ∷ [])

module _ (node : Node) where
  -- what a line shows: the answer and the signals of the event, and the call of its key after it (decision 25)
  unfoldable pub shown_of : List Call → ℕ → Act → Outcome
  shown_of ys key act =
      record {
        answer = (ran_of (half_of node) ys key act).done.answer;
        call = call_of key (table_of (half_of node) ys key act);
        signals = (ran_of (half_of node) ys key act).done.signals;
      }

  -- a record that has been read
  unfoldable pub on_request : Columns → Past → ℕ → Option Act → Past
  on_request w p key None = record { table = p.table; text = p.text ++ bad_line; count = p.count; good = false }
  on_request w p key (Some act) =
      record {
        table = table_of (half_of node) p.table key act;
        text = p.text ++ line_text w (p.count + 1) (shown_of p.table key act);
        count = p.count + 1;
        good = true;
      }

  abbrev pub on_decoded : Columns → Past → Decoded → Past
  on_decoded w p d = on_request w p d.key d.request

  -- after so many records of the input; behind a bad one nothing is read
  abbrev pub after_records : Columns → List ℕ → Past → ℕ → Past
  after_records w octets p zero = p
  after_records w octets p (suc r) =
      cond (after_records w octets p r).good
      (on_decoded w (after_records w octets p r) (decoded_at node (record_at octets (r * 16))))
      (after_records w octets p r)

  -- all whole records of a chunk, from a table and a count on
  abbrev pub chunk_of : Columns → List ℕ → List Call → ℕ → Past
  chunk_of w octets ys n = after_records w octets (begin ys n) (length octets / 16)
