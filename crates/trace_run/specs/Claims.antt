-- What is claimed of a run, for a reader who does not want to follow it record by record. Proofs: proofs/Claims.antt. Assumes nothing.
use Rattle.std.specs.Prelude.{ℕ, ◌+◌, ◌*◌, ◌%◌, ◌≤◌, true, false, ◌&&◌, not, cond, List, [], ◌∷◌, ◌++◌, ◌≡◌, eqb, length, drop, replicate}
use Rattle.lines.specs.Lines.{ascii}
use Rattle.signal.specs.declared.Signal.{Signal}
use Rattle.signal.specs.Numbers.{answer_number}
use Rattle.call.specs.Events.{half_of}
use Rattle.call.specs.declared.Call.{Call}
use Rattle.call.specs.Record.{emptied}
use Rattle.events.specs.declared.Act.{Act}
use Rattle.events.specs.declared.Node.{Node}
use Rattle.events.specs.declared.Node.TheVariants.{Source, Destination}
use Rattle.call_table.specs.Table.{ran_of, table_of, ran_fit_of, table_fit_of}
use Rattle.call_table.specs.Claims.{FitTable}
use Rattle.trace_line.specs.declared.Columns.{Columns}
use Rattle.trace_line.specs.declared.Columns.TheVariants.{Trace, Watch}
use Rattle.trace_line.specs.Line.{first_line}
use Rattle.trace_line.specs.Claims.{line}
use Rattle.trace_run.specs.Run.{Past, begin, after_records, chunk_of, bad_line}
use Rattle.trace_run.specs.Story.{octets_of, lines_of, story, destination_story}

-- a run over all of the input, from 64 empty records
abbrev pub whole_run : Node → Columns → List ℕ → Past
whole_run node w octets = chunk_of node w octets (replicate 64 emptied) 0

-- all that is printed of an input: the first line, the lines of the run, and `bad` for a last record that is cut short
unfoldable pub printed_of : Node → Columns → List ℕ → List ℕ
printed_of node w octets =
    first_line w ++ ((whole_run node w octets).text
    ++ cond ((whole_run node w octets).good && not (eqb (length octets % 16) 0)) bad_line [])

-- B1 to B4 as records: open key 7 with hard and symmetric soft, setup with clearing and number 3, ready, the setup again
abbrev pub first_four : List ℕ
first_four =
    0 ∷ 1 ∷ 1 ∷ 2 ∷ 0 ∷ 0 ∷ 0 ∷ 7 ∷ 0 ∷ 0 ∷ 0 ∷ 0 ∷ 0 ∷ 0 ∷ 0 ∷ 0
    ∷ 5 ∷ 1 ∷ 0 ∷ 0 ∷ 0 ∷ 0 ∷ 0 ∷ 7 ∷ 0 ∷ 0 ∷ 0 ∷ 3 ∷ 0 ∷ 0 ∷ 0 ∷ 0
    ∷ 8 ∷ 0 ∷ 0 ∷ 0 ∷ 0 ∷ 0 ∷ 0 ∷ 7 ∷ 0 ∷ 0 ∷ 0 ∷ 0 ∷ 0 ∷ 0 ∷ 0 ∷ 0
    ∷ 5 ∷ 1 ∷ 0 ∷ 0 ∷ 0 ∷ 0 ∷ 0 ∷ 7 ∷ 0 ∷ 0 ∷ 0 ∷ 3 ∷ 0 ∷ 0 ∷ 0 ∷ 0
    ∷ []

-- 01, "The trace": B1 to B4 print exactly five lines.
abbrev pub FiveLines : Type 0
FiveLines =
    printed_of Source Trace first_four
    ≡ line (ascii "line answer state incumbent rerouting number")
    ++ (line (ascii "1 0 1 1 0 0") ++ (line (ascii "2 0 6 1 2 3") ++ (line (ascii "3 0 7 1 2 3") ++ line (ascii "4 0 7 1 2 3"))))

-- 01, "The trace", from octets to bytes: of the story the watch prints its first line, a line for each record, and `bad`.
abbrev pub StoryIsPrinted : Type 0
StoryIsPrinted =
    printed_of Source Watch (octets_of story) ≡ line (ascii "line answer state incumbent rerouting number last signals") ++ lines_of story

-- 02, Ask 2: so of the destination's bench run, at that end; its records say nowhere which end they are for (decision 76).
abbrev pub DestinationStoryIsPrinted : Type 0
DestinationStoryIsPrinted =
    printed_of Destination Watch (octets_of destination_story)
    ≡ line (ascii "line answer state incumbent rerouting number last signals") ++ lines_of destination_story

-- what an opening or event leaves: the answer's number, the signals, and the whole table
pub record AfterOne : Type 0 where
  pub answer : ℕ
  pub signals : List Signal
  pub table : List Call

-- an opening or event, with its key
pub record Asked : Type 0 where
  pub key : ℕ
  pub act : Act

-- one after the other, through the entry that checks the table first, and through the one that does not
abbrev pub checked_run : Node → List Asked → List Call → List AfterOne
checked_run node [] ys = []
checked_run node (a ∷ more) ys =
    record {
      answer = answer_number (ran_of (half_of node) ys a.key a.act).done.answer;
      signals = (ran_of (half_of node) ys a.key a.act).done.signals;
      table = table_of (half_of node) ys a.key a.act;
    }
    ∷ checked_run node more (table_of (half_of node) ys a.key a.act)

abbrev pub unchecked_run : Node → List Asked → List Call → List AfterOne
unchecked_run node [] ys = []
unchecked_run node (a ∷ more) ys =
    record {
      answer = answer_number (ran_fit_of (half_of node) ys a.key a.act).done.answer;
      signals = (ran_fit_of (half_of node) ys a.key a.act).done.signals;
      table = table_fit_of (half_of node) ys a.key a.act;
    }
    ∷ unchecked_run node more (table_fit_of (half_of node) ys a.key a.act)

-- Demand 1, 01, 101: from an empty table the check for 101 decides nothing, over any sequence of openings and events: answers, signals and
-- tables are the same without it.
abbrev pub NoCheckNeeded : Type 0
NoCheckNeeded =
    (node : Node) (n : ℕ) → n ≤ 1024 → (asked : List Asked) →
    checked_run node asked (replicate n emptied) ≡ unchecked_run node asked (replicate n emptied)

-- Whatever records come, the table of a run stays fit.
abbrev pub RunStaysFit : Type 0
RunStaysFit =
    (node : Node) (w : Columns) (octets : List ℕ) (p : Past) (r : ℕ) →
    FitTable p.table → FitTable (after_records node w octets p r).table

-- Decision 24: behind a bad record nothing is read.
abbrev pub BadEnds : Type 0
BadEnds =
    (node : Node) (w : Columns) (octets : List ℕ) (p : Past) (r k : ℕ) →
    (after_records node w octets p r).good ≡ false → after_records node w octets p (k + r) ≡ after_records node w octets p r

-- It makes no difference where the input is cut into chunks, as long as it is between two records: the run goes on from the table and the
-- count where it stood, and the lines stand one behind the other.
abbrev pub InChunks : Type 0
InChunks =
    (node : Node) (w : Columns) (octets : List ℕ) (p : Past) (m k : ℕ) → (after_records node w octets p m).good ≡ true →
    let past = after_records node w octets p m in
    let chunk = after_records node w (drop (m * 16) octets) (begin past.table past.count) k in
    after_records node w octets p (k + m)
    ≡ record {
      table = chunk.table;
      text = past.text ++ chunk.text;
      count = chunk.count;
      good = chunk.good;
    }
