-- What is claimed of a line. Proofs: proofs/Claims.antt. Assumes nothing.
use Rattle.std.specs.Prelude.{ℕ, true, List, [], ◌∷◌, ◌++◌, ◌≡◌}
use Rattle.lines.specs.Lines.{ascii}
use Rattle.signal.specs.declared.Answer.TheVariants.{Done, NotHeld}
use Rattle.signal.specs.declared.Kind.TheVariants.{IncumbentRelease}
use Rattle.signal.specs.declared.SentCause.TheVariants.{Numbered}
use Rattle.signal.specs.declared.Soft.TheVariants.{Symmetric}
use Rattle.signal.specs.Causes.{complete}
use Rattle.signal.specs.Signals.{switch_to, release_of, places}
use Rattle.rows.specs.declared.State.TheVariants.{Idle, Awaiting}
use Rattle.call.specs.declared.Outcome.{Outcome}
use Rattle.trace_line.specs.declared.Columns.TheVariants.{Trace, Watch}
use Rattle.trace_line.specs.Line.{first_line, line_text}

-- a line of its own
abbrev pub line : List ℕ → List ℕ
line text = text ++ (10 ∷ [])

-- The first line is always the same bytes: of the trace as 01, "The trace", prints it, of the watch as docs/BENCH.md does.
abbrev pub FirstLines : Type 0
FirstLines =
    (first_line Trace ≡ line (ascii "line answer state incumbent rerouting number"))
    × (first_line Watch ≡ line (ascii "line answer state incumbent rerouting number last signals"))

-- a refusal with 107 in Awaiting Switchover, state 7, with incumbent 21, rerouting 22, incarnation number 23 and last number 24
abbrev pub all_different : Outcome
all_different =
    record {
      answer = NotHeld;
      call = record { key = 25; hard = true; soft = Symmetric; state = Awaiting 21 22; last = 24; remote = 23 };
      signals = places [];
    }

-- As the twentieth record, in the order of 01, "The trace": record count, answer, state, incumbent, rerouting, incarnation number; and in
-- the watch the last number and the signals behind them.
abbrev pub ColumnsInOrder : Type 0
ColumnsInOrder =
    (line_text Trace 20 all_different ≡ line (ascii "20 107 7 21 22 23"))
    × (line_text Watch 20 all_different ≡ line (ascii "20 107 7 21 22 23 24 -"))

-- what B13 leaves (01, "Bench run, calls by key 7"; 02, Ask 3): Idle (4), record number 6, last number 4; a switch to 4, and a release of 3
-- with #4
abbrev pub after_b13 : Outcome
after_b13 =
    record {
      answer = Done;
      call = record { key = 7; hard = true; soft = Symmetric; state = Idle 4; last = 4; remote = 6 };
      signals = places (switch_to 4 ∷ release_of IncumbentRelease 3 (Numbered complete) ∷ []);
    }

-- B13 as the thirteenth record: its line in the trace, and in the watch.
abbrev pub LinesOfB13 : Type 0
LinesOfB13 =
    (line_text Trace 13 after_b13 ≡ line (ascii "13 0 1 4 0 6"))
    × (line_text Watch 13 after_b13 ≡ line (ascii "13 0 1 4 0 6 4 switch 4, release incumbent 3 #4"))
