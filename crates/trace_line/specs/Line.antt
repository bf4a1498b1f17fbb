-- The lines of the trace (01, "The trace"), and of the watch, which shows two columns more. Assumes nothing.
use Rattle.std.specs.Prelude.{ℕ, List, [], ◌∷◌, ◌++◌}
use Rattle.lines.specs.Lines.{ascii, number_text, new_line}
use Rattle.signal.specs.declared.Answer.{Answer}
use Rattle.signal.specs.Numbers.{answer_number}
use Rattle.signal_words.specs.Words.{signals_text}
use Rattle.rows.specs.declared.State.{State}
use Rattle.rows.specs.States.{state_number, incumbent_of, rerouting_of}
use Rattle.call.specs.declared.Outcome.{Outcome}
use Rattle.trace_line.specs.declared.Columns.{Columns}
use Rattle.trace_line.specs.declared.Columns.TheVariants.{Trace, Watch}

-- a number with the blank behind it, and one that ends its line
abbrev pub field_text : ℕ → List ℕ
field_text n = number_text n ++ (32 ∷ [])

abbrev pub last_text : ℕ → List ℕ
last_text n = number_text n ++ new_line

-- "The first line is always those fixed bytes"
unfoldable pub first_line : Columns → List ℕ
first_line Trace = ascii "line answer state incumbent rerouting number" ++ new_line
first_line Watch = ascii "line answer state incumbent rerouting number last signals" ++ new_line

-- "answer, state, incumbent, rerouting": 0 for a connection that the state does not hold
unfoldable pub numbers_text : Answer → State → List ℕ
numbers_text a s =
    field_text (answer_number a)
    ++ (field_text (state_number s) ++ (field_text (incumbent_of s) ++ field_text (rerouting_of s)))

-- the incarnation number; in the watch also the last number given, and the signals
unfoldable pub rest_text : Columns → Outcome → List ℕ
rest_text Trace o = last_text o.call.remote
rest_text Watch o = field_text o.call.remote ++ (field_text o.call.last ++ (signals_text o.signals ++ new_line))

-- the line of a record: its count from 1, and the outcome with the call that is shown
unfoldable pub line_text : Columns → ℕ → Outcome → List ℕ
line_text w n o = field_text n ++ (numbers_text o.answer o.call.state ++ rest_text w o)
