-- What `script` tells of a line that names no event (docs/BENCH.md, "script"), and `destination_script` at the other end. Assumes nothing.
use Rattle.std.specs.Prelude.{ℕ, List, ◌++◌}
use Rattle.lines.specs.Lines.{ascii, number_text, new_line}
use Rattle.events.specs.declared.Node.{Node}
use Rattle.event_words.specs.Words.{program_text}
use Rattle.script_words.specs.Words.{what_text}
use Rattle.script_words.specs.declared.What.{What}

-- the program's own name
abbrev pub script_name : Node → List ℕ
script_name node = program_text node (ascii "script")

abbrev pub complaint_start : Node → ℕ → List ℕ
complaint_start node number = script_name node ++ (ascii ": line " ++ (number_text number ++ ascii ": expected "))

abbrev pub complaint_text : Node → ℕ → What → List ℕ
complaint_text node number what = complaint_start node number ++ (what_text what ++ new_line)

abbrev pub too_long_text : Node → ℕ → List ℕ
too_long_text node number =
    complaint_start node number ++ (ascii "at most 4096 octets before a comment or the end of the line" ++ new_line)
