-- What `list` prints (docs/BENCH.md, "list"), and `destination_list` at the other end. Assumes nothing.
use Rattle.std.specs.Prelude.{ℕ, List, ◌++◌, Option}
use Rattle.lines.specs.Lines.{ascii, number_text, new_line}
use Rattle.events.specs.declared.Node.{Node}
use Rattle.events.specs.declared.Act.{Act}
use Rattle.event_fault.specs.Words.{fault_text}
use Rattle.event_fault.specs.declared.Fault.{Fault}
use Rattle.event_words.specs.Words.{event_text, program_text}

-- the record with this count: its line of `script`, two blanks, and the count as a comment
abbrev pub listed_text : Node → ℕ → ℕ → Act → List ℕ
listed_text node count key act = event_text node key act ++ (ascii "  # " ++ (number_text count ++ new_line))

-- the program's own name
abbrev pub list_name : Node → List ℕ
list_name node = program_text node (ascii "list")

abbrev pub record_text : Node → ℕ → List ℕ
record_text node count = list_name node ++ (ascii ": record " ++ (number_text count ++ ascii ": "))

-- what is told of a bad record, and of one that is cut short
abbrev pub bad_record_text : Node → ℕ → Option Fault → List ℕ
bad_record_text node count fault = record_text node count ++ (fault_text fault ++ new_line)

abbrev pub short_record_text : Node → ℕ → ℕ → List ℕ
short_record_text node count came =
    record_text node count ++ (ascii "byte " ++ (number_text came ++ (ascii " is missing, expected 16 bytes" ++ new_line)))
