-- What is claimed of a line of a script, in terms that do not follow the parser. Proofs: proofs/Claims.antt. Assumes nothing.
use Rattle.std.specs.Prelude.{ℕ, ◌≡◌, true, List, [], ◌∷◌, ◌++◌, Some, Ok}
use Rattle.lines.specs.Lines.{ascii}
use Rattle.line_reader.specs.Words.{is_blank}
use Rattle.events.specs.declared.Act.{Act}
use Rattle.events.specs.declared.Node.{Node}
use Rattle.event_record.specs.Record.{decoded_at}
use Rattle.event_record.specs.Encoded.{written_at}
use Rattle.event_record.specs.Claims.{Fits}
use Rattle.event_words.specs.Words.{event_text}
use Rattle.script_line.specs.Script.{parsed_of}

-- The line that tells an event at an end is read there as that event (docs/BENCH.md, "list"), and the record that is written of it decodes
-- to it again.
abbrev pub RoundTrip : Type 0
RoundTrip =
    (node : Node) (key : ℕ) (act : Act) → Fits key act →
    (parsed_of node (event_text node key act) ≡ Ok (Some (key, act)))
    × (decoded_at node (written_at node key act) ≡ record { key = key; request = Some act })

-- Whatever a line is read as, its numbers have a place in a record, and the record that is written of it decodes to the same key and event.
abbrev pub WrittenAsRead : Type 0
WrittenAsRead =
    (node : Node) (line : List ℕ) (key : ℕ) (act : Act) → parsed_of node line ≡ Ok (Some (key, act)) →
    Fits key act × (decoded_at node (written_at node key act) ≡ record { key = key; request = Some act })

-- A comment changes nothing: a line is read as it is without one, so that its comment need not be kept.
abbrev pub CommentsAreNotRead : Type 0
CommentsAreNotRead = (node : Node) (line comment : List ℕ) → parsed_of node (line ++ (35 ∷ comment)) ≡ parsed_of node line

-- Nor does a blank behind all else, such as the carriage return of a line that ends in CR LF.
abbrev pub BlanksBehindAreNotRead : Type 0
BlanksBehindAreNotRead = (node : Node) (line : List ℕ) (b : ℕ) → is_blank b ≡ true → parsed_of node (line ++ (b ∷ [])) ≡ parsed_of node line

-- So what `list` prints is read as the event that it tells, whatever count stands in its comment.
abbrev pub ListedIsRead : Type 0
ListedIsRead =
    (node : Node) (key : ℕ) (act : Act) (comment : List ℕ) → Fits key act →
    parsed_of node (event_text node key act ++ (ascii "  #" ++ comment)) ≡ Ok (Some (key, act))
