-- A fault in words (docs/BENCH.md, "list"). Assumes nothing.
use Rattle.std.specs.Prelude.{ℕ, List, [], ◌++◌, Option, Some, None}
use Rattle.lines.specs.Lines.{ascii, number_text}
use Rattle.event_fault.specs.declared.Expected.{Expected}
use Rattle.event_fault.specs.declared.Expected.TheVariants.{SomeEvent, NamedOrNot, HardFlag, SoftService, PolicyFlag, CausePresent}
use Rattle.event_fault.specs.declared.Expected.TheVariants.{CrankbackFound, SmallConnection}
use Rattle.event_fault.specs.declared.Fault.{Fault}

abbrev pub expected_text : Expected → List ℕ
expected_text SomeEvent = ascii "an event, 0 to 9"
expected_text NamedOrNot = ascii "0 for default services or 1 for named"
expected_text HardFlag = ascii "hard, 0 or 1"
expected_text SoftService = ascii "soft, 0 to 2"
expected_text PolicyFlag = ascii "policy, 1 yes or 0 no"
expected_text CausePresent = ascii "cause present, 0 or 1"
expected_text CrankbackFound = ascii "crankback, 0 to 2"
expected_text SmallConnection = ascii "0, since a connection is 0 to 65535"

abbrev pub byte_text : ℕ → List ℕ
byte_text byte = ascii "byte " ++ number_text byte

abbrev pub fault_text : Option Fault → List ℕ
fault_text None = []
fault_text (Some f) =
    byte_text f.octet ++ (ascii " is " ++ (number_text f.value ++ (ascii ", expected " ++ expected_text f.expected)))
