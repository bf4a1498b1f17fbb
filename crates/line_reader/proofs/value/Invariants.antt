-- What is left of the word, behind the number so far, says what the whole does. Assumes nothing.
use Rattle.std.proofs.Common.{◌≡◌, drop}
use Rattle.line_reader.specs.Numbers.{number_up_to}
use Rattle.line_reader.proofs.Numbers.{number_from}
use Rattle.line_reader.proofs.value.Given as goal

abbrev pub invariant-loop-octet : goal.invariant-loop-octet
invariant-loop-octet l = number_from l.limit l.number (drop l.octet-index l.word) ≡ number_up_to l.limit l.word
