-- After each turn, that much of the word has been put. Assumes nothing.
use Rattle.std.proofs.Common.{take, ◌≡◌}
use Rattle.lines.specs.Lines.{page, put_text}
use Rattle.lines.proofs.put_from.Given as goal

abbrev pub invariant-loop-byte : goal.invariant-loop-byte
invariant-loop-byte l = page l.buffer l.place ≡ put_text (page l.fn.buffer l.at) (take l.byte-index l.word)
