-- Three parts put one after the other.
use Rattle.lines.proofs.Lines.{and_then}
use Rattle.script_feed.proofs.print.put_too_long.Goals as goal

pub returns : goal.returns
returns c = and_then _ _ _ _ _ c.put_start.ensures (and_then _ _ _ _ _ c.put_word.ensures c.put_word-2.ensures)
