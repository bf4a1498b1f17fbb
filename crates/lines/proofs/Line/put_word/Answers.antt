-- `put_word` meets its contract. Assumes nothing.
use Rattle.lines.proofs.Lines.{turned_by}
use Rattle.lines.proofs.Line.put_word.Goals as goal

pub returns : goal.returns
returns c = turned_by _ _ _ _ c.put_from-self.ensures
