-- `put_byte` meets its contract. Assumes nothing.
use Rattle.std.proofs.Common.{ap}
use Rattle.lines.specs.Line.{turned_to, with_byte}
use Rattle.lines.proofs.Line.put_byte.Goals as goal

pub returns : goal.returns
unfolding with_byte
returns c = ap (turned_to c.args.self.now) c.put_at-self.ensures
