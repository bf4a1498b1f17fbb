-- A number of one digit is that digit and its end. Assumes nothing.
use Rattle.std.proofs.Common.{arith}
use Rattle.lines.proofs.Lines.{turned_by}
use Rattle.fields.proofs.Laws.{put_short}
use Rattle.fields.proofs.put_field_within.Goals as goal

pub returns-then-number-lt10 : goal.returns-then-number-lt10
returns-then-number-lt10 c = turned_by c.args.line.now _ _ _ (put_short _ _ _ _ c.if-number-lt10.true (omega arith))
