-- The digits stand at their places, and the end behind them. Assumes nothing.
use Rattle.std.proofs.Common.{arith}
use Rattle.lines.proofs.Lines.{turned_by}
use Rattle.fields.proofs.Laws.{put_long}
use Rattle.fields.proofs.put_digits.Goals as goal

pub returns : goal.returns
returns c =
    turned_by c.args.line.now _ _ _
    (put_long _ _ _ _ _ c.places-count.result c.places-count.ensures.0 (omega arith) c.spell.auto.out c.spell.ensures)
