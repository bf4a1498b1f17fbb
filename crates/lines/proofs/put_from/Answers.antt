-- Nothing has been put before the first turn, and each turn puts one byte more. Assumes nothing.
use Rattle.std.proofs.Common.{sym, arith}
use Rattle.lines.proofs.Laws.{put_none, one_more}
use Rattle.lines.proofs.put_from.Goals as goal

pub loop-byte-init : goal.loop-byte-init
loop-byte-init c = sym (put_none _)

pub loop-byte-preserved : goal.loop-byte-preserved
loop-byte-preserved c = one_more _ _ _ _ c.loop-byte.byte-index (omega arith) c.loop-byte.invariant c.put_at-place.ensures
