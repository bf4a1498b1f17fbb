-- `put_at` meets its contract, with room and without. Assumes nothing.
use Rattle.lines.proofs.Laws.{put_in, put_past}
use Rattle.lines.proofs.put_at.Goals as goal

pub returns-then-at-buffer : goal.returns-then-at-buffer
returns-then-at-buffer c = put_in _ _ _ c.if-at-buffer.true

pub returns : goal.returns
returns c = put_past _ _ _ c.if-at-buffer.false
