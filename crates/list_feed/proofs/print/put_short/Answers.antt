-- Four parts put one after the other.
use Rattle.lines.proofs.Lines.{and_then}
use Rattle.list_feed.proofs.print.put_short.Goals as goal

pub returns : goal.returns
returns c =
    and_then _ _ _ _ _ c.put_record.ensures
    (and_then _ _ _ _ _ c.put_numbered.ensures (and_then _ _ _ _ _ c.put_word.ensures c.put_word-2.ensures))
