-- The digits that `io::decimal` gives are the number spelled. Assumes nothing.
use Rattle.std.proofs.Common.{◌∙◌, ap}
use Rattle.lines.specs.Line.{with_text}
use Rattle.lines.proofs.Laws.{number_is}
use Rattle.lines.proofs.Line.put_number.Goals as goal

pub returns : goal.returns
returns c =
    let d = c.decimal-count.ensures in
    c.put_word.ensures ∙ ap (with_text _) (d.digits ∙ number_is _ _ d.len)
