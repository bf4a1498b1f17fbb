-- Two texts are the same octet by octet. Assumes nothing.
use Rattle.std.proofs.Common.{◌∙◌, ap, sym}
use Rattle.line_reader.specs.Words.{same_text}
use Rattle.line_reader.proofs.Laws.{same_is}
use Rattle.line_reader.proofs.is.Goals as goal

pub returns : goal.returns
returns c = c.eq.ensures ∙ (sym (same_is c.word.result.now c.args.name.now) ∙ ap (λ w. same_text w c.args.name.now) c.word.ensures)
