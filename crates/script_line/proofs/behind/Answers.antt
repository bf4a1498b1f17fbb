-- What is left from the place behind the word is all of it. Assumes nothing.
use Rattle.std.proofs.Common.{◌∙◌, arith, length-drop}
use Rattle.std.proofs.lemmas.List.{take_all}
use Rattle.line_reader.proofs.Laws as words
use Rattle.script_line.proofs.behind.Goals as goal

pub returns : goal.returns
returns c =
    take_all _ _ (omega (arith, length-drop c.after.result c.args.rest.now)) ∙ words.behind c.args.rest.now 0 c.after.result c.after.ensures
