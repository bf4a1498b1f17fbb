-- The place behind the word that begins behind the blanks. Assumes nothing.
use Rattle.std.proofs.Common.{rules}
use Rattle.line_reader.specs.Words.{is_blank, is_of_word}
use Rattle.line_reader.proofs.Laws.{after_is}
use Rattle.line_reader.proofs.after.Goals as goal

pub returns : goal.returns
returns c =
    after_is c.args.line.now c.args.at c.past.result _ (c.past.ensures is_blank (λ octet r k. search rules))
    (c.past-2.ensures is_of_word (λ octet r k. search rules))
