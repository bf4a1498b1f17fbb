-- The part is what stands between the two places. Assumes nothing.
use Rattle.std.proofs.Common.{arith, rules}
use Rattle.line_reader.specs.Words.{is_blank, is_of_word}
use Rattle.line_reader.proofs.Laws.{in_order, word_is}
use Rattle.line_reader.proofs.word.Goals as goal

pub slice_bounds-result-count : goal.slice_bounds-result-count
slice_bounds-result-count c =
    in_order c.args.line.now c.args.at c.past-from.result c.past-to.result (c.past-from.ensures is_blank (λ octet r k. search rules))
    (c.past-to.ensures is_of_word (λ octet r k. search rules))

pub slice_bounds-result-start : goal.slice_bounds-result-start
slice_bounds-result-start c = slice_bounds-result-count c

pub slice_bounds-result-end : goal.slice_bounds-result-end
slice_bounds-result-end c = let e = c.past-to.ensures is_of_word (λ octet r k. search rules) in omega arith

pub returns : goal.returns
returns c =
    word_is c.args.line.now c.args.at c.past-from.result c.past-to.result (c.past-from.ensures is_blank (λ octet r k. search rules))
    (c.past-to.ensures is_of_word (λ octet r k. search rules))
