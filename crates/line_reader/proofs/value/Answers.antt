-- A number begins with a digit, and one above the limit stays above it. Assumes nothing.
use Rattle.std.proofs.Common.{◌∙◌, arith}
use Rattle.line_reader.proofs.Numbers.{none, begun, above}
use Rattle.line_reader.proofs.value.Goals as goal

pub returns-then-is_empty : goal.returns-then-is_empty
returns-then-is_empty c = none c.args.limit c.args.word.now c.if-is_empty.ensures

pub loop-octet-init : goal.loop-octet-init
loop-octet-init c = begun c.args.limit c.args.word.now c.if-is_empty.ensures

pub returns-in_err-checked_mul : goal.returns-in_err-checked_mul
returns-in_err-checked_mul c =
    c.from_residual-in_err-checked_mul.ensures
    ∙ above c.args.limit c.args.word.now c.loop-octet.number c.loop-octet.octet-index c.in_ok-digit.digit c.loop-octet-test.true
    c.loop-octet.invariant c.in_ok-digit.ensures (omega (arith, c.in_err-checked_mul.ensures))

pub returns-in_err-number : goal.returns-in_err-number
returns-in_err-number c =
    c.from_residual-in_err-number.ensures
    ∙ above c.args.limit c.args.word.now c.loop-octet.number c.loop-octet.octet-index c.in_ok-digit.digit c.loop-octet-test.true
    c.loop-octet.invariant c.in_ok-digit.ensures (omega (arith, c.in_err-number.ensures, c.in_ok-checked_mul.ensures))
