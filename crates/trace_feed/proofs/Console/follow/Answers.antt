-- At first the table is empty.
use Rattle.std.proofs.Common.{rules, arith}
use Rattle.trace_run.proofs.Empty.{empty_tests_fit}
use Rattle.trace_feed.proofs.Console.follow.Goals as goal

pub loop-init : goal.loop-init
loop-init c = (search rules, omega arith, omega arith, empty_tests_fit 64 (omega arith))
