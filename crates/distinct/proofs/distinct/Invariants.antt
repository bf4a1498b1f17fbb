-- The loop's invariant: the first i keys are chained, and none of them but 0 stands twice. Assumes nothing.
use Rattle.distinct.proofs.Steps.{Chained}
use Rattle.distinct.proofs.distinct.Given as goal

abbrev pub invariant-loop-i : goal.invariant-loop-i
invariant-loop-i l = Chained l.keys l.head l.next l.i
