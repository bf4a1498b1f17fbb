-- The loop's invariant: the walk along the chain of x has come to a. Assumes nothing.
use Rattle.distinct.specs.Chain.{Walk}
use Rattle.distinct.proofs.clear.Given as goal

abbrev pub invariant-loop : goal.invariant-loop
invariant-loop l = Walk l.keys l.next l.i l.x l.a
