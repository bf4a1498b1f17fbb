-- The loop's invariant: each key before i is none of those before it, or it is 0. Assumes nothing.
use Rattle.std.proofs.Common.{ℕ, ◌<◌}
use Rattle.distinct.proofs.Laws.{First}
use Rattle.distinct.proofs.plain.Given as goal

abbrev pub invariant-loop-i : goal.invariant-loop-i
invariant-loop-i l = (k : ℕ) → k < l.i → First l.keys k
