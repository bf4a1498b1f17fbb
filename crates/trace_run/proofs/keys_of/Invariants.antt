-- The loop's invariant: so many keys stand at their places. Assumes nothing.
use Rattle.std.proofs.Common.{length, ◌≡◌, take}
use Rattle.trace_run.specs.Placed.{keys_in}
use Rattle.trace_run.proofs.keys_of.Given as goal

abbrev pub invariant-loop-index : goal.invariant-loop-index
invariant-loop-index l = (length l.keys ≡ 64) × (take l.index l.keys ≡ take l.index (keys_in l.table))
