-- The loop's invariant: x was found among the keys so far or not. Assumes nothing.
use Rattle.std.proofs.Common.{◌≡◌, take}
use Rattle.distinct.specs.Distinct.{has}
use Rattle.distinct.proofs.among.Given as goal

abbrev pub invariant-loop-key : goal.invariant-loop-key
invariant-loop-key l = l.found ≡ has l.x (take l.key-index l.keys)
