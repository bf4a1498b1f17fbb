-- The loop's invariant: what is seen and the keys, read on from i, come to what the whole row gives. Assumes nothing.
use Rattle.std.proofs.Common.{◌≡◌, drop}
use Rattle.lent.specs.Search.{keys_from, read_from}
use Rattle.call_table.specs.Table.{keys_of, seen_of, step_of}
use Rattle.call_table.proofs.survey.Given as goal

abbrev pub invariant-loop-i : goal.invariant-loop-i
invariant-loop-i l =
    (read_from (λ s i c. step_of s l.key i c) l.i l.s (drop l.i l.t) ≡ seen_of l.t l.key)
    × (keys_from (λ c. c.key) l.i l.keys (drop l.i l.t) ≡ keys_of l.fn.keys l.t)
