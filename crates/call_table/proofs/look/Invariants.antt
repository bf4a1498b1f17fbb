-- The loop's invariant: what is known, read on from i, comes to what the whole row gives. Assumes nothing.
use Rattle.std.proofs.Common.{◌≡◌, drop}
use Rattle.lent.specs.Search.{read_until}
use Rattle.call_table.specs.Reading.{is_enough, places_in}
use Rattle.call_table.specs.Table.{sought_of}
use Rattle.call_table.proofs.look.Given as goal

abbrev pub invariant-loop-i : goal.invariant-loop-i
invariant-loop-i l =
    read_until (λ s. is_enough s l.key) (λ s i c. sought_of s l.key c.key i) l.i l.s (drop l.i l.t) ≡ places_in l.t l.key
