-- The table stays fit, less than a record is kept, and the count has room for the reads that are left.
use Rattle.std.proofs.Common.{◌≡◌, ◌*◌, ◌≤◌, true, length}
use Rattle.call_table.specs.Fit.{fit_table}
use Rattle.trace_feed.proofs.Console.follow.Given as goal

abbrev pub invariant-loop : goal.invariant-loop
invariant-loop l = (length l.input ≡ 65536) × (l.kept ≤ 15) × (l.count ≤ l.counter * 4096) × (fit_table l.table ≡ true)
