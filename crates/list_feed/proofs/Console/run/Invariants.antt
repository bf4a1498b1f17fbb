-- Less than a record is kept; the buffer stays as long as it is.
use Rattle.std.proofs.Common.{◌≡◌, ◌<◌, length}
use Rattle.list_feed.proofs.Console.run.Given as goal

abbrev pub invariant-loop : goal.invariant-loop
invariant-loop l = (l.kept < 16) × (length l.input ≡ 65536)
