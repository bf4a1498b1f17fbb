-- The loop's invariant: so many records have been read, and the run stands where the definition says. Assumes nothing.
use Rattle.std.proofs.Common.{◌+◌, ◌≡◌}
use Rattle.trace_run.specs.Run.{begin}
use Rattle.trace_run.proofs.Steps.{Standing}
use Rattle.trace_run.proofs.run.Given as goal

abbrev pub invariant-loop-index : goal.invariant-loop-index
invariant-loop-index l =
    (l.count ≡ l.start + l.index)
    × (l.line.buffer.ghost_name ≡ l.initial.line.buffer.ghost_name)
    × Standing l.node l.columns l.input (begin l.fn.table l.start) l.fn.out l.index l.calls l.keys l.count l.line.at l.line.buffer.now
