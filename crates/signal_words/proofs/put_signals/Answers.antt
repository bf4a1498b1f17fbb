-- One signal more at each turn; at the end some have been put, or a dash.
use Rattle.std.proofs.Common.{arith, refl}
use Rattle.lines.proofs.Lines.{nothing_put}
use Rattle.signal_words.proofs.Listed.{turn, turned, none_sent}
use Rattle.signal_words.proofs.put_signals.Goals as goal

pub loop-signal-init : goal.loop-signal-init
loop-signal-init c = record { listed = nothing_put _; any = refl }

pub loop-signal-preserved : goal.loop-signal-preserved
loop-signal-preserved c =
    let known = c.loop-signal.invariant in
    record {
      listed = turn _ _ _ _ c.loop-signal.signal-index _ _ (omega arith) known.any known.listed c.put_next.ensures;
      any = turned _ c.loop-signal.signal-index _ _ _ (omega arith) known.any c.stands-before.ensures;
    }

pub returns-then-not-before : goal.returns-then-not-before
returns-then-not-before c =
    none_sent _ _ _ _ c.loop-signal.signal-index _ (omega arith) c.loop-signal.invariant.any c.loop-signal.invariant.listed
    c.if-not-before.true c.put_byte.ensures
