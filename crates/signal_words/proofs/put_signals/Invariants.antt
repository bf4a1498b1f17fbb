-- After each turn the signals so far have been put, and it is known whether one stands before the next.
use Rattle.std.proofs.Common.{◌≡◌, false, take}
use Rattle.lines.specs.Line.{with_text}
use Rattle.signal_words.specs.Words.{any_sent, list_text}
use Rattle.signal_words.proofs.put_signals.Given as goal

abbrev pub invariant-loop-signal : goal.invariant-loop-signal
invariant-loop-signal l = record {
  listed : l.line ≡ with_text l.fn.line (list_text false (take l.signal-index l.signal-items));
  any : l.before ≡ any_sent false (take l.signal-index l.signal-items);
}
