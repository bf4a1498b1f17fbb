-- After each turn the last digits stand at their places. Assumes nothing.
use Rattle.std.proofs.Common.{◌+◌, ◌≤◌, ◌≡◌, ◌++◌, length, take, drop}
use Rattle.io.specs.Digits.{last_digits}
use Rattle.fields.proofs.spell.Given as goal

abbrev pub invariant-loop-place : goal.invariant-loop-place
invariant-loop-place l = record {
  in_count : l.place ≤ l.count;
  long : length l.out ≡ length l.fn.out;
  front : take l.at l.out ≡ take l.at l.fn.out;
  digits : last_digits 10 l.place l.rest ++ drop (l.at + l.place) l.out ≡ last_digits 10 l.count l.number ++ drop (l.at + l.count) l.fn.out;
}

abbrev pub decreases-loop-place : goal.decreases-loop-place
decreases-loop-place l = l.place
