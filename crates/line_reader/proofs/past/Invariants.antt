-- The place stays where the test passes until the loop is left. Assumes nothing.
use Rattle.std.proofs.Common.{ℕ, Bool, ◌≡◌, drop}
use Rattle.line_reader.specs.Words.{past}
use Rattle.line_reader.proofs.past.Given as goal

abbrev pub invariant-loop-place : goal.invariant-loop-place
invariant-loop-place g l =
    (test : ℕ → Bool) → ((octet : ℕ) (r : Bool) → goal.F-post g l.passes octet r → r ≡ test octet) →
    past test (drop l.place l.line) ≡ past test (drop l.at l.line)
