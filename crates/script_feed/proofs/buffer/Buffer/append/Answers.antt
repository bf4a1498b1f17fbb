-- `append` meets its contract: the octets are put as a word onto a line over the buffer. Assumes nothing.
use Rattle.std.proofs.Common.{sym, arith, ap, subst, ℕ, List, ◌≡◌, ◌≤◌, length}
use Rattle.lines.specs.Lines.{Page}
use Rattle.lines.specs.Line.{with_text}
use Rattle.lines.specs.declared.Line.{Line}
use Rattle.lines.proofs.Lines.{page_put, reference_stays}
use Rattle.lines.proofs.Claims.{stays_within}
use Rattle.script_feed.proofs.buffer.Buffer.append.Goals as goal

-- a place within the buffer, or at its end, stays one, whatever is put
line_within : (l m : Line) (a : List ℕ) → m ≡ with_text l a → l.at ≤ length l.buffer.now → m.at ≤ length l.buffer.now
line_within l m a e h = subst (λ n. n ≤ length l.buffer.now) (sym (ap (λ (p : Page). p.at) (page_put l m a e))) ((stays_within l.buffer.now l.at a).1 h)

pub shape_of-self : goal.shape_of-self
shape_of-self c = sym (reference_stays _ _ _ c.put_word.ensures)

pub invariant_of-self : goal.invariant_of-self
invariant_of-self c =
    let within = line_within _ _ _ c.put_word.ensures (omega arith) in
    record { within = omega (arith, within) }

pub returns : goal.returns
returns c = page_put _ _ _ c.put_word.ensures
