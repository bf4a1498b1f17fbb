-- `distinct::plain` meets its contract. Assumes nothing.
use Rattle.std.proofs.Common.{arith, sym, ◌∙◌, ◌≤◌, length, get_or, below_more}
use Rattle.distinct.proofs.Laws.{First, among_none, done, twice}
use Rattle.distinct.proofs.plain.Goals as goal
use Rattle.distinct.proofs.plain.Goals.{else-x-ne0-via-then-x-ne0+else-among, else-x-ne0-via-else-x-ne0}

pub returns-then-among : goal.returns-then-among
returns-then-among c = sym (twice c.args.keys.now c.loop-i.i c.loop-i-test.true c.if-x-ne0.true (sym c.if-among.ensures))

pub loop-i-preserved : goal.loop-i-preserved
loop-i-preserved c =
    let xs = c.args.keys.now in
    let i = c.loop-i.i in
    let li : i ≤ length xs = omega arith in
    below_more (First xs) i c.loop-i.invariant
    (elim c.else-x-ne0.branch as (λ _. First xs i) [
      | else-x-ne0-via-then-x-ne0+else-among w ↦ λ j lt e. absurd (among_none (get_or xs i 0) xs i li (sym w.if-among.ensures) j lt e)
      | else-x-ne0-via-else-x-ne0 w ↦ λ j lt e. e ∙ w.if-x-ne0.false
    ])

pub returns : goal.returns
returns c = sym (done c.args.keys.now c.loop-i.i c.loop-i-test.false c.loop-i.invariant)
