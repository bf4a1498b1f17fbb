-- `distinct::distinct` meets its contract. Assumes nothing.
use Rattle.std.proofs.Common.{arith, sym, ◌<◌, ◌≤◌, length, get_or}
use Rattle.distinct.proofs.Laws.{among_none, done, twice}
use Rattle.distinct.proofs.Steps.{start, skip, put}
use Rattle.distinct.proofs.distinct.Goals as goal
use Rattle.distinct.proofs.distinct.Goals.{then-x-ne0+else-not-clear, else-x-ne0}
use Rattle.distinct.proofs.distinct.Goals.{else-not-clear-via-then-not-clear+else-among, else-not-clear-via-else-not-clear}

pub loop-i-init : goal.loop-i-init
loop-i-init c = start c.args.keys.now c.if-keys-gt1024.false

pub returns-then-among : goal.returns-then-among
returns-then-among c = sym (twice c.args.keys.now c.loop-i.i c.loop-i-test.true c.if-x-ne0.true (sym c.if-among.ensures))

pub loop-i-preserved : goal.loop-i-preserved
loop-i-preserved c =
    let xs = c.args.keys.now in
    let i = c.loop-i.i in
    let l : i < length xs = c.loop-i-test.true in
    let li : i ≤ length xs = omega arith in
    let e = c.slot-b.ensures.0 in
    elim c.if-x-ne0.branch [
      | then-x-ne0+else-not-clear w ↦
          rw (w.head-is, e)
          (put c.loop-i.invariant l
          (elim w.else-not-clear.branch [
            | else-not-clear-via-then-not-clear+else-among v ↦ among_none (get_or xs i 0) xs i li (sym v.if-among.ensures)
            | else-not-clear-via-else-not-clear v ↦ w.clear.ensures v.if-not-clear.false
          ]))
      | else-x-ne0 w ↦ rw (w.head-is, e) (skip c.loop-i.invariant l w.if-x-ne0.false)
    ]

pub returns : goal.returns
returns c = sym (done c.args.keys.now c.loop-i.i c.loop-i-test.false c.loop-i.invariant.first)
