-- Each turn puts two digits in front of those that stand there, and a last one is left where their number is odd. Assumes nothing.
use Rattle.std.proofs.Common.{◌+◌, ◌-◌, ◌/◌, ◌%◌, ◌∙◌, set, arith, length-set}
use Rattle.std.proofs.Math.Seq.{take-set-le}
use Rattle.fields.proofs.Laws.{again_two, finish, finish_odd}
use Rattle.fields.proofs.spell.Goals as goal

pub loop-place-preserved : goal.loop-place-preserved
loop-place-preserved c =
    let l = c.loop-place in
    let at = c.args.at in
    record {
      in_count = omega arith;
      long = simp length-set l.invariant.long;
      front =
          take-set-le at (set l.out (at + l.place - 1) (48 + l.rest % 10)) (at + l.place - 2) (48 + l.rest / 10 % 10) (omega arith)
          ∙ (take-set-le at l.out (at + l.place - 1) (48 + l.rest % 10) (omega arith) ∙ l.invariant.front);
      digits = again_two l.out at l.place l.rest c.loop-place-test.true (omega arith) ∙ l.invariant.digits;
    }

pub returns-then-place-gt0 : goal.returns-then-place-gt0
returns-then-place-gt0 c =
    let l = c.loop-place in
    let a = c.args in
    finish_odd l.out a.out.now a.at a.count a.number l.place l.rest c.if-place-gt0.true (omega arith) (omega arith) l.invariant.front l.invariant.digits

pub returns-else-place-gt0 : goal.returns-else-place-gt0
returns-else-place-gt0 c =
    let l = c.loop-place in
    let a = c.args in
    finish l.out a.out.now a.at a.count a.number l.place l.rest c.if-place-gt0.false l.invariant.front l.invariant.digits
