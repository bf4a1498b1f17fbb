-- `call_table::survey` meets its contract. Assumes nothing.
use Rattle.std.proofs.Common.{arith, sym, ◌∙◌, ◌≡◌, length}
use Rattle.lent.proofs.Search.{next_at, end_at}
use Rattle.lent.proofs.Keys.{key_at, key_past, keys_end}
use Rattle.call.specs.Record.{emptied}
use Rattle.call.specs.declared.Call.{Call}
use Rattle.call_table.specs.Table.{step_of}
use Rattle.call_table.proofs.survey.Goals as goal
use Rattle.call_table.proofs.survey.Goals.{then-i-keys, else-i-keys}

pub loop-i-preserved : goal.loop-i-preserved
loop-i-preserved c =
    let key = c.args.key in
    let ys = c.args.t.now in
    let ks = c.loop-i.keys in
    let i = c.loop-i.i in
    let l = c.loop-i-test.true in
    let kept = c.loop-i.invariant.1 in (
      rw c.step.ensures (sym (next_at (λ s i c. step_of s key i c) ys i c.loop-i.s _ l) ∙ c.loop-i.invariant.0),
      elim c.if-i-keys.branch [
        | then-i-keys w ↦ rw w.keys-is (sym (key_at (λ (c : Call). c.key) ks ys i _ l) ∙ kept)
        | else-i-keys w ↦ rw w.keys-is (sym (key_past (λ (c : Call). c.key) ks ys i emptied l w.if-i-keys.false) ∙ kept)
      ],
    )

pub returns : goal.returns
returns c =
    let key = c.args.key in
    let ys = c.args.t.now in
    let i = c.loop-i.i in
    let e : i ≡ length ys = omega arith in (
      sym (end_at (λ s i c. step_of s key i c) ys i c.loop-i.s e) ∙ c.loop-i.invariant.0,
      sym (keys_end (λ (c : Call). c.key) c.loop-i.keys ys i e) ∙ c.loop-i.invariant.1,
    )
