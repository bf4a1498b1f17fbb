-- `call_table::look` meets its contract. Assumes nothing.
use Rattle.std.proofs.Common.{arith, sym, ◌∙◌, ◌≡◌, ℕ, length}
use mathlib.Core.Bool.{Bool, false, true}
use Rattle.lent.proofs.Search.{until_at, ended_at}
use Rattle.call.specs.Record.{emptied}
use Rattle.call.specs.declared.Call.{Call}
use Rattle.call_table.specs.Reading.{is_enough}
use Rattle.call_table.specs.Table.{sought_of}
use Rattle.call_table.specs.declared.Sought.{Sought}
use Rattle.call_table.proofs.look.Goals as goal

-- whether it is enough for a key, and one record more
abbrev done : ℕ → Sought ℕ → Bool
done key s = is_enough s key

abbrev more : ℕ → Sought ℕ → ℕ → Call → Sought ℕ
more key s i c = sought_of s key c.key i

pub returns-then-enough : goal.returns-then-enough
returns-then-enough c =
    let key = c.args.key in
    sym (until_at (done key) (more key) c.args.t.now emptied c.loop-i.i c.loop-i.s c.loop-i-test.true true (sym c.if-enough.ensures))
    ∙ c.loop-i.invariant

pub loop-i-preserved : goal.loop-i-preserved
loop-i-preserved c =
    let key = c.args.key in
    let s = c.loop-i.s in
    rw c.seek.ensures
    (sym (until_at (done key) (more key) c.args.t.now _ c.loop-i.i s c.loop-i-test.true false (sym c.if-enough.ensures)) ∙ c.loop-i.invariant)

pub returns : goal.returns
returns c =
    let key = c.args.key in
    let e : c.loop-i.i ≡ length c.args.t.now = omega arith in
    sym (ended_at (done key) (more key) c.args.t.now emptied c.loop-i.i c.loop-i.s e) ∙ c.loop-i.invariant
