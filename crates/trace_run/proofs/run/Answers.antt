-- `run` meets its contract: after each turn, so many records have been read, and the run stands where the definition says. Assumes nothing.
use Rattle.std.proofs.Common.{rules, arith, refl, ap, sym, ◌∙◌, ◌*◌, ◌/◌, ◌≡◌, Bool, true, false, not, length, add-one}
use Rattle.lines.proofs.Lines.{page_put, reference_stays}
use Rattle.event_record.specs.Places.{record_at}
use Rattle.event_record.specs.Record.{decoded_at}
use Rattle.trace_run.specs.Placed.{worked_on}
use Rattle.trace_run.specs.Run.{begin}
use Rattle.trace_run.proofs.Steps.{begins, step_in, step_out, ends, ends_bad}
use Rattle.trace_run.proofs.run.Goals as goal
use Rattle.trace_run.proofs.run.Goals.{in-Some-place_for, in-None}

pub loop-index-init : goal.loop-index-init
loop-index-init c =
    let a = c.args in
    let l : length a.table ≡ 64 = search rules in
    (omega arith, refl, begins a.node a.columns a.input.now a.table a.start a.out.now _ c.keys_of-keys.ensures l c.requires.0)

pub returns-in_default : goal.returns-in_default
returns-in_default c =
    let a = c.args in
    let l = c.loop-index in
    let r = ends_bad a.node a.columns a.input.now (begin a.table a.start) a.out.now l.index (length a.input.now / 16) l.calls l.keys
    l.count l.line.at l.line.buffer.now l.invariant.2 c.loop-index-test.true c.decode-decoded.result
    (c.decode-decoded.ensures ∙ ap (decoded_at a.node) c.record_at.ensures) c.in_default.is _ _ (page_put _ _ _ c.put_word.ensures) in
    let same = reference_stays _ _ _ c.put_word.ensures ∙ l.invariant.1 in
    let text = r.text in
    rw c.stopped.ensures (r.table, (r.count, (r.good, (search rules, (r.fit, omega arith)))))

-- a test turned round
turned : (a b : Bool) → a ≡ not b → b ≡ not a
turned a true e = ap not (sym e)
turned a false e = ap not (sym e)

pub loop-index-preserved : goal.loop-index-preserved
loop-index-preserved c =
    let a = c.args in
    let l = c.loop-index in
    let d = c.decode-decoded.result in
    let act = c.in-Some.act in
    let read : d ≡ decoded_at a.node (record_at a.input.now (l.index * 16)) =
    c.decode-decoded.ensures ∙ ap (decoded_at a.node) c.record_at.ensures in
    let put = page_put _ _ _ c.put_line.ensures in (
      omega arith,
      reference_stays _ _ _ c.put_line.ensures ∙ l.invariant.1,
      elim c.match-place_for.branch [
        | in-Some-place_for w ↦
            let missing = ap (worked_on a.node _ d.key act) (turned _ _ w.is_none.ensures) in
            rw (add-one l.index, w.calls-is, w.keys-is)
            (step_in a.node a.columns a.input.now (begin a.table a.start) a.out.now l.index l.calls l.keys l.count l.line.at l.line.buffer.now l.invariant.2
            d read _ _ act c.in-Some.is c.find-found.result c.find-found.ensures.at w.worked-outcome.result w.in-Some-place_for.place
            (sym w.in-Some-place_for.ensures.at) (w.worked-outcome.ensures ∙ missing) (rw w.outcome-is at put))
        | in-None w ↦
            rw (add-one l.index, w.calls-is, w.keys-is)
            (step_out a.node a.columns a.input.now (begin a.table a.start) a.out.now l.index l.calls l.keys l.count l.line.at l.line.buffer.now l.invariant.2
            d read _ _ act c.in-Some.is c.find-found.result c.find-found.ensures.at w.unplaced-outcome.result (sym w.in-None.ensures.at)
            w.unplaced-outcome.ensures (rw w.outcome-is at put))
      ],
    )

pub returns : goal.returns
returns c =
    let a = c.args in
    let l = c.loop-index in
    let r = ends a.node a.columns a.input.now (begin a.table a.start) a.out.now l.index (length a.input.now / 16) l.calls l.keys l.count
    l.line.at l.line.buffer.now l.invariant.2 (omega arith) in
    let same = l.invariant.1 in
    let text = r.text in
    rw c.stopped-2.ensures (r.table, (r.count, (r.good, (search rules, (r.fit, omega arith)))))
