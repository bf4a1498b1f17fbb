-- What is gone stands behind what was done.
use Rattle.std.proofs.Common.{rules, ap, sym, subst, take}
use Rattle.std.proofs.Math.Seq.{take-add}
use Rattle.std.proofs.lemmas.List.{take_rest}
use Rattle.std.specs.Io.KnownBytes.{Appends}
use Rattle.std.proofs.KnownBytes.{Appends-trans}
use Rattle.streams.proofs.write_all.Goals as goal

pub loop-done-preserved : goal.loop-done-preserved
loop-done-preserved g c =
    let done = c.loop-done.done in
    let buf = c.args.buf.now in
    let gone = subst (Appends _ _) (ap (take c.in-Ok.gone) (take_rest buf done)) c.in-Ok.ensures.bytes in
    (search rules, subst (Appends _ _) (sym (take-add done c.in-Ok.gone buf)) (Appends-trans _ _ _ _ _ c.loop-done.invariant.1 gone))
