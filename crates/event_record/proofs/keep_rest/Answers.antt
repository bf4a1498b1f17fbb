-- Where there are not so many octets nothing is kept; else what stands behind the last whole record comes to the front.
use Rattle.std.proofs.Common.{arith, ◌≡◌, ◌-◌, ◌%◌, ◌∙◌, ◌+◌, ◌++◌, take, drop, ap}
use Rattle.event_record.proofs.Buffer.{none_kept, rest_kept_lem}
use Rattle.event_record.proofs.keep_rest.Goals as goal

pub returns-then-octets-filled : goal.returns-then-octets-filled
returns-then-octets-filled c = none_kept c.args.octets.now c.args.filled (omega arith)

pub returns : goal.returns
returns c =
    let filled = c.args.filled in
    let e : filled - (filled - filled % 16) ≡ filled % 16 = omega arith in
    let f : 0 + (filled - (filled - filled % 16)) ≡ filled - (filled - filled % 16) = omega arith in
    rest_kept_lem c.args.octets.now _ filled (filled - (filled - filled % 16)) (omega arith) e
    (c.copy_within.ensures.after ∙ ap (λ n. take (filled - (filled - filled % 16)) (drop (filled - filled % 16) c.args.octets.now) ++ drop n c.args.octets.now) f)
