use Rattle.events.specs.declared.Event.TheVariants.{FromDomain}
use Rattle.source_rows.proofs.Lawful.{source}
use Rattle.call.proofs.Events.{fresh_is}
use Rattle.call.proofs.Call.called_release.Goals as goal

pub returns : goal.returns
returns c =
    rw (c.carried.ensures, c.called_row.ensures, c.fresh_after-next.ensures)
    (fresh_is source c.args.self (FromDomain c.args.connection c.args.cause c.args.crankback))
