use Rattle.events.specs.declared.Event.TheVariants.{FromDomain}
use Rattle.destination_rows.proofs.Lawful.{destination}
use Rattle.call.proofs.Events.{fresh_is}
use Rattle.call.proofs.Call.destination_calling_release.Goals as goal

pub returns : goal.returns
returns c =
    rw (c.carried.ensures, c.calling_row.ensures, c.fresh_after-next.ensures)
    (fresh_is destination c.args.self (FromDomain c.args.connection c.args.cause c.args.crankback))
