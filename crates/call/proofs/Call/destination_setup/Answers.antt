use Rattle.events.specs.declared.Event.TheVariants.{Setup}
use Rattle.destination_rows.proofs.Lawful.{destination}
use Rattle.call.proofs.Events.{fresh_is}
use Rattle.call.proofs.Call.destination_setup.Goals as goal

pub returns : goal.returns
returns c =
    rw (c.carried.ensures, c.setup_row.ensures, c.fresh_after-next.ensures)
    (fresh_is destination c.args.self (Setup c.args.code c.args.number))
