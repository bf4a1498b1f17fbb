use Rattle.events.specs.declared.Event.TheVariants.{Setup}
use Rattle.source_rows.proofs.Lawful.{source}
use Rattle.call.proofs.Events.{fresh_is}
use Rattle.call.proofs.Call.setup.Goals as goal

pub returns : goal.returns
returns c =
    rw (c.carried.ensures, c.setup_row.ensures, c.fresh_after-next.ensures)
    (fresh_is source c.args.self (Setup c.args.code c.args.number))
