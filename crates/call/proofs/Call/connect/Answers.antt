use mathlib.Core.Path.{refl}
use Rattle.events.specs.declared.Event.TheVariants.{Connect}
use Rattle.source_rows.proofs.Lawful.{source}
use Rattle.call.proofs.Events.{quiet_is}
use Rattle.call.proofs.Call.connect.Goals as goal

pub returns : goal.returns
returns c = rw (c.carried.ensures, c.connect_row.ensures) (quiet_is source c.args.self (Connect c.args.connection c.args.agreed) refl)
