-- The promises over whole runs, and what is shut out, at both ends. Assumes nothing.
use mathlib.Core.Path.{refl}
use Rattle.events.specs.declared.Node.TheVariants.{Destination, Source}
use Rattle.promises.specs.Claims.{PromisesKept}
use Rattle.promises.specs.ShutOut.{ShutOutAtBoth}
use Rattle.promises.proofs.Destination as destination
use Rattle.promises.proofs.Source as source

pub promises_kept : PromisesKept
promises_kept Source = (refl, source.promises)
promises_kept Destination = (refl, destination.promises)

pub shut_out_at_both : ShutOutAtBoth
shut_out_at_both Source = source.shut_out
shut_out_at_both Destination = destination.shut_out
