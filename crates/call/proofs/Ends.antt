-- Each half of the control keeps the laws (specs/Claims). Assumes nothing.
use Rattle.events.specs.declared.Node.{Node}
use Rattle.events.specs.declared.Node.TheVariants.{Destination, Source}
use Rattle.call.specs.Claims.{Lawful}
use Rattle.call.specs.Events.{half_of}
use Rattle.call.proofs.Source as source
use Rattle.call.proofs.Destination as destination

pub lawful_at : (node : Node) → Lawful (half_of node)
lawful_at Source = source.lawful
lawful_at Destination = destination.lawful
