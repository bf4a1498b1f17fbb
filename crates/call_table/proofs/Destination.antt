-- The claims on the table, at the destination. Assumes nothing.
use Rattle.call.proofs.Destination.{lawful}
use Rattle.call.specs.Events.{destination_half}
use Rattle.call_table.specs.Claims.{TableClaims}
use Rattle.call_table.proofs.All as any

pub claims : TableClaims destination_half
claims = any.claims destination_half lawful
