-- The claims on the table, at the source. Assumes nothing.
use Rattle.call.proofs.Source.{lawful}
use Rattle.call.specs.Events.{source_half}
use Rattle.call_table.specs.Claims.{TableClaims}
use Rattle.call_table.proofs.All as any

pub claims : TableClaims source_half
claims = any.claims source_half lawful
