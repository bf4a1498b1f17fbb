-- What an event does to a record (01, "Events and rows"; 02, Ask 2), at either end. Assumes nothing.
use Rattle.events.specs.Events.{number_brought}
use Rattle.events.specs.declared.Event.{Event}
use Rattle.events.specs.declared.Node.{Node}
use Rattle.events.specs.declared.Node.TheVariants.{Destination, Source}
use Rattle.rows.specs.Cases.{Standing}
use Rattle.rows.specs.Checks.{Demands}
use Rattle.rows.specs.declared.Effect.{Effect}
use Rattle.source_rows.specs.Demands.{source_demands}
use Rattle.source_rows.specs.Rows.{source_effect}
use Rattle.destination_rows.specs.Demands.{destination_demands}
use Rattle.destination_rows.specs.Rows.{destination_effect}
use Rattle.call.specs.Record.{carried_out, standing}
use Rattle.call.specs.declared.Call.{Call}
use Rattle.call.specs.declared.Outcome.{Outcome}

-- one half of the control: what the documents ask of its end, and what an event does there to a call
pub record Half : Type 0 where
  pub demands : Demands
  pub does : Standing → Event → Effect

-- an event at a record: its effect, carried out
abbrev pub handled_at : Half → Call → Event → Outcome
handled_at half c e = carried_out c (number_brought e) (half.does (standing c) e)

-- the halves: the rows of each end's page
abbrev pub source_half : Half
source_half = record { demands = source_demands; does = source_effect }

abbrev pub destination_half : Half
destination_half = record { demands = destination_demands; does = destination_effect }

abbrev pub half_of : Node → Half
half_of Source = source_half
half_of Destination = destination_half
