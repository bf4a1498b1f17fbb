-- The rows of a soft reroute that this end starts, carried out: what the functions of this crate return. Assumes nothing.
use Rattle.std.specs.Prelude.{ℕ, Bool, Option, None}
use Rattle.signal.specs.declared.Soft.{Soft}
use Rattle.rows.specs.Cases.{role_of}
use Rattle.rows.specs.Effects.{is_next}
use Rattle.rows.specs.States.{phase_of}
use Rattle.rows.specs.declared.Effect.{Effect}
use Rattle.rows.specs.declared.State.{State}
use Rattle.destination_rows.specs.Rows.{at_destination, connect_at_destination, no_path_at_destination}
use Rattle.destination_rows.specs.Rows.{path_at_destination, trigger_at_destination}

abbrev pub destination_trigger : Soft → State → Effect
destination_trigger soft s = at_destination s None None (trigger_at_destination (phase_of s) soft)

abbrev pub destination_path : Option ℕ → State → Effect
destination_path next s = at_destination s next None (path_at_destination (phase_of s) (is_next next))

abbrev pub destination_no_path : State → Effect
destination_no_path s = at_destination s None None (no_path_at_destination (phase_of s))

abbrev pub destination_connect : ℕ → Bool → State → Effect
destination_connect c agreed s = at_destination s None None (connect_at_destination (phase_of s) (role_of s c) agreed)
