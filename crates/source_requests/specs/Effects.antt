-- The rows of a soft trigger and of the answers of path choice, carried out: what the functions of this crate return. Assumes nothing.
use Rattle.std.specs.Prelude.{ℕ, Option, None}
use Rattle.signal.specs.declared.Soft.{Soft}
use Rattle.rows.specs.Effects.{is_next}
use Rattle.rows.specs.States.{phase_of}
use Rattle.rows.specs.declared.Effect.{Effect}
use Rattle.rows.specs.declared.State.{State}
use Rattle.source_rows.specs.Rows.{at_source, no_path_row, path_row, trigger_row}

abbrev pub trigger_effect : Soft → State → Effect
trigger_effect soft s = at_source s None None (trigger_row (phase_of s) soft)

abbrev pub path_effect : Option ℕ → State → Effect
path_effect next s = at_source s next None (path_row (phase_of s) (is_next next))

abbrev pub no_path_effect : State → Effect
no_path_effect s = at_source s None None (no_path_row (phase_of s))
