-- The rows of a release from the calling side, carried out: what the functions of this crate return. Assumes nothing.
use Rattle.std.specs.Prelude.{Bool, Option, None}
use Rattle.signal.specs.declared.ReroutingCause.{ReroutingCause}
use Rattle.rows.specs.Cases.{class_of}
use Rattle.rows.specs.States.{phase_of}
use Rattle.rows.specs.declared.Effect.{Effect}
use Rattle.rows.specs.declared.State.{State}
use Rattle.source_rows.specs.Rows.{at_source, calling_row}

abbrev pub calling_effect : Bool → Option ReroutingCause → State → Effect
calling_effect hard cause s = at_source s None cause (calling_row (phase_of s) hard (class_of cause))
