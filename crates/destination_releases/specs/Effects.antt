-- The rows of a release from the calling side at the destination, carried out: what the functions of this crate return. Assumes nothing.
use Rattle.std.specs.Prelude.{ℕ, Bool, true, Option}
use Rattle.signal.specs.declared.Crankback.{Crankback}
use Rattle.signal.specs.declared.Crankback.TheVariants.{NoCrankback}
use Rattle.signal.specs.declared.ReroutingCause.{ReroutingCause}
use Rattle.rows.specs.Cases.{class_of, role_of}
use Rattle.rows.specs.Effects.{is_next}
use Rattle.rows.specs.States.{phase_of}
use Rattle.rows.specs.declared.Effect.{Effect}
use Rattle.rows.specs.declared.State.{State}
use Rattle.rows.specs.declared.State.TheVariants.{Awaiting, SoftInitiated}
use Rattle.destination_rows.specs.Rows.{at_destination, calling_at_destination}

abbrev pub destination_calling : Bool → ℕ → Option ReroutingCause → Crankback → Option ℕ → State → Effect
destination_calling hard c cause tried next s =
    at_destination s next cause (calling_at_destination (phase_of s) hard (is_next next) (role_of s c) (class_of cause) tried)

-- the same in the states where crankback is not read
abbrev pub setup_calling : Bool → ℕ → Option ReroutingCause → Option ℕ → ℕ → ℕ → Effect
setup_calling hard c cause next i r = destination_calling hard c cause NoCrankback next (SoftInitiated i r)

abbrev pub switchover_calling : ℕ → Option ReroutingCause → Option ℕ → ℕ → ℕ → Effect
switchover_calling c cause next i r = destination_calling true c cause NoCrankback next (Awaiting i r)
