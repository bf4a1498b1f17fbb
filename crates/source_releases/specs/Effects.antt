-- The rows of a release from the called side, carried out: what the functions of this crate return. Assumes nothing.
use Rattle.std.specs.Prelude.{ℕ, Bool, true, Option}
use Rattle.signal.specs.Signals.{release_of}
use Rattle.signal.specs.declared.Crankback.{Crankback}
use Rattle.signal.specs.declared.Crankback.TheVariants.{NoCrankback}
use Rattle.signal.specs.declared.ReroutingCause.{ReroutingCause}
use Rattle.signal.specs.declared.Kind.TheVariants.{ReroutingRelease}
use Rattle.signal.specs.declared.SentCause.{SentCause}
use Rattle.events.specs.declared.Node.TheVariants.{Source}
use Rattle.rows.specs.Cases.{class_of, role_of}
use Rattle.rows.specs.Effects.{ended_telling, is_next}
use Rattle.rows.specs.States.{phase_of}
use Rattle.rows.specs.declared.Effect.{Effect}
use Rattle.rows.specs.declared.State.{State}
use Rattle.rows.specs.declared.State.TheVariants.{Awaiting, Idle, SoftInitiated}
use Rattle.source_rows.specs.Rows.{at_source, called_row}

abbrev pub called_effect : Bool → ℕ → Option ReroutingCause → Crankback → Option ℕ → State → Effect
called_effect hard c cause tried next s =
    at_source s next cause (called_row (phase_of s) hard (is_next next) (role_of s c) (class_of cause) tried)

-- the same in the states where crankback is not read
abbrev pub idle_called : Bool → ℕ → Option ReroutingCause → Option ℕ → ℕ → Effect
idle_called hard c cause next i = called_effect hard c cause NoCrankback next (Idle i)

abbrev pub initiated_called : Bool → ℕ → Option ReroutingCause → Option ℕ → ℕ → ℕ → Effect
initiated_called hard c cause next i r = called_effect hard c cause NoCrankback next (SoftInitiated i r)

abbrev pub awaiting_called : ℕ → Option ReroutingCause → Option ℕ → ℕ → ℕ → Effect
awaiting_called c cause next i r = called_effect true c cause NoCrankback next (Awaiting i r)

-- the calling side and the rerouting connection are released with one cause
abbrev pub told_both : ℕ → SentCause → Effect
told_both r cause = ended_telling Source cause (release_of ReroutingRelease r cause)
