-- The rows of a setup and of "ready" at the destination, carried out: what the functions of this crate return. Assumes nothing.
use Rattle.std.specs.Prelude.{ℕ, Bool, cond, true, Option, None}
use Rattle.signal.specs.Numbers.{is_late}
use Rattle.signal.specs.Signals.{none, release_of, release_with, timer_start}
use Rattle.signal.specs.declared.Answer.TheVariants.{NoMeaning, NumbersSpent}
use Rattle.signal.specs.declared.CauseCode.TheVariants.{CallRejected}
use Rattle.signal.specs.declared.Kind.TheVariants.{IncumbentRelease, ReroutingRelease}
use Rattle.signal.specs.declared.SentCause.TheVariants.{Absent}
use Rattle.signal.specs.declared.Soft.{Soft}
use Rattle.signal.specs.declared.Switchover.{Switchover}
use Rattle.rows.specs.Cases.{asking_of}
use Rattle.rows.specs.Effects.{given_in, is_next, refused_in}
use Rattle.rows.specs.States.{is_null, phase_of}
use Rattle.rows.specs.declared.Effect.{Effect}
use Rattle.rows.specs.declared.State.{State}
use Rattle.rows.specs.declared.State.TheVariants.{HardUnderway}
use Rattle.destination_rows.specs.Rows.{at_destination, ready_at_destination, setup_asked_here, setup_at_destination}
use Rattle.source_rows.specs.Shared.{in_call}

-- a hard setup, where the incumbent is held alone, and where a rerouting connection is held beside it
abbrev pub incumbent_left : ℕ → ℕ → Effect
incumbent_left i n = given_in (HardUnderway n) true timer_start (release_of IncumbentRelease i Absent) none

abbrev pub both_left : ℕ → ℕ → ℕ → Effect
both_left i r n =
    given_in (HardUnderway n) true timer_start (release_with IncumbentRelease i Absent CallRejected)
    (release_with ReroutingRelease r Absent CallRejected)

-- there is no number for the new connection
abbrev pub setup_spent : State → Effect
setup_spent s = cond (is_null s) (refused_in NoMeaning s) (refused_in NumbersSpent s)

-- of a call that a service is activated for, outside Null and in any state
abbrev pub setup_checked : Switchover → ℕ → ℕ → Option ℕ → State → Effect
setup_checked code number remote next s =
    at_destination s next None (setup_asked_here (asking_of code) (is_late number remote) (phase_of s) (is_next next))

abbrev pub setup_met : Switchover → ℕ → ℕ → Option ℕ → State → Effect
setup_met code number remote next s =
    at_destination s next None
    (in_call (phase_of s) (setup_asked_here (asking_of code) (is_late number remote) (phase_of s) (is_next next)))

abbrev pub destination_setup : Bool → Soft → Switchover → ℕ → ℕ → Option ℕ → State → Effect
destination_setup hard soft code number remote next s =
    at_destination s next None (setup_at_destination (phase_of s) hard soft (is_next next) (asking_of code) (is_late number remote))

abbrev pub destination_ready : State → Effect
destination_ready s = at_destination s None None (ready_at_destination (phase_of s))
