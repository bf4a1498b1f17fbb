-- The rows of a setup and of "ready", carried out: what the functions of this crate return. Assumes nothing.
use Rattle.std.specs.Prelude.{ℕ, false, true, [], ◌∷◌, Option, None}
use Rattle.signal.specs.Causes.{in_progress}
use Rattle.signal.specs.Numbers.{is_late}
use Rattle.signal.specs.Signals.{places, rejection}
use Rattle.signal.specs.declared.Answer.TheVariants.{Done}
use Rattle.signal.specs.declared.Soft.{Soft}
use Rattle.signal.specs.declared.Switchover.{Switchover}
use Rattle.rows.specs.Cases.{asking_of}
use Rattle.rows.specs.Effects.{is_next}
use Rattle.rows.specs.States.{phase_of}
use Rattle.rows.specs.declared.Effect.{Effect}
use Rattle.rows.specs.declared.State.{State}
use Rattle.source_rows.specs.Rows.{at_source, ready_row, setup_row}

-- row 3: the setup is rejected with #6, the call stays in its state with what it holds, and the number is stored (6.2.7; 02, Ask 3)
abbrev pub in_progress_stored : State → Effect
in_progress_stored s = record { answer = Done; state = s; gives = false; stores = true; signals = places (rejection in_progress ∷ []) }

abbrev pub setup_effect : Soft → Switchover → ℕ → ℕ → Option ℕ → State → Effect
setup_effect soft code number remote next s =
    at_source s next None (setup_row (phase_of s) soft (is_next next) (asking_of code) (is_late number remote))

abbrev pub ready_effect : State → Effect
ready_effect s = at_source s None None (ready_row (phase_of s))
