-- The shared rows, carried out: what the functions of this crate return. Assumes nothing.
use Rattle.std.specs.Prelude.{ℕ, Bool, true, Option, None}
use Rattle.signal.specs.Causes.{passed}
use Rattle.signal.specs.Signals.{none, release_of, timer_stop}
use Rattle.signal.specs.declared.Answer.TheVariants.{NoMeaning}
use Rattle.signal.specs.declared.Crankback.{Crankback}
use Rattle.signal.specs.declared.ReroutingCause.{ReroutingCause}
use Rattle.signal.specs.declared.Kind.TheVariants.{IncumbentRelease, ReroutingRelease}
use Rattle.signal.specs.declared.SentCause.{SentCause}
use Rattle.events.specs.declared.Node.{Node}
use Rattle.rows.specs.Cases.{class_of, role_of}
use Rattle.rows.specs.Effects.{carried_at, done_in, is_next, refused_in}
use Rattle.rows.specs.Rules.{of_rerouting}
use Rattle.rows.specs.States.{AtSoftProceeding, phase_of}
use Rattle.rows.specs.declared.Effect.{Effect}
use Rattle.rows.specs.declared.State.{State}
use Rattle.rows.specs.declared.State.TheVariants.{Awaiting, HardUnderway, HardWaiting, Idle, Null, SoftInitiated, SoftProceeding}
use Rattle.rows.specs.declared.State.TheVariants.{SoftTriggered}
use Rattle.source_rows.specs.Shared.{expiry_row, idle_lost, soft_connected, soft_crankback, soft_path, trigger_in}

abbrev pub trigger_in_effect : Node → State → Effect
trigger_in_effect node s = carried_at node s None None (trigger_in (phase_of s))

abbrev pub soft_path_effect : Node → Option ℕ → ℕ → Effect
soft_path_effect node next i = carried_at node (SoftTriggered i) next None (soft_path (is_next next))

abbrev pub soft_connect_effect : Node → ℕ → Bool → ℕ → ℕ → Effect
soft_connect_effect node c agreed i r =
    carried_at node (SoftProceeding i r) None None
    (of_rerouting (role_of (SoftProceeding i r) c) AtSoftProceeding (soft_connected agreed))

abbrev pub soft_crankback_effect : Node → Option ReroutingCause → Crankback → Option ℕ → ℕ → ℕ → Effect
soft_crankback_effect node cause tried next i r = carried_at node (SoftProceeding i r) next cause (soft_crankback tried (is_next next))

abbrev pub idle_lost_effect : Node → Bool → Option ReroutingCause → ℕ → Option ℕ → Effect
idle_lost_effect node hard cause i next = carried_at node (Idle i) next cause (idle_lost hard (class_of cause))

abbrev pub expiry_effect : Node → State → Effect
expiry_effect node s = carried_at node s None None (expiry_row (phase_of s))

-- the incumbent is released, and the call ends; the same with both held connections, with one cause
abbrev pub incumbent_ended : ℕ → SentCause → Effect
incumbent_ended i cause = done_in Null (release_of IncumbentRelease i cause) none none

abbrev pub both_ended_with : ℕ → ℕ → SentCause → Effect
both_ended_with i r cause = done_in Null (release_of IncumbentRelease i cause) (release_of ReroutingRelease r cause) none

-- a release from the party; the party is not told, so that it is the same at both ends
abbrev pub party_ended : Bool → Option ReroutingCause → SentCause → State → Effect
party_ended hard cause triggered Null = refused_in NoMeaning Null
party_ended hard cause triggered (Idle i) = incumbent_ended i (passed hard cause)
party_ended hard cause triggered HardWaiting = done_in Null timer_stop none none
party_ended hard cause triggered (HardUnderway r) = done_in Null timer_stop (release_of ReroutingRelease r (passed true cause)) none
party_ended hard cause triggered (SoftTriggered i) = incumbent_ended i triggered
party_ended hard cause triggered (SoftProceeding i r) = both_ended_with i r (passed hard cause)
party_ended hard cause triggered (SoftInitiated i r) = both_ended_with i r (passed hard cause)
party_ended hard cause triggered (Awaiting i r) = both_ended_with i r (passed hard cause)
