-- The rows of the destination node (6.3), the whole table: for each event, what is done in each state; what is the same at both ends stands
-- beside the source's page (source_rows, specs/Shared). To be held against sections 6.3.4 to 6.3.7, whose text decides every row (decision
-- 56); 01 gives the frame, and "decision N" is a point of docs/DECISIONS.md. The states have the destination's own names; the party is the
-- called one, and the release from across the domain is the calling side's. A clause that refuses names 106
-- (NoMeaning), 107 (NotHeld) or, in Shared, 108 (NumbersSpent; decision 60). Assumes nothing.
use Rattle.std.specs.Prelude.{ℕ, Bool, cond, Option}
use Rattle.signal.specs.declared.Answer.TheVariants.{NoMeaning, NotHeld}
use Rattle.signal.specs.declared.Crankback.{Crankback}
use Rattle.signal.specs.declared.ReroutingCause.{ReroutingCause}
use Rattle.signal.specs.declared.Soft.{Soft}
use Rattle.signal.specs.declared.Soft.TheVariants.{Asymmetric, NoSoft, Symmetric}
use Rattle.events.specs.declared.Event.{Event}
use Rattle.events.specs.declared.Node.TheVariants.{Destination}
use Rattle.rows.specs.Cases.{Asking, AsksClearing, AsksImmediate, AsksOther, Case, Connected, DomainReleased, Expired, FoundNone}
use Rattle.rows.specs.Cases.{FoundPath, Happening, PartyReleased, Role, SaidReady, SetUp, Standing, Triggered}
use Rattle.rows.specs.Effects.{carried_at}
use Rattle.rows.specs.Page.{done_by}
use Rattle.rows.specs.Rules.{NewNumber, NoSlot, OldRerouting, Rule, Saying, Says2, SaysAsCame, SaysNothing, SendsConnect}
use Rattle.rows.specs.Rules.{closed, dropping, ends, of_either, of_incumbent, of_rerouting, plainly, refuses, retiring, starting, stopping}
use Rattle.rows.specs.Rules.{switching, telling, to, turned_away}
use Rattle.rows.specs.States.{Phase}
use Rattle.rows.specs.declared.Class.{Class}
use Rattle.rows.specs.declared.Class.TheVariants.{CameComplete, CameNone, CameOther, CameOutside}
use Rattle.rows.specs.declared.Effect.{Effect}
use Rattle.rows.specs.declared.State.{State}
use Rattle.source_rows.specs.Shared.{accepted, back_to_idle, expiry_row, idle_lost, in_call, newly_initiated, party_row, rejected_old}
use Rattle.source_rows.specs.Shared.{rejected_unsupported, soft_connected, soft_crankback, soft_path, soft_ready, trigger_in}
use Rattle.rows.specs.States.{AtNull as Null, AtIdle as Idle, AtHardWaiting as HardIndicated, AtHardUnderway as HardInitiated}
use Rattle.rows.specs.States.{AtSoftTriggered as SoftTriggered, AtSoftProceeding as SoftProceeding}
use Rattle.rows.specs.States.{AtSoftInitiated as SoftInitiated, AtAwaiting as Awaiting}

-- ---- soft trigger (6.3.6.1)
-- symmetric soft alone may be started from this side; without it a trigger has no meaning, in every state (decision 59)
abbrev pub trigger_at_destination : Phase → Soft → Rule
trigger_at_destination phase NoSoft = refuses NoMeaning phase
trigger_at_destination phase Asymmetric = refuses NoMeaning phase
trigger_at_destination phase Symmetric = trigger_in phase

-- ---- path found, no path (6.3.6.1 case 1)
-- in Soft Triggered alone: this end looks for no hard path; elsewhere 106 (decision 60)
abbrev pub path_at_destination : Phase → Bool → Rule
path_at_destination Null room = refuses NoMeaning Null
path_at_destination Idle room = refuses NoMeaning Idle
path_at_destination HardIndicated room = refuses NoMeaning HardIndicated
path_at_destination HardInitiated room = refuses NoMeaning HardInitiated
path_at_destination SoftTriggered room = soft_path room
path_at_destination SoftProceeding room = refuses NoMeaning SoftProceeding
path_at_destination SoftInitiated room = refuses NoMeaning SoftInitiated
path_at_destination Awaiting room = refuses NoMeaning Awaiting

abbrev pub no_path_at_destination : Phase → Rule
no_path_at_destination Null = refuses NoMeaning Null
no_path_at_destination Idle = refuses NoMeaning Idle
no_path_at_destination HardIndicated = refuses NoMeaning HardIndicated
no_path_at_destination HardInitiated = refuses NoMeaning HardInitiated
no_path_at_destination SoftTriggered = back_to_idle
no_path_at_destination SoftProceeding = refuses NoMeaning SoftProceeding
no_path_at_destination SoftInitiated = refuses NoMeaning SoftInitiated
no_path_at_destination Awaiting = refuses NoMeaning Awaiting

-- ---- connect (6.3.7.1)
-- in Soft Proceeding alone; another connection than the rerouting one 107
abbrev pub connect_at_destination : Phase → Role → Bool → Rule
connect_at_destination Null role agreed = refuses NoMeaning Null
connect_at_destination Idle role agreed = refuses NoMeaning Idle
connect_at_destination HardIndicated role agreed = refuses NoMeaning HardIndicated
connect_at_destination HardInitiated role agreed = refuses NoMeaning HardInitiated
connect_at_destination SoftTriggered role agreed = refuses NoMeaning SoftTriggered
connect_at_destination SoftProceeding role agreed = of_rerouting role SoftProceeding (soft_connected agreed)
connect_at_destination SoftInitiated role agreed = refuses NoMeaning SoftInitiated
connect_at_destination Awaiting role agreed = refuses NoMeaning Awaiting

-- ---- setup (6.3.5; decisions 71 to 73)
-- a hard setup is accepted: the new connection alone is held
abbrev pub newly_hard : Rule
newly_hard = to HardInitiated NoSlot NewNumber

-- both connections held before are released with Cause code #21 (6.3.5.4 case 1, 6.3.5.5, 6.3.5.7 case 1)
abbrev pub hard_over_both : Rule
hard_over_both = starting (retiring turned_away (dropping turned_away newly_hard))

-- by state: 6.3.5.1 case 1, where the incumbent's release has no #21 (decision 72); 6.3.5.2; 6.3.5.3; 6.3.5.6 as 6.3.5.1; 6.3.5.7 case 1;
-- 6.3.5.4 case 1; 6.3.5.5 as 6.3.5.4
abbrev pub hard_setup_in : Phase → Bool → Rule
hard_setup_in Null room = refuses NoMeaning Null
hard_setup_in Idle room = accepted room Idle (starting (retiring plainly newly_hard))
hard_setup_in HardIndicated room = accepted room HardIndicated newly_hard
hard_setup_in HardInitiated room = accepted room HardInitiated (dropping turned_away newly_hard)
hard_setup_in SoftTriggered room = accepted room SoftTriggered (starting (retiring plainly newly_hard))
hard_setup_in SoftProceeding room = accepted room SoftProceeding hard_over_both
hard_setup_in SoftInitiated room = accepted room SoftInitiated hard_over_both
hard_setup_in Awaiting room = accepted room Awaiting hard_over_both

-- a soft setup: the older rerouting connection, whoever started it, is released with Cause code #21
abbrev pub soft_over_older : Rule
soft_over_older = dropping turned_away newly_initiated

-- by state: 6.3.5.1 case 2; in the Hard states as a hard one (6.3.5.2, 6.3.5.3); 6.3.5.6 as 6.3.5.1; 6.3.5.7 case 2; 6.3.5.4 case 2;
-- 6.3.5.5 as 6.3.5.4
abbrev pub soft_setup_in : Phase → Bool → Rule
soft_setup_in Null room = refuses NoMeaning Null
soft_setup_in Idle room = accepted room Idle newly_initiated
soft_setup_in HardIndicated room = hard_setup_in HardIndicated room
soft_setup_in HardInitiated room = hard_setup_in HardInitiated room
soft_setup_in SoftTriggered room = accepted room SoftTriggered newly_initiated
soft_setup_in SoftProceeding room = accepted room SoftProceeding soft_over_older
soft_setup_in SoftInitiated room = accepted room SoftInitiated soft_over_older
soft_setup_in Awaiting room = accepted room Awaiting soft_over_older

-- the number is looked at behind the code (6.3.5; decision 71)
abbrev pub number_checked : Bool → Phase → Rule → Rule
number_checked late phase row = cond late (rejected_old phase) row

-- an unrecognised code: #8, but in the Hard states the code is not read, and the setup is a hard one (6.3.5; decision 71)
abbrev pub unrecognized_in : Phase → Rule → Rule
unrecognized_in Null row = rejected_unsupported Null
unrecognized_in Idle row = rejected_unsupported Idle
unrecognized_in HardIndicated row = row
unrecognized_in HardInitiated row = row
unrecognized_in SoftTriggered row = rejected_unsupported SoftTriggered
unrecognized_in SoftProceeding row = rejected_unsupported SoftProceeding
unrecognized_in SoftInitiated row = rejected_unsupported SoftInitiated
unrecognized_in Awaiting row = rejected_unsupported Awaiting

abbrev pub setup_asked_here : Asking → Bool → Phase → Bool → Rule
setup_asked_here AsksImmediate late phase room = number_checked late phase (hard_setup_in phase room)
setup_asked_here AsksClearing late phase room = number_checked late phase (soft_setup_in phase room)
setup_asked_here AsksOther late phase room = unrecognized_in phase (number_checked late phase (hard_setup_in phase room))

-- 106 only where no service is activated: hard off and soft none (6.3.2; decision 58)
abbrev pub served : Bool → Soft → Phase → Rule → Rule
served hard NoSoft phase row = cond hard row (refuses NoMeaning phase)
served hard Asymmetric phase row = row
served hard Symmetric phase row = row

abbrev pub setup_at_destination : Phase → Bool → Soft → Bool → Asking → Bool → Rule
setup_at_destination phase hard soft room asked late = served hard soft phase (in_call phase (setup_asked_here asked late phase room))

-- ---- ready (6.3.5.8, 6.3.5.9; decision 62)
-- Hard Initiated: timer stop, switch and connect on the rerouting connection, Idle on it. Soft Initiated: as at either end; elsewhere 106
abbrev pub ready_at_destination : Phase → Rule
ready_at_destination Null = refuses NoMeaning Null
ready_at_destination Idle = refuses NoMeaning Idle
ready_at_destination HardIndicated = refuses NoMeaning HardIndicated
ready_at_destination HardInitiated = stopping (switching OldRerouting (closed (SendsConnect OldRerouting) (to Idle OldRerouting NoSlot)))
ready_at_destination SoftTriggered = refuses NoMeaning SoftTriggered
ready_at_destination SoftProceeding = refuses NoMeaning SoftProceeding
ready_at_destination SoftInitiated = soft_ready
ready_at_destination Awaiting = refuses NoMeaning Awaiting

-- ---- release from the called side (6.3.4; decision 66)
-- Soft Triggered: 6.3.4.7 says only that 6.3.4.1 applies, which has no case with #1: no Rerouting cause, whatever came, hard on or off
-- (decision 65)
abbrev pub triggered_passing : Saying
triggered_passing = SaysNothing

-- in every other state as at either end
abbrev pub called_at_destination : Phase → Bool → Class → Rule
called_at_destination phase hard class = party_row triggered_passing phase hard class

-- ---- release from the calling side, for a connection (6.3.4; decisions 67 to 69)
-- #1 goes on as received, any other cause is the number 2; none is absent
abbrev pub forwarding : Class → Saying
forwarding CameNone = SaysNothing
forwarding CameOutside = SaysAsCame
forwarding CameComplete = Says2
forwarding CameOther = Says2

-- the called side is told, and the rerouting connection's own release carries no Rerouting cause (6.3.4.5 case 3)
abbrev pub ended_over : Class → Rule
ended_over class = telling (forwarding class) (dropping plainly ends)

-- Soft Triggered: as 6.3.4.1, whatever came, hard on or off; crankback is not read (6.3.4.7; decision 65)
abbrev pub triggered_lost : Rule
triggered_lost = telling SaysNothing ends

-- Soft Proceeding, the incumbent: none and hard on: timer start, rerouting released with code #21, Hard Indicated (6.3.4.8 cases 3 and 4)
abbrev pub proceeding_lost : Bool → Class → Rule
proceeding_lost hard CameNone = cond hard (starting (dropping turned_away (to HardIndicated NoSlot NoSlot))) (ended_over CameNone)
proceeding_lost hard CameOutside = ended_over CameOutside
proceeding_lost hard CameComplete = ended_over CameComplete
proceeding_lost hard CameOther = ended_over CameOther

-- Soft Initiated, the incumbent: none and hard on: timer start, Hard Initiated with the rerouting connection (6.3.4.5 cases 3 and 4)
abbrev pub setup_lost : Bool → Class → Rule
setup_lost hard CameNone = cond hard (starting (to HardInitiated NoSlot OldRerouting)) (ended_over CameNone)
setup_lost hard CameOutside = ended_over CameOutside
setup_lost hard CameComplete = ended_over CameComplete
setup_lost hard CameOther = ended_over CameOther

-- Awaiting, the incumbent: none or #4 switches over, hard is not read, nothing is released (6.3.4.6 cases 3 and 4)
abbrev pub switchover_lost : Class → Rule
switchover_lost CameNone = switching OldRerouting (to Idle OldRerouting NoSlot)
switchover_lost CameOutside = ended_over CameOutside
switchover_lost CameComplete = switching OldRerouting (to Idle OldRerouting NoSlot)
switchover_lost CameOther = ended_over CameOther

-- Hard Initiated, the rerouting connection: none: Hard Indicated, the timer goes on, at 65,535 too (6.3.4.4 cases 3 and 4)
abbrev pub hard_dropped : Class → Rule
hard_dropped CameNone = to HardIndicated NoSlot NoSlot
hard_dropped CameOutside = stopping (telling (forwarding CameOutside) ends)
hard_dropped CameComplete = stopping (telling (forwarding CameComplete) ends)
hard_dropped CameOther = stopping (telling (forwarding CameOther) ends)

-- Awaiting, the rerouting connection: none: Idle; a cause, #4 too: the call ends, and the incumbent's own release carries no Rerouting
-- cause (6.3.4.6 cases 5 and 6)
abbrev pub switchover_dropped : Class → Rule
switchover_dropped CameNone = back_to_idle
switchover_dropped CameOutside = telling (forwarding CameOutside) (retiring plainly ends)
switchover_dropped CameComplete = telling (forwarding CameComplete) (retiring plainly ends)
switchover_dropped CameOther = telling (forwarding CameOther) (retiring plainly ends)

-- Soft Initiated, the rerouting connection: Idle, whatever the cause (6.3.4.5 case 5). A connection that is not held: 107; Hard Indicated
-- holds none
abbrev pub calling_at_destination : Phase → Bool → Bool → Role → Class → Crankback → Rule
calling_at_destination Null hard room role class tried = refuses NoMeaning Null
calling_at_destination Idle hard room role class tried = of_incumbent role Idle (idle_lost hard class)
calling_at_destination HardIndicated hard room role class tried = refuses NotHeld HardIndicated
calling_at_destination HardInitiated hard room role class tried = of_rerouting role HardInitiated (hard_dropped class)
calling_at_destination SoftTriggered hard room role class tried = of_incumbent role SoftTriggered triggered_lost
calling_at_destination SoftProceeding hard room role class tried =
    of_either role SoftProceeding (proceeding_lost hard class) (soft_crankback tried room)
calling_at_destination SoftInitiated hard room role class tried = of_either role SoftInitiated (setup_lost hard class) back_to_idle
calling_at_destination Awaiting hard room role class tried = of_either role Awaiting (switchover_lost class) (switchover_dropped class)

-- ---- the table: the row of a case; timer expiry (6.3.5.10) as at either end
abbrev pub destination_row_in : Phase → Bool → Soft → Bool → Happening → Rule
destination_row_in phase hard soft room Triggered = trigger_at_destination phase soft
destination_row_in phase hard soft room FoundPath = path_at_destination phase room
destination_row_in phase hard soft room FoundNone = no_path_at_destination phase
destination_row_in phase hard soft room (Connected role agreed) = connect_at_destination phase role agreed
destination_row_in phase hard soft room (SetUp asked late) = setup_at_destination phase hard soft room asked late
destination_row_in phase hard soft room (PartyReleased class) = called_at_destination phase hard class
destination_row_in phase hard soft room (DomainReleased role class tried) = calling_at_destination phase hard room role class tried
destination_row_in phase hard soft room SaidReady = ready_at_destination phase
destination_row_in phase hard soft room Expired = expiry_row phase

abbrev pub destination_row : Case → Rule
destination_row c = destination_row_in c.phase c.hard c.soft c.room c.happening

-- a rule, carried out at the destination
abbrev pub at_destination : State → Option ℕ → Option ReroutingCause → Rule → Effect
at_destination = carried_at Destination

-- what an event does to a call: the row of its case, carried out
abbrev pub destination_effect : Standing → Event → Effect
destination_effect = done_by Destination destination_row
