-- The rows of the source node (6.2), the whole table: for each event, what is done in each state; what is the same at both ends stands in
-- Shared. To be held against 01, "Events and rows", and sections 6.2.4 to 6.2.7; "decision N" is a point of docs/DECISIONS.md. The states
-- have the source's own names; the party is the calling one, and the release from across the domain is the called side's. A clause that
-- refuses names 106, 107 or 108 (01, "Numbers of refusal"). Assumes nothing.
use Rattle.std.specs.Prelude.{ℕ, Bool, cond, Option}
use Rattle.signal.specs.declared.Answer.TheVariants.{NoMeaning, NotHeld, NumbersSpent}
use Rattle.signal.specs.declared.Crankback.{Crankback}
use Rattle.signal.specs.declared.Crankback.TheVariants.{AlternateFound, NoAlternate, NoCrankback}
use Rattle.signal.specs.declared.ReroutingCause.{ReroutingCause}
use Rattle.signal.specs.declared.Soft.{Soft}
use Rattle.signal.specs.declared.Soft.TheVariants.{Asymmetric, NoSoft, Symmetric}
use Rattle.events.specs.declared.Event.{Event}
use Rattle.events.specs.declared.Node.TheVariants.{Source}
use Rattle.rows.specs.Cases.{Asking, AsksClearing, AsksImmediate, AsksOther, Case, Connected, DomainReleased, Expired, FoundNone}
use Rattle.rows.specs.Cases.{FoundPath, Happening, PartyReleased, Role, SaidReady, SetUp, Standing, Triggered}
use Rattle.rows.specs.Effects.{carried_at}
use Rattle.rows.specs.Page.{done_by}
use Rattle.rows.specs.Rules.{NewNumber, NoSlot, OldRerouting, Rule, Saying, Says1, Says2, Says6}
use Rattle.rows.specs.Rules.{SaysAsCame, SaysNothing, SendsSetup, closed, dropping, ends, of_either, of_incumbent}
use Rattle.rows.specs.Rules.{of_rerouting, plainly, refuses, retiring, starting, stays, stopping, storing, switching, telling}
use Rattle.rows.specs.Rules.{to, turned_away, with}
use Rattle.rows.specs.States.{Phase}
use Rattle.rows.specs.declared.Class.{Class}
use Rattle.rows.specs.declared.Class.TheVariants.{CameComplete, CameNone, CameOther, CameOutside}
use Rattle.rows.specs.declared.Effect.{Effect}
use Rattle.rows.specs.declared.State.{State}
use Rattle.source_rows.specs.Shared.{accepted, back_to_idle, expiry_row, idle_lost, in_call, newly_initiated, party_row, rejected_old}
use Rattle.source_rows.specs.Shared.{rejected_unsupported, rejects, soft_connected, soft_crankback, soft_path, soft_ready, trigger_in}
use Rattle.rows.specs.States.{AtNull as Null, AtIdle as Idle, AtHardWaiting as HardTriggered, AtHardUnderway as HardProceeding}
use Rattle.rows.specs.States.{AtSoftTriggered as SoftTriggered, AtSoftProceeding as SoftProceeding}
use Rattle.rows.specs.States.{AtSoftInitiated as SoftInitiated, AtAwaiting as Awaiting}

-- ---- soft trigger (6.2.5.3)
-- with a soft service as at either end; with soft none it has no meaning, in every state (decision 9)
abbrev pub trigger_row : Phase → Soft → Rule
trigger_row phase NoSoft = refuses NoMeaning phase
trigger_row phase Asymmetric = trigger_in phase
trigger_row phase Symmetric = trigger_in phase

-- ---- path found, no path (01; 6.2.5.1, 6.2.5.3)
-- a setup goes out on a new connection, to the Proceeding state of the same kind; 108 where there is no number; 106 outside the Triggered
-- states
abbrev pub path_row : Phase → Bool → Rule
path_row Null room = refuses NoMeaning Null
path_row Idle room = refuses NoMeaning Idle
path_row HardTriggered room =
    cond room (closed (SendsSetup NewNumber) (to HardProceeding NoSlot NewNumber)) (refuses NumbersSpent HardTriggered)
path_row HardProceeding room = refuses NoMeaning HardProceeding
path_row SoftTriggered room = soft_path room
path_row SoftProceeding room = refuses NoMeaning SoftProceeding
path_row SoftInitiated room = refuses NoMeaning SoftInitiated
path_row Awaiting room = refuses NoMeaning Awaiting

-- Soft Triggered goes to Idle; Hard Triggered stays, and the timer decides
abbrev pub no_path_row : Phase → Rule
no_path_row Null = refuses NoMeaning Null
no_path_row Idle = refuses NoMeaning Idle
no_path_row HardTriggered = stays HardTriggered
no_path_row HardProceeding = refuses NoMeaning HardProceeding
no_path_row SoftTriggered = back_to_idle
no_path_row SoftProceeding = refuses NoMeaning SoftProceeding
no_path_row SoftInitiated = refuses NoMeaning SoftInitiated
no_path_row Awaiting = refuses NoMeaning Awaiting

-- ---- connect (6.2.6)
-- Hard Proceeding: timer stop, switch, Idle; policy is not read (6.2.6.1)
abbrev pub hard_connected : Rule
hard_connected = stopping (switching OldRerouting (to Idle OldRerouting NoSlot))

-- outside the Proceeding states 106; another connection than the rerouting one 107
abbrev pub connect_row : Phase → Role → Bool → Rule
connect_row Null role agreed = refuses NoMeaning Null
connect_row Idle role agreed = refuses NoMeaning Idle
connect_row HardTriggered role agreed = refuses NoMeaning HardTriggered
connect_row HardProceeding role agreed = of_rerouting role HardProceeding hard_connected
connect_row SoftTriggered role agreed = refuses NoMeaning SoftTriggered
connect_row SoftProceeding role agreed = of_rerouting role SoftProceeding (soft_connected agreed)
connect_row SoftInitiated role agreed = refuses NoMeaning SoftInitiated
connect_row Awaiting role agreed = refuses NoMeaning Awaiting

-- ---- setup (01, "Setup", rows 1 to 5; 6.2.7)
-- row 3: rejected, and its number is stored all the same (6.2.7; 02, Ask 3, in place of 01's sentence; decision 79); rows 1 and 2 are those
-- of either end
abbrev pub rejected_in_progress : Phase → Rule
rejected_in_progress phase = storing (rejects Says6 phase)

-- row 5: the older one is released on its own number, and then as row 4, a new rerouting connection (6.2.7.6; decision 11)
abbrev pub initiated_again : Rule
initiated_again = dropping plainly newly_initiated

-- rows 3 to 5, by state
abbrev pub setup_in : Phase → Bool → Rule
setup_in Null room = refuses NoMeaning Null
setup_in Idle room = accepted room Idle newly_initiated
setup_in HardTriggered room = rejected_in_progress HardTriggered
setup_in HardProceeding room = rejected_in_progress HardProceeding
setup_in SoftTriggered room = rejected_in_progress SoftTriggered
setup_in SoftProceeding room = rejected_in_progress SoftProceeding
setup_in SoftInitiated room = accepted room SoftInitiated initiated_again
setup_in Awaiting room = accepted room Awaiting initiated_again

-- rows 1 and 2 come first: another switchover than "clearing", then a late number
abbrev pub setup_asked : Asking → Bool → Phase → Bool → Rule
setup_asked AsksImmediate late phase room = rejected_unsupported phase
setup_asked AsksClearing late phase room = cond late (rejected_old phase) (setup_in phase room)
setup_asked AsksOther late phase room = rejected_unsupported phase

-- without symmetric soft a setup has no meaning (106; decision 13)
abbrev pub setup_row : Phase → Soft → Bool → Asking → Bool → Rule
setup_row phase NoSoft room asked late = refuses NoMeaning phase
setup_row phase Asymmetric room asked late = refuses NoMeaning phase
setup_row phase Symmetric room asked late = in_call phase (setup_asked asked late phase room)

-- ---- ready (6.2.7.8)
-- Soft Initiated: a connect on the rerouting connection, to Awaiting Switchover; elsewhere 106
abbrev pub ready_row : Phase → Rule
ready_row Null = refuses NoMeaning Null
ready_row Idle = refuses NoMeaning Idle
ready_row HardTriggered = refuses NoMeaning HardTriggered
ready_row HardProceeding = refuses NoMeaning HardProceeding
ready_row SoftTriggered = refuses NoMeaning SoftTriggered
ready_row SoftProceeding = refuses NoMeaning SoftProceeding
ready_row SoftInitiated = soft_ready
ready_row Awaiting = refuses NoMeaning Awaiting

-- ---- release from the calling side (01; 6.2.4.2 to 6.2.4.8)
-- Soft Triggered: 6.2.4.5 says only that 6.2.4.1 applies, so #1 where hard is on and none came, and else none (decision 1)
abbrev pub soft_triggered_passing : Bool → Class → Saying
soft_triggered_passing hard CameNone = cond hard Says1 SaysNothing
soft_triggered_passing hard CameOutside = SaysNothing
soft_triggered_passing hard CameComplete = SaysNothing
soft_triggered_passing hard CameOther = SaysNothing

-- in every other state as at either end
abbrev pub calling_row : Phase → Bool → Class → Rule
calling_row phase hard class = party_row (soft_triggered_passing hard class) phase hard class

-- ---- release from the called side, for a connection (01; 6.2.4.2 to 6.2.4.8)
-- the hard reroute is given up: 6.2.4.4 case 5
abbrev pub hard_given_up : Rule
hard_given_up = stopping (telling Says2 ends)

-- a retry over an alternate path, case 4; without a number as case 5 (01, "counts as no path"; decision 3)
abbrev pub hard_alternate : Bool → Rule
hard_alternate room = cond room (closed (SendsSetup NewNumber) (to HardProceeding NoSlot NewNumber)) hard_given_up

-- the node's choice is to try again, case 6 (decision 2); without a number as case 5 (decision 3)
abbrev pub hard_again : Bool → Rule
hard_again room = cond room (to HardTriggered NoSlot NoSlot) hard_given_up

abbrev pub hard_crankback : Crankback → Bool → Rule
hard_crankback NoCrankback room = hard_again room
hard_crankback AlternateFound room = hard_alternate room
hard_crankback NoAlternate room = hard_given_up

-- Hard Proceeding: a cause comes before crankback (6.2.4.4 case 3; decision 4): #1 as received, another #2 (decision 5)
abbrev pub hard_lost : Class → Crankback → Bool → Rule
hard_lost CameNone tried room = hard_crankback tried room
hard_lost CameOutside tried room = stopping (telling SaysAsCame ends)
hard_lost CameComplete tried room = stopping (telling Says2 ends)
hard_lost CameOther tried room = stopping (telling Says2 ends)

-- Soft Triggered: as 6.2.4.1, whatever came, hard on or off; crankback is not read (6.2.4.5; decision 1)
abbrev pub soft_triggered_lost : Rule
soft_triggered_lost = telling SaysNothing ends

-- the calling side and the rerouting connection are released with one cause
abbrev pub both_released : Saying → Rule
both_released say = telling say (dropping (with say) ends)

-- Soft Proceeding, the incumbent (01; D17-4 to 7): #1 as the number 1, another #2, none: timer start, Hard Proceeding; with hard off no
-- cause
abbrev pub soft_lost_hard_on : Class → Rule
soft_lost_hard_on CameNone = starting (to HardProceeding NoSlot OldRerouting)
soft_lost_hard_on CameOutside = both_released Says1
soft_lost_hard_on CameComplete = both_released Says2
soft_lost_hard_on CameOther = both_released Says2

abbrev pub soft_lost : Bool → Class → Rule
soft_lost hard class = cond hard (soft_lost_hard_on class) (both_released SaysNothing)

-- Soft Initiated, the incumbent (01; D18-4 to 7): as Soft Proceeding, but none: timer start, rerouting released with code #21, Hard
-- Triggered
abbrev pub initiated_lost_hard_on : Class → Rule
initiated_lost_hard_on CameNone = starting (dropping turned_away (to HardTriggered NoSlot NoSlot))
initiated_lost_hard_on CameOutside = both_released Says1
initiated_lost_hard_on CameComplete = both_released Says2
initiated_lost_hard_on CameOther = both_released Says2

abbrev pub initiated_lost : Bool → Class → Rule
initiated_lost hard class = cond hard (initiated_lost_hard_on class) (both_released SaysNothing)

-- Awaiting, the incumbent (01; D19-4 to 7): none or #4 switches over; hard is not read (decision 6)
abbrev pub awaiting_lost : Class → Rule
awaiting_lost CameNone = switching OldRerouting (to Idle OldRerouting NoSlot)
awaiting_lost CameOutside = both_released Says1
awaiting_lost CameComplete = switching OldRerouting (to Idle OldRerouting NoSlot)
awaiting_lost CameOther = both_released Says2

-- Awaiting, the rerouting connection (01; 6.2.4.8 cases 5 and 6): the incumbent's own release carries no cause (decision 7)
abbrev pub awaiting_dropped : Class → Rule
awaiting_dropped CameNone = back_to_idle
awaiting_dropped CameOutside = telling Says1 (retiring plainly ends)
awaiting_dropped CameComplete = telling Says2 (retiring plainly ends)
awaiting_dropped CameOther = telling Says2 (retiring plainly ends)

-- a connection that is not held: 107; Hard Triggered holds none (decision 10)
abbrev pub called_row : Phase → Bool → Bool → Role → Class → Crankback → Rule
called_row Null hard room role class tried = refuses NoMeaning Null
called_row Idle hard room role class tried = of_incumbent role Idle (idle_lost hard class)
called_row HardTriggered hard room role class tried = refuses NotHeld HardTriggered
called_row HardProceeding hard room role class tried = of_rerouting role HardProceeding (hard_lost class tried room)
called_row SoftTriggered hard room role class tried = of_incumbent role SoftTriggered soft_triggered_lost
called_row SoftProceeding hard room role class tried = of_either role SoftProceeding (soft_lost hard class) (soft_crankback tried room)
called_row SoftInitiated hard room role class tried = of_either role SoftInitiated (initiated_lost hard class) back_to_idle
called_row Awaiting hard room role class tried = of_either role Awaiting (awaiting_lost class) (awaiting_dropped class)

-- ---- the table: the row of a case
abbrev pub row_in : Phase → Bool → Soft → Bool → Happening → Rule
row_in phase hard soft room Triggered = trigger_row phase soft
row_in phase hard soft room FoundPath = path_row phase room
row_in phase hard soft room FoundNone = no_path_row phase
row_in phase hard soft room (Connected role agreed) = connect_row phase role agreed
row_in phase hard soft room (SetUp asked late) = setup_row phase soft room asked late
row_in phase hard soft room (PartyReleased class) = calling_row phase hard class
row_in phase hard soft room (DomainReleased role class tried) = called_row phase hard room role class tried
row_in phase hard soft room SaidReady = ready_row phase
row_in phase hard soft room Expired = expiry_row phase

abbrev pub source_row : Case → Rule
source_row c = row_in c.phase c.hard c.soft c.room c.happening

-- a rule, carried out at the source
abbrev pub at_source : State → Option ℕ → Option ReroutingCause → Rule → Effect
at_source = carried_at Source

-- what an event does to a call: the row of its case, carried out
abbrev pub source_effect : Standing → Event → Effect
source_effect = done_by Source source_row
