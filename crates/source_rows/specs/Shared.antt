-- The rows that are the same at both ends of a call, each with its place at either: 6.2 is of the source, 6.3 of the destination. An end's
-- page says where they apply. They stand in the source's crate, whose tests a wrong one fails; the destination's page fails its own then.
-- The states have neutral names: HardWaiting is Hard Reroute Triggered or Indicated, HardUnderway Hard Reroute Proceeding or Initiated. The
-- party is the node's own, the calling one at the source and the called one at the destination. Assumes nothing.
use Rattle.std.specs.Prelude.{Bool, cond, true}
use Rattle.signal.specs.declared.Answer.TheVariants.{NoMeaning, NumbersSpent}
use Rattle.signal.specs.declared.CauseCode.TheVariants.{Section66}
use Rattle.signal.specs.declared.Crankback.{Crankback}
use Rattle.signal.specs.declared.Crankback.TheVariants.{AlternateFound, NoAlternate, NoCrankback}
use Rattle.rows.specs.Rules.{NewNumber, NoSlot, OldIncumbent, OldRerouting, Rejects, Rule, Saying, Says1, Says2, Says4, Says5, Says8}
use Rattle.rows.specs.Rules.{SaysAsCame, SaysNothing, SendsConnect, SendsSetup, closed, dropping, ends, refuses, retiring, starting, stays}
use Rattle.rows.specs.Rules.{stopping, storing, switching, telling, to, turned_away, with}
use Rattle.rows.specs.States.{Phase}
use Rattle.rows.specs.declared.Class.{Class}
use Rattle.rows.specs.declared.Class.TheVariants.{CameComplete, CameNone, CameOther, CameOutside}
use Rattle.rows.specs.States.{AtNull as Null, AtIdle as Idle, AtHardWaiting as HardWaiting, AtHardUnderway as HardUnderway}
use Rattle.rows.specs.States.{AtSoftTriggered as SoftTriggered, AtSoftProceeding as SoftProceeding}
use Rattle.rows.specs.States.{AtSoftInitiated as SoftInitiated, AtAwaiting as Awaiting}

-- ---- a soft reroute that this end starts
-- a trigger: Idle moves to Soft Triggered; any other state disregards it, answer 0 (01, "Soft trigger"; 6.2.5.3, 6.3.6.1; decision 59); in
-- Null it has no meaning (decision 26)
abbrev pub trigger_in : Phase → Rule
trigger_in Null = refuses NoMeaning Null
trigger_in Idle = to SoftTriggered OldIncumbent NoSlot
trigger_in HardWaiting = stays HardWaiting
trigger_in HardUnderway = stays HardUnderway
trigger_in SoftTriggered = stays SoftTriggered
trigger_in SoftProceeding = stays SoftProceeding
trigger_in SoftInitiated = stays SoftInitiated
trigger_in Awaiting = stays Awaiting

-- a path is found in Soft Triggered: a setup goes out on a new connection; 108 where there is no number (01; 6.2.5.3 case 1, 6.3.6.1
-- case 1)
abbrev pub soft_path : Bool → Rule
soft_path room =
    cond room (closed (SendsSetup NewNumber) (to SoftProceeding OldIncumbent NewNumber)) (refuses NumbersSpent SoftTriggered)

-- the soft reroute is given up, and the incumbent stays (01, "No path"; 6.2.4.6 case 6, 6.3.4.5 case 5, 6.3.6.1 case 1)
abbrev pub back_to_idle : Rule
back_to_idle = to Idle OldIncumbent NoSlot

-- a connect in Soft Proceeding (6.2.6.2, 6.3.7.1; decision 74). Policy no: the rerouting connection is released with code #21. Yes: switch,
-- the incumbent is released with #4
abbrev pub soft_connected : Bool → Rule
soft_connected agreed =
    cond agreed (switching OldRerouting (retiring (with Says4) (to Idle OldRerouting NoSlot))) (dropping turned_away back_to_idle)

-- the rerouting connection is released in Soft Proceeding: crankback alone decides (01; 6.2.4.6 cases 5 and 6, 6.3.4.8 cases 5 and 6;
-- decisions 8 and 69)
abbrev pub soft_crankback : Crankback → Bool → Rule
soft_crankback NoCrankback room = back_to_idle
soft_crankback AlternateFound room =
    cond room (closed (SendsSetup NewNumber) (to SoftProceeding OldIncumbent NewNumber)) back_to_idle
soft_crankback NoAlternate room = back_to_idle

-- ---- a setup of the neighbour
-- a setup is rejected, for each reason: the call stays in its state with what it holds (01, "Setup", 6.2.7; 6.3.5). For the two reasons
-- below it keeps the number on record too
abbrev pub rejects : Saying → Phase → Rule
rejects say phase = closed (Rejects say Section66) (stays phase)

-- another switchover than those that the end knows (01, "Setup" row 1, 6.2.7; 6.3.5)
abbrev pub rejected_unsupported : Phase → Rule
rejected_unsupported phase = rejects Says8 phase

-- a late number (01, "Setup" row 2, 6.2.7; 6.3.5)
abbrev pub rejected_old : Phase → Rule
rejected_old phase = rejects Says5 phase

-- an accepted setup stores its number; 108 where there is no number for its connection (decisions 11 and 60)
abbrev pub accepted : Bool → Phase → Rule → Rule
accepted room phase row = cond room (storing row) (refuses NumbersSpent phase)

-- a new rerouting connection beside the incumbent (01, "Setup" row 4; 6.2.7.1, 6.3.5.1 case 2)
abbrev pub newly_initiated : Rule
newly_initiated = to SoftInitiated OldIncumbent NewNumber

-- in Null every event is refused, whatever it carries (decision 26)
abbrev pub in_call : Phase → Rule → Rule
in_call Null row = refuses NoMeaning Null
in_call Idle row = row
in_call HardWaiting row = row
in_call HardUnderway row = row
in_call SoftTriggered row = row
in_call SoftProceeding row = row
in_call SoftInitiated row = row
in_call Awaiting row = row

-- ready in Soft Initiated: a connect on the rerouting connection, to Awaiting Switchover (6.2.7.8, 6.3.5.9)
abbrev pub soft_ready : Rule
soft_ready = closed (SendsConnect OldRerouting) (to Awaiting OldIncumbent OldRerouting)

-- ---- timer expiry (01, "Timer expiry"; 6.2.5.2, 6.3.5.10; decision 70)
-- the party is released with #2; in HardUnderway the rerouting connection too; outside the Hard states 106
abbrev pub expiry_row : Phase → Rule
expiry_row Null = refuses NoMeaning Null
expiry_row Idle = refuses NoMeaning Idle
expiry_row HardWaiting = telling Says2 ends
expiry_row HardUnderway = telling Says2 (dropping (with Says2) ends)
expiry_row SoftTriggered = refuses NoMeaning SoftTriggered
expiry_row SoftProceeding = refuses NoMeaning SoftProceeding
expiry_row SoftInitiated = refuses NoMeaning SoftInitiated
expiry_row Awaiting = refuses NoMeaning Awaiting

-- ---- release from the party
-- a cause is passed unmodified; none becomes #1 where hard is on (6.2.4.2 cases 1 and 2, 6.2.4.6 likewise; D18-1 to 3, D19-1 to 3; 6.3.4.2
-- cases 1 and 2, 6.3.4.5 likewise)
abbrev pub passing : Bool → Class → Saying
passing hard CameNone = cond hard Says1 SaysNothing
passing hard CameOutside = SaysAsCame
passing hard CameComplete = SaysAsCame
passing hard CameOther = SaysAsCame

-- both held connections are released with one cause
abbrev pub both_ended : Saying → Rule
both_ended say = retiring (with say) (dropping (with say) ends)

-- every call ends (01, "Release from the calling side", 6.2.4.2 to 6.2.4.8; 6.3.4.2 to 6.3.4.8, decisions 65 and 66). The Hard states never
-- read the hard service (6.2.4.3, 6.2.4.4, decision 6; 6.3.4.3, 6.3.4.4). What Soft Triggered's release carries, an end says for itself
abbrev pub party_row : Saying → Phase → Bool → Class → Rule
party_row triggered Null hard class = refuses NoMeaning Null
party_row triggered Idle hard class = retiring (with (passing hard class)) ends
party_row triggered HardWaiting hard class = stopping ends
party_row triggered HardUnderway hard class = stopping (dropping (with (passing true class)) ends)
party_row triggered SoftTriggered hard class = retiring (with triggered) ends
party_row triggered SoftProceeding hard class = both_ended (passing hard class)
party_row triggered SoftInitiated hard class = both_ended (passing hard class)
party_row triggered Awaiting hard class = both_ended (passing hard class)

-- ---- the incumbent is released across the domain in Idle
-- None and hard on: timer start, HardWaiting (6.2.4.2 case 4, 6.3.4.2 case 4); else the party: #1 as received, another #2, none absent
-- (case 3 of both; decisions 5, 6, 67 and 68)
abbrev pub idle_lost : Bool → Class → Rule
idle_lost hard CameNone = cond hard (starting (to HardWaiting NoSlot NoSlot)) (telling SaysNothing ends)
idle_lost hard CameOutside = telling SaysAsCame ends
idle_lost hard CameComplete = telling Says2 ends
idle_lost hard CameOther = telling Says2 ends
