-- What the papers say of the source's events elsewhere than in the printed rows: 01's checks and general sentences, Annex D (tables
-- D.13 to D.25) item by item, and table C-1 of Appendix C cell by cell. "Dn-m" is an item of Annex D; "C-1" a cell of that table, with
-- its procedure (Snp) of B-2 or C-2; 6.2.4.5 and its like a section of af-cs-0173.000; "01" the scope document; "02" the follow-up
-- requests, which amend it; "decision n" a settled reading. An item tells its whole situation itself; the dispatch on event and state only
-- keeps the lists short. One that orders a release and names no Rerouting cause is silent on it (01, "Signals"). No entry: D12 (the
-- states), D16-6, D17-9, D19-8, D21-4, D22-5, D25-17 (weights), D20-3 (what the Cause code's element holds), D23, D25-7 (quality of
-- service), D25-1, D25-2 (the key is looked up before a call is met). Null has none: there every event is refused (decision 26). Assumes
-- nothing.
use Rattle.std.specs.Prelude.{Bool, ◌&&◌, ◌||◌, false, not, true, List, [], ◌++◌, ◌∷◌, eqb}
use Rattle.signal.specs.Numbers.{has_symmetric, soft_number}
use Rattle.signal.specs.declared.Answer.{Answer}
use Rattle.signal.specs.declared.Soft.{Soft}
use Rattle.rows.specs.Cases.{Asking, Case, Connected, DomainReleased, Expired, FoundNone}
use Rattle.rows.specs.Cases.{FoundPath, Happening, NamesIncumbent, NamesRerouting, PartyReleased, Role, SaidReady, SetUp}
use Rattle.rows.specs.Cases.{Triggered, asks_clearing, came_none}
use Rattle.rows.specs.Laws.{same_phase}
use Rattle.rows.specs.Papers.{Item, Papers}
use Rattle.rows.specs.Rules.{NoClosing, Says1, Says2, Says4, Says5, Says6, Says8}
use Rattle.rows.specs.Rules.{SaysAsCame, Untold, is_done, plainly, turned_away, with}
use Rattle.rows.specs.Situations.{about, asks_immediate, asks_unrecognized, at_last_number, came1, came4, came_any, came_neither, came_not1}
use Rattle.rows.specs.Situations.{came_not4, came_some, cell, checked_by, closes_by}
use Rattle.rows.specs.Situations.{connect_in, connections_get, connect_is_sent, cranked_found}
use Rattle.rows.specs.Situations.{cranked_in, cranked_lost, cranked_none, domain_release_in as called_in, for_named}
use Rattle.rows.specs.Situations.{goes_to, happens_in, hard_off}
use Rattle.rows.specs.Situations.{hard_on, in_both, incumbent_gets, is_late_setup, is_setup, is_soft_setup, is_stored_by}
use Rattle.rows.specs.Situations.{party_and_rerouting_get as calling_and_rerouting_get, party_gets as calling_gets}
use Rattle.rows.specs.Situations.{party_release_in as calling_in}
use Rattle.rows.specs.Situations.{policy_any, policy_yes, rejected_with, rerouting_gets, setup_came_in}
use Rattle.rows.specs.Situations.{setup_is_sent, switches_by, with_room}
use Rattle.rows.specs.States.{AtAwaiting, AtHardUnderway, AtHardWaiting, AtIdle, AtNull, AtSoftInitiated, AtSoftProceeding}
use Rattle.rows.specs.States.{AtSoftTriggered, Phase, is_hard_phase}

-- the two Triggered states, the two Proceeding states (01, "Numbers of refusal")
abbrev pub triggered_phase : Phase → Bool
triggered_phase phase = same_phase phase AtHardWaiting || same_phase phase AtSoftTriggered

abbrev pub proceeding_phase : Phase → Bool
proceeding_phase phase = same_phase phase AtHardUnderway || same_phase phase AtSoftProceeding

-- THE CHECKS (01, "Numbers of refusal")
abbrev pub has_no_soft : Soft → Bool
has_no_soft soft = eqb (soft_number soft) 0

-- 106, outside Null
abbrev pub is_without_meaning : Phase → Soft → Happening → Bool
is_without_meaning phase soft Triggered = has_no_soft soft
is_without_meaning phase soft FoundPath = not (triggered_phase phase)
is_without_meaning phase soft FoundNone = not (triggered_phase phase)
is_without_meaning phase soft (Connected role agreed) = not (proceeding_phase phase)
is_without_meaning phase soft (SetUp asked late) = not (has_symmetric soft)
is_without_meaning phase soft (PartyReleased class) = false
is_without_meaning phase soft (DomainReleased role class tried) = false
is_without_meaning phase soft SaidReady = not (same_phase phase AtSoftInitiated)
is_without_meaning phase soft Expired = not (is_hard_phase phase)

-- a setup that none of the three rejections meets: #8, #5, and #6 in a Triggered or a Proceeding state (01, "Setup", 1 to 3; decision 11)
abbrev pub is_acceptable : Phase → Asking → Bool → Bool
is_acceptable phase asked late = is_soft_setup asked late && not (triggered_phase phase || proceeding_phase phase)

-- in that order; in Null always 106 (decision 26)
abbrev pub checked : Case → Answer
checked = checked_by (λ c. is_without_meaning c.phase c.soft c.happening) is_acceptable

-- a setup that is rejected with #6: neither #8 nor #5 meets it, in a Triggered or a Proceeding state (01, "Setup", 3; 6.2.7.2 to 6.2.7.5)
abbrev pub is_rejected_with6 : Phase → Asking → Bool → Bool
is_rejected_with6 phase asked late = is_soft_setup asked late && (triggered_phase phase || proceeding_phase phase)

-- An accepted setup stores its number (01, "Setup"), and so does one that is rejected with #6, at 65,535 too, since it takes no connection
-- (02, Ask 3, which amends 01; 6.2.7 stores before it looks at the state). No other does: not with #8 or #5 (02, Ask 3), nor at 106 or 108
-- (decision 79). D25-6 to the letter would store a greater number beside #8 too, where 6.2.7 has ended before: that is departed from, and
-- an item has no word for it.
abbrev pub is_stored : Case → Bool
is_stored c = is_stored_by checked is_acceptable c || (is_done (checked c) && is_setup (is_rejected_with6 c.phase) c.happening)

-- SOFT TRIGGER, in any state but Idle
abbrev pub disregards : Phase → List Item
disregards phase =
    -- D22-1
    goes_to phase (switches_by false (closes_by NoClosing (about (happens_in Triggered phase))))
    -- C-1, Trig. Soft (Snp 13)
    ∷ cell phase (happens_in Triggered phase)
    ∷ []

abbrev pub triggers : Phase → List Item
triggers AtNull = []
triggers AtIdle =
    -- 6.2.5.3 case 1 with 6.2.3: a trigger starts the search, and the setup is under construction while the incumbent is active
    goes_to AtSoftTriggered (about (happens_in Triggered AtIdle))
    -- C-1, Trig. Soft (Snp 10)
    ∷ cell AtSoftTriggered (happens_in Triggered AtIdle)
    ∷ []
triggers AtHardWaiting = disregards AtHardWaiting
triggers AtHardUnderway = disregards AtHardUnderway
triggers AtSoftTriggered = disregards AtSoftTriggered
triggers AtSoftProceeding = disregards AtSoftProceeding
triggers AtSoftInitiated = disregards AtSoftInitiated
triggers AtAwaiting = disregards AtAwaiting

-- PATH FOUND, and none found
abbrev pub found_paths : List Item
found_paths =
    -- D21-2 and D21-3
    goes_to AtHardUnderway (setup_is_sent (about (happens_in FoundPath AtHardWaiting)))
    -- C-1, Path (Snp 14)
    ∷ setup_is_sent (cell AtHardUnderway (happens_in FoundPath AtHardWaiting))
    -- D22-3 and D22-4
    ∷ goes_to AtSoftProceeding (setup_is_sent (about (happens_in FoundPath AtSoftTriggered)))
    -- C-1, Path (Snp 15)
    ∷ setup_is_sent (cell AtSoftProceeding (happens_in FoundPath AtSoftTriggered))
    ∷ []

abbrev pub lost_paths : List Item
lost_paths =
    -- 01, "No path": the timer decides
    goes_to AtHardWaiting (about (happens_in FoundNone AtHardWaiting))
    -- D22-2: the trigger comes to nothing, and the call is Idle as before it
    ∷ goes_to AtIdle (switches_by false (closes_by NoClosing (about (happens_in FoundNone AtSoftTriggered))))
    -- C-1, No path (Snp 11)
    ∷ cell AtIdle (happens_in FoundNone AtSoftTriggered)
    ∷ []

-- CONNECT
abbrev pub connects : List Item
connects =
    -- D24-1: policy has no part in it
    goes_to AtIdle (switches_by true (about (connect_in AtHardUnderway policy_any)))
    -- C-1, Inc. Con (Snp 17)
    ∷ switches_by true (cell AtIdle (connect_in AtHardUnderway policy_any))
    -- D24-2: where policy takes the new connection
    ∷ goes_to AtIdle (switches_by true (incumbent_gets (with Says4) (about (connect_in AtSoftProceeding policy_yes))))
    -- 6.2.6.2, where policy does not: #21 and no Rerouting cause (decision 12)
    ∷ goes_to AtIdle (switches_by false (rerouting_gets turned_away (about (connect_in AtSoftProceeding not))))
    -- C-1, Inc. Con: Idle either way; its procedure (Snp 18) is the one where policy agrees
    ∷ cell AtIdle (connect_in AtSoftProceeding policy_any)
    ∷ switches_by true (incumbent_gets (with Says4) (cell AtIdle (connect_in AtSoftProceeding policy_yes)))
    ∷ []

-- SETUP: the questions that are asked in every state; #8 first (01, "Setup"; D25-8, "above")
abbrev pub questions : Phase → List Item
questions phase =
    -- D25-3
    rejected_with Says8 phase (about (setup_came_in phase (λ asked late. asks_unrecognized asked)))
    -- D25-4
    ∷ rejected_with Says8 phase (about (setup_came_in phase (λ asked late. asks_immediate asked)))
    -- D25-5: where the switchover asked for has passed
    ∷ rejected_with Says5 phase (about (setup_came_in phase is_late_setup))
    -- C-1, note 3: an older number leaves the state
    ∷ cell phase (setup_came_in phase is_late_setup)
    ∷ []

-- a rerouting operation is already in progress
abbrev pub already_underway : Phase → Item
already_underway phase = rejected_with Says6 phase (about (setup_came_in phase is_soft_setup))

abbrev pub setups : Phase → List Item
setups AtNull = []
setups AtIdle =
    -- D25-9
    goes_to AtSoftInitiated (about (setup_came_in AtIdle is_soft_setup))
    -- C-1, Inc. soft Set. (Snp 24)
    ∷ cell AtSoftInitiated (setup_came_in AtIdle is_soft_setup)
    ∷ questions AtIdle
setups AtHardWaiting =
    -- D25-10
    already_underway AtHardWaiting
    -- C-1, Inc. soft Set. (Snp 25)
    ∷ rejected_with Says6 AtHardWaiting (cell AtHardWaiting (setup_came_in AtHardWaiting is_soft_setup))
    ∷ questions AtHardWaiting
setups AtHardUnderway =
    -- D25-11
    already_underway AtHardUnderway
    -- C-1, Inc. soft Set. (Snp 25)
    ∷ rejected_with Says6 AtHardUnderway (cell AtHardUnderway (setup_came_in AtHardUnderway is_soft_setup))
    ∷ questions AtHardUnderway
setups AtSoftTriggered =
    -- D25-12
    already_underway AtSoftTriggered
    -- C-1, Inc. soft Set. (Snp 25)
    ∷ rejected_with Says6 AtSoftTriggered (cell AtSoftTriggered (setup_came_in AtSoftTriggered is_soft_setup))
    ∷ questions AtSoftTriggered
setups AtSoftProceeding =
    -- D25-13
    already_underway AtSoftProceeding
    -- C-1, Inc. soft Set. (Snp 25)
    ∷ rejected_with Says6 AtSoftProceeding (cell AtSoftProceeding (setup_came_in AtSoftProceeding is_soft_setup))
    ∷ questions AtSoftProceeding
setups AtSoftInitiated =
    -- 01, "Setup", 5: the older connection is released on itself, with no cause (decision 11)
    rerouting_gets plainly (about (setup_came_in AtSoftInitiated is_soft_setup))
    -- D25-14: the state
    ∷ goes_to AtSoftInitiated (about (setup_came_in AtSoftInitiated is_soft_setup))
    -- C-1, Inc. soft Set. (Snp 26)
    ∷ cell AtSoftInitiated (setup_came_in AtSoftInitiated is_soft_setup)
    ∷ questions AtSoftInitiated
setups AtAwaiting =
    -- 01, "Setup", 5: likewise
    rerouting_gets plainly (about (setup_came_in AtAwaiting is_soft_setup))
    -- D25-15: the state
    ∷ goes_to AtSoftInitiated (about (setup_came_in AtAwaiting is_soft_setup))
    -- C-1, Inc. soft Set. (Snp 26)
    ∷ cell AtSoftInitiated (setup_came_in AtAwaiting is_soft_setup)
    ∷ questions AtAwaiting

-- READY: what D25-16 puts at the entry to Soft Initiated is an event of its own here, when the node is ready (01, "Ready")
abbrev pub readies : List Item
readies =
    -- D25-16
    goes_to AtAwaiting (connect_is_sent (about (happens_in SaidReady AtSoftInitiated)))
    -- C-1, Out. Con (Snp 27)
    ∷ connect_is_sent (cell AtAwaiting (happens_in SaidReady AtSoftInitiated))
    ∷ []

-- EXPIRY
abbrev pub expiries : List Item
expiries =
    -- D20-1
    goes_to AtNull (calling_gets (with Says2) (about (happens_in Expired AtHardWaiting)))
    -- C-1, Timer (Snp 19)
    ∷ calling_gets (with Says2) (cell AtNull (happens_in Expired AtHardWaiting))
    -- D20-2
    ∷ goes_to AtNull (calling_and_rerouting_get (with Says2) (about (happens_in Expired AtHardUnderway)))
    -- C-1, Timer (Snp 20)
    ∷ calling_and_rerouting_get (with Says2) (cell AtNull (happens_in Expired AtHardUnderway))
    ∷ []

-- RELEASE FROM THE CALLING SIDE. Where two connections are held, D17, D18 and D19 say the same three things, each of its own state
abbrev pub cleared_unmodified : Phase → Item
cleared_unmodified phase = goes_to AtNull (connections_get (with SaysAsCame) (about (calling_in phase came_some)))

abbrev pub cleared_silently : Phase → Item
cleared_silently phase = goes_to AtNull (about (in_both hard_off (calling_in phase came_none)))

abbrev pub cleared_with1 : Phase → Item
cleared_with1 phase = goes_to AtNull (connections_get (with Says1) (about (in_both hard_on (calling_in phase came_none))))

abbrev pub calling_releases : Phase → List Item
calling_releases AtNull = []
calling_releases AtIdle =
    -- D14-1
    goes_to AtNull (incumbent_gets (with SaysAsCame) (about (calling_in AtIdle came_some)))
    -- D14-2: silent on the cause
    ∷ goes_to AtNull (about (in_both hard_off (calling_in AtIdle came_none)))
    -- D14-3
    ∷ goes_to AtNull (incumbent_gets (with Says1) (about (in_both hard_on (calling_in AtIdle came_none))))
    -- C-1, Rel Clg (Snp 0)
    ∷ cell AtNull (calling_in AtIdle came_any)
    ∷ []
calling_releases AtHardWaiting =
    -- D15-1
    goes_to AtNull (about (calling_in AtHardWaiting came_any))
    -- C-1, Rel Clg (Snp 1)
    ∷ cell AtNull (calling_in AtHardWaiting came_any)
    ∷ []
calling_releases AtHardUnderway =
    -- D16-1
    goes_to AtNull (rerouting_gets (with SaysAsCame) (about (calling_in AtHardUnderway came_some)))
    -- D16-2: whether hard is on is not asked (decision 6)
    ∷ goes_to AtNull (rerouting_gets (with Says1) (about (calling_in AtHardUnderway came_none)))
    -- C-1, Rel Clg (Snp 2)
    ∷ cell AtNull (calling_in AtHardUnderway came_any)
    ∷ []
calling_releases AtSoftTriggered =
    -- D13-1, which is 6.2.4.1 case 1, by way of 6.2.4.5 (decision 1)
    goes_to AtNull (incumbent_gets (with Says1) (about (in_both hard_on (calling_in AtSoftTriggered came_none))))
    -- 6.2.4.1, otherwise, by way of 6.2.4.5: cleared as any call, so with no Rerouting cause, also where one came (decision 1)
    ∷ goes_to AtNull (incumbent_gets plainly (about (in_both hard_off (calling_in AtSoftTriggered came_none))))
    ∷ goes_to AtNull (incumbent_gets plainly (about (calling_in AtSoftTriggered came_some)))
    -- C-1, Rel Clg (Snp 0)
    ∷ cell AtNull (calling_in AtSoftTriggered came_any)
    ∷ []
calling_releases AtSoftProceeding =
    -- D17-1
    cleared_unmodified AtSoftProceeding
    -- D17-2
    ∷ cleared_silently AtSoftProceeding
    -- D17-3
    ∷ cleared_with1 AtSoftProceeding
    -- C-1, Rel Clg (Snp 3)
    ∷ cell AtNull (calling_in AtSoftProceeding came_any)
    ∷ []
calling_releases AtSoftInitiated =
    -- D18-1
    cleared_unmodified AtSoftInitiated
    -- D18-2
    ∷ cleared_silently AtSoftInitiated
    -- D18-3
    ∷ cleared_with1 AtSoftInitiated
    -- C-1, Rel Clg (Snp 3)
    ∷ cell AtNull (calling_in AtSoftInitiated came_any)
    ∷ []
calling_releases AtAwaiting =
    -- D19-1
    cleared_unmodified AtAwaiting
    -- D19-2
    ∷ cleared_silently AtAwaiting
    -- D19-3
    ∷ cleared_with1 AtAwaiting
    -- C-1, Rel Clg (Snp 3)
    ∷ cell AtNull (calling_in AtAwaiting came_any)
    ∷ []

-- RELEASE FROM THE CALLED SIDE. For the incumbent in Soft Proceeding and Soft Initiated 01's rows put hard off first, and so ask for a
-- cause only with hard on (decision 6); with hard off D17-5, D17-6, D18-5 and D18-6 are departed from
abbrev pub ended_without : Phase → Item
ended_without phase =
    goes_to AtNull (calling_and_rerouting_get plainly (about (in_both hard_off (called_in phase NamesIncumbent came_any))))

abbrev pub ended_silently : Phase → Item
ended_silently phase = goes_to AtNull (about (in_both hard_off (called_in phase NamesIncumbent came_any)))

-- the number (decision 5)
abbrev pub ended_with1 : Phase → Item
ended_with1 phase = goes_to AtNull (calling_and_rerouting_get (with Says1) (about (in_both hard_on (called_in phase NamesIncumbent came1))))

-- #4 is such a cause (decision 7)
abbrev pub ended_with2 : Phase → Item
ended_with2 phase =
    goes_to AtNull (calling_and_rerouting_get (with Says2) (about (in_both hard_on (called_in phase NamesIncumbent came_not1))))

-- Idle
abbrev pub called_in_idle : List Item
called_in_idle =
    -- 6.2.4.2 case 3: #1 goes on without modification, with hard off too (decisions 5 and 6)
    goes_to AtNull (calling_gets (with SaysAsCame) (about (called_in AtIdle NamesIncumbent came1)))
    -- D14-4: silent on the cause
    ∷ goes_to AtNull (about (in_both hard_off (called_in AtIdle NamesIncumbent came_any)))
    -- D14-5: the state
    ∷ goes_to AtNull (about (called_in AtIdle NamesIncumbent came1))
    -- D14-6: with hard off too (decision 6)
    ∷ goes_to AtNull (calling_gets (with Says2) (about (called_in AtIdle NamesIncumbent came_not1)))
    -- D14-7
    ∷ goes_to AtHardWaiting (about (in_both hard_on (called_in AtIdle NamesIncumbent came_none)))
    -- C-1, Rel Cld I.nRC (Snp 8)
    ∷ cell AtHardWaiting (called_in AtIdle NamesIncumbent came_none)
    -- C-1, Rel Cld I.RC#4 and I.RC (Snp 4)
    ∷ cell AtNull (called_in AtIdle NamesIncumbent came4)
    ∷ cell AtNull (called_in AtIdle NamesIncumbent came_not4)
    ∷ []

-- Hard Proceeding: a cause is asked for before crankback (decision 4)
abbrev pub called_in_hard_proceeding : List Item
called_in_hard_proceeding =
    -- 01, the last sentence on releases: a retry at 65,535 is no path, so 6.2.4.4 case 5 (decision 3)
    goes_to AtNull
    (calling_gets (with Says2) (about (in_both at_last_number (cranked_in AtHardUnderway NamesRerouting came_none cranked_found))))
    ∷ goes_to AtNull
    (calling_gets (with Says2) (about (in_both at_last_number (cranked_in AtHardUnderway NamesRerouting came_none cranked_none))))
    -- 6.2.4.4 case 3: #1 goes on without modification (decision 5)
    ∷ goes_to AtNull (calling_gets (with SaysAsCame) (about (called_in AtHardUnderway NamesRerouting came1)))
    -- D16-3: the state
    ∷ goes_to AtNull (about (called_in AtHardUnderway NamesRerouting came1))
    -- D16-4
    ∷ goes_to AtNull (calling_gets (with Says2) (about (called_in AtHardUnderway NamesRerouting came_not1)))
    -- D16-5: crankback is a setup on a new number (decision 4)
    ∷ goes_to AtHardUnderway (setup_is_sent (about (in_both with_room (cranked_in AtHardUnderway NamesRerouting came_none cranked_found))))
    -- D16-7: in the direction of the calling party, so the calling side (6.2.4.4 case 5)
    ∷ goes_to AtNull (calling_gets (with Says2) (about (cranked_in AtHardUnderway NamesRerouting came_none cranked_lost)))
    -- D16-8: the node's choice, which is to retry (decision 2)
    ∷ goes_to AtHardWaiting (about (in_both with_room (cranked_in AtHardUnderway NamesRerouting came_none cranked_none)))
    -- C-1, Rel Cld R.nRC (Snp 10), and its note 1 where a path is found
    ∷ cell AtHardWaiting (cranked_in AtHardUnderway NamesRerouting came_none cranked_none)
    ∷ cell AtHardUnderway (cranked_in AtHardUnderway NamesRerouting came_none cranked_found)
    -- C-1, Rel Cld R.RC (Snp 6)
    ∷ cell AtNull (called_in AtHardUnderway NamesRerouting came_some)
    ∷ []

-- Soft Triggered: 6.2.4.1, otherwise, by way of 6.2.4.5, whatever came and whether hard is on (decision 1)
abbrev pub called_in_soft_triggered : List Item
called_in_soft_triggered =
    goes_to AtNull (calling_gets plainly (about (called_in AtSoftTriggered NamesIncumbent came_any)))
    -- C-1, Rel Cld I.RC#4 and I.RC (Snp 4)
    ∷ cell AtNull (called_in AtSoftTriggered NamesIncumbent came4)
    ∷ cell AtNull (called_in AtSoftTriggered NamesIncumbent came_not4)
    ∷ []

-- Soft Proceeding, for the incumbent
abbrev pub proceeding_incumbent : List Item
proceeding_incumbent =
    -- 01, the row of D17
    ended_without AtSoftProceeding
    -- D17-4
    ∷ ended_silently AtSoftProceeding
    -- D17-5
    ∷ ended_with1 AtSoftProceeding
    -- D17-6
    ∷ ended_with2 AtSoftProceeding
    -- D17-7
    ∷ goes_to AtHardUnderway (about (in_both hard_on (called_in AtSoftProceeding NamesIncumbent came_none)))
    -- C-1, Rel Cld I.nRC (Snp 9: no new setup)
    ∷ closes_by NoClosing (cell AtHardUnderway (called_in AtSoftProceeding NamesIncumbent came_none))
    -- C-1, Rel Cld I.RC#4 and I.RC (Snp 5)
    ∷ cell AtNull (called_in AtSoftProceeding NamesIncumbent came4)
    ∷ cell AtNull (called_in AtSoftProceeding NamesIncumbent came_not4)
    ∷ []

-- Soft Proceeding, for the rerouting connection: only crankback is asked for (decision 8)
abbrev pub proceeding_rerouting : List Item
proceeding_rerouting =
    -- 01, the row: at 65,535 as if none was found
    goes_to AtIdle
    (closes_by NoClosing (about (in_both at_last_number (cranked_in AtSoftProceeding NamesRerouting came_any cranked_found))))
    -- D17-8: crankback is a setup on a new number, as 01's row says
    ∷ goes_to AtSoftProceeding
    (setup_is_sent (about (in_both with_room (cranked_in AtSoftProceeding NamesRerouting came_any cranked_found))))
    -- D17-10
    ∷ goes_to AtIdle (about (cranked_in AtSoftProceeding NamesRerouting came_any cranked_lost))
    -- D17-11
    ∷ goes_to AtIdle (about (cranked_in AtSoftProceeding NamesRerouting came_any cranked_none))
    -- C-1, Rel Cld R.nRC (Snp 11), and its note 1 where a path is found
    ∷ cell AtIdle (cranked_in AtSoftProceeding NamesRerouting came_none cranked_none)
    ∷ cell AtSoftProceeding (cranked_in AtSoftProceeding NamesRerouting came_none cranked_found)
    -- C-1, Rel Cld R.RC (Snp 11), where crankback finds no path
    ∷ cell AtIdle (cranked_in AtSoftProceeding NamesRerouting came_some cranked_none)
    ∷ cell AtIdle (cranked_in AtSoftProceeding NamesRerouting came_some cranked_lost)
    ∷ []

-- Soft Initiated, for the incumbent
abbrev pub initiated_incumbent : List Item
initiated_incumbent =
    -- 01, the row of D18
    ended_without AtSoftInitiated
    -- D18-4
    ∷ ended_silently AtSoftInitiated
    -- D18-5
    ∷ ended_with1 AtSoftInitiated
    -- D18-6
    ∷ ended_with2 AtSoftInitiated
    -- D18-7: #21 is the Cause code, and no Rerouting cause stands beside it (decision 12)
    ∷ goes_to AtHardWaiting (rerouting_gets turned_away (about (in_both hard_on (called_in AtSoftInitiated NamesIncumbent came_none))))
    -- C-1, Rel Cld I.nRC (Snp 22)
    ∷ cell AtHardWaiting (called_in AtSoftInitiated NamesIncumbent came_none)
    -- C-1, Rel Cld I.RC#4 and I.RC (Snp 5)
    ∷ cell AtNull (called_in AtSoftInitiated NamesIncumbent came4)
    ∷ cell AtNull (called_in AtSoftInitiated NamesIncumbent came_not4)
    ∷ []

-- Soft Initiated, for the rerouting connection
abbrev pub initiated_rerouting : List Item
initiated_rerouting =
    -- D18-8
    goes_to AtIdle (about (called_in AtSoftInitiated NamesRerouting came_any))
    -- C-1, Rel Cld R.nRC and R.RC (Snp 11)
    ∷ cell AtIdle (called_in AtSoftInitiated NamesRerouting came_none)
    ∷ cell AtIdle (called_in AtSoftInitiated NamesRerouting came_some)
    ∷ []

-- Awaiting, for the incumbent: hard is not asked for (decision 6)
abbrev pub awaited_incumbent : List Item
awaited_incumbent =
    -- D19-4: the number (decision 5)
    goes_to AtNull (calling_and_rerouting_get (with Says1) (about (called_in AtAwaiting NamesIncumbent came1)))
    -- D19-5
    ∷ goes_to AtNull (calling_and_rerouting_get (with Says2) (about (called_in AtAwaiting NamesIncumbent came_neither)))
    -- D19-6
    ∷ goes_to AtIdle (switches_by true (about (called_in AtAwaiting NamesIncumbent came_none)))
    -- D19-7
    ∷ goes_to AtIdle (switches_by true (about (called_in AtAwaiting NamesIncumbent came4)))
    -- C-1, Rel Cld I.nRC and I.RC#4 (Snp 21)
    ∷ switches_by true (cell AtIdle (called_in AtAwaiting NamesIncumbent came_none))
    ∷ switches_by true (cell AtIdle (called_in AtAwaiting NamesIncumbent came4))
    -- C-1, Rel Cld I.RC (Snp 5)
    ∷ cell AtNull (called_in AtAwaiting NamesIncumbent came_not4)
    ∷ []

-- Awaiting, for the rerouting connection: #4 is another cause there (decision 7)
abbrev pub awaited_rerouting : List Item
awaited_rerouting =
    -- 01's row with 6.2.4.8 case 5: the incumbent's own release has no Rerouting cause (decision 7)
    incumbent_gets plainly (about (called_in AtAwaiting NamesRerouting came_some))
    -- D19-9: the number (decision 5)
    ∷ goes_to AtNull (calling_gets (with Says1) (about (called_in AtAwaiting NamesRerouting came1)))
    -- D19-10
    ∷ goes_to AtNull (calling_gets (with Says2) (about (called_in AtAwaiting NamesRerouting came_not1)))
    -- D19-11
    ∷ goes_to AtIdle (switches_by false (about (called_in AtAwaiting NamesRerouting came_none)))
    -- C-1, Rel Cld R.nRC (Snp 11)
    ∷ switches_by false (cell AtIdle (called_in AtAwaiting NamesRerouting came_none))
    -- C-1, Rel Cld R.RC (Snp 7)
    ∷ cell AtNull (called_in AtAwaiting NamesRerouting came_some)
    ∷ []

abbrev pub called_releases : Phase → Role → List Item
called_releases AtNull named = []
called_releases AtIdle named = called_in_idle
called_releases AtHardWaiting named = []
called_releases AtHardUnderway named = called_in_hard_proceeding
called_releases AtSoftTriggered named = called_in_soft_triggered
called_releases AtSoftProceeding named = for_named named proceeding_incumbent proceeding_rerouting
called_releases AtSoftInitiated named = for_named named initiated_incumbent initiated_rerouting
called_releases AtAwaiting named = for_named named awaited_incumbent awaited_rerouting

abbrev pub items_on : Phase → Happening → List Item
items_on phase Triggered = triggers phase
items_on phase FoundPath = found_paths
items_on phase FoundNone = lost_paths
items_on phase (Connected role agreed) = connects
items_on phase (SetUp asked late) = setups phase
items_on phase (PartyReleased class) = calling_releases phase
items_on phase (DomainReleased role class tried) = called_releases phase role
items_on phase SaidReady = readies
items_on phase Expired = expiries

-- WHAT 01 OR A DECISION DEPARTS FROM, each in exactly the cases of the departure; the rest of such an item stands above. No path, in
-- Hard Triggered: 01, "No path", leaves it to the timer
abbrev pub departed_lost_paths : List Item
departed_lost_paths =
    -- D21-1
    goes_to AtNull (calling_gets (with Says2) (about (happens_in FoundNone AtHardWaiting)))
    -- C-1, No path (Snp 16)
    ∷ calling_gets (with Says2) (cell AtNull (happens_in FoundNone AtHardWaiting))
    ∷ []

-- D25-5 where another switchover is asked for: 01, "Setup", tries #8 first
abbrev pub departed_questions : Phase → List Item
departed_questions phase = rejected_with Says5 phase (about (setup_came_in phase (λ asked late. not (asks_clearing asked) && late))) ∷ []

-- D25-14 and D25-15: the older connection is not released on itself but towards the calling party. 01, "Setup": on itself
abbrev pub departed_older : Phase → List Item
departed_older phase = goes_to AtSoftInitiated (rerouting_gets Untold (about (setup_came_in phase is_soft_setup))) ∷ []

abbrev pub departed_setups : Phase → List Item
departed_setups AtNull = []
departed_setups AtIdle = departed_questions AtIdle
departed_setups AtHardWaiting = departed_questions AtHardWaiting
departed_setups AtHardUnderway = departed_questions AtHardUnderway
departed_setups AtSoftTriggered = departed_questions AtSoftTriggered
departed_setups AtSoftProceeding = departed_questions AtSoftProceeding
departed_setups AtSoftInitiated = departed_questions AtSoftInitiated ++ departed_older AtSoftInitiated
departed_setups AtAwaiting = departed_questions AtAwaiting ++ departed_older AtAwaiting

-- #1 without modification, of a release for a connection (6.2.4.6 case 3, 6.2.4.8 case 5)
abbrev pub unmodified1 : Phase → Role → Item
unmodified1 phase named = goes_to AtNull (calling_gets (with SaysAsCame) (about (called_in phase named came1)))

-- D17-5 and D18-5, D17-6 and D18-6, where hard is off
abbrev pub hard_off_with1 : Phase → Item
hard_off_with1 phase =
    goes_to AtNull (calling_and_rerouting_get (with Says1) (about (in_both hard_off (called_in phase NamesIncumbent came1))))

abbrev pub hard_off_with2 : Phase → Item
hard_off_with2 phase =
    goes_to AtNull (calling_and_rerouting_get (with Says2) (about (in_both hard_off (called_in phase NamesIncumbent came_not1))))

abbrev pub departed_called : Phase → List Item
departed_called AtNull = []
departed_called AtIdle =
    -- D14-5, the number: 6.2.4.2 case 3 forwards the element without modification (decision 5)
    goes_to AtNull (calling_gets (with Says1) (about (called_in AtIdle NamesIncumbent came1)))
    ∷ []
departed_called AtHardWaiting = []
departed_called AtHardUnderway =
    -- D16-3, the number: 6.2.4.4 case 3 forwards the element without modification (decision 5)
    goes_to AtNull (calling_gets (with Says1) (about (called_in AtHardUnderway NamesRerouting came1)))
    -- D16-5 and D16-8 at 65,535: 01, the retry counts as no path (decision 3)
    ∷ goes_to AtHardUnderway
    (setup_is_sent (about (in_both at_last_number (cranked_in AtHardUnderway NamesRerouting came_none cranked_found))))
    ∷ goes_to AtHardWaiting (about (in_both at_last_number (cranked_in AtHardUnderway NamesRerouting came_none cranked_none)))
    -- C-1, note 1, where no path is found: 6.2.4.4 case 5, D16-7
    ∷ cell AtHardUnderway (cranked_in AtHardUnderway NamesRerouting came_none cranked_lost)
    ∷ []
departed_called AtSoftTriggered =
    -- C-1, Rel Cld I.nRC (Snp 8): 6.2.4.5 to the letter (decision 1)
    cell AtHardWaiting (called_in AtSoftTriggered NamesIncumbent came_none)
    -- C-1, Rel Cld I.RC#4 and I.RC (Snp 4), the cause, "#1 or #2": neither (decision 1)
    ∷ calling_gets (with Says1) (cell AtNull (called_in AtSoftTriggered NamesIncumbent came_some))
    ∷ calling_gets (with Says2) (cell AtNull (called_in AtSoftTriggered NamesIncumbent came_some))
    ∷ []
departed_called AtSoftProceeding =
    -- D17-8 at 65,535: 01, the row, as if none was found (decision 8)
    goes_to AtSoftProceeding
    (setup_is_sent (about (in_both at_last_number (cranked_in AtSoftProceeding NamesRerouting came_any cranked_found))))
    -- C-1, note 1, where no path is found: 01, the row, "else Idle"; D17-10
    ∷ cell AtSoftProceeding (cranked_in AtSoftProceeding NamesRerouting came_none cranked_lost)
    -- C-1, Rel Cld R.RC (Snp 11), where one is found: 01, the row, does not ask for a cause (decision 8); D17-8
    ∷ cell AtIdle (cranked_in AtSoftProceeding NamesRerouting came_some cranked_found)
    -- D17-5 and D17-6 with hard off: 01, the row, no Rerouting cause (decision 6)
    ∷ hard_off_with1 AtSoftProceeding
    ∷ hard_off_with2 AtSoftProceeding
    -- 6.2.4.6 case 3: 01, the row, the number with hard on and none with hard off (decisions 5 and 6)
    ∷ unmodified1 AtSoftProceeding NamesIncumbent
    ∷ []
departed_called AtSoftInitiated =
    -- D18-5 and D18-6 with hard off: 01, the row, no Rerouting cause (decision 6)
    hard_off_with1 AtSoftInitiated
    ∷ hard_off_with2 AtSoftInitiated
    -- 6.2.4.7 case 3: likewise
    ∷ unmodified1 AtSoftInitiated NamesIncumbent
    ∷ []
departed_called AtAwaiting =
    -- 6.2.4.8 cases 3 and 5: 01, the rows, the number (decision 5)
    unmodified1 AtAwaiting NamesIncumbent
    ∷ unmodified1 AtAwaiting NamesRerouting
    ∷ []

-- C-1, Rel Clg (Snp 0) in Soft Triggered, the cause, "#1 or #2": neither, where a cause came (decision 1)
abbrev pub departed_calling : List Item
departed_calling =
    incumbent_gets (with Says1) (cell AtNull (calling_in AtSoftTriggered came_some))
    ∷ incumbent_gets (with Says2) (cell AtNull (calling_in AtSoftTriggered came_some))
    ∷ []

abbrev pub departed_on : Phase → Happening → List Item
departed_on phase Triggered = []
departed_on phase FoundPath = []
departed_on phase FoundNone = departed_lost_paths
departed_on phase (Connected role agreed) = []
departed_on phase (SetUp asked late) = departed_setups phase
departed_on phase (PartyReleased class) = departed_calling
departed_on phase (DomainReleased role class tried) = departed_called phase
departed_on phase SaidReady = []
departed_on phase Expired = []

-- what the papers say of the source
abbrev pub source_papers : Papers
source_papers =
    record {
      answer = checked;
      stores = is_stored;
      items = λ c. items_on c.phase c.happening;
      departed = λ c. departed_on c.phase c.happening;
    }
