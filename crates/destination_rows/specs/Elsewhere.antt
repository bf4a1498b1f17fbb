-- What the papers say of the destination's events elsewhere than in its rows: the checks, in the frame of 01; Annex D (tables D.28 to D.39)
-- item by item; table C-3 of Appendix C cell by cell; and where these are silent or departed from, the section of 6.3 or the decision,
-- since the text of 6.3 decides every row (decision 56). "Dn-m" is an item of Annex D; "C-3" a cell of that table, with its procedure (Dnp)
-- of B-4 or C-4, and B-3 prints the same next states in the states that it has; 6.3.4.5 and its like a section of af-cs-0173.000; "01" the
-- scope document; "decision n" a settled reading. An item tells its whole situation itself; the dispatch on event and state only keeps the
-- lists short. One that orders a release and names no Rerouting cause is silent on it (01, "Signals"). No entry: D28 (the states), D34-9,
-- D36-10, D36-24, D36-25, D37-4 (weights), D35-3 (what the Cause code's element holds), D36-9, D38 (quality of service), D36-1, D36-2 (the
-- key is looked up before a call is met). Of D33-6 and D33-7 the incumbent's release has none: it was received, and is not sent again
-- (decision 68). Null has none: there every event is refused (decision 26). Assumes nothing.
use Rattle.std.specs.Prelude.{ℕ, Bool, ◌&&◌, ◌||◌, false, not, true, List, [], ◌∷◌}
use Rattle.signal.specs.Numbers.{has_soft, has_symmetric}
use Rattle.signal.specs.declared.Answer.{Answer}
use Rattle.signal.specs.declared.Soft.{Soft}
use Rattle.rows.specs.Cases.{Asking, Case, Connected, DomainReleased, Expired, FoundNone}
use Rattle.rows.specs.Cases.{FoundPath, Happening, NamesIncumbent, NamesOther, NamesRerouting, PartyReleased, Role, SaidReady, SetUp}
use Rattle.rows.specs.Cases.{Triggered, came_none}
use Rattle.rows.specs.Checks.{among}
use Rattle.rows.specs.Laws.{same_phase}
use Rattle.rows.specs.Papers.{Item, Papers}
use Rattle.rows.specs.Rules.{NoClosing, Says1, Says2, Says4, Says5, Says8, SaysAsCame, Untold, plainly, turned_away, with}
use Rattle.rows.specs.Situations.{about, asks_immediate, asks_unrecognized, at_last_number, came1, came4, came_any, came_neither, came_not1}
use Rattle.rows.specs.Situations.{came_not4, came_some, cell, checked_by, closes_by}
use Rattle.rows.specs.Situations.{connect_in, connections_get, connect_is_sent, cranked_found}
use Rattle.rows.specs.Situations.{cranked_in, cranked_lost, cranked_none, domain_release_in as calling_in, for_named}
use Rattle.rows.specs.Situations.{goes_to, happens_in, hard_off}
use Rattle.rows.specs.Situations.{hard_on, in_both, incumbent_gets, is_soft_setup, party_and_rerouting_get as called_and_rerouting_get}
use Rattle.rows.specs.Situations.{party_gets as called_gets, party_release_in as called_in, policy_any, policy_yes, rejected_with}
use Rattle.rows.specs.Situations.{rerouting_gets, setup_came_in, setup_is_sent, is_stored_by, switches_by, with_room}
use Rattle.rows.specs.States.{AtAwaiting, AtHardUnderway as AtHardInitiated, AtHardWaiting as AtHardIndicated, AtIdle, AtNull}
use Rattle.rows.specs.States.{AtSoftInitiated, AtSoftProceeding, AtSoftTriggered, Phase, is_hard_phase, phase_number}
use Rattle.rows.specs.declared.Class.{Class}

-- the two Initiated states (6.3.5.8, 6.3.5.9)
abbrev pub initiated_phase : Phase → Bool
initiated_phase phase = same_phase phase AtHardInitiated || same_phase phase AtSoftInitiated

-- THE CHECKS (01, "Numbers of refusal"; 02, Ask 2). No service is activated for the call (6.3.2)
abbrev pub has_no_service : Bool → Soft → Bool
has_no_service hard soft = not hard && not (has_soft soft)

-- 106, outside Null (decision 60): a trigger without symmetric soft (decision 59), a setup with no service (decision 58)
abbrev pub lacks_meaning_at_destination : Phase → Bool → Soft → Happening → Bool
lacks_meaning_at_destination phase hard soft Triggered = not (has_symmetric soft)
lacks_meaning_at_destination phase hard soft FoundPath = not (same_phase phase AtSoftTriggered)
lacks_meaning_at_destination phase hard soft FoundNone = not (same_phase phase AtSoftTriggered)
lacks_meaning_at_destination phase hard soft (Connected role agreed) = not (same_phase phase AtSoftProceeding)
lacks_meaning_at_destination phase hard soft (SetUp asked late) = has_no_service hard soft
lacks_meaning_at_destination phase hard soft (PartyReleased class) = false
lacks_meaning_at_destination phase hard soft (DomainReleased role class tried) = false
lacks_meaning_at_destination phase hard soft SaidReady = not (initiated_phase phase)
lacks_meaning_at_destination phase hard soft Expired = not (is_hard_phase phase)

-- a code that is read, and is none that 6.3.5 knows: in the Hard states none is read (decision 71)
abbrev pub is_unsupported : Phase → Asking → Bool
is_unsupported phase asked = asks_unrecognized asked && not (is_hard_phase phase)

-- a setup that neither #8 nor #5 meets; no #6 at this end (decision 71)
abbrev pub is_acceptable_at_destination : Phase → Asking → Bool → Bool
is_acceptable_at_destination phase asked late = not (is_unsupported phase asked) && not late

-- in that order; in Null always 106 (decision 26)
abbrev pub checked_at_destination : Case → Answer
checked_at_destination =
    checked_by (λ c. lacks_meaning_at_destination c.phase c.hard c.soft c.happening) is_acceptable_at_destination

-- 6.3.5: an accepted setup stores its number, and no other does; at 65,535 it is refused and stores none (decision 60). D36-5 to the letter
-- stores a greater number also where the setup is rejected with #8: 6.3.5 departs from that, and an item has no word for it
abbrev pub is_stored_at_destination : Case → Bool
is_stored_at_destination = is_stored_by checked_at_destination is_acceptable_at_destination

-- SOFT TRIGGER, in any state but Idle
abbrev pub disregarded_trigger : Phase → List Item
disregarded_trigger phase =
    -- D37-1
    goes_to phase (switches_by false (closes_by NoClosing (about (happens_in Triggered phase))))
    -- C-3, Trig. Soft (Dnp 27)
    ∷ cell phase (happens_in Triggered phase)
    ∷ []

abbrev pub triggers_at_destination : Phase → List Item
triggers_at_destination AtNull = []
triggers_at_destination AtIdle =
    -- 6.3.6.1 case 1 with 6.3.3: a trigger starts the search, and the setup is under construction while the incumbent is active (decision
    -- 59)
    goes_to AtSoftTriggered (about (happens_in Triggered AtIdle))
    -- C-3, Trig. Soft (Dnp 26)
    ∷ cell AtSoftTriggered (happens_in Triggered AtIdle)
    ∷ []
triggers_at_destination AtHardIndicated = disregarded_trigger AtHardIndicated
triggers_at_destination AtHardInitiated = disregarded_trigger AtHardInitiated
triggers_at_destination AtSoftTriggered = disregarded_trigger AtSoftTriggered
triggers_at_destination AtSoftProceeding = disregarded_trigger AtSoftProceeding
triggers_at_destination AtSoftInitiated = disregarded_trigger AtSoftInitiated
triggers_at_destination AtAwaiting = disregarded_trigger AtAwaiting

-- PATH FOUND, and none found: in Soft Triggered alone, since this end looks for no hard path (decision 60)
abbrev pub soft_path_found : List Item
soft_path_found =
    -- D37-3 and D37-5
    goes_to AtSoftProceeding (setup_is_sent (about (happens_in FoundPath AtSoftTriggered)))
    -- C-3, Path (Dnp 28)
    ∷ setup_is_sent (cell AtSoftProceeding (happens_in FoundPath AtSoftTriggered))
    ∷ []

abbrev pub soft_path_lost : List Item
soft_path_lost =
    -- D37-2: the trigger comes to nothing, and the call is Idle as before it
    goes_to AtIdle (switches_by false (closes_by NoClosing (about (happens_in FoundNone AtSoftTriggered))))
    -- C-3, No path (Dnp 12)
    ∷ cell AtIdle (happens_in FoundNone AtSoftTriggered)
    ∷ []

-- CONNECT, in Soft Proceeding alone
abbrev pub connects_at_destination : List Item
connects_at_destination =
    -- D39-1: where policy takes the new connection; the incumbent itself is released (decision 74)
    goes_to AtIdle (switches_by true (incumbent_gets (with Says4) (about (connect_in AtSoftProceeding policy_yes))))
    -- 6.3.7.1, where policy does not: #21 and no Rerouting cause (decisions 12 and 74)
    ∷ goes_to AtIdle (switches_by false (rerouting_gets turned_away (about (connect_in AtSoftProceeding not))))
    -- C-3, Inc. Con: Idle either way; its procedure (Dnp 29) is the one where policy agrees
    ∷ cell AtIdle (connect_in AtSoftProceeding policy_any)
    ∷ switches_by true (incumbent_gets (with Says4) (cell AtIdle (connect_in AtSoftProceeding policy_yes)))
    ∷ []

-- SETUP. A hard reroute setup indication, turned away by no earlier question: asked to switch at once (D36-6), or in a Hard state with a
-- code that is not recognised (D36-7). A soft one is `is_soft_setup` (D36-8)
abbrev pub is_hard_indication : Phase → Asking → Bool → Bool
is_hard_indication phase asked late = (asks_immediate asked || (asks_unrecognized asked && is_hard_phase phase)) && not late

-- by a number that is not greater than the one on record, where the code was not turned away before (6.3.5)
abbrev pub is_old_indication : Phase → Asking → Bool → Bool
is_old_indication phase asked late = late && not (is_unsupported phase asked)

abbrev pub hard_indication_in : Phase → Case → Bool
hard_indication_in phase = setup_came_in phase (is_hard_indication phase)

abbrev pub soft_indication_in : Phase → Case → Bool
soft_indication_in phase = setup_came_in phase is_soft_setup

-- the question of the number, in every state
abbrev pub number_question : Phase → List Item
number_question phase =
    -- D36-4: where the code has passed
    rejected_with Says5 phase (about (setup_came_in phase (is_old_indication phase)))
    -- C-3, note 1 (it stands under B-3): an older number leaves the state
    ∷ cell phase (setup_came_in phase (is_old_indication phase))
    ∷ []

-- and before it, outside the Hard states, that of the code (6.3.5)
abbrev pub code_question : Phase → List Item
code_question phase =
    -- D36-3
    rejected_with Says8 phase (about (setup_came_in phase (λ asked late. is_unsupported phase asked)))
    ∷ number_question phase

-- in Idle, and in Soft Triggered, on which Annex D is silent: no #21 here (decision 72)
abbrev pub incumbent_cleared : Phase → Item
incumbent_cleared phase = goes_to AtHardInitiated (incumbent_gets plainly (about (hard_indication_in phase)))

-- where two connections are held: a hard setup has both released with #21, a soft one the older rerouting connection, and no Rerouting
-- cause stands beside it (decision 12)
abbrev pub both_turned_away : Phase → Item
both_turned_away phase = goes_to AtHardInitiated (connections_get turned_away (about (hard_indication_in phase)))

abbrev pub older_turned_away : Phase → Item
older_turned_away phase = goes_to AtSoftInitiated (rerouting_gets turned_away (about (soft_indication_in phase)))

abbrev pub setups_at_destination : Phase → List Item
setups_at_destination AtNull = []
setups_at_destination AtIdle =
    -- 6.3.5.1 case 1
    incumbent_cleared AtIdle
    -- D36-11: silent on the cause
    ∷ goes_to AtHardInitiated (about (hard_indication_in AtIdle))
    -- D36-12
    ∷ goes_to AtSoftInitiated (about (soft_indication_in AtIdle))
    -- C-3, Inc. hard Set. (Dnp 15) and Inc. soft Set. (Dnp 19)
    ∷ cell AtHardInitiated (hard_indication_in AtIdle)
    ∷ cell AtSoftInitiated (soft_indication_in AtIdle)
    ∷ code_question AtIdle
setups_at_destination AtHardIndicated =
    -- D36-13
    goes_to AtHardInitiated (about (soft_indication_in AtHardIndicated))
    -- D36-14
    ∷ goes_to AtHardInitiated (about (hard_indication_in AtHardIndicated))
    -- C-3, Inc. hard Set. and Inc. soft Set. (Dnp 16)
    ∷ cell AtHardInitiated (hard_indication_in AtHardIndicated)
    ∷ cell AtHardInitiated (soft_indication_in AtHardIndicated)
    ∷ number_question AtHardIndicated
setups_at_destination AtHardInitiated =
    -- 6.3.5.3: no change of state
    goes_to AtHardInitiated (about (hard_indication_in AtHardInitiated))
    ∷ goes_to AtHardInitiated (about (soft_indication_in AtHardInitiated))
    -- D36-15
    ∷ rerouting_gets turned_away (about (hard_indication_in AtHardInitiated))
    -- D36-16
    ∷ rerouting_gets turned_away (about (soft_indication_in AtHardInitiated))
    -- C-3, Inc. hard Set. and Inc. soft Set. (Dnp 17)
    ∷ cell AtHardInitiated (hard_indication_in AtHardInitiated)
    ∷ cell AtHardInitiated (soft_indication_in AtHardInitiated)
    ∷ number_question AtHardInitiated
setups_at_destination AtSoftTriggered =
    -- 6.3.5.6, by way of 6.3.5.1 case 1
    incumbent_cleared AtSoftTriggered
    -- 6.3.5.6, by way of 6.3.5.1 case 2
    ∷ goes_to AtSoftInitiated (about (soft_indication_in AtSoftTriggered))
    -- C-3, Inc. hard Set. (Dnp 15) and Inc. soft Set. (Dnp 19)
    ∷ cell AtHardInitiated (hard_indication_in AtSoftTriggered)
    ∷ cell AtSoftInitiated (soft_indication_in AtSoftTriggered)
    ∷ code_question AtSoftTriggered
setups_at_destination AtSoftProceeding =
    -- D36-21
    both_turned_away AtSoftProceeding
    -- D36-22
    ∷ older_turned_away AtSoftProceeding
    -- C-3, Inc. hard Set. (Dnp 18) and Inc. soft Set. (Dnp 30)
    ∷ cell AtHardInitiated (hard_indication_in AtSoftProceeding)
    ∷ cell AtSoftInitiated (soft_indication_in AtSoftProceeding)
    ∷ code_question AtSoftProceeding
setups_at_destination AtSoftInitiated =
    -- D36-17
    both_turned_away AtSoftInitiated
    -- D36-18
    ∷ older_turned_away AtSoftInitiated
    -- C-3, Inc. hard Set. (Dnp 18) and Inc. soft Set. (Dnp 17)
    ∷ cell AtHardInitiated (hard_indication_in AtSoftInitiated)
    ∷ cell AtSoftInitiated (soft_indication_in AtSoftInitiated)
    ∷ code_question AtSoftInitiated
setups_at_destination AtAwaiting =
    -- D36-19
    both_turned_away AtAwaiting
    -- D36-20
    ∷ older_turned_away AtAwaiting
    -- C-3, Inc. hard Set. (Dnp 18) and Inc. soft Set. (Dnp 17)
    ∷ cell AtHardInitiated (hard_indication_in AtAwaiting)
    ∷ cell AtSoftInitiated (soft_indication_in AtAwaiting)
    ∷ code_question AtAwaiting

-- READY: what 6.3.5.1 to 6.3.5.7 let follow on the setup is an event of its own here, when the node is ready (decision 62)
abbrev pub readies_at_destination : List Item
readies_at_destination =
    -- D36-23
    goes_to AtIdle (switches_by true (connect_is_sent (about (happens_in SaidReady AtHardInitiated))))
    -- C-3, Out. Con. (Dnp 21)
    ∷ switches_by true (connect_is_sent (cell AtIdle (happens_in SaidReady AtHardInitiated)))
    -- D36-26
    ∷ goes_to AtAwaiting (connect_is_sent (about (happens_in SaidReady AtSoftInitiated)))
    -- C-3, Out. Con. (Dnp 22)
    ∷ connect_is_sent (cell AtAwaiting (happens_in SaidReady AtSoftInitiated))
    ∷ []

-- EXPIRY
abbrev pub expiries_at_destination : List Item
expiries_at_destination =
    -- D35-1
    goes_to AtNull (called_gets (with Says2) (about (happens_in Expired AtHardIndicated)))
    -- C-3, Timer (Dnp 23)
    ∷ called_gets (with Says2) (cell AtNull (happens_in Expired AtHardIndicated))
    -- D35-2
    ∷ goes_to AtNull (called_and_rerouting_get (with Says2) (about (happens_in Expired AtHardInitiated)))
    -- C-3, Timer (Dnp 24, whose second "rerouting connection" is the called side: 6.3.5.10)
    ∷ called_and_rerouting_get (with Says2) (cell AtNull (happens_in Expired AtHardInitiated))
    ∷ []

-- RELEASE FROM THE CALLED SIDE. Where two connections are held, D32, D33 and D34 say the same three things, each of its own state
abbrev pub both_unmodified : Phase → Item
both_unmodified phase = goes_to AtNull (connections_get (with SaysAsCame) (about (called_in phase came_some)))

abbrev pub both_silently : Phase → Item
both_silently phase = goes_to AtNull (about (in_both hard_off (called_in phase came_none)))

abbrev pub both_with1 : Phase → Item
both_with1 phase = goes_to AtNull (connections_get (with Says1) (about (in_both hard_on (called_in phase came_none))))

abbrev pub called_releases_at_destination : Phase → List Item
called_releases_at_destination AtNull = []
called_releases_at_destination AtIdle =
    -- D29-1
    goes_to AtNull (incumbent_gets (with SaysAsCame) (about (called_in AtIdle came_some)))
    -- D29-2: silent on the cause
    ∷ goes_to AtNull (about (in_both hard_off (called_in AtIdle came_none)))
    -- D29-3
    ∷ goes_to AtNull (incumbent_gets (with Says1) (about (in_both hard_on (called_in AtIdle came_none))))
    -- C-3, Rel Cld (Dnp 0)
    ∷ cell AtNull (called_in AtIdle came_any)
    ∷ []
called_releases_at_destination AtHardIndicated =
    -- D30-1
    goes_to AtNull (about (called_in AtHardIndicated came_any))
    -- C-3, Rel Cld (Dnp 1)
    ∷ cell AtNull (called_in AtHardIndicated came_any)
    ∷ []
called_releases_at_destination AtHardInitiated =
    -- D31-1
    goes_to AtNull (rerouting_gets (with SaysAsCame) (about (called_in AtHardInitiated came_some)))
    -- D31-2: whether hard is on is not asked (decision 66)
    ∷ goes_to AtNull (rerouting_gets (with Says1) (about (called_in AtHardInitiated came_none)))
    -- C-3, Rel Cld (Dnp 2)
    ∷ cell AtNull (called_in AtHardInitiated came_any)
    ∷ []
called_releases_at_destination AtSoftTriggered =
    -- 6.3.4.1, by way of 6.3.4.7: cleared as any call, so with no Rerouting cause, whatever came and whether hard is on (decision 65)
    goes_to AtNull (incumbent_gets plainly (about (called_in AtSoftTriggered came_any)))
    -- C-3, Rel Cld (Dnp 0)
    ∷ cell AtNull (called_in AtSoftTriggered came_any)
    ∷ []
called_releases_at_destination AtSoftProceeding =
    -- D34-1
    both_unmodified AtSoftProceeding
    -- D34-2
    ∷ both_silently AtSoftProceeding
    -- D34-3
    ∷ both_with1 AtSoftProceeding
    -- C-3, Rel Cld (Dnp 3)
    ∷ cell AtNull (called_in AtSoftProceeding came_any)
    ∷ []
called_releases_at_destination AtSoftInitiated =
    -- D32-1
    both_unmodified AtSoftInitiated
    -- D32-2
    ∷ both_silently AtSoftInitiated
    -- D32-3
    ∷ both_with1 AtSoftInitiated
    -- C-3, Rel Cld (Dnp 3)
    ∷ cell AtNull (called_in AtSoftInitiated came_any)
    ∷ []
called_releases_at_destination AtAwaiting =
    -- D33-1
    both_unmodified AtAwaiting
    -- D33-2
    ∷ both_silently AtAwaiting
    -- D33-3
    ∷ both_with1 AtAwaiting
    -- C-3, Rel Cld (Dnp 3)
    ∷ cell AtNull (called_in AtAwaiting came_any)
    ∷ []

-- RELEASE FROM THE CALLING SIDE. In every section a cause is read also with hard off (decision 68), #1 goes on without modification
-- (decision 67), and any other cause, #4 too, becomes #2 (6.3.4.2 case 3, 6.3.4.4 case 3, 6.3.4.5 case 3, 6.3.4.6 case 5); only for the
-- incumbent in Awaiting #4 is none of these
abbrev pub forwarded1 : Phase → Role → Item
forwarded1 phase named = goes_to AtNull (called_gets (with SaysAsCame) (about (calling_in phase named came1)))

-- of the items that set #1, the state; the number is departed from
abbrev pub over_by1 : Phase → Role → Item
over_by1 phase named = goes_to AtNull (about (calling_in phase named came1))

-- any other cause: the number 2, also where #2 came (decision 67)
abbrev pub over_by2 : (Class → Bool) → Phase → Role → Item
over_by2 test phase named = goes_to AtNull (called_gets (with Says2) (about (calling_in phase named test)))

-- silent on the cause
abbrev pub ended_hard_off : Phase → Item
ended_hard_off phase = goes_to AtNull (about (in_both hard_off (calling_in phase NamesIncumbent came_any)))

-- the rerouting connection's own release has no Rerouting cause (6.3.4.5 case 3; decision 68)
abbrev pub rerouting_plainly : Phase → Item
rerouting_plainly phase = rerouting_gets plainly (about (calling_in phase NamesIncumbent came_some))

-- C-3, Rel Clg I.RC#4 and I.RC, in every state but Awaiting
abbrev pub incumbent_cells : Phase → List Item → List Item
incumbent_cells phase more =
    cell AtNull (calling_in phase NamesIncumbent came4)
    ∷ cell AtNull (calling_in phase NamesIncumbent came_not4)
    ∷ more

abbrev pub calling_in_idle : List Item
calling_in_idle =
    -- 6.3.4.2 case 3
    forwarded1 AtIdle NamesIncumbent
    -- D29-4
    ∷ ended_hard_off AtIdle
    -- D29-5
    ∷ over_by1 AtIdle NamesIncumbent
    -- D29-6
    ∷ over_by2 came_not1 AtIdle NamesIncumbent
    -- D29-7
    ∷ goes_to AtHardIndicated (about (in_both hard_on (calling_in AtIdle NamesIncumbent came_none)))
    -- C-3, Rel Clg I.nRC (Dnp 8)
    ∷ cell AtHardIndicated (calling_in AtIdle NamesIncumbent came_none)
    -- C-3, Rel Clg I.RC#4 and I.RC (Dnp 4)
    ∷ incumbent_cells AtIdle []

-- Hard Initiated: neither the hard service nor crankback is read (decision 69)
abbrev pub calling_in_hard_initiated : List Item
calling_in_hard_initiated =
    -- 6.3.4.4 case 3
    forwarded1 AtHardInitiated NamesRerouting
    -- D31-3
    ∷ over_by1 AtHardInitiated NamesRerouting
    -- D31-4
    ∷ over_by2 came_not1 AtHardInitiated NamesRerouting
    -- D31-5: while the timer runs, which is this state; at 65,535 too (decision 69)
    ∷ goes_to AtHardIndicated (about (calling_in AtHardInitiated NamesRerouting came_none))
    -- C-3, Rel Clg R.nRC (Dnp 11)
    ∷ cell AtHardIndicated (calling_in AtHardInitiated NamesRerouting came_none)
    -- C-3, Rel Clg R.RC (Dnp 6)
    ∷ cell AtNull (calling_in AtHardInitiated NamesRerouting came_some)
    ∷ []

-- Soft Triggered: 6.3.4.1, by way of 6.3.4.7, whatever came and whether hard is on (decision 65)
abbrev pub calling_in_soft_triggered : List Item
calling_in_soft_triggered =
    goes_to AtNull (called_gets plainly (about (calling_in AtSoftTriggered NamesIncumbent came_any)))
    -- C-3, Rel Clg I.RC#4 and I.RC (Dnp 4)
    ∷ incumbent_cells AtSoftTriggered []

-- Soft Proceeding, for the incumbent
abbrev pub soft_proceeding_incumbent : List Item
soft_proceeding_incumbent =
    -- 6.3.4.8 case 3, by way of 6.3.4.5 case 3
    forwarded1 AtSoftProceeding NamesIncumbent
    ∷ rerouting_plainly AtSoftProceeding
    -- D34-4
    ∷ ended_hard_off AtSoftProceeding
    -- D34-5
    ∷ over_by1 AtSoftProceeding NamesIncumbent
    -- D34-6
    ∷ over_by2 came_not1 AtSoftProceeding NamesIncumbent
    -- D34-7: #21 is the Cause code, and no Rerouting cause stands beside it (decision 12)
    ∷ goes_to AtHardIndicated (rerouting_gets turned_away (about (in_both hard_on (calling_in AtSoftProceeding NamesIncumbent came_none))))
    -- C-3, Rel Clg I.nRC (Dnp 25)
    ∷ cell AtHardIndicated (calling_in AtSoftProceeding NamesIncumbent came_none)
    -- C-3, Rel Clg I.RC#4 and I.RC (Dnp 5)
    ∷ incumbent_cells AtSoftProceeding []

-- Soft Proceeding, for the rerouting connection: only crankback is asked for (decision 69)
abbrev pub soft_proceeding_rerouting : List Item
soft_proceeding_rerouting =
    -- a retry at 65,535 is as if none was found (decision 69)
    goes_to AtIdle
    (closes_by NoClosing (about (in_both at_last_number (cranked_in AtSoftProceeding NamesRerouting came_any cranked_found))))
    -- D34-8: crankback is a setup on a new number (decision 69)
    ∷ goes_to AtSoftProceeding
    (setup_is_sent (about (in_both with_room (cranked_in AtSoftProceeding NamesRerouting came_any cranked_found))))
    -- D34-10
    ∷ goes_to AtIdle (about (cranked_in AtSoftProceeding NamesRerouting came_any cranked_lost))
    -- D34-11
    ∷ goes_to AtIdle (about (cranked_in AtSoftProceeding NamesRerouting came_any cranked_none))
    -- C-3, Rel Clg R.nRC (Dnp 12), and its note 3 where a path is found
    ∷ cell AtIdle (cranked_in AtSoftProceeding NamesRerouting came_none cranked_none)
    ∷ cell AtSoftProceeding (cranked_in AtSoftProceeding NamesRerouting came_none cranked_found)
    -- C-3, Rel Clg R.RC (Dnp 12), where crankback finds no path
    ∷ cell AtIdle (cranked_in AtSoftProceeding NamesRerouting came_some cranked_none)
    ∷ cell AtIdle (cranked_in AtSoftProceeding NamesRerouting came_some cranked_lost)
    ∷ []

-- Soft Initiated, for the incumbent
abbrev pub soft_initiated_incumbent : List Item
soft_initiated_incumbent =
    -- 6.3.4.5 case 3
    forwarded1 AtSoftInitiated NamesIncumbent
    ∷ rerouting_plainly AtSoftInitiated
    -- D32-4
    ∷ ended_hard_off AtSoftInitiated
    -- D32-5
    ∷ over_by1 AtSoftInitiated NamesIncumbent
    -- D32-6
    ∷ over_by2 came_not1 AtSoftInitiated NamesIncumbent
    -- D32-7: the setup that came earlier goes on, so nothing is sent for it now
    ∷ goes_to AtHardInitiated (closes_by NoClosing (about (in_both hard_on (calling_in AtSoftInitiated NamesIncumbent came_none))))
    -- C-3, Rel Clg I.nRC (Dnp 9)
    ∷ cell AtHardInitiated (calling_in AtSoftInitiated NamesIncumbent came_none)
    -- C-3, Rel Clg I.RC#4 and I.RC (Dnp 5)
    ∷ incumbent_cells AtSoftInitiated []

-- Soft Initiated, for the rerouting connection
abbrev pub soft_initiated_rerouting : List Item
soft_initiated_rerouting =
    -- D32-8
    goes_to AtIdle (about (calling_in AtSoftInitiated NamesRerouting came_any))
    -- C-3, Rel Clg R.nRC and R.RC (Dnp 12)
    ∷ cell AtIdle (calling_in AtSoftInitiated NamesRerouting came_none)
    ∷ cell AtIdle (calling_in AtSoftInitiated NamesRerouting came_some)
    ∷ []

-- Awaiting, for the incumbent: hard is not asked for (decision 68)
abbrev pub awaiting_incumbent : List Item
awaiting_incumbent =
    -- 6.3.4.6 case 3, by way of 6.3.4.5 case 3
    forwarded1 AtAwaiting NamesIncumbent
    ∷ rerouting_plainly AtAwaiting
    -- D33-4
    ∷ over_by1 AtAwaiting NamesIncumbent
    -- D33-5
    ∷ over_by2 came_neither AtAwaiting NamesIncumbent
    -- D33-6
    ∷ goes_to AtIdle (switches_by true (about (calling_in AtAwaiting NamesIncumbent came_none)))
    -- D33-7
    ∷ goes_to AtIdle (switches_by true (about (calling_in AtAwaiting NamesIncumbent came4)))
    -- C-3, Rel Clg I.nRC and I.RC#4 (Dnp 10)
    ∷ switches_by true (cell AtIdle (calling_in AtAwaiting NamesIncumbent came_none))
    ∷ switches_by true (cell AtIdle (calling_in AtAwaiting NamesIncumbent came4))
    -- C-3, Rel Clg I.RC (Dnp 5)
    ∷ cell AtNull (calling_in AtAwaiting NamesIncumbent came_not4)
    ∷ []

-- Awaiting, for the rerouting connection: #4 is another cause there (decision 69)
abbrev pub awaiting_rerouting : List Item
awaiting_rerouting =
    -- 6.3.4.6 case 5
    forwarded1 AtAwaiting NamesRerouting
    -- 6.3.4.6 case 5 is silent on it: the incumbent's own release has no Rerouting cause (decision 69)
    ∷ incumbent_gets plainly (about (calling_in AtAwaiting NamesRerouting came_some))
    -- D33-8
    ∷ over_by1 AtAwaiting NamesRerouting
    -- D33-9
    ∷ over_by2 came_not1 AtAwaiting NamesRerouting
    -- D33-10
    ∷ goes_to AtIdle (switches_by false (about (calling_in AtAwaiting NamesRerouting came_none)))
    -- C-3, Rel Clg R.nRC (Dnp 12)
    ∷ switches_by false (cell AtIdle (calling_in AtAwaiting NamesRerouting came_none))
    -- C-3, Rel Clg R.RC (Dnp 7)
    ∷ cell AtNull (calling_in AtAwaiting NamesRerouting came_some)
    ∷ []

abbrev pub calling_releases_at_destination : Phase → Role → List Item
calling_releases_at_destination AtNull named = []
calling_releases_at_destination AtIdle named = calling_in_idle
calling_releases_at_destination AtHardIndicated named = []
calling_releases_at_destination AtHardInitiated named = calling_in_hard_initiated
calling_releases_at_destination AtSoftTriggered named = calling_in_soft_triggered
calling_releases_at_destination AtSoftProceeding named = for_named named soft_proceeding_incumbent soft_proceeding_rerouting
calling_releases_at_destination AtSoftInitiated named = for_named named soft_initiated_incumbent soft_initiated_rerouting
calling_releases_at_destination AtAwaiting named = for_named named awaiting_incumbent awaiting_rerouting

abbrev pub destination_items : Phase → Happening → List Item
destination_items phase Triggered = triggers_at_destination phase
destination_items phase FoundPath = soft_path_found
destination_items phase FoundNone = soft_path_lost
destination_items phase (Connected role agreed) = connects_at_destination
destination_items phase (SetUp asked late) = setups_at_destination phase
destination_items phase (PartyReleased class) = called_releases_at_destination phase
destination_items phase (DomainReleased role class tried) = calling_releases_at_destination phase role
destination_items phase SaidReady = readies_at_destination
destination_items phase Expired = expiries_at_destination

-- WHAT THE TEXT OF 6.3 OR A DECISION DEPARTS FROM, each in exactly the cases of the departure; the rest of such an item stands above. To
-- the letter 6.3.7.1 and D39-1 release towards the called party, and so not the connection itself: a slip of the words of 6.2.6.2 (decision
-- 74)
abbrev pub departed_connects : List Item
departed_connects =
    -- D39-1
    goes_to AtIdle (switches_by true (incumbent_gets Untold (about (connect_in AtSoftProceeding policy_yes))))
    -- 6.3.7.1, where policy rejects
    ∷ goes_to AtIdle (switches_by false (rerouting_gets Untold (about (connect_in AtSoftProceeding not))))
    ∷ []

-- D36-4 where the code is not recognised, outside the Hard states: 6.3.5 tries #8 first (decision 71)
abbrev pub departed_old_number : Phase → List Item
departed_old_number phase = rejected_with Says5 phase (about (setup_came_in phase (λ asked late. is_unsupported phase asked && late))) ∷ []

abbrev pub departed_setups_at_destination : Phase → List Item
departed_setups_at_destination AtNull = []
departed_setups_at_destination AtIdle = departed_old_number AtIdle
departed_setups_at_destination AtHardIndicated = []
departed_setups_at_destination AtHardInitiated = []
departed_setups_at_destination AtSoftTriggered = departed_old_number AtSoftTriggered
departed_setups_at_destination AtSoftProceeding = departed_old_number AtSoftProceeding
departed_setups_at_destination AtSoftInitiated = departed_old_number AtSoftInitiated
departed_setups_at_destination AtAwaiting = departed_old_number AtAwaiting

-- the items that set #1 where the sections forward the element without modification (decision 67)
abbrev pub numbered1 : Phase → Role → Item
numbered1 phase named = goes_to AtNull (called_gets (with Says1) (about (calling_in phase named came1)))

abbrev pub departed_calling_releases : Phase → List Item
departed_calling_releases AtNull = []
departed_calling_releases AtIdle =
    -- D29-5, the number
    numbered1 AtIdle NamesIncumbent
    ∷ []
departed_calling_releases AtHardIndicated = []
departed_calling_releases AtHardInitiated =
    -- D31-3, the number
    numbered1 AtHardInitiated NamesRerouting
    ∷ []
departed_calling_releases AtSoftTriggered =
    -- C-3, Rel Clg I.nRC (Dnp 8): 6.3.4.7 to the letter (decisions 65 and 75)
    cell AtHardIndicated (calling_in AtSoftTriggered NamesIncumbent came_none)
    -- C-3, Rel Clg I.RC#4 and I.RC (Dnp 4), the cause, "#1 or #2": neither (decision 65)
    ∷ called_gets (with Says1) (cell AtNull (calling_in AtSoftTriggered NamesIncumbent came_some))
    ∷ called_gets (with Says2) (cell AtNull (calling_in AtSoftTriggered NamesIncumbent came_some))
    ∷ []
departed_calling_releases AtSoftProceeding =
    -- D34-5, the number
    numbered1 AtSoftProceeding NamesIncumbent
    -- D34-8 at 65,535: as if none was found (decision 69)
    ∷ goes_to AtSoftProceeding
    (setup_is_sent (about (in_both at_last_number (cranked_in AtSoftProceeding NamesRerouting came_any cranked_found))))
    -- C-3, note 3, where no path is found: 6.3.4.8 case 6, D34-10 (decision 75)
    ∷ cell AtSoftProceeding (cranked_in AtSoftProceeding NamesRerouting came_none cranked_lost)
    -- C-3, Rel Clg R.RC (Dnp 12), where one is found: 6.3.4.8 case 5 does not ask for a cause, nor does D34-8 (decisions 69 and 75)
    ∷ cell AtIdle (cranked_in AtSoftProceeding NamesRerouting came_some cranked_found)
    ∷ []
departed_calling_releases AtSoftInitiated =
    -- D32-5, the number
    numbered1 AtSoftInitiated NamesIncumbent
    ∷ []
departed_calling_releases AtAwaiting =
    -- D33-4 and D33-8, the number
    numbered1 AtAwaiting NamesIncumbent
    ∷ numbered1 AtAwaiting NamesRerouting
    ∷ []

-- C-3, Rel Cld (Dnp 0) in Soft Triggered, the cause, "#1 or #2": neither, whether one came or not (decision 65)
abbrev pub departed_called_releases : List Item
departed_called_releases =
    incumbent_gets (with Says1) (cell AtNull (called_in AtSoftTriggered came_any))
    ∷ incumbent_gets (with Says2) (cell AtNull (called_in AtSoftTriggered came_any))
    ∷ []

abbrev pub destination_departed : Phase → Happening → List Item
destination_departed phase Triggered = []
destination_departed phase FoundPath = []
destination_departed phase FoundNone = []
destination_departed phase (Connected role agreed) = departed_connects
destination_departed phase (SetUp asked late) = departed_setups_at_destination phase
destination_departed phase (PartyReleased class) = departed_called_releases
destination_departed phase (DomainReleased role class tried) = departed_calling_releases phase
destination_departed phase SaidReady = []
destination_departed phase Expired = []

-- what the papers say of the destination
abbrev pub destination_papers : Papers
destination_papers =
    record {
      answer = checked_at_destination;
      stores = is_stored_at_destination;
      items = λ c. destination_items c.phase c.happening;
      departed = λ c. destination_departed c.phase c.happening;
    }

-- THE TABLE'S CELLS. In which states, by number, C-3 prints a next state for a release from the calling side: for the incumbent by its
-- lines I.nRC, I.RC#4 and I.RC, for the rerouting connection by R.nRC and R.RC. R.RC is read of every cause, since no line tells #4 apart
-- there
abbrev pub printed_for_named : Role → List ℕ
printed_for_named NamesIncumbent = 1 ∷ 4 ∷ 5 ∷ 6 ∷ 7 ∷ []
printed_for_named NamesRerouting = 3 ∷ 5 ∷ 6 ∷ 7 ∷ []
printed_for_named NamesOther = []

-- a connect is for the rerouting connection
abbrev pub printed_connect : Role → List ℕ
printed_connect NamesIncumbent = []
printed_connect NamesRerouting = 5 ∷ []
printed_connect NamesOther = []

-- A setup of either kind is in no state FSM-ERR, by note 1 an old one too; a code that is not recognised has no line, and is put with these
abbrev pub printed_for : Happening → List ℕ
printed_for Triggered = 1 ∷ 2 ∷ 3 ∷ 4 ∷ 5 ∷ 6 ∷ 7 ∷ []
printed_for FoundPath = 4 ∷ []
printed_for FoundNone = 4 ∷ []
printed_for (Connected role agreed) = printed_connect role
printed_for (SetUp asked late) = 1 ∷ 2 ∷ 3 ∷ 4 ∷ 5 ∷ 6 ∷ 7 ∷ []
printed_for (PartyReleased class) = 1 ∷ 2 ∷ 3 ∷ 4 ∷ 5 ∷ 6 ∷ 7 ∷ []
printed_for (DomainReleased role class tried) = printed_for_named role
printed_for SaidReady = 3 ∷ 6 ∷ []
printed_for Expired = 2 ∷ 3 ∷ []

-- C-3 prints a next state; where it does not, it prints FSM-ERR, or has no place: Null, and a connection that is not held
abbrev pub is_printed_at_destination : Phase → Happening → Bool
is_printed_at_destination phase happening = among (phase_number phase) (printed_for happening)
