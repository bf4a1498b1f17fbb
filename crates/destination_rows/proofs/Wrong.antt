-- Wrong cells of the destination's page, each at a case that is written out: the rule does not keep the laws, or does not say what the
-- papers say elsewhere (specs/Elsewhere), which leave the page one row at every case (proofs/Only). Every release of a setup is there with
-- the other Cause code. Assumes nothing.
use Prim.Native.Nat.{ℕ}
use native.Mathlib.Omega.{arith}
use mathlib.Core.Bool.{cond, false, true}
use mathlib.Core.Path.{◌≡◌, ap}
use Rattle.signal.specs.declared.Answer.TheVariants.{NoMeaning}
use Rattle.signal.specs.declared.CauseCode.TheVariants.{CallRejected}
use Rattle.signal.specs.declared.Crankback.TheVariants.{AlternateFound, NoCrankback}
use Rattle.signal.specs.declared.Soft.TheVariants.{Asymmetric, Symmetric}
use Rattle.rows.proofs.NotTheRow.{NotTheRow, at}
use Rattle.rows.specs.Cases.{AsksClearing, AsksImmediate, AsksOther, Connected, DomainReleased, Expired, FoundPath, NamesIncumbent}
use Rattle.rows.specs.Cases.{NamesRerouting, PartyReleased, SaidReady, SetUp, Triggered}
use Rattle.rows.specs.Rules.{NewNumber, NoSlot, OldIncumbent, OldRerouting, Says1, Says2, Says4, Says5, Says6, Says8, SaysAsCame}
use Rattle.rows.specs.Rules.{SendsConnect, SendsSetup, Tells, closed, dropping, ends, plainly, refuses, retiring, starting, stopping}
use Rattle.rows.specs.Rules.{storing, switching, telling, to, turned_away, with}
use Rattle.rows.specs.States.{AtAwaiting, AtHardUnderway, AtHardWaiting, AtIdle, AtSoftInitiated, AtSoftProceeding, AtSoftTriggered}
use Rattle.rows.specs.declared.Class.TheVariants.{CameComplete, CameNone, CameOther, CameOutside}
use Rattle.source_rows.specs.Shared.{back_to_idle, newly_initiated, rejects}
use Rattle.destination_rows.specs.Elsewhere.{destination_papers}
use Rattle.destination_rows.specs.Rows.{newly_hard}

-- ---- setup (6.3.5): the Cause code of each release
-- where the incumbent is held alone, it is released without #21 (6.3.5.1 case 1; decision 72)
pub incumbent_with_code_21_in_idle :
    NotTheRow destination_papers (at AtIdle true Symmetric true (SetUp AsksImmediate false))
    (storing (starting (retiring turned_away newly_hard)))
incumbent_with_code_21_in_idle h = let z : ◌≡◌ {A = ℕ} 0 1 = ap (λ b. cond b 1 0) h in omega arith

-- 6.3.5.6, as 6.3.5.1
pub incumbent_with_code_21_in_soft_triggered :
    NotTheRow destination_papers (at AtSoftTriggered true Symmetric true (SetUp AsksImmediate false))
    (storing (starting (retiring turned_away newly_hard)))
incumbent_with_code_21_in_soft_triggered h = let z : ◌≡◌ {A = ℕ} 0 1 = ap (λ b. cond b 1 0) h in omega arith

-- the older setup is released with #21, whichever kind the new one is (6.3.5.3)
pub older_without_code_21_by_a_hard_setup_in_hard_initiated :
    NotTheRow destination_papers (at AtHardUnderway true Symmetric true (SetUp AsksImmediate false))
    (storing (dropping plainly newly_hard))
older_without_code_21_by_a_hard_setup_in_hard_initiated h = let z : ◌≡◌ {A = ℕ} 0 1 = ap (λ b. cond b 1 0) h in omega arith

pub older_without_code_21_by_a_soft_setup_in_hard_initiated :
    NotTheRow destination_papers (at AtHardUnderway true Symmetric true (SetUp AsksClearing false))
    (storing (dropping plainly newly_hard))
older_without_code_21_by_a_soft_setup_in_hard_initiated h = let z : ◌≡◌ {A = ℕ} 0 1 = ap (λ b. cond b 1 0) h in omega arith

-- a hard setup releases both with #21 (6.3.5.7 case 1)
pub incumbent_without_code_21_in_soft_proceeding :
    NotTheRow destination_papers (at AtSoftProceeding true Symmetric true (SetUp AsksImmediate false))
    (storing (starting (retiring plainly (dropping turned_away newly_hard))))
incumbent_without_code_21_in_soft_proceeding h = let z : ◌≡◌ {A = ℕ} 0 1 = ap (λ b. cond b 1 0) h in omega arith

pub rerouting_without_code_21_in_soft_proceeding :
    NotTheRow destination_papers (at AtSoftProceeding true Symmetric true (SetUp AsksImmediate false))
    (storing (starting (retiring turned_away (dropping plainly newly_hard))))
rerouting_without_code_21_in_soft_proceeding h = let z : ◌≡◌ {A = ℕ} 0 1 = ap (λ b. cond b 1 0) h in omega arith

-- and a soft one the older of the rerouting connections, which this end started (6.3.5.7 case 2)
pub older_without_code_21_in_soft_proceeding :
    NotTheRow destination_papers (at AtSoftProceeding true Symmetric true (SetUp AsksClearing false))
    (storing (dropping plainly newly_initiated))
older_without_code_21_in_soft_proceeding h = let z : ◌≡◌ {A = ℕ} 0 1 = ap (λ b. cond b 1 0) h in omega arith

-- a hard setup releases both with #21 (6.3.5.4 case 1)
pub incumbent_without_code_21_in_soft_initiated :
    NotTheRow destination_papers (at AtSoftInitiated true Symmetric true (SetUp AsksImmediate false))
    (storing (starting (retiring plainly (dropping turned_away newly_hard))))
incumbent_without_code_21_in_soft_initiated h = let z : ◌≡◌ {A = ℕ} 0 1 = ap (λ b. cond b 1 0) h in omega arith

pub rerouting_without_code_21_in_soft_initiated :
    NotTheRow destination_papers (at AtSoftInitiated true Symmetric true (SetUp AsksImmediate false))
    (storing (starting (retiring turned_away (dropping plainly newly_hard))))
rerouting_without_code_21_in_soft_initiated h = let z : ◌≡◌ {A = ℕ} 0 1 = ap (λ b. cond b 1 0) h in omega arith

-- and a soft one the older of the rerouting connections; the source's has none (6.2.7.6; 6.3.5.4 case 2)
pub older_without_code_21_in_soft_initiated :
    NotTheRow destination_papers (at AtSoftInitiated true Symmetric true (SetUp AsksClearing false))
    (storing (dropping plainly newly_initiated))
older_without_code_21_in_soft_initiated h = let z : ◌≡◌ {A = ℕ} 0 1 = ap (λ b. cond b 1 0) h in omega arith

-- a hard setup releases both with #21 (6.3.5.5, as 6.3.5.4)
pub incumbent_without_code_21_in_awaiting :
    NotTheRow destination_papers (at AtAwaiting true Symmetric true (SetUp AsksImmediate false))
    (storing (starting (retiring plainly (dropping turned_away newly_hard))))
incumbent_without_code_21_in_awaiting h = let z : ◌≡◌ {A = ℕ} 0 1 = ap (λ b. cond b 1 0) h in omega arith

pub rerouting_without_code_21_in_awaiting :
    NotTheRow destination_papers (at AtAwaiting true Symmetric true (SetUp AsksImmediate false))
    (storing (starting (retiring turned_away (dropping plainly newly_hard))))
rerouting_without_code_21_in_awaiting h = let z : ◌≡◌ {A = ℕ} 0 1 = ap (λ b. cond b 1 0) h in omega arith

-- and a soft one the older of the rerouting connections
pub older_without_code_21_in_awaiting :
    NotTheRow destination_papers (at AtAwaiting true Symmetric true (SetUp AsksClearing false))
    (storing (dropping plainly newly_initiated))
older_without_code_21_in_awaiting h = let z : ◌≡◌ {A = ℕ} 0 1 = ap (λ b. cond b 1 0) h in omega arith

-- ---- setup: the next state, the stored number, the other signals and causes
-- a hard setup goes to Hard Initiated (6.3.5.1 case 1)
pub hard_setup_in_idle_taken_as_soft :
    NotTheRow destination_papers (at AtIdle true Symmetric true (SetUp AsksImmediate false))
    (storing newly_initiated)
hard_setup_in_idle_taken_as_soft h = let z : ◌≡◌ {A = ℕ} 0 1 = ap (λ b. cond b 1 0) h in omega arith

-- in Hard Indicated a soft setup is as a hard one (6.3.5.2)
pub soft_setup_rejected_in_hard_indicated :
    NotTheRow destination_papers (at AtHardWaiting true Symmetric true (SetUp AsksClearing false))
    (rejects Says8 AtHardWaiting)
soft_setup_rejected_in_hard_indicated h = let z : ◌≡◌ {A = ℕ} 0 1 = ap (λ b. cond b 1 0) h in omega arith

-- Awaiting is left for Soft Initiated: the new connection is not ready (6.3.5.5; 6.3.5.4 case 2)
pub soft_setup_stays_awaiting :
    NotTheRow destination_papers (at AtAwaiting true Symmetric true (SetUp AsksClearing false))
    (storing (dropping turned_away (to AtAwaiting OldIncumbent NewNumber)))
soft_setup_stays_awaiting h = let z : ◌≡◌ {A = ℕ} 0 1 = ap (λ b. cond b 1 0) h in omega arith

-- the setup of the source wins over what this end started: no #6 here (6.3.5.7 case 2; decisions 71 and 73)
pub soft_setup_in_progress_in_soft_proceeding :
    NotTheRow destination_papers (at AtSoftProceeding true Symmetric true (SetUp AsksClearing false))
    (rejects Says6 AtSoftProceeding)
soft_setup_in_progress_in_soft_proceeding h = let z : ◌≡◌ {A = ℕ} 0 1 = ap (λ b. cond b 1 0) h in omega arith

-- an accepted setup stores its number (6.3.5)
pub hard_setup_number_not_stored :
    NotTheRow destination_papers (at AtHardWaiting true Symmetric true (SetUp AsksImmediate false))
    newly_hard
hard_setup_number_not_stored h = let z : ◌≡◌ {A = ℕ} 0 1 = ap (λ b. cond b 1 0) h in omega arith

-- a rejected one does not: the code is tested before (6.3.5, not as D36-5)
pub number_stored_before_the_code_is_read :
    NotTheRow destination_papers (at AtIdle true Symmetric true (SetUp AsksOther false))
    (storing (rejects Says8 AtIdle))
number_stored_before_the_code_is_read h = let z : ◌≡◌ {A = ℕ} 0 1 = ap (λ b. cond b 1 0) h in omega arith

-- a number that is not greater than the one on record is #5, of a hard setup too (6.3.5)
pub old_hard_setup_taken :
    NotTheRow destination_papers (at AtIdle true Symmetric true (SetUp AsksImmediate true))
    (storing (starting (retiring plainly newly_hard)))
old_hard_setup_taken h = let z : ◌≡◌ {A = ℕ} 0 1 = ap (λ b. cond b 1 0) h in omega arith

-- the code comes first (6.3.5; decision 71)
pub old_number_told_before_the_code :
    NotTheRow destination_papers (at AtSoftInitiated true Symmetric true (SetUp AsksOther true))
    (rejects Says5 AtSoftInitiated)
old_number_told_before_the_code h = let z : ◌≡◌ {A = ℕ} 0 1 = ap (λ b. cond b 1 0) h in omega arith

-- but in the Hard states it is not read, and the setup is a hard one
pub unrecognised_code_told_in_hard_initiated :
    NotTheRow destination_papers (at AtHardUnderway true Symmetric true (SetUp AsksOther false))
    (rejects Says8 AtHardUnderway)
unrecognised_code_told_in_hard_initiated h = let z : ◌≡◌ {A = ℕ} 0 1 = ap (λ b. cond b 1 0) h in omega arith

-- a release for a setup carries no Rerouting cause (decision 72)
pub older_released_with_4_in_soft_initiated :
    NotTheRow destination_papers (at AtSoftInitiated true Symmetric true (SetUp AsksClearing false))
    (storing (dropping (Tells Says4 CallRejected) newly_initiated))
older_released_with_4_in_soft_initiated h = let z : ◌≡◌ {A = ℕ} 0 1 = ap (λ b. cond b 1 0) h in omega arith

-- the timer starts on entering the Hard states (6.3.5.4 case 1; decision 64)
pub hard_setup_over_a_soft_one_starts_no_timer :
    NotTheRow destination_papers (at AtSoftInitiated true Symmetric true (SetUp AsksImmediate false))
    (storing (retiring turned_away (dropping turned_away newly_hard)))
hard_setup_over_a_soft_one_starts_no_timer h = let z : ◌≡◌ {A = ℕ} 0 1 = ap (λ b. cond b 1 0) h in omega arith

-- and is not started again within them (6.3.5.2)
pub hard_setup_starts_the_timer_again :
    NotTheRow destination_papers (at AtHardWaiting true Symmetric true (SetUp AsksImmediate false))
    (storing (starting newly_hard))
hard_setup_starts_the_timer_again h = let z : ◌≡◌ {A = ℕ} 0 1 = ap (λ b. cond b 1 0) h in omega arith

-- a hard setup is taken with hard off (6.3.2; decision 58)
pub hard_off_refuses_a_hard_setup :
    NotTheRow destination_papers (at AtIdle false Asymmetric true (SetUp AsksImmediate false))
    (refuses NoMeaning AtIdle)
hard_off_refuses_a_hard_setup h = let z : ◌≡◌ {A = ℕ} 0 1 = ap (λ b. cond b 1 0) h in omega arith

-- ---- ready (6.3.5.8, 6.3.5.9; decision 62)
-- Hard Initiated: the rerouting connection is switched in with the connect
pub hard_ready_does_not_switch :
    NotTheRow destination_papers (at AtHardUnderway true Symmetric true SaidReady)
    (stopping (closed (SendsConnect OldRerouting) (to AtIdle OldRerouting NoSlot)))
hard_ready_does_not_switch h = let z : ◌≡◌ {A = ℕ} 0 1 = ap (λ b. cond b 1 0) h in omega arith

-- and the timer is cleared
pub hard_ready_lets_the_timer_run :
    NotTheRow destination_papers (at AtHardUnderway true Symmetric true SaidReady)
    (switching OldRerouting (closed (SendsConnect OldRerouting) (to AtIdle OldRerouting NoSlot)))
hard_ready_lets_the_timer_run h = let z : ◌≡◌ {A = ℕ} 0 1 = ap (λ b. cond b 1 0) h in omega arith

-- Soft Initiated: not before the incumbent is released
pub soft_ready_switches_at_once :
    NotTheRow destination_papers (at AtSoftInitiated true Symmetric true SaidReady)
    (switching OldRerouting (closed (SendsConnect OldRerouting) (retiring plainly (to AtIdle OldRerouting NoSlot))))
soft_ready_switches_at_once h = let z : ◌≡◌ {A = ℕ} 0 1 = ap (λ b. cond b 1 0) h in omega arith

-- the connect is for the rerouting connection
pub soft_ready_connects_the_incumbent :
    NotTheRow destination_papers (at AtSoftInitiated true Symmetric true SaidReady)
    (closed (SendsConnect OldIncumbent) (to AtAwaiting OldIncumbent OldRerouting))
soft_ready_connects_the_incumbent h = let z : ◌≡◌ {A = ℕ} 0 1 = ap (λ b. cond b 1 0) h in omega arith

-- ---- release from the called side (6.3.4; decision 66)
-- the call ends: no reroute is looked for (6.3.4.2 case 2)
pub called_side_starts_a_hard_reroute :
    NotTheRow destination_papers (at AtIdle true Symmetric true (PartyReleased CameNone))
    (retiring (with Says1) (starting (to AtHardWaiting NoSlot NoSlot)))
called_side_starts_a_hard_reroute h = let z : ◌≡◌ {A = ℕ} 0 1 = ap (λ b. cond b 1 0) h in omega arith

-- with hard on and no cause the release carries #1 (6.3.4.2 case 2)
pub called_side_released_without_1_in_idle :
    NotTheRow destination_papers (at AtIdle true Symmetric true (PartyReleased CameNone))
    (retiring plainly ends)
called_side_released_without_1_in_idle h = let z : ◌≡◌ {A = ℕ} 0 1 = ap (λ b. cond b 1 0) h in omega arith

-- in Hard Initiated also with hard off (6.3.4.4 case 2)
pub hard_initiated_reads_the_hard_service :
    NotTheRow destination_papers (at AtHardUnderway false Symmetric true (PartyReleased CameNone))
    (stopping (dropping plainly ends))
hard_initiated_reads_the_hard_service h = let z : ◌≡◌ {A = ℕ} 0 1 = ap (λ b. cond b 1 0) h in omega arith

-- 6.3.4.7 says only that 6.3.4.1 applies, which has no case with #1 (decision 65)
pub called_side_with_1_in_soft_triggered :
    NotTheRow destination_papers (at AtSoftTriggered true Symmetric true (PartyReleased CameNone))
    (retiring (with Says1) ends)
called_side_with_1_in_soft_triggered h = let z : ◌≡◌ {A = ℕ} 0 1 = ap (λ b. cond b 1 0) h in omega arith

-- the timer is cleared (6.3.4.3 case 1)
pub called_side_lets_the_timer_run :
    NotTheRow destination_papers (at AtHardWaiting true Symmetric true (PartyReleased CameOther))
    ends
called_side_lets_the_timer_run h = let z : ◌≡◌ {A = ℕ} 0 1 = ap (λ b. cond b 1 0) h in omega arith

-- normal call clearing: no #21 (6.3.4.8 case 1)
pub called_side_with_code_21 :
    NotTheRow destination_papers (at AtSoftProceeding true Symmetric true (PartyReleased CameOther))
    (retiring (with SaysAsCame) (dropping (Tells SaysAsCame CallRejected) ends))
called_side_with_code_21 h = let z : ◌≡◌ {A = ℕ} 0 1 = ap (λ b. cond b 1 0) h in omega arith

-- ---- release from the calling side (6.3.4; decisions 67 to 69)
-- Soft Initiated: the setup that came earlier goes on, where the source turns such a one away (6.3.4.5 case 4; decision 68)
pub setup_that_came_is_given_up :
    NotTheRow destination_papers (at AtSoftInitiated true Symmetric true (DomainReleased NamesIncumbent CameNone NoCrankback))
    (starting (dropping turned_away (to AtHardWaiting NoSlot NoSlot)))
setup_that_came_is_given_up h = let z : ◌≡◌ {A = ℕ} 0 1 = ap (λ b. cond b 1 0) h in omega arith

-- Soft Proceeding: the one that this end sent does not (6.3.4.8 case 4; decision 68)
pub setup_that_was_sent_goes_on :
    NotTheRow destination_papers (at AtSoftProceeding true Symmetric true (DomainReleased NamesIncumbent CameNone NoCrankback))
    (starting (to AtHardUnderway NoSlot OldRerouting))
setup_that_was_sent_goes_on h = let z : ◌≡◌ {A = ℕ} 0 1 = ap (λ b. cond b 1 0) h in omega arith

-- and is cleared with #21
pub setup_that_was_sent_cleared_without_code_21 :
    NotTheRow destination_papers (at AtSoftProceeding true Symmetric true (DomainReleased NamesIncumbent CameNone NoCrankback))
    (starting (dropping plainly (to AtHardWaiting NoSlot NoSlot)))
setup_that_was_sent_cleared_without_code_21 h = let z : ◌≡◌ {A = ℕ} 0 1 = ap (λ b. cond b 1 0) h in omega arith

-- the rerouting connection's own release has no Rerouting cause (6.3.4.5 case 3; decision 68)
pub cause_2_on_the_rerouting_connection_too :
    NotTheRow destination_papers (at AtSoftInitiated true Symmetric true (DomainReleased NamesIncumbent CameOther NoCrankback))
    (telling Says2 (dropping (with Says2) ends))
cause_2_on_the_rerouting_connection_too h = let z : ◌≡◌ {A = ℕ} 0 1 = ap (λ b. cond b 1 0) h in omega arith

-- #1 goes on without modification, so as received (6.3.4.4 case 3; decision 67)
pub cause_1_as_a_number_in_hard_initiated :
    NotTheRow destination_papers (at AtHardUnderway true Symmetric true (DomainReleased NamesRerouting CameOutside NoCrankback))
    (stopping (telling Says1 ends))
cause_1_as_a_number_in_hard_initiated h = let z : ◌≡◌ {A = ℕ} 0 1 = ap (λ b. cond b 1 0) h in omega arith

-- and any other cause is #2 (6.3.4.2 case 3)
pub cause_4_as_received_in_idle :
    NotTheRow destination_papers (at AtIdle true Symmetric true (DomainReleased NamesIncumbent CameComplete NoCrankback))
    (telling SaysAsCame ends)
cause_4_as_received_in_idle h = let z : ◌≡◌ {A = ℕ} 0 1 = ap (λ b. cond b 1 0) h in omega arith

-- without a cause Hard Indicated follows, at 65,535 too: the next number is the setup's (6.3.4.4 case 4; decision 69)
pub hard_reroute_given_up_at_65535 :
    NotTheRow destination_papers (at AtHardUnderway true Symmetric false (DomainReleased NamesRerouting CameNone NoCrankback))
    (stopping (telling Says2 ends))
hard_reroute_given_up_at_65535 h = let z : ◌≡◌ {A = ℕ} 0 1 = ap (λ b. cond b 1 0) h in omega arith

-- what came released is not released again (6.3.4.6 case 4; decision 68, not as D33-7)
pub incumbent_released_again_on_switchover :
    NotTheRow destination_papers (at AtAwaiting true Symmetric true (DomainReleased NamesIncumbent CameComplete NoCrankback))
    (switching OldRerouting (retiring plainly (to AtIdle OldRerouting NoSlot)))
incumbent_released_again_on_switchover h = let z : ◌≡◌ {A = ℕ} 0 1 = ap (λ b. cond b 1 0) h in omega arith

-- for the rerouting connection #4 is another cause (6.3.4.6 case 5; decision 69)
pub cause_4_gives_the_rerouting_connection_up :
    NotTheRow destination_papers (at AtAwaiting true Symmetric true (DomainReleased NamesRerouting CameComplete NoCrankback))
    back_to_idle
cause_4_gives_the_rerouting_connection_up h = let z : ◌≡◌ {A = ℕ} 0 1 = ap (λ b. cond b 1 0) h in omega arith

-- a retry is a setup on a new number (6.3.4.8 case 5; decision 69)
pub retry_on_the_released_number :
    NotTheRow destination_papers (at AtSoftProceeding true Symmetric true (DomainReleased NamesRerouting CameNone AlternateFound))
    (closed (SendsSetup OldRerouting) (to AtSoftProceeding OldIncumbent OldRerouting))
retry_on_the_released_number h = let z : ◌≡◌ {A = ℕ} 0 1 = ap (λ b. cond b 1 0) h in omega arith

-- Soft Triggered ends the call, hard on or off (6.3.4.7; decision 65, not as C-3)
pub soft_triggered_waits_for_a_hard_setup :
    NotTheRow destination_papers (at AtSoftTriggered true Symmetric true (DomainReleased NamesIncumbent CameNone NoCrankback))
    (starting (to AtHardWaiting NoSlot NoSlot))
soft_triggered_waits_for_a_hard_setup h = let z : ◌≡◌ {A = ℕ} 0 1 = ap (λ b. cond b 1 0) h in omega arith

-- ---- a soft reroute that this end starts (6.3.6, 6.3.7), and timer expiry (6.3.5.10)
-- symmetric soft alone is started from this side (6.3.6; decision 59)
pub asymmetric_soft_started_at_the_destination :
    NotTheRow destination_papers (at AtIdle true Asymmetric true Triggered)
    (to AtSoftTriggered OldIncumbent NoSlot)
asymmetric_soft_started_at_the_destination h = let z : ◌≡◌ {A = ℕ} 0 1 = ap (λ b. cond b 1 0) h in omega arith

-- this end looks for no hard path (decision 60)
pub path_for_a_hard_reroute_at_the_destination :
    NotTheRow destination_papers (at AtHardWaiting true Symmetric true FoundPath)
    (closed (SendsSetup NewNumber) (to AtHardUnderway NoSlot NewNumber))
path_for_a_hard_reroute_at_the_destination h = let z : ◌≡◌ {A = ℕ} 0 1 = ap (λ b. cond b 1 0) h in omega arith

-- where policy says no the release carries #21 (6.3.7.1)
pub policy_no_with_another_code :
    NotTheRow destination_papers (at AtSoftProceeding true Symmetric true (Connected NamesRerouting false))
    (dropping plainly back_to_idle)
policy_no_with_another_code h = let z : ◌≡◌ {A = ℕ} 0 1 = ap (λ b. cond b 1 0) h in omega arith

-- where it says yes the incumbent's carries #4 (6.3.7.1; decision 74)
pub policy_yes_without_4 :
    NotTheRow destination_papers (at AtSoftProceeding true Symmetric true (Connected NamesRerouting true))
    (switching OldRerouting (retiring plainly (to AtIdle OldRerouting NoSlot)))
policy_yes_without_4 h = let z : ◌≡◌ {A = ℕ} 0 1 = ap (λ b. cond b 1 0) h in omega arith

-- and the call is Idle on the new connection
pub policy_yes_stays_on_the_incumbent :
    NotTheRow destination_papers (at AtSoftProceeding true Symmetric true (Connected NamesRerouting true))
    (switching OldIncumbent (dropping (with Says4) back_to_idle))
policy_yes_stays_on_the_incumbent h = let z : ◌≡◌ {A = ℕ} 0 1 = ap (λ b. cond b 1 0) h in omega arith

-- the called side is released with #2 (6.3.5.10 case 1)
pub expiry_with_1_at_the_destination :
    NotTheRow destination_papers (at AtHardWaiting true Symmetric true Expired)
    (telling Says1 ends)
expiry_with_1_at_the_destination h = let z : ◌≡◌ {A = ℕ} 0 1 = ap (λ b. cond b 1 0) h in omega arith

-- and the rerouting connection too (6.3.5.10 case 2)
pub expiry_leaves_the_new_connection :
    NotTheRow destination_papers (at AtHardUnderway true Symmetric true Expired)
    (telling Says2 ends)
expiry_leaves_the_new_connection h = let z : ◌≡◌ {A = ℕ} 0 1 = ap (λ b. cond b 1 0) h in omega arith

-- a timer that expired is not stopped (01, "Signals"; decision 64)
pub expired_timer_stopped_at_the_destination :
    NotTheRow destination_papers (at AtHardWaiting true Symmetric true Expired)
    (stopping (telling Says2 ends))
expired_timer_stopped_at_the_destination h = let z : ◌≡◌ {A = ℕ} 0 1 = ap (λ b. cond b 1 0) h in omega arith
