-- Wrong cells of the page, each at a case that is written out: the rule does not keep the laws, or does not say what the papers say
-- elsewhere (specs/Elsewhere), which leave the page one row at every case (proofs/Only). Assumes nothing.
use Prim.Native.Nat.{ℕ}
use native.Mathlib.Omega.{arith}
use mathlib.Core.Bool.{cond, false, true}
use mathlib.Core.Path.{◌≡◌, ap}
use Rattle.signal.specs.declared.Answer.TheVariants.{NumbersSpent}
use Rattle.signal.specs.declared.CauseCode.TheVariants.{Section66}
use Rattle.signal.specs.declared.Crankback.TheVariants.{AlternateFound, NoCrankback}
use Rattle.signal.specs.declared.Soft.TheVariants.{Asymmetric, Symmetric}
use Rattle.rows.proofs.NotTheRow.{NotTheRow, at}
use Rattle.rows.specs.Cases.{AsksClearing, AsksImmediate, Connected, DomainReleased, Expired, FoundNone, NamesIncumbent}
use Rattle.rows.specs.Cases.{NamesRerouting, PartyReleased, SaidReady, SetUp, Triggered}
use Rattle.rows.specs.Rules.{NewNumber, NoSlot, OldIncumbent, OldRerouting, Rejects, Says1, Says2, Says4, Says5, Says6, Says8, SaysAsCame}
use Rattle.rows.specs.Rules.{SendsConnect, SendsSetup, closed, dropping, ends, plainly, refuses, retiring, stays, stopping, storing}
use Rattle.rows.specs.Rules.{telling, to, with}
use Rattle.rows.specs.States.{AtAwaiting, AtHardUnderway, AtHardWaiting, AtIdle, AtSoftInitiated, AtSoftProceeding, AtSoftTriggered}
use Rattle.rows.specs.declared.Class.TheVariants.{CameComplete, CameNone, CameOther, CameOutside}
use Rattle.source_rows.specs.Elsewhere.{source_papers}
use Rattle.source_rows.specs.Rows.{both_released}
use Rattle.source_rows.specs.Shared.{back_to_idle, newly_initiated, rejects}

-- without a number for the retry the call ends with #2 (01, the last sentence on releases; decision 3)
pub alternate_at_65535_waits_for_the_timer :
    NotTheRow source_papers (at AtHardUnderway true Symmetric false (DomainReleased NamesRerouting CameNone AlternateFound))
    (to AtHardWaiting NoSlot NoSlot)
alternate_at_65535_waits_for_the_timer h = let z : ◌≡◌ {A = ℕ} 0 1 = ap (λ b. cond b 1 0) h in omega arith

-- and so it does where the node would try again
pub hard_reroute_goes_on_at_65535 :
    NotTheRow source_papers (at AtHardUnderway true Symmetric false (DomainReleased NamesRerouting CameNone NoCrankback))
    (to AtHardWaiting NoSlot NoSlot)
hard_reroute_goes_on_at_65535 h = let z : ◌≡◌ {A = ℕ} 0 1 = ap (λ b. cond b 1 0) h in omega arith

-- a trigger in Idle moves to Soft Triggered with either soft service (01, "Soft trigger"; 6.2.5.3)
pub asymmetric_call_disregards_every_trigger : NotTheRow source_papers (at AtIdle true Asymmetric true Triggered) (stays AtIdle)
asymmetric_call_disregards_every_trigger h = let z : ◌≡◌ {A = ℕ} 0 1 = ap (λ b. cond b 1 0) h in omega arith

-- #1 goes on without modification, so as received (6.2.4.2 case 3; decision 5)
pub cause_1_sent_as_a_number_in_idle :
    NotTheRow source_papers (at AtIdle true Symmetric true (DomainReleased NamesIncumbent CameOutside NoCrankback))
    (telling Says1 ends)
cause_1_sent_as_a_number_in_idle h = let z : ◌≡◌ {A = ℕ} 0 1 = ap (λ b. cond b 1 0) h in omega arith

-- here 01 says "with #1", so the number (D17-5; decision 5)
pub cause_1_sent_as_received_in_soft_proceeding :
    NotTheRow source_papers (at AtSoftProceeding true Symmetric true (DomainReleased NamesIncumbent CameOutside NoCrankback))
    (both_released SaysAsCame)
cause_1_sent_as_received_in_soft_proceeding h = let z : ◌≡◌ {A = ℕ} 0 1 = ap (λ b. cond b 1 0) h in omega arith

-- #4 in Awaiting switches over (01, "Faults seen on shelves"; B8)
pub cause_4_in_awaiting_taken_as_other :
    NotTheRow source_papers (at AtAwaiting true Symmetric true (DomainReleased NamesIncumbent CameComplete NoCrankback))
    (both_released Says2)
cause_4_in_awaiting_taken_as_other h = let z : ◌≡◌ {A = ℕ} 0 1 = ap (λ b. cond b 1 0) h in omega arith

-- the calling side is released with #2 (01, "Timer expiry"; D20-1)
pub expiry_with_cause_1 : NotTheRow source_papers (at AtHardWaiting true Symmetric true Expired) (telling Says1 ends)
expiry_with_cause_1 h = let z : ◌≡◌ {A = ℕ} 0 1 = ap (λ b. cond b 1 0) h in omega arith

-- with hard off a release without a cause goes on without one (01, "Release from the calling side"; 6.2.4.2 case 2)
pub hard_off_passes_none_on_as_2 :
    NotTheRow source_papers (at AtIdle false Symmetric true (PartyReleased CameNone))
    (retiring (with Says2) ends)
hard_off_passes_none_on_as_2 h = let z : ◌≡◌ {A = ℕ} 0 1 = ap (λ b. cond b 1 0) h in omega arith

-- the release of the incumbent is as 6.2.4.8 says, without a Rerouting cause (decision 7)
pub incumbent_released_with_2_in_awaiting :
    NotTheRow source_papers (at AtAwaiting true Symmetric true (DomainReleased NamesRerouting CameOther NoCrankback))
    (telling Says2 (retiring (with Says2) ends))
incumbent_released_with_2_in_awaiting h = let z : ◌≡◌ {A = ℕ} 0 1 = ap (λ b. cond b 1 0) h in omega arith

-- Hard Triggered stays and the timer decides (01, "No path")
pub no_path_ends_the_hard_reroute : NotTheRow source_papers (at AtHardWaiting true Symmetric true FoundNone) (stopping (telling Says2 ends))
no_path_ends_the_hard_reroute h = let z : ◌≡◌ {A = ℕ} 0 1 = ap (λ b. cond b 1 0) h in omega arith

-- a setup rejected with #8 leaves the record as it was, its number too (01, "Faults seen on shelves"; B5)
pub number_stored_before_the_code_is_tested :
    NotTheRow source_papers (at AtIdle true Symmetric true (SetUp AsksImmediate false))
    (storing (rejects Says8 AtIdle))
number_stored_before_the_code_is_tested h = let z : ◌≡◌ {A = ℕ} 0 1 = ap (λ b. cond b 1 0) h in omega arith

-- nor does it while a reroute is in progress
pub unsupported_number_stored_in_progress :
    NotTheRow source_papers (at AtSoftTriggered true Symmetric true (SetUp AsksImmediate false))
    (storing (rejects Says8 AtSoftTriggered))
unsupported_number_stored_in_progress h = let z : ◌≡◌ {A = ℕ} 0 1 = ap (λ b. cond b 1 0) h in omega arith

-- one rejected with #5 leaves it too, idle and in progress (01, "Setup" row 2; B4)
pub old_number_stored :
    NotTheRow source_papers (at AtIdle true Symmetric true (SetUp AsksClearing true)) (storing (rejects Says5 AtIdle))
old_number_stored h = let z : ◌≡◌ {A = ℕ} 0 1 = ap (λ b. cond b 1 0) h in omega arith

pub old_number_stored_in_progress :
    NotTheRow source_papers (at AtHardUnderway true Symmetric true (SetUp AsksClearing true))
    (storing (rejects Says5 AtHardUnderway))
old_number_stored_in_progress h = let z : ◌≡◌ {A = ℕ} 0 1 = ap (λ b. cond b 1 0) h in omega arith

-- one rejected with #6 stores its number all the same, in each of the four states (02, Ask 3; 6.2.7; B12)
pub number_forgotten_in_hard_triggered :
    NotTheRow source_papers (at AtHardWaiting true Symmetric true (SetUp AsksClearing false)) (rejects Says6 AtHardWaiting)
number_forgotten_in_hard_triggered h = let z : ◌≡◌ {A = ℕ} 0 1 = ap (λ b. cond b 1 0) h in omega arith

pub number_forgotten_in_hard_proceeding :
    NotTheRow source_papers (at AtHardUnderway true Symmetric true (SetUp AsksClearing false)) (rejects Says6 AtHardUnderway)
number_forgotten_in_hard_proceeding h = let z : ◌≡◌ {A = ℕ} 0 1 = ap (λ b. cond b 1 0) h in omega arith

pub number_forgotten_in_soft_triggered :
    NotTheRow source_papers (at AtSoftTriggered true Symmetric true (SetUp AsksClearing false)) (rejects Says6 AtSoftTriggered)
number_forgotten_in_soft_triggered h = let z : ◌≡◌ {A = ℕ} 0 1 = ap (λ b. cond b 1 0) h in omega arith

pub number_forgotten_in_soft_proceeding :
    NotTheRow source_papers (at AtSoftProceeding true Symmetric true (SetUp AsksClearing false)) (rejects Says6 AtSoftProceeding)
number_forgotten_in_soft_proceeding h = let z : ◌≡◌ {A = ℕ} 0 1 = ap (λ b. cond b 1 0) h in omega arith

-- at 65,535 too (decision 79), where it is not refused either: it asks for no connection
pub number_forgotten_at_65535 :
    NotTheRow source_papers (at AtSoftProceeding true Symmetric false (SetUp AsksClearing false)) (rejects Says6 AtSoftProceeding)
number_forgotten_at_65535 h = let z : ◌≡◌ {A = ℕ} 0 1 = ap (λ b. cond b 1 0) h in omega arith

pub setup_in_progress_refused_with_108 :
    NotTheRow source_papers (at AtHardWaiting true Symmetric false (SetUp AsksClearing false)) (refuses NumbersSpent AtHardWaiting)
setup_in_progress_refused_with_108 h = let z : ◌≡◌ {A = ℕ} 0 1 = ap (λ b. cond b 1 0) h in omega arith

-- and nothing but the number moves: no connection is taken for it
pub number_taken_for_a_rejected_setup :
    NotTheRow source_papers (at AtSoftProceeding true Symmetric true (SetUp AsksClearing false))
    (storing (dropping plainly (closed (Rejects Says6 Section66) (to AtSoftProceeding OldIncumbent NewNumber))))
number_taken_for_a_rejected_setup h = let z : ◌≡◌ {A = ℕ} 0 1 = ap (λ b. cond b 1 0) h in omega arith

-- row 5 releases the older rerouting connection, and names no Rerouting cause (01, "Setup"; B6; decision 11)
pub older_setup_released_with_4 :
    NotTheRow source_papers (at AtSoftInitiated true Symmetric true (SetUp AsksClearing false))
    (storing (dropping (with Says4) newly_initiated))
older_setup_released_with_4 h = let z : ◌≡◌ {A = ℕ} 0 1 = ap (λ b. cond b 1 0) h in omega arith

-- the connect goes out, and the call awaits switchover (01, "Ready"; B3)
pub ready_leaves_it_initiated :
    NotTheRow source_papers (at AtSoftInitiated true Symmetric true SaidReady)
    (closed (SendsConnect OldRerouting) (to AtSoftInitiated OldIncumbent OldRerouting))
ready_leaves_it_initiated h = let z : ◌≡◌ {A = ℕ} 0 1 = ap (λ b. cond b 1 0) h in omega arith

-- the incumbent stays the incumbent, and the new number is the rerouting connection (01, Soft Proceeding, rerouting; 6.2.4.6 case 5)
pub soft_retry_exchanges_connections :
    NotTheRow source_papers (at AtSoftProceeding true Symmetric true (DomainReleased NamesRerouting CameNone AlternateFound))
    (closed (SendsSetup NewNumber) (to AtSoftProceeding NewNumber OldIncumbent))
soft_retry_exchanges_connections h = let z : ◌≡◌ {A = ℕ} 0 1 = ap (λ b. cond b 1 0) h in omega arith

-- 6.2.4.5 says only that 6.2.4.1 applies, which names no Rerouting cause (decision 1)
pub soft_triggered_lost_with_2 :
    NotTheRow source_papers (at AtSoftTriggered true Symmetric true (DomainReleased NamesIncumbent CameOther NoCrankback))
    (telling Says2 ends)
soft_triggered_lost_with_2 h = let z : ◌≡◌ {A = ℕ} 0 1 = ap (λ b. cond b 1 0) h in omega arith

-- 6.2.4.1 names #1 only where no cause came; where one came the release carries none (decision 1)
pub soft_triggered_passes_a_cause_on_as_1 :
    NotTheRow source_papers (at AtSoftTriggered true Symmetric true (PartyReleased CameOutside))
    (retiring (with Says1) ends)
soft_triggered_passes_a_cause_on_as_1 h = let z : ◌≡◌ {A = ℕ} 0 1 = ap (λ b. cond b 1 0) h in omega arith

-- where policy says no the release carries Cause code #21 (01, "Connect"; 6.2.6.2)
pub turned_away_without_code_21 :
    NotTheRow source_papers (at AtSoftProceeding true Symmetric true (Connected NamesRerouting false))
    (dropping plainly back_to_idle)
turned_away_without_code_21 h = let z : ◌≡◌ {A = ℕ} 0 1 = ap (λ b. cond b 1 0) h in omega arith
