-- What is shut out (specs/ShutOut), at any end that shows what is to be shown on the tables and at the runs that are written out: each of those controls breaks a promise that
-- ours keeps. Assumes nothing.
use Prim.Native.Nat.{◌+◌, ℕ}
use native.Mathlib.Omega.{arith}
use mathlib.Core.List.{List, [], ◌∷◌}
use mathlib.Core.Logic.{◌⊎◌, inl, inr}
use mathlib.Core.Path.{◌∙◌, ◌≡◌, ap, subst, sym}
use lib.ListN.{get_or, length}
use Rattle.runs.proofs.Demand.{demand_three_says}
use Rattle.runs.proofs.ShutOut.{constant_breaks, moving_breaks, refusing_breaks, untouching_breaks}
use Rattle.runs.specs.Account.{one_to}
use Rattle.runs.specs.Demand.{AccountAt}
use Rattle.runs.specs.Late.{LateOrUnsupported}
use Rattle.runs.specs.Run.{Control, KeyedRequest, empty_table, table_after}
use Rattle.signal.specs.Counting.{kind_number}
use Rattle.signal.specs.Signals.{none}
use Rattle.signal.specs.declared.Signal.{Signal}
use Rattle.call.specs.Claims.{Lawful}
use Rattle.call.specs.Record.{emptied}
use Rattle.call.specs.declared.Call.{Call}
use Rattle.promises.proofs.Claims.{answers_exactly, one_number}
use Rattle.promises.proofs.Inserted.{b4_is_late}
use Rattle.promises.proofs.Shown.{log_at, once_of, shown, shown_at}
use Rattle.promises.specs.Claims.{DemandThree}
use Rattle.promises.specs.Ends.{Sieve, calls, document, numbering, ours}
use Rattle.promises.specs.Inserted.{awaiting, b1_to_b3, b4}
use Rattle.promises.specs.ShutOut.{ending_twice, initiated, inventing, is_just_opened, keeping_one, moved, naming_not_given, opening, ready}
use Rattle.promises.specs.ShutOut.{switched, taking_late, with_b4}
use Rattle.promises.specs.ShutOut as claim

-- Number 1 is given at `switched`, and is to be held, or ended exactly once.
never_once : (C : Control calls) → length (log_at C switched).given ≡ 2 → (once_of C switched ≡ 1 → ⊥) → claim.BreaksAccount C switched
never_once C two wrong h = wrong (either (h.accounted 1 (omega arith) (omega arith)))
  where
    either : {m n : ℕ} → ((m ≡ 1) × (n ≡ 0)) ⊎ ((m ≡ 0) × (n ≡ 1)) → m + n ≡ 1
    either (inl e) = omega arith
    either (inr e) = omega arith

module _ (s : Sieve) (shows : shown_at s ≡ shown) where
  -- ---- demand 3
  -- The first number given is to be 1.
  pub inventing_is_shut_out : claim.InventingIsShutOut s.half
  inventing_is_shut_out h =
      let seven : (log_at (inventing s.half) (opening ∷ [])).given ≡ 7 ∷ [] = ap (λ v. v.given) shows in
      let e : ◌≡◌ {A = ℕ} 7 1 = ap (λ (ns : List ℕ). get_or ns 0 0) (sym seven ∙ (h.numbers ∙ ap (λ ns. one_to (length ns)) seven)) in
      omega arith

  -- Number 1 is not to be neither held nor ended, nor ended twice.
  pub keeping_one_is_shut_out : claim.KeepingOneIsShutOut s.half
  keeping_one_is_shut_out =
      never_once (keeping_one s.half) (ap (λ v. v.kept_of) shows)
      (λ once. let e : ◌≡◌ {A = ℕ} 1 0 = sym once ∙ ap (λ v. v.kept) shows in omega arith)

  pub ending_twice_is_shut_out : claim.EndingTwiceIsShutOut s.half
  ending_twice_is_shut_out =
      never_once (ending_twice s.half) (ap (λ v. v.twice_of) shows)
      (λ once. let e : ◌≡◌ {A = ℕ} 1 2 = sym once ∙ ap (λ v. v.twice) shows in omega arith)

  -- Number 3 is asked for, and was not given.
  pub naming_not_given_is_shut_out : claim.NamingNotGivenIsShutOut s.half
  naming_not_given_is_shut_out h = omega (arith, h.asked 3 (omega arith), ap (λ v. v.asked) shows, ap (λ v. v.unasked) shows)

  -- B4 is to leave the table, where the last number is 2; the control that takes it gives number 3.
  pub taking_late_is_shut_out : claim.TakingLateIsShutOut s
  taking_late_is_shut_out = (
    (subst (λ ys. LateOrUnsupported calls (numbering s) ys b4) (sym reached) (inl (b4_is_late s shows)), tt),
    λ h.
        let same : (taking_late s.half awaiting b4).table ≡ awaiting = subst (λ ys. (taking_late s.half ys b4).table ≡ ys) reached h.rejected.0.table in
        let e : ◌≡◌ {A = ℕ} 3 2 = sym (ap (λ v. v.late) shows) ∙ ap (λ (ys : List Call). (get_or ys 0 emptied).last) same in
        omega arith,
  )
    where
      reached : table_after calls (taking_late s.half) (empty_table calls 1) b1_to_b3 ≡ awaiting
      reached = ap (λ v. v.late_at) shows

  pub none_keeps_demand_three : claim.NoneKeepsDemandThree s
  none_keeps_demand_three = (
    λ h. inventing_is_shut_out (account_of (inventing s.half) h (opening ∷ [])),
    (
      λ h. keeping_one_is_shut_out (account_of (keeping_one s.half) h switched),
      (
        λ h. ending_twice_is_shut_out (account_of (ending_twice s.half) h switched),
        (
          λ h. naming_not_given_is_shut_out (account_of (naming_not_given s.half) h switched),
          λ h. taking_late_is_shut_out.1 (h 1 with_b4 taking_late_is_shut_out.0).harmless,
        ),
      ),
    ),
  )
    where
      account_of : (C : Control calls) → DemandThree s C → (requests : List (KeyedRequest calls)) → AccountAt calls C 1 requests 7
      account_of C h requests = (demand_three_says calls (numbering s) C h).account 1 requests 7 (λ e. omega arith)

  -- ---- demands 1 and 2
  -- The call that is opened is to be stored.
  pub untouching_is_shut_out : claim.UntouchingIsShutOut s.half
  untouching_is_shut_out h =
      untouching_breaks calls (document s.half) (ours s.half) (empty_table calls 1) opening (ap (λ v. v.in_one) shows)
      (λ same. let e : ◌≡◌ {A = ℕ} 0 7 = ap (λ (ys : List Call). (get_or ys 0 emptied).key) same in omega arith) h

  -- B3 sends connect 2.
  pub moving_numbers_is_shut_out : claim.MovingNumbersIsShutOut s.half
  moving_numbers_is_shut_out h =
      moving_breaks calls (document s.half) (ours s.half) is_just_opened moved initiated ready (ap (λ v. v.moved) shows)
      (λ same. let e : ◌≡◌ {A = ℕ} 0 8 = ap (λ (ss : List Signal). kind_number (get_or ss 0 none).kind) same ∙ ap (λ v. v.sent) shows in omega arith) h

  module _ (L : Lawful s.half) where
    -- The opening is to be done over one empty record, and refused over none.
    to_be_done : (document s.half).Answers (empty_table calls 1) opening 0
    to_be_done =
        subst ((document s.half).Answers (empty_table calls 1) opening) (ap (λ v. v.in_one) shows) (answers_exactly s.half L (empty_table calls 1) opening)

    to_be_refused : (document s.half).Answers (empty_table calls 0) opening 104
    to_be_refused =
        subst ((document s.half).Answers (empty_table calls 0) opening) (ap (λ v. v.in_none) shows) (answers_exactly s.half L (empty_table calls 0) opening)

    pub refusing_is_shut_out : claim.RefusingIsShutOut s.half
    refusing_is_shut_out number never h =
        refusing_breaks calls (document s.half) (one_number s.half) number never (empty_table calls 1) opening to_be_done h

    pub constant_is_shut_out : claim.ConstantIsShutOut s.half
    constant_is_shut_out r h =
        constant_breaks calls (document s.half) (one_number s.half) r (empty_table calls 1) (empty_table calls 0) opening opening 0 104 to_be_done to_be_refused (λ e. omega arith) h

    -- ---- all of them
    pub shut_out : claim.ShutsOut s
    shut_out =
        record {
          refusing_is_shut_out = refusing_is_shut_out;
          constant_is_shut_out = constant_is_shut_out;
          untouching_is_shut_out = untouching_is_shut_out;
          moving_numbers_is_shut_out = moving_numbers_is_shut_out;
          inventing_is_shut_out = inventing_is_shut_out;
          keeping_one_is_shut_out = keeping_one_is_shut_out;
          ending_twice_is_shut_out = ending_twice_is_shut_out;
          naming_not_given_is_shut_out = naming_not_given_is_shut_out;
          taking_late_is_shut_out = taking_late_is_shut_out;
          none_keeps_demand_three = none_keeps_demand_three;
        }
