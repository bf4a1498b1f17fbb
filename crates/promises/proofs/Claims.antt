-- The promises of specs/Claims, each by what carries it, of any end whose half keeps the laws and whose number check is its own. Assumes nothing.
use Prim.Native.Nat.{ℕ}
use mathlib.Core.Path.{◌≡◌}
use Rattle.std.specs.Prelude.{Option}
use Rattle.runs.proofs.Demand.{laws_keep_demand_three}
use Rattle.runs.proofs.Exact.{one_number_leaves_one_control}
use Rattle.runs.specs.Exact.{OneNumber, sent_for, stored_for}
use Rattle.runs.specs.Run.{Does, Table, meets, opens}
use Rattle.signal.specs.declared.Services.{Services}
use Rattle.events.specs.declared.Event.{Event}
use Rattle.call.specs.Claims.{Lawful}
use Rattle.call.specs.Events.{Half}
use Rattle.call_table.proofs.Given.{first_is_one}
use Rattle.call_table.specs.Table.{ran_of, table_of}
use Rattle.promises.proofs.Laws.{lawful, row}
use Rattle.promises.proofs.Rejected.{one_sieve, too_many_are_refused, too_many_take_none, turns_away_lem}
use Rattle.promises.proofs.Again.{never_taken_again}
use Rattle.promises.specs.Ends.{ByServices, Sieve, Sifts, as_act, calls, document, numbering, ours}
use Rattle.call_table.specs.Claims as table
use Rattle.promises.specs.Claims as claim

module _ (half : Half) (L : Lawful half) where
  -- ---- demand 1
  pub silent_refusals : claim.SilentRefusals (ours half)
  silent_refusals ys a h = (row half L).refusals_change_nothing ys a.key (as_act a.does) h

  -- ---- demand 2
  pub answers_exactly : claim.AnswersExactly half (ours half)
  answers_exactly ys a = (row half L).given_exactly ys a.key (as_act a.does)

  does_exactly_by : (ys : Table calls) (k : ℕ) (does : Does (Option Services) Event) → table.answered half ys k (as_act does) ≡ 0 →
      (table_of half ys k (as_act does) ≡ stored_for calls (document half) ys k does) × ((ran_of half ys k (as_act does)).done.signals ≡ sent_for calls (document half) ys k does)
  does_exactly_by ys k (opens w) done = (row half L).opening_takes_its_record ys k w done
  does_exactly_by ys k (meets e) done = (row half L).event_changes_its_call ys k e done

  pub does_exactly : claim.DoesExactly half (ours half)
  does_exactly ys a done = does_exactly_by ys a.key a.does done

-- ---- one control
pub one_number : (half : Half) → OneNumber calls (document half)
one_number half ys a = first_is_one (table.checks half ys a.key (as_act a.does))

pub one_control : (half : Half) → claim.OneControl half
one_control half = one_number_leaves_one_control calls (document half) (one_number half)

module _ (s : Sieve) (L : Lawful s.half) (S : Sifts s) (steady : ByServices s) where
  -- ---- demand 3
  pub demand_three : claim.DemandThree s (ours s.half)
  demand_three = laws_keep_demand_three calls (numbering s) (ours s.half) (lawful s.half L) (turns_away_lem s L S)

  -- ---- all of them
  pub promises : claim.KeepsPromises s
  promises =
      record {
        sifts = S;
        one_sieve = one_sieve s S;
        demand_three = demand_three;
        never_taken_again = never_taken_again s L S steady demand_three;
        silent_refusals = silent_refusals s.half L;
        answers_exactly = answers_exactly s.half L;
        does_exactly = does_exactly s.half L;
        one_control = one_control s.half;
        too_many_are_refused = too_many_are_refused s.half L;
        too_many_take_none = too_many_take_none s L S;
      }
