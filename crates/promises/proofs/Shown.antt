-- What an end shows on the tables and at the runs that specs/Inserted and specs/ShutOut write out, as numbers, tests and tables: `shown`, at both ends, by computation
-- (proofs/Source, proofs/Destination). Assumes nothing.
use Prim.Native.Nat.{◌+◌, ℕ}
use mathlib.Core.Bool.{Bool, true}
use mathlib.Core.List.{List, [], ◌++◌, ◌∷◌}
use lib.ListN.{get_or, length}
use Rattle.runs.specs.Account.{Log, empty_log, logged}
use Rattle.runs.specs.Run.{Control, KeyedRequest, Table, call_by_key, empty_table, table_after}
use Rattle.runs.specs.ShutOut.{moves}
use Rattle.signal.specs.Counting.{count, kind_number}
use Rattle.signal.specs.Signals.{none}
use Rattle.events.specs.declared.Event.TheVariants.{Ready}
use Rattle.call.specs.Events.{handled_at}
use Rattle.call.specs.Record.{emptied}
use Rattle.call.specs.declared.Call.{Call}
use Rattle.call_table.specs.Bench.{clearing}
use Rattle.promises.specs.Ends.{Sieve, calls, ours}
use Rattle.promises.specs.Inserted.{awaiting, awaiting_call, b1_to_b3, b4}
use Rattle.promises.specs.ShutOut.{ending_twice, initiated, inventing, is_just_opened, keeping_one, naming_not_given, opening, ready}
use Rattle.promises.specs.ShutOut.{switched, taking_late}

-- the record and the log of key 7 at the end of a run over one record
abbrev pub record_at : Control calls → List (KeyedRequest calls) → Call
record_at C requests = call_by_key calls 7 (table_after calls C (empty_table calls 1) requests)

abbrev pub log_at : Control calls → List (KeyedRequest calls) → Log
log_at C requests = logged calls C 7 (empty_table calls 1) empty_log requests

-- how often number 1 was ended and is held
abbrev pub once_of : Control calls → List (KeyedRequest calls) → ℕ
once_of C requests = count 1 (log_at C requests).ended + count 1 (calls.held (record_at C requests))

pub record Shown : Type 0 where
  -- behind B1 to B3 the table, and behind B4 too; there whether the call takes setups, and supports "clearing"
  pub reached : Table calls
  pub left : Table calls
  pub taken : Bool
  pub supported : Bool
  -- the answer to the opening over one empty record, and over none
  pub in_one : ℕ
  pub in_none : ℕ
  -- at B2's table "ready" is met by moving numbers, and is to send a signal of that kind first
  pub moved : Bool
  pub sent : ℕ
  -- the control that invents numbers gives this one first
  pub given : List ℕ
  -- the control that never ends number 1: how many numbers it gives, and how often number 1 is ended and held; and the one that ends it twice
  pub kept_of : ℕ
  pub kept : ℕ
  pub twice_of : ℕ
  pub twice : ℕ
  -- the control whose setups name another number: how often number 3 is asked for, and given
  pub asked : ℕ
  pub unasked : ℕ
  -- the control that takes late setups comes to the same table, and at B4 there to this last number
  pub late_at : Table calls
  pub late : ℕ

abbrev pub shown_at : Sieve → Shown
shown_at s =
    record {
      reached = table_after calls (ours s.half) (empty_table calls 1) b1_to_b3;
      left = table_after calls (ours s.half) (empty_table calls 1) (b1_to_b3 ++ (b4 ∷ []));
      taken = s.takes awaiting_call;
      supported = s.supports awaiting_call clearing;
      in_one = (ours s.half (empty_table calls 1) opening).answer;
      in_none = (ours s.half (empty_table calls 0) opening).answer;
      moved = moves calls (ours s.half) is_just_opened initiated ready;
      sent = kind_number (get_or (handled_at s.half (call_by_key calls 7 initiated) Ready).signals 0 none).kind;
      given = (log_at (inventing s.half) (opening ∷ [])).given;
      kept_of = length (log_at (keeping_one s.half) switched).given;
      kept = once_of (keeping_one s.half) switched;
      twice_of = length (log_at (ending_twice s.half) switched).given;
      twice = once_of (ending_twice s.half) switched;
      asked = count 3 (log_at (naming_not_given s.half) switched).requested;
      unasked = count 3 (log_at (naming_not_given s.half) switched).given;
      late_at = table_after calls (taking_late s.half) (empty_table calls 1) b1_to_b3;
      late = (get_or (taking_late s.half awaiting b4).table 0 emptied).last;
    }

abbrev pub shown : Shown
shown =
    record {
      reached = awaiting;
      left = awaiting;
      taken = true;
      supported = true;
      in_one = 0;
      in_none = 104;
      moved = true;
      sent = 8;
      given = 7 ∷ [];
      kept_of = 2;
      kept = 0;
      twice_of = 2;
      twice = 2;
      asked = 1;
      unasked = 0;
      late_at = awaiting;
      late = 3;
    }
