-- The record of a call (01, "The table and its records"), at either end, and how the effect of an event is carried out on it.
-- Assumes nothing.
use Rattle.std.specs.Prelude.{ℕ, Bool, cond, false, [], Option, None, Some}
use Rattle.signal.specs.Numbers.{fresh_after, services_of}
use Rattle.signal.specs.Signals.{places}
use Rattle.signal.specs.declared.Answer.TheVariants.{Done}
use Rattle.signal.specs.declared.Services.{Services}
use Rattle.signal.specs.declared.Soft.TheVariants.{NoSoft}
use Rattle.rows.specs.Cases.{Standing}
use Rattle.rows.specs.Rules.{is_done}
use Rattle.rows.specs.States.{is_null}
use Rattle.rows.specs.declared.Effect.{Effect}
use Rattle.rows.specs.declared.State.{State}
use Rattle.rows.specs.declared.State.TheVariants.{Idle, Null}
use Rattle.call.specs.declared.Call.{Call}
use Rattle.call.specs.declared.Outcome.{Outcome}

-- an empty record: every number 0, hard off, soft none, state Null
abbrev pub emptied : Call
emptied = record { key = 0; hard = false; soft = NoSoft; state = Null; last = 0; remote = 0 }

-- how a call stands: what rows read of its record
abbrev pub standing : Call → Standing
standing c = record { hard = c.hard; soft = c.soft; state = c.state; last = c.last; remote = c.remote }

-- the same call in a state, with a last connection number and a remote incarnation number
abbrev pub moved_to : Call → State → ℕ → ℕ → Call
moved_to c s last remote = record { key = c.key; hard = c.hard; soft = c.soft; state = s; last = last; remote = remote }

-- the last number after one was given: the next; where there is none nothing gives one
abbrev pub number_or : Option ℕ → ℕ → ℕ
number_or (Some n) last = n
number_or None last = last

abbrev pub last_given : ℕ → ℕ
last_given last = number_or (fresh_after last) last

abbrev pub last_after : Bool → ℕ → ℕ
last_after gives last = cond gives (last_given last) last

-- the record after an event that is done: a call that ends is emptied; a given number becomes the last; a setup that stores its number does
abbrev pub call_done : Call → ℕ → State → Bool → Bool → Call
call_done c number s gives stores =
    cond (is_null s) emptied (moved_to c s (last_after gives c.last) (cond stores number c.remote))

-- an effect, carried out: a refusal leaves the record
abbrev pub carried_out : Call → ℕ → Effect → Outcome
carried_out c number f =
    record {
      answer = f.answer;
      call = cond (is_done f.answer) (call_done c number f.state f.gives f.stores) c;
      signals = f.signals;
    }

-- an opening: number 1 for its incumbent, state Rerouting Idle, remote number 0, the services that it names or the default
abbrev pub opened_for : ℕ → Option Services → Outcome
opened_for k w =
    record {
      answer = Done;
      call =
          record {
            key = k;
            hard = (services_of w).hard;
            soft = (services_of w).soft;
            state = Idle 1;
            last = 1;
            remote = 0;
          };
      signals = places [];
    }
