-- Either end of a call, and its control over a table: what `call_table::handle` is proved to do by the rows of that end. Both ends have
-- their records, openings, events and signals in common (`calls`); they differ in their half of the control, and in the setups that they
-- take and support (`Sieve`). "Decision N" is a point of docs/DECISIONS.md. Assumes nothing.
use Rattle.std.specs.Prelude.{◌≤◌, ℕ, Bool, ◌||◌, cond, false, not, true, List, [], ◌∷◌, ◌≡◌, Option}
use Rattle.runs.specs.Exact.{Document}
use Rattle.runs.specs.Late.{Numbering}
use Rattle.runs.specs.Run.{Control, Does, End, meets, opens}
use Rattle.signal.specs.Causes.{old_number, unsupported}
use Rattle.signal.specs.Counting.{ended_sent, named, of_kind}
use Rattle.signal.specs.Numbers.{answer_number, has_symmetric, is_clearing}
use Rattle.signal.specs.Signals.{places, rejection}
use Rattle.signal.specs.declared.Kind.TheVariants.{SetupRequest}
use Rattle.signal.specs.declared.Signal.{Signal}
use Rattle.signal.specs.declared.Switchover.{Switchover}
use Rattle.signal.specs.declared.Services.{Services}
use Rattle.events.specs.Events.{reported, setup_number}
use Rattle.events.specs.declared.Act.{Act}
use Rattle.events.specs.declared.Act.TheVariants.{Meets, Opens}
use Rattle.events.specs.declared.Event.{Event}
use Rattle.events.specs.declared.Event.TheVariants.{Connect, Expiry, FromDomain, FromParty, NoPath, PathFound, Ready, Setup, Trigger}
use Rattle.events.specs.declared.Node.{Node}
use Rattle.events.specs.declared.Node.TheVariants.{Destination, Source}
use Rattle.rows.specs.States.{held_in, is_hard, is_null}
use Rattle.destination_rows.specs.Demands.{has_service, is_unrecognized}
use Rattle.call.specs.Events.{Half, destination_half, handled_at, source_half}
use Rattle.call.specs.Record.{emptied, opened_for, standing}
use Rattle.call.specs.declared.Call.{Call}
use Rattle.call_table.specs.Claims.{FirstOf, checks}
use Rattle.call_table.specs.Table.{ran_of, table_of}

-- what both ends have in common
abbrev pub calls : End
calls =
    record {
      Record = Call;
      Wanted = Option Services;
      Event = Event;
      Signals = List Signal;
      empty = emptied;
      key = λ c. c.key;
      last = λ c. c.last;
      held = λ c. held_in c.state;
      reported = reported;
      silent = places [];
      released = ended_sent;
      requested = λ ss. named (of_kind SetupRequest ss);
    }

abbrev pub as_act : Does (Option Services) Event → Act
as_act (opens w) = Opens w
as_act (meets e) = Meets e

module _ (half : Half) where
  -- what the documents ask of an end: the number of the first check that applies (call_table, specs/Claims says what each check asks); an
  -- opening's call and an event's, with what each sends
  abbrev pub document : Document calls
  document =
      record {
        Answers = λ ys a n. FirstOf n (checks half ys a.key (as_act a.does));
        new_call = λ k w. (opened_for k w).call;
        new_sent = λ k w. (opened_for k w).signals;
        met_call = λ c e. (handled_at half c e).call;
        met_sent = λ c e. (handled_at half c e).signals;
      }

  -- our control of that end: `ran_of` and `table_of` are what the contract of `handle` fixes
  abbrev pub ours : Control calls
  ours ys a =
      record {
        answer = answer_number (ran_of half ys a.key (as_act a.does)).done.answer;
        signals = (ran_of half ys a.key (as_act a.does)).done.signals;
        table = table_of half ys a.key (as_act a.does);
      }

-- an end with its number check: its half of the control; which calls take setups; and which switchovers such a call, as it is, supports
pub record Sieve : Type 0 where
  pub half : Half
  pub takes : Call → Bool
  pub supports : Call → Switchover → Bool

-- the source (01, "Setup"): calls with symmetric service take setups, and "clearing" is the one switchover that is supported
abbrev pub source_sieve : Sieve
source_sieve = record { half = source_half; takes = λ c. has_symmetric c.soft; supports = λ c code. is_clearing code }

-- the destination (02, Ask 2; decision 77): calls with any service take setups. In the two Hard states no code is read, and each is
-- supported; in the others "immediate" and "clearing" are (6.3.5; decision 71)
abbrev pub destination_sieve : Sieve
destination_sieve =
    record {
      half = destination_half;
      takes = λ c. has_service c.hard c.soft;
      supports = λ c code. is_hard c.state || not (is_unrecognized code);
    }

-- the end at each node
abbrev pub sieve_of : Node → Sieve
sieve_of Source = source_sieve
sieve_of Destination = destination_sieve

module _ (s : Sieve) where
  -- only a setup asks for a switchover
  abbrev pub asks_supported : Call → Event → Bool
  asks_supported c Trigger = true
  asks_supported c PathFound = true
  asks_supported c NoPath = true
  asks_supported c (Connect k agreed) = true
  asks_supported c (Setup code number) = s.supports c code
  asks_supported c (FromParty cause) = true
  asks_supported c (FromDomain k cause tried) = true
  asks_supported c Ready = true
  asks_supported c Expiry = true

  -- a setup is turned away with #8 where it asks for what is not supported, and else with #5
  abbrev pub numbering : Numbering calls
  numbering =
      record {
        remote = λ c. c.remote;
        number = setup_number;
        takes = s.takes;
        supported = asks_supported;
        reject = λ c e. places (rejection (cond (asks_supported c e) old_number unsupported) ∷ []);
      }

-- Such a check is the end's own: to a call in use a setup has a meaning exactly where the call takes setups; one that asks for what is not
-- supported is rejected with #8, whatever its number, and any other that is late with #5
pub record Sifts (s : Sieve) : Type 0 where
  pub meant : (c : Call) (code : Switchover) (number : ℕ) → is_null c.state ≡ false →
      s.half.demands.meaningless (standing c) (Setup code number) ≡ not (s.takes c)
  pub lacked : (c : Call) (code : Switchover) (number : ℕ) → s.supports c code ≡ false →
      s.half.demands.rejected (standing c) code number ≡ unsupported ∷ []
  pub late : (c : Call) (code : Switchover) (number : ℕ) → s.supports c code ≡ true → number ≤ c.remote →
      s.half.demands.rejected (standing c) code number ≡ old_number ∷ []

-- And no other check is. One that took fewer calls in use, or more, or supported fewer codes, or more, would not be the end's own; so
-- demand 3 speaks of neither too few setups nor too many.
abbrev pub OneSieve : Sieve → Type 0
OneSieve s =
    (takes : Call → Bool) (supports : Call → Switchover → Bool) → Sifts (record { half = s.half; takes = takes; supports = supports }) →
    (c : Call) → is_null c.state ≡ false → (takes c ≡ s.takes c) × ((code : Switchover) → supports c code ≡ s.supports c code)

-- Which calls take setups is a matter of their services, which a call keeps while it lives.
abbrev pub ByServices : Sieve → Type 0
ByServices s = (c d : Call) → c.hard ≡ d.hard → c.soft ≡ d.soft → s.takes c ≡ s.takes d
