-- Controls that do not do the work, and are shut out at both ends: 01, "What the contracts settle", names the first five, and the rest
-- break demand 3 each in a way of its own. The first two are such a control at any end, the others are ours of that end, altered (the means
-- to alter one are in runs, specs/ShutOut); each breaks a promise that ours keeps, over a table and a request, or at a run, that are
-- written out here and are the same at both ends. Proofs: proofs/ShutOut. Assumes nothing.
use Rattle.std.specs.Prelude.{◌+◌, suc, zero, ℕ, Bool, ◌&&◌, cond, false, true, List, [], ◌∷◌, map, ◌≡◌, eqb, Option, None}
use Rattle.lent.specs.Keyed.{replaced_for}
use Rattle.runs.specs.Demand.{AccountAt, LateInserted}
use Rattle.runs.specs.Exact.{AnswersAt, DoesAt}
use Rattle.runs.specs.Late.{Harmless}
use Rattle.runs.specs.Run.{Control, Does, KeyedRequest, Reply, Table, call_by_key, empty_table, meets, opens}
use Rattle.runs.specs.Woven.{Strand, inserted, own}
use Rattle.signal.specs.Counting.{ends_connection, kind_number}
use Rattle.signal.specs.Signals.{none, setup_on}
use Rattle.signal.specs.declared.Kind.TheVariants.{SetupRequest}
use Rattle.signal.specs.declared.Signal.{Signal}
use Rattle.signal.specs.declared.Soft.TheVariants.{Symmetric}
use Rattle.signal.specs.declared.Services.{Services}
use Rattle.events.specs.Events.{setup_number}
use Rattle.events.specs.declared.Event.{Event}
use Rattle.events.specs.declared.Event.TheVariants.{Connect, PathFound, Ready, Trigger}
use Rattle.events.specs.declared.Node.{Node}
use Rattle.rows.specs.Checks.{among}
use Rattle.rows.specs.States.{state_number}
use Rattle.rows.specs.declared.State.TheVariants.{SoftInitiated}
use Rattle.call.specs.Events.{Half}
use Rattle.call.specs.declared.Call.{Call}
use Rattle.promises.specs.Claims.{DemandThree}
use Rattle.promises.specs.Ends.{Sieve, calls, document, numbering, ours, sieve_of}
use Rattle.promises.specs.Inserted.{b1, b2, b3, b4}
use Rattle.runs.specs.ShutOut as control

-- ---- the tables and requests
-- an opening of key 7, over no record and over an empty one
abbrev pub opening : KeyedRequest calls
opening = record { key = 7; does = opens None }

-- B2's table, and "ready"
abbrev pub initiated : Table calls
initiated = record { key = 7; hard = true; soft = Symmetric; state = SoftInitiated 1 2; last = 2; remote = 3 } ∷ []

abbrev pub ready : KeyedRequest calls
ready = record { key = 7; does = meets Ready }

-- a soft reroute from the opening to the switchover: number 2 is asked for by a setup, and number 1 is released
abbrev pub switched : List (KeyedRequest calls)
switched =
    b1
    ∷ record { key = 7; does = meets Trigger }
    ∷ record { key = 7; does = meets PathFound }
    ∷ record { key = 7; does = meets (Connect 2 true) }
    ∷ []

-- B4, inserted behind B1 to B3
abbrev pub with_b4 : List (Strand calls)
with_b4 = own b1 ∷ own b2 ∷ own b3 ∷ inserted b4 ∷ []

-- ---- what is altered in a record, and in what is sent
-- a call as it was opened; one whose last number is moved, or invented, or that has the incarnation number before its own
abbrev pub is_just_opened : Call → Bool
is_just_opened c = eqb (state_number c.state) 1 && (eqb c.last 1 && eqb c.remote 0)

abbrev pub moved : Call → Call
moved c = record { key = c.key; hard = c.hard; soft = c.soft; state = c.state; last = c.last + 1; remote = c.remote }

abbrev pub invented : Call → Call
invented c =
    let last = cond (eqb c.last 1) 7 c.last in
    record { key = c.key; hard = c.hard; soft = c.soft; state = c.state; last = last; remote = c.remote }

abbrev pub one_less : ℕ → ℕ
one_less zero = zero
one_less (suc n) = n

abbrev pub lowered : Call → Call
lowered c = record { key = c.key; hard = c.hard; soft = c.soft; state = c.state; last = c.last; remote = one_less c.remote }

-- the releases of number 1 are not sent; each release is sent again; a setup names the next number
abbrev pub without_one : List Signal → List Signal
without_one ss = map (λ s. cond (ends_connection s && eqb s.connection 1) none s) ss

abbrev pub doubled : List Signal → List Signal
doubled [] = []
doubled (s ∷ more) = cond (ends_connection s) (s ∷ s ∷ doubled more) (s ∷ doubled more)

abbrev pub misnamed : Signal → Signal
misnamed s = cond (eqb (kind_number s.kind) (kind_number SetupRequest)) (setup_on (s.connection + 1)) s

-- a setup with that number
abbrev pub has_number : ℕ → Does (Option Services) Event → Bool
has_number n (opens w) = false
has_number n (meets e) = among n (setup_number e)

-- the account of key 7 is not kept at the end of a run over one record
abbrev pub BreaksAccount : Control calls → List (KeyedRequest calls) → Type 0
BreaksAccount C requests = AccountAt calls C 1 requests 7 → ⊥

-- ---- demands 1 and 2
module _ (half : Half) where
  -- it refuses everything, by whatever number
  abbrev pub RefusingIsShutOut : Type 0
  RefusingIsShutOut =
      (number : Table calls → KeyedRequest calls → ℕ) → ((ys : Table calls) (a : KeyedRequest calls) → number ys a ≡ 0 → ⊥) →
      AnswersAt calls (document half) (control.refusing calls number) (empty_table calls 1) opening → ⊥

  -- it always returns the same, whatever that is
  abbrev pub ConstantIsShutOut : Type 0
  ConstantIsShutOut =
      (r : Reply calls) →
      AnswersAt calls (document half) (control.constant calls r) (empty_table calls 1) opening
      × AnswersAt calls (document half) (control.constant calls r) (empty_table calls 0) opening →
      ⊥

  -- it answers and signals as it should, and leaves the table untouched
  abbrev pub UntouchingIsShutOut : Type 0
  UntouchingIsShutOut = DoesAt calls (document half) (control.untouching calls (ours half)) (empty_table calls 1) opening → ⊥

  -- it treats the first event of a call, and then merely moves numbers: ours where the key is not on record, or its call is as it was
  -- opened, or the request is refused; else the last number is moved
  abbrev pub moving_numbers : Control calls
  moving_numbers = control.moving calls (ours half) is_just_opened moved

  abbrev pub MovingNumbersIsShutOut : Type 0
  MovingNumbersIsShutOut = DoesAt calls (document half) moving_numbers initiated ready → ⊥

  -- ---- demand 3, the account
  -- it invents the last connection number
  abbrev pub inventing : Control calls
  inventing = control.altering_records calls invented (ours half)

  abbrev pub InventingIsShutOut : Type 0
  InventingIsShutOut = BreaksAccount inventing (opening ∷ [])

  -- it never ends number 1
  abbrev pub keeping_one : Control calls
  keeping_one = control.altering_signals calls without_one (ours half)

  abbrev pub KeepingOneIsShutOut : Type 0
  KeepingOneIsShutOut = BreaksAccount keeping_one switched

  -- it ends numbers twice
  abbrev pub ending_twice : Control calls
  ending_twice = control.altering_signals calls doubled (ours half)

  abbrev pub EndingTwiceIsShutOut : Type 0
  EndingTwiceIsShutOut = BreaksAccount ending_twice switched

  -- its setups name a number that was not given
  abbrev pub naming_not_given : Control calls
  naming_not_given = control.altering_signals calls (map misnamed) (ours half)

  abbrev pub NamingNotGivenIsShutOut : Type 0
  NamingNotGivenIsShutOut = BreaksAccount naming_not_given switched

  -- it takes a late setup with the number on record: to such a setup it shows ours a record with the number before it
  abbrev pub taking_late : Control calls
  taking_late ys a =
      let c = call_by_key calls a.key ys in
      cond (has_number c.remote a.does) (ours half (replaced_for calls.key a.key (lowered c) ys) a) (ours half ys a)

-- ---- demand 3, late setups
module _ (s : Sieve) where
  -- B4 is late, and not harmless.
  abbrev pub TakingLateIsShutOut : Type 0
  TakingLateIsShutOut =
      LateInserted calls (numbering s) (taking_late s.half) 1 with_b4
      × (Harmless calls (numbering s) (taking_late s.half) (empty_table calls 1) with_b4 → ⊥)

  -- So none of these five keeps demand 3.
  abbrev pub NoneKeepsDemandThree : Type 0
  NoneKeepsDemandThree =
      (DemandThree s (inventing s.half) → ⊥)
      × ((DemandThree s (keeping_one s.half) → ⊥)
      × ((DemandThree s (ending_twice s.half) → ⊥)
      × ((DemandThree s (naming_not_given s.half) → ⊥) × (DemandThree s (taking_late s.half) → ⊥))))

-- all of them, at one end
pub record ShutsOut (s : Sieve) : Type 0 where
  pub refusing_is_shut_out : RefusingIsShutOut s.half
  pub constant_is_shut_out : ConstantIsShutOut s.half
  pub untouching_is_shut_out : UntouchingIsShutOut s.half
  pub moving_numbers_is_shut_out : MovingNumbersIsShutOut s.half
  pub inventing_is_shut_out : InventingIsShutOut s.half
  pub keeping_one_is_shut_out : KeepingOneIsShutOut s.half
  pub ending_twice_is_shut_out : EndingTwiceIsShutOut s.half
  pub naming_not_given_is_shut_out : NamingNotGivenIsShutOut s.half
  pub taking_late_is_shut_out : TakingLateIsShutOut s
  pub none_keeps_demand_three : NoneKeepsDemandThree s

abbrev pub ShutOutAtBoth : Type 0
ShutOutAtBoth = (node : Node) → ShutsOut (sieve_of node)
