-- What demand 3 inserts is there, at both ends: on the bench run (01) a late and an unsupported setup behind B3, and such setups for every
-- call that takes setups, said in words. Without these the demand could be kept by saying nothing. Assumes nothing.
use Rattle.std.specs.Prelude.{◌+◌, ◌<◌, ◌≤◌, ℕ, false, true, List, [], ◌∷◌, ◌↔◌, ◌⊎◌, ◌≡◌, Some}
use Rattle.lent.specs.Keyed.{on_record}
use Rattle.runs.specs.Demand.{LateInserted}
use Rattle.runs.specs.Late.{Late, LateOrUnsupported, Unsupported}
use Rattle.runs.specs.Run.{Control, KeyedRequest, Reply, Table, call_by_key, empty_table, meets, opens, replies_to, table_after}
use Rattle.runs.specs.Woven.{Strand, inserted, own}
use Rattle.signal.specs.Causes.{old_number, unsupported}
use Rattle.signal.specs.Signals.{places, rejection}
use Rattle.signal.specs.declared.ReroutingCause.{ReroutingCause}
use Rattle.signal.specs.declared.Soft.TheVariants.{Asymmetric, Symmetric}
use Rattle.signal.specs.declared.Switchover.{Switchover}
use Rattle.events.specs.declared.Event.TheVariants.{Ready, Setup}
use Rattle.rows.specs.States.{is_hard}
use Rattle.rows.specs.declared.State.TheVariants.{Awaiting, HardUnderway as HardInitiated}
use Rattle.call.specs.Claims.{answer_given}
use Rattle.call.specs.Events.{destination_half, handled_at}
use Rattle.call.specs.Record.{moved_to}
use Rattle.call.specs.declared.Call.{Call}
use Rattle.call_table.specs.Bench.{clearing}
use Rattle.promises.specs.Claims.{DemandThree}
use Rattle.promises.specs.Ends.{Sieve, calls, destination_sieve, numbering, ours}

-- a setup by a key
abbrev pub setup_by : ℕ → Switchover → ℕ → KeyedRequest calls
setup_by k code number = record { key = k; does = meets (Setup code number) }

-- ---- the bench run, by key 7, over a table of one record
abbrev pub b1 : KeyedRequest calls
b1 = record { key = 7; does = opens (Some (record { hard = true; soft = Symmetric })) }

abbrev pub b2 : KeyedRequest calls
b2 = setup_by 7 clearing 3

abbrev pub b3 : KeyedRequest calls
b3 = record { key = 7; does = meets Ready }

abbrev pub b4 : KeyedRequest calls
b4 = setup_by 7 clearing 3

-- B5 of 01 asks for "immediate". At the destination that is a hard setup, and a code that nobody knows stands in its place
abbrev pub b5 : Switchover → KeyedRequest calls
b5 code = setup_by 7 code 9

abbrev pub b1_to_b3 : List (KeyedRequest calls)
b1_to_b3 = b1 ∷ b2 ∷ b3 ∷ []

-- B4 and B5 inserted behind B1 to B3
abbrev pub bench_strands : Switchover → List (Strand calls)
bench_strands code = own b1 ∷ own b2 ∷ own b3 ∷ inserted b4 ∷ inserted (b5 code) ∷ []

-- the call after B3, and the table
abbrev pub awaiting_call : Call
awaiting_call = record { key = 7; hard = true; soft = Symmetric; state = Awaiting 1 2; last = 2; remote = 3 }

abbrev pub awaiting : Table calls
awaiting = awaiting_call ∷ []

-- a setup rejected with #5 or #8, as 01 prints it: answered 0, that one reject, and the table the same
abbrev pub rejection_reply : ReroutingCause → Reply calls
rejection_reply k = record { answer = 0; signals = places (rejection k ∷ []); table = awaiting }

module _ (s : Sieve) where
  abbrev pub BenchReached : Type 0
  BenchReached = table_after calls (ours s.half) (empty_table calls 1) b1_to_b3 ≡ awaiting

  -- There B4 is late, and B5 asks for what is not supported: demand 3 speaks of both.
  abbrev pub B4IsLate : Type 0
  B4IsLate = Late calls (numbering s) awaiting b4

  module _ (code : Switchover) where
    abbrev pub B5IsUnsupported : Type 0
    B5IsUnsupported = Unsupported calls (numbering s) awaiting (b5 code)

    abbrev pub BenchInserted : Type 0
    BenchInserted = LateInserted calls (numbering s) (ours s.half) 1 (bench_strands code)

    -- And what it says of them is what 01 prints. Of any control that keeps it and comes to that table: B4 is rejected with #5, and B5 with
    -- #8.
    abbrev pub BenchRejected : Type 0
    BenchRejected =
        (C : Control calls) → DemandThree s C → table_after calls C (empty_table calls 1) b1_to_b3 ≡ awaiting →
        replies_to calls C awaiting (b4 ∷ b5 code ∷ []) ≡ rejection_reply old_number ∷ rejection_reply unsupported ∷ []

-- ---- every call that takes setups
-- in words: the calls that take setups, and the codes that such a call, as it is, does not support
pub record InWords : Type 1 where
  pub Takes : Call → Type 0
  pub Lacks : Call → Switchover → Type 0

-- at the source (01, "Setup"): symmetric service; any code but "clearing", 1
abbrev pub source_in_words : InWords
source_in_words = record { Takes = λ c. c.soft ≡ Symmetric; Lacks = λ c code. code.code ≡ 1 → ⊥ }

-- at the destination (6.3.2, 6.3.5; decision 77): hard on, or a soft service; outside the Hard states any code but "immediate", 0, and
-- "clearing"
abbrev pub destination_in_words : InWords
destination_in_words =
    record {
      Takes = λ c. (c.hard ≡ true) ⊎ ((c.soft ≡ Asymmetric) ⊎ (c.soft ≡ Symmetric));
      Lacks = λ c code. (is_hard c.state ≡ false) × ((code.code ≡ 0 → ⊥) × (code.code ≡ 1 → ⊥));
    }

module _ (s : Sieve) (words : InWords) where
  -- The check of an end is exactly what is said in words.
  abbrev pub TakesInWords : Type 0
  TakesInWords = (c : Call) → (s.takes c ≡ true) ↔ words.Takes c

  abbrev pub LacksInWords : Type 0
  LacksInWords = (c : Call) (code : Switchover) → (s.supports c code ≡ false) ↔ words.Lacks c code

  -- At every point where a call that takes setups is on record, over any table: a setup with the number 0 is late, whatever its code, and
  -- one with a code that is not supported there asks for what is not, whatever its number. One that is both is rejected
  -- for its code (`numbering`, specs/Ends).
  abbrev pub SetupsToInsert : Type 0
  SetupsToInsert =
      (ys : Table calls) (k : ℕ) → (k ≡ 0 → ⊥) → on_record calls.key k ys ≡ true → words.Takes (call_by_key calls k ys) →
      ((code : Switchover) → Late calls (numbering s) ys (setup_by k code 0))
      × ((code : Switchover) → words.Lacks (call_by_key calls k ys) code →
      (number : ℕ) → Unsupported calls (numbering s) ys (setup_by k code number))

-- all of it, of one end, with its B5's code
pub record HasInsertions (s : Sieve) (words : InWords) (code : Switchover) : Type 0 where
  pub bench_reached : BenchReached s
  pub b4_is_late : B4IsLate s
  pub b5_is_unsupported : B5IsUnsupported s code
  pub bench_inserted : BenchInserted s code
  pub bench_rejected : BenchRejected s code
  pub takes_in_words : TakesInWords s words
  pub lacks_in_words : LacksInWords s words
  pub setups_to_insert : SetupsToInsert s words

-- ---- the Hard states of the destination
-- There no code is read (6.3.5; decision 71), and none is unsupported: what is inserted for a call in one of them is late, whatever its
-- code.
abbrev pub OnlyLateWhenHard : Type 0
OnlyLateWhenHard =
    (ys : Table calls) (k : ℕ) (code : Switchover) (number : ℕ) → is_hard (call_by_key calls k ys).state ≡ true →
    LateOrUnsupported calls (numbering destination_sieve) ys (setup_by k code number) → number ≤ (call_by_key calls k ys).remote

-- For there, to a call that takes setups and below 65,535, one that is not late is taken as a hard one, whatever its code: it is answered
-- 0, the next connection number is given to it and held alone, and its own number is stored (6.3.5.2, 6.3.5.3; the third step of the
-- destination's bench run).
abbrev pub AnyCodeTakenWhenHard : Type 0
AnyCodeTakenWhenHard =
    (c : Call) (code : Switchover) (number : ℕ) → destination_in_words.Takes c → is_hard c.state ≡ true → c.remote < number →
    c.last < 65535 →
    (answer_given (handled_at destination_half c (Setup code number)) ≡ 0)
    × ((handled_at destination_half c (Setup code number)).call ≡ moved_to c (HardInitiated (c.last + 1)) (c.last + 1) number)
