-- The runs of which `NeverTakenAgain` speaks (02, Ask 3). The customer's night, at the source: a setup is turned away while the node is
-- rerouting, and once the node is idle the same setup comes again; what our control replies is written out, and a control that leaves the
-- record as it was whatever it rejects with, as 01 had it, is shut out there. At both ends B2 is accepted, and B4 is the same setup.
-- Proofs: proofs/Night. Assumes nothing.
use Rattle.std.specs.Prelude.{ℕ, Bool, cond, true, List, [], ◌++◌, ◌∷◌, ◌≡◌, eqb, get_or}
use Rattle.runs.specs.Again.{StaysOnRecord}
use Rattle.runs.specs.Run.{Control, KeyedRequest, Reply, empty_table, event_by, replies_to, table_after}
use Rattle.signal.specs.Causes.{in_progress, old_number}
use Rattle.signal.specs.Counting.{kind_number}
use Rattle.signal.specs.Signals.{none, places, rejection}
use Rattle.signal.specs.declared.Kind.TheVariants.{Rejection}
use Rattle.signal.specs.declared.Signal.{Signal}
use Rattle.signal.specs.declared.Soft.TheVariants.{Symmetric}
use Rattle.events.specs.declared.Event.TheVariants.{NoPath, Trigger}
use Rattle.events.specs.declared.Node.{Node}
use Rattle.rows.specs.declared.State.{State}
use Rattle.rows.specs.declared.State.TheVariants.{Idle, SoftInitiated, SoftTriggered}
use Rattle.call.specs.Events.{half_of, source_half}
use Rattle.call_table.specs.Bench.{clearing}
use Rattle.promises.specs.Claims.{IsHeard, NeverTakenAgain}
use Rattle.promises.specs.Ends.{calls, ours, source_sieve}
use Rattle.promises.specs.Inserted.{b1, b2, b3, setup_by}
use Rattle.runs.specs.ShutOut as control

-- by key 7, over a table of one record: the opening, a soft trigger; the setup; no path is found; the setup once more; and the next one,
-- twice
abbrev pub at_work : List (KeyedRequest calls)
at_work = b1 ∷ event_by calls 7 Trigger ∷ []

abbrev pub same_setup : KeyedRequest calls
same_setup = setup_by 7 clearing 3

abbrev pub idle_again : List (KeyedRequest calls)
idle_again = event_by calls 7 NoPath ∷ []

abbrev pub next_setup : KeyedRequest calls
next_setup = setup_by 7 clearing 4

abbrev pub night : List (KeyedRequest calls)
night = at_work ++ (same_setup ∷ (idle_again ++ (same_setup ∷ next_setup ∷ next_setup ∷ [])))

-- answered 0 with these signals, and the call in a state, with its last number and its record number
abbrev pub night_reply : List Signal → State → ℕ → ℕ → Reply calls
night_reply sent s last remote =
    record {
      answer = 0;
      signals = places sent;
      table = record { key = 7; hard = true; soft = Symmetric; state = s; last = last; remote = remote } ∷ [];
    }

-- 6.2.7, 02, Ask 3: turned away with #6, and 3 is on record; idle again, it is turned away with #5; 4 is taken, and then old.
abbrev pub NightIsReplied : Type 0
NightIsReplied =
    replies_to calls (ours source_half) (empty_table calls 1) night
    ≡ night_reply [] (Idle 1) 1 0
    ∷ night_reply [] (SoftTriggered 1) 1 0
    ∷ night_reply (rejection in_progress ∷ []) (SoftTriggered 1) 1 3
    ∷ night_reply [] (Idle 1) 1 3
    ∷ night_reply (rejection old_number ∷ []) (Idle 1) 1 3
    ∷ night_reply [] (SoftInitiated 1 2) 2 4
    ∷ night_reply (rejection old_number ∷ []) (SoftInitiated 1 2) 2 4
    ∷ []

-- behind requests over one empty record a setup is heard, and the call of key 7 lives along what follows
module _ (C : Control calls) (before : List (KeyedRequest calls)) (setup : KeyedRequest calls) (between : List (KeyedRequest calls)) where
  abbrev pub setup_reply : Reply calls
  setup_reply = C (table_after calls C (empty_table calls 1) before) setup

  pub record SpeaksOf : Type 0 where
    pub heard : IsHeard setup_reply
    pub lives : StaysOnRecord calls C 7 setup_reply.table between

-- So it is that night, of a setup that is rejected with #6,
abbrev pub NightIsSpokenOf : Type 0
NightIsSpokenOf = SpeaksOf (ours source_half) at_work same_setup idle_again

-- and on the bench run at both ends, of one that is accepted.
abbrev pub BenchIsSpokenOf : Type 0
BenchIsSpokenOf = (node : Node) → SpeaksOf (ours (half_of node)) (b1 ∷ []) b2 (b3 ∷ [])

-- ours, but for what it rejects: there it leaves the table as it was, whatever it rejects with
abbrev pub is_rejection : List Signal → Bool
is_rejection ss = eqb (kind_number (get_or ss 0 none).kind) (kind_number Rejection)

abbrev pub forgetting : Control calls
forgetting ys a =
    cond (is_rejection (ours source_half ys a).signals) (control.untouching calls (ours source_half) ys a) (ours source_half ys a)

-- It takes the setup when it comes again.
abbrev pub ForgettingIsShutOut : Type 0
ForgettingIsShutOut = SpeaksOf forgetting at_work same_setup idle_again × (NeverTakenAgain source_sieve forgetting → ⊥)
