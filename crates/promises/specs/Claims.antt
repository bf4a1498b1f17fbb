-- The promises over whole runs, at either end of a call. "01" is the scope document, "02" the follow-up requests, a demand one of the three
-- in README.md. A run starts from an empty table; its requests are openings and events, each answered in turn by a control (runs,
-- specs/Run). Each promise is a statement about any control, said in runs of any end of a call; that ours keeps it is the theorem of the
-- same name in proofs/, once for any end whose half keeps the laws (call, specs/Claims), whose number check is its own, and which takes
-- setups by a call's services (specs/Ends). For the ends: proofs/Source.antt, proofs/Destination.antt, proofs/Ends.antt. Assumes nothing.
use Rattle.std.specs.Prelude.{◌<◌, ℕ, List, ◌≡◌}
use Rattle.runs.specs.Run.{Control, KeyedRequest, RefusalsAreSilent, Reply, empty_table}
use Rattle.runs.specs.Woven.{Strand, itself, woven}
use Rattle.events.specs.declared.Node.{Node}
use Rattle.call.specs.Claims.{Heard}
use Rattle.call.specs.Events.{Half, half_of}
use Rattle.promises.specs.Ends.{OneSieve, Sieve, Sifts, calls, document, numbering, ours, sieve_of}
use Rattle.runs.specs.Again as again
use Rattle.runs.specs.Demand as demand
use Rattle.runs.specs.Exact as exact

-- Demand 3, of every sequence of requests over an empty table of any length, and all that is inserted into it: setups for calls then on
-- record that take setups, each with a number not above the one then recorded, or with a code that the call then does not support, whatever
-- its number (01, "Faults seen on shelves": the night it happened). Each is answered 0 with exactly one reject, #8 where its code is not
-- supported and else #5, and changes no record; every other request gets the same answer and signals, and the tables after each, and at the
-- end, are the same. And at every point, with the insertions and without, every connection number given to the call of a key since its
-- opening is held, or has been ended exactly once; the numbers given are 1 to the record's last, and a setup that is sent names one of
-- them; of a call that has ended, every number was ended exactly once, also where its key was used again; no other number is held or ended.
-- What is ended is read off events and signals (runs, specs/Demand, Late and Account). At the source calls with symmetric service take
-- setups, and every code but "clearing" is not supported; at the destination calls with any service do, and every code but "immediate" and
-- "clearing" is not, outside the Hard states (specs/Inserted says both in words).
abbrev pub DemandThree : Sieve → Control calls → Type 0
DemandThree s C = demand.KeepsDemandThree calls (numbering s) C

-- a setup is heard: it is accepted, or rejected with #6 (call, specs/Claims)
abbrev pub IsHeard : Reply calls → Type 0
IsHeard r = Heard r.answer r.signals

-- 02, Ask 3: the same setup sent again is never taken. In every run from an empty table of any length: after a setup was rejected with #6,
-- or was accepted, a setup with the same key and number, whatever its code, is answered 0 with exactly one reject, #8 where its code is not
-- supported and else #5, and changes no record, at every point until that call has ended (runs, specs/Again). At the destination, which has
-- no #6, it speaks of the accepted ones.
abbrev pub NeverTakenAgain : Sieve → Control calls → Type 0
NeverTakenAgain s C = again.TakesNoneAgain calls (numbering s) IsHeard C

-- Demand 1: a refusal changes no record and sends no signal, over any table.
abbrev pub SilentRefusals : Control calls → Type 0
SilentRefusals C = RefusalsAreSilent calls C

module _ (half : Half) where
  -- Demands 1 and 2: over any table every request is answered with the number of the first check that applies, and what is done stores and
  -- sends exactly what the documents ask of the end: at the source 01, as 02 amends it, at the destination 02, Ask 2, and 6.3.
  abbrev pub AnswersExactly : Control calls → Type 0
  AnswersExactly C = exact.AnswersEverywhere calls (document half) C

  abbrev pub DoesExactly : Control calls → Type 0
  DoesExactly C = exact.DoesEverywhere calls (document half) C

  -- 01, "What the contracts settle": the three together leave one control. Two that keep them reply alike to every request over every
  -- table: the same answer, signals and table.
  abbrev pub OneControl : Type 0
  OneControl = exact.LeavesOneControl calls (document half)

  -- 01, 101: over more than 1,024 records, all empty, every request is refused.
  abbrev pub TooManyAreRefused : Type 0
  TooManyAreRefused = (n : ℕ) → 1024 < n → (a : KeyedRequest calls) → (ours half (empty_table calls n) a).answer ≡ 101

-- So no call comes on record there, and nothing is ever inserted: demand 3 then speaks of the sequence alone.
abbrev pub TooManyTakeNone : Sieve → Type 0
TooManyTakeNone s =
    (n : ℕ) → 1024 < n → (strands : List (Strand calls)) → demand.LateInserted calls (numbering s) (ours s.half) n strands →
    woven calls strands ≡ itself calls strands

-- all of them, of our control of one end; and that its number check is the end's own, and the only one of which demand 3 could speak
pub record KeepsPromises (s : Sieve) : Type 0 where
  pub sifts : Sifts s
  pub one_sieve : OneSieve s
  pub demand_three : DemandThree s (ours s.half)
  pub never_taken_again : NeverTakenAgain s (ours s.half)
  pub silent_refusals : SilentRefusals (ours s.half)
  pub answers_exactly : AnswersExactly s.half (ours s.half)
  pub does_exactly : DoesExactly s.half (ours s.half)
  pub one_control : OneControl s.half
  pub too_many_are_refused : TooManyAreRefused s.half
  pub too_many_take_none : TooManyTakeNone s

-- At each node, of our control there: what the contract of `handle` fixes (call_table) is by the half of that node.
abbrev pub PromisesKept : Type 0
PromisesKept = (node : Node) → ((sieve_of node).half ≡ half_of node) × KeepsPromises (sieve_of node)
