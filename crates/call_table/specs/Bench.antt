-- The bench run of 01, B1 to B16, in a single statement over the list: events, answers, signals, states and record numbers as the document
-- prints them, and from B12 on as 02, Ask 3, amends them, for calls by key 7 with hard on and symmetric soft, in a row of any length.
-- Assumes nothing.
use Rattle.std.specs.Prelude.{ℕ, true, List, [], ◌∷◌, ◌≡◌, replicate, None, Some}
use Rattle.signal.specs.Causes.{complete, in_progress, not_recovered, old_number, unsupported}
use Rattle.signal.specs.Numbers.{answer_number}
use Rattle.signal.specs.Signals.{connect_on, places, rejection, release_of, setup_on, switch_to, timer_start}
use Rattle.signal.specs.declared.Crankback.TheVariants.{NoCrankback}
use Rattle.signal.specs.declared.Kind.TheVariants.{CallingRelease, IncumbentRelease, ReroutingRelease}
use Rattle.signal.specs.declared.SentCause.TheVariants.{Absent, Numbered}
use Rattle.signal.specs.declared.Signal.{Signal}
use Rattle.signal.specs.declared.Soft.TheVariants.{Symmetric}
use Rattle.signal.specs.declared.Switchover.{Switchover}
use Rattle.events.specs.declared.Act.{Act}
use Rattle.events.specs.declared.Act.TheVariants.{Meets, Opens}
use Rattle.events.specs.declared.Event.TheVariants.{Connect, Expiry, FromDomain, PathFound, Ready, Setup, Trigger}
use Rattle.rows.specs.declared.State.{State}
use Rattle.rows.specs.declared.State.TheVariants.{Awaiting, HardUnderway as HardProceeding, Idle, SoftInitiated, SoftProceeding}
use Rattle.rows.specs.declared.State.TheVariants.{SoftTriggered}
use Rattle.call.specs.Events.{Half, source_half}
use Rattle.call.specs.Record.{emptied}
use Rattle.call.specs.declared.Call.{Call}
use Rattle.call_table.specs.Table.{ran_of, table_of}

-- what a step of a run shows: the answer's number, the signals, and the whole row
pub record BenchStep : Type 0 where
  pub answer : ℕ
  pub signals : List Signal
  pub table : List Call

-- acts on key 7, one after the other, at an end of the call
abbrev pub bench_steps : Half → List Act → List Call → List BenchStep
bench_steps half [] ys = []
bench_steps half (act ∷ more) ys =
    record {
      answer = answer_number (ran_of half ys 7 act).done.answer;
      signals = (ran_of half ys 7 act).done.signals;
      table = table_of half ys 7 act;
    }
    ∷ bench_steps half more (table_of half ys 7 act)

abbrev pub clearing : Switchover
clearing = record { code = 1 }

abbrev pub immediate : Switchover
immediate = record { code = 0 }

abbrev pub open_both : Act
open_both = Opens (Some (record { hard = true; soft = Symmetric }))

-- B1 to B16, of which B15 is three events
unfoldable pub bench_run : List Act
bench_run =
    open_both
    ∷ Meets (Setup clearing 3)
    ∷ Meets Ready
    ∷ Meets (Setup clearing 3)
    ∷ Meets (Setup immediate 9)
    ∷ Meets (Setup clearing 5)
    ∷ Meets Ready
    ∷ Meets (FromDomain 1 (Some complete) NoCrankback)
    ∷ Meets (FromDomain 1 None NoCrankback)
    ∷ Meets Trigger
    ∷ Meets PathFound
    ∷ Meets (Setup clearing 6)
    ∷ Meets (Connect 4 true)
    ∷ open_both
    ∷ Meets Trigger
    ∷ Meets PathFound
    ∷ Meets (FromDomain 4 None NoCrankback)
    ∷ Meets Expiry
    ∷ []

-- the row after a step: the call in a state, with its last number and its record number, and the other records empty
unfoldable pub bench_after : List Call → ℕ → List Signal → State → ℕ → ℕ → BenchStep
bench_after others answer sent s last remote =
    record {
      answer = answer;
      signals = places sent;
      table = record { key = 7; hard = true; soft = Symmetric; state = s; last = last; remote = remote } ∷ others;
    }

-- and after the step by which the call ends: its record is emptied
abbrev pub bench_ended : List Call → List Signal → BenchStep
bench_ended others sent = record { answer = 0; signals = places sent; table = emptied ∷ others }

-- as 01 prints them, and 02, Ask 3, amends them: answer, signals, state with (incumbent, rerouting), last number given, record number
unfoldable pub bench_shown : List Call → List BenchStep
bench_shown others =
    -- B1
    bench_after others 0 [] (Idle 1) 1 0
    -- B2
    ∷ bench_after others 0 [] (SoftInitiated 1 2) 2 3
    -- B3
    ∷ bench_after others 0 (connect_on 2 ∷ []) (Awaiting 1 2) 2 3
    -- B4
    ∷ bench_after others 0 (rejection old_number ∷ []) (Awaiting 1 2) 2 3
    -- B5
    ∷ bench_after others 0 (rejection unsupported ∷ []) (Awaiting 1 2) 2 3
    -- B6
    ∷ bench_after others 0 (release_of ReroutingRelease 2 Absent ∷ []) (SoftInitiated 1 3) 3 5
    -- B7
    ∷ bench_after others 0 (connect_on 3 ∷ []) (Awaiting 1 3) 3 5
    -- B8
    ∷ bench_after others 0 (switch_to 3 ∷ []) (Idle 3) 3 5
    -- B9
    ∷ bench_after others 107 [] (Idle 3) 3 5
    -- B10
    ∷ bench_after others 0 [] (SoftTriggered 3) 3 5
    -- B11
    ∷ bench_after others 0 (setup_on 4 ∷ []) (SoftProceeding 3 4) 4 5
    -- B12; from here 6 is on record (02, Ask 3)
    ∷ bench_after others 0 (rejection in_progress ∷ []) (SoftProceeding 3 4) 4 6
    -- B13
    ∷ bench_after others 0 (switch_to 4 ∷ release_of IncumbentRelease 3 (Numbered complete) ∷ []) (Idle 4) 4 6
    -- B14
    ∷ bench_after others 103 [] (Idle 4) 4 6
    -- B15, three events
    ∷ bench_after others 0 [] (SoftTriggered 4) 4 6
    ∷ bench_after others 0 (setup_on 5 ∷ []) (SoftProceeding 4 5) 5 6
    ∷ bench_after others 0 (timer_start ∷ []) (HardProceeding 5) 5 6
    -- B16
    ∷ bench_ended others
    (release_of CallingRelease 0 (Numbered not_recovered) ∷ release_of ReroutingRelease 5 (Numbered not_recovered) ∷ [])
    ∷ []

-- the statement, for a row of one record and `more` beside it
abbrev pub BenchRun : ℕ → Type 0
BenchRun more = bench_steps source_half bench_run (emptied ∷ replicate more emptied) ≡ bench_shown (replicate more emptied)
