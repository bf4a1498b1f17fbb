-- The bench run of the destination node (02, Ask 2), twenty steps from its opening to Null, in a single statement over the list: for a call
-- by key 7 with hard on and symmetric soft, in a row of any length. The documents print no run for this end: each step is derived from its
-- section of 6.3, by hand (bench/destination/bench_run.txt). Assumes nothing.
use Rattle.std.specs.Prelude.{ℕ, true, List, [], ◌∷◌, ◌≡◌, replicate, None, Some}
use Rattle.signal.specs.Causes.{complete, not_recovered, old_number, unsupported}
use Rattle.signal.specs.Signals.{call_rejected, connect_on, rejection, release_of, setup_on, switch_to, timer_start, timer_stop}
use Rattle.signal.specs.declared.Crankback.TheVariants.{NoCrankback}
use Rattle.signal.specs.declared.Kind.TheVariants.{CalledRelease, IncumbentRelease}
use Rattle.signal.specs.declared.SentCause.TheVariants.{Absent, Numbered}
use Rattle.signal.specs.declared.Switchover.{Switchover}
use Rattle.events.specs.declared.Act.{Act}
use Rattle.events.specs.declared.Act.TheVariants.{Meets}
use Rattle.events.specs.declared.Event.TheVariants.{Connect, Expiry, FromDomain, PathFound, Ready, Setup, Trigger}
use Rattle.rows.specs.declared.State.TheVariants.{Awaiting, HardUnderway as HardInitiated, HardWaiting as HardIndicated, Idle}
use Rattle.rows.specs.declared.State.TheVariants.{SoftInitiated, SoftProceeding, SoftTriggered}
use Rattle.call.specs.Events.{destination_half}
use Rattle.call.specs.Record.{emptied}
use Rattle.call.specs.declared.Call.{Call}
use Rattle.call_table.specs.Bench.{BenchStep, bench_after, bench_ended, bench_steps, clearing, immediate, open_both}

-- a code that nobody knows
abbrev pub unrecognized : Switchover
unrecognized = record { code = 200 }

unfoldable pub destination_run : List Act
destination_run =
    open_both
    ∷ Meets (Setup immediate 4)
    ∷ Meets (Setup unrecognized 5)
    ∷ Meets Ready
    ∷ Meets (Setup clearing 5)
    ∷ Meets (Setup unrecognized 9)
    ∷ Meets (Setup clearing 6)
    ∷ Meets Ready
    ∷ Meets Ready
    ∷ Meets (Setup clearing 8)
    ∷ Meets Ready
    ∷ Meets (FromDomain 3 (Some complete) NoCrankback)
    ∷ Meets (FromDomain 3 None NoCrankback)
    ∷ Meets Trigger
    ∷ Meets Trigger
    ∷ Meets PathFound
    ∷ Meets (Connect 6 true)
    ∷ open_both
    ∷ Meets (FromDomain 6 None NoCrankback)
    ∷ Meets Expiry
    ∷ []

-- answer, signals, state with its connections, last number given, record number
unfoldable pub destination_shown : List Call → List BenchStep
destination_shown others =
    -- 01, openings; decision 61
    bench_after others 0 [] (Idle 1) 1 0
    -- 6.3.5.1 case 1: a hard setup; the incumbent's release has no #21
    ∷ bench_after others 0 (timer_start ∷ release_of IncumbentRelease 1 Absent ∷ []) (HardInitiated 2) 2 4
    -- 6.3.5.3: in a Hard state an unrecognised code is a hard setup, and the older one is released with #21
    ∷ bench_after others 0 (call_rejected 2 ∷ []) (HardInitiated 3) 3 5
    -- 6.3.5.8: timer stop, switch and connect
    ∷ bench_after others 0 (timer_stop ∷ switch_to 3 ∷ connect_on 3 ∷ []) (Idle 3) 3 5
    -- 6.3.5: the number on record is old
    ∷ bench_after others 0 (rejection old_number ∷ []) (Idle 3) 3 5
    -- 6.3.5: in Idle the code is read, and nothing is stored
    ∷ bench_after others 0 (rejection unsupported ∷ []) (Idle 3) 3 5
    -- 6.3.5.1 case 2: a soft setup from the far side
    ∷ bench_after others 0 [] (SoftInitiated 3 4) 4 6
    -- 6.3.5.9
    ∷ bench_after others 0 (connect_on 4 ∷ []) (Awaiting 3 4) 4 6
    -- 106: ready outside the Initiated states (decision 60)
    ∷ bench_after others 106 [] (Awaiting 3 4) 4 6
    -- 6.3.5.5, as 6.3.5.4 case 2: the older one is released with #21
    ∷ bench_after others 0 (call_rejected 4 ∷ []) (SoftInitiated 3 5) 5 8
    -- 6.3.5.9
    ∷ bench_after others 0 (connect_on 5 ∷ []) (Awaiting 3 5) 5 8
    -- 6.3.4.6 case 4: the switchover; the incumbent's release was received, and is not sent
    ∷ bench_after others 0 (switch_to 5 ∷ []) (Idle 5) 5 8
    -- 107: connection 3 has ended (decision 60)
    ∷ bench_after others 107 [] (Idle 5) 5 8
    -- 6.3.6.1 case 1: a symmetric move from this side
    ∷ bench_after others 0 [] (SoftTriggered 5) 5 8
    -- 6.3.6.1 case 2: disregarded
    ∷ bench_after others 0 [] (SoftTriggered 5) 5 8
    -- 6.3.6.1 case 1: a path is found
    ∷ bench_after others 0 (setup_on 6 ∷ []) (SoftProceeding 5 6) 6 8
    -- 6.3.7.1: policy yes
    ∷ bench_after others 0 (switch_to 6 ∷ release_of IncumbentRelease 5 (Numbered complete) ∷ []) (Idle 6) 6 8
    -- 103: the key is on record
    ∷ bench_after others 103 [] (Idle 6) 6 8
    -- 6.3.4.2 case 4: the incumbent fails
    ∷ bench_after others 0 (timer_start ∷ []) HardIndicated 6 8
    -- 6.3.5.10 item 1: the timer expires, and the record is emptied
    ∷ bench_ended others (release_of CalledRelease 0 (Numbered not_recovered) ∷ [])
    ∷ []

-- the statement, for a row of one record and `more` beside it
abbrev pub DestinationBenchRun : ℕ → Type 0
DestinationBenchRun more =
    bench_steps destination_half destination_run (emptied ∷ replicate more emptied) ≡ destination_shown (replicate more emptied)
