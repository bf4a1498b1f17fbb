-- The runs of which `NeverTakenAgain` speaks (specs/Night), computed. Assumes nothing.
use Prim.Native.Nat.{ℕ}
use native.Mathlib.Omega.{arith}
use mathlib.Core.List.{List}
use mathlib.Core.Logic.{inl, inr}
use mathlib.Core.Path.{◌≡◌, ap, refl}
use lib.ListN.{get_or}
use Rattle.distinct.specs.Distinct.{distinct_of, has}
use Rattle.lent.specs.Search.{read_from}
use Rattle.signal.specs.Counting.{one}
use Rattle.events.specs.declared.Event.TheVariants.{Setup}
use Rattle.events.specs.declared.Node.TheVariants.{Destination, Source}
use Rattle.call.specs.Record.{emptied}
use Rattle.call.specs.declared.Call.{Call}
use Rattle.call_table.specs.Bench.{clearing}
use Rattle.promises.specs.Night.{SpeaksOf, at_work, forgetting, idle_again, same_setup}
use Rattle.promises.specs.Night as claim

pub night_is_replied : claim.NightIsReplied
unfolding read_from has distinct_of one
night_is_replied = refl

pub night_is_spoken_of : claim.NightIsSpokenOf
unfolding read_from has distinct_of one
night_is_spoken_of = record { heard = (refl, inr refl); lives = (refl, refl) }

pub bench_is_spoken_of : claim.BenchIsSpokenOf
unfolding read_from has distinct_of one
bench_is_spoken_of Source = record { heard = (refl, inl refl); lives = (refl, refl) }
bench_is_spoken_of Destination = record { heard = (refl, inl refl); lives = (refl, refl) }

-- the setup is to leave the table, where the last number is 1; here it takes number 2
pub forgetting_is_shut_out : claim.ForgettingIsShutOut
unfolding read_from has distinct_of one
forgetting_is_shut_out = (
  spoken_of,
  λ h.
      let r = h 1 at_work idle_again 7 3 (Setup clearing 3) (Setup clearing 3) (λ e. omega arith) refl refl spoken_of.heard spoken_of.lives in
      let e : ◌≡◌ {A = ℕ} 2 1 = ap (λ (ys : List Call). (get_or ys 0 emptied).last) r.table in
      omega arith,
)
  where
    spoken_of : SpeaksOf forgetting at_work same_setup idle_again
    spoken_of = record { heard = (refl, inr refl); lives = (refl, refl) }
