-- Two wrong answers of each public function of source_endings. Each theorem speaks of the function's contract as the
-- prover makes it from the source: that its `ensures` holds of the wrong answer, with any value where a variable stands,
-- is false. Assumes nothing.
use Prim.Native.Nat.{ℕ}
use native.Mathlib.Omega.{arith}
use mathlib.Core.Bool.{Bool, true}
use mathlib.Core.Path.{◌≡◌, ◌∙◌, ap, sym}
use lib.ListN.{get_or}
use seplogic.Ra.Ura.{Ura}
use base.Logic.{SProp, ent}
use contract.Monad.{Fun, fact, fact_mono}
use types.Logic.{Logic}
use prog.Memory.{Memory}
use prog.Routine.{Routine}
use Rattle.std.specs.Prelude.{Option, None}
use Rattle.rows.specs.declared.Effect.{Effect}
use Rattle.rows.specs.declared.State.TheVariants.{Awaiting, HardWaiting}
use Rattle.rows.specs.declared.State.{State}
use Rattle.signal.specs.Counting.{kind_number}
use Rattle.signal.specs.Signals.{none}
use Rattle.signal.specs.declared.ReroutingCause.{ReroutingCause}
use Rattle.source_endings.specs.contracts.calling_row as calling_row

module _ {M : Type 1} {𝓤 : Ura M} (𝓛 : Logic 𝓤) (memory : Memory → SProp 𝓤) (run : Routine → Fun 𝓤) where
  -- it is false: the logic proves falsity from it
  abbrev NeverHolds : SProp 𝓤 → Type 1
  NeverHolds says = ent 𝓤 says (fact 𝓤 ⊥)

  -- calling_row: of the hard service, the cause and the state, what comes of a release from the calling side
  abbrev calling_row_shuts_out : Bool → Option ReroutingCause → State → Effect → Type 1
  calling_row_shuts_out hard cause state r =
      NeverHolds ((calling_row.clauses 𝓛 memory run tt (hard, (cause, (state, tt)))).ensures tt r (hard, (cause, (state, tt))))

  -- the timer is stopped on leaving the Hard states (01, "Signals")
  pub calling_release_starts_the_timer :
      (r : Effect) → kind_number (get_or r.signals 0 none).kind ≡ 1 →
      calling_row_shuts_out true None HardWaiting r
  calling_release_starts_the_timer r w =
      fact_mono 𝓤 _ _ (λ h.
      let z : ◌≡◌ {A = ℕ} _ 1 = sym (ap (λ (r : Effect). kind_number (get_or r.signals 0 none).kind) h) ∙ w in
      omega arith)

  -- both connections are released
  pub calling_release_leaves_the_rerouting_connection :
      (r : Effect) → kind_number (get_or r.signals 1 none).kind ≡ 0 →
      calling_row_shuts_out true None (Awaiting 3 5) r
  calling_release_leaves_the_rerouting_connection r w =
      fact_mono 𝓤 _ _ (λ h.
      let z : ◌≡◌ {A = ℕ} _ 0 = sym (ap (λ (r : Effect). kind_number (get_or r.signals 1 none).kind) h) ∙ w in
      omega arith)
