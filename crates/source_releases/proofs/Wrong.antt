-- Two wrong answers of each public function of source_releases. Each theorem speaks of the function's contract as the
-- prover makes it from the source: that its `ensures` holds of the wrong answer, with any value where a variable stands,
-- is false. Assumes nothing.
use Prim.Native.Nat.{ℕ}
use native.Mathlib.Omega.{arith}
use mathlib.Core.Bool.{Bool, true}
use mathlib.Core.Path.{◌≡◌, ◌∙◌, ap, sym}
use seplogic.Ra.Ura.{Ura}
use base.Logic.{SProp, ent}
use contract.Monad.{Fun, fact, fact_mono}
use types.Logic.{Logic}
use prog.Memory.{Memory}
use prog.Routine.{Routine}
use Rattle.std.specs.Prelude.{Option, None, Some}
use Rattle.rows.specs.States.{rerouting_of, state_number}
use Rattle.rows.specs.declared.Effect.{Effect}
use Rattle.rows.specs.declared.State.TheVariants.{Awaiting, SoftProceeding}
use Rattle.rows.specs.declared.State.{State}
use Rattle.signal.specs.Causes.{cause}
use Rattle.signal.specs.declared.Crankback.TheVariants.{AlternateFound, NoCrankback}
use Rattle.signal.specs.declared.Crankback.{Crankback}
use Rattle.signal.specs.declared.ReroutingCause.{ReroutingCause}
use Rattle.source_releases.specs.contracts.called_row as called_row

module _ {M : Type 1} {𝓤 : Ura M} (𝓛 : Logic 𝓤) (memory : Memory → SProp 𝓤) (run : Routine → Fun 𝓤) where
  -- it is false: the logic proves falsity from it
  abbrev NeverHolds : SProp 𝓤 → Type 1
  NeverHolds says = ent 𝓤 says (fact 𝓤 ⊥)

  -- called_row: of the hard service, the connection, the cause, the crankback, the next number and the state, what comes of a release
  abbrev called_row_shuts_out : Bool → ℕ → Option ReroutingCause → Crankback → Option ℕ → State → Effect → Type 1
  called_row_shuts_out hard connection came back next state r =
      NeverHolds ((called_row.clauses 𝓛 memory run tt (hard, (connection, (came, (back, (next, (state, tt))))))
      ).ensures tt r (hard, (connection, (came, (back, (next, (state, tt)))))))

  -- #4 in Awaiting switches over (01, "Faults seen on shelves"; B8)
  pub cause_4_drops_the_call :
      (r : Effect) → state_number r.state ≡ 0 →
      called_row_shuts_out true 3 (Some (cause 4)) NoCrankback (Some 6) (Awaiting 3 5) r
  cause_4_drops_the_call r w =
      fact_mono 𝓤 _ _ (λ h. let z : ◌≡◌ {A = ℕ} _ 0 = sym (ap (λ (r : Effect). state_number r.state) h) ∙ w in omega arith)

  -- the retry holds the new number (01, Soft Proceeding, rerouting)
  pub crankback_retry_keeps_the_number :
      (r : Effect) → rerouting_of r.state ≡ 5 →
      called_row_shuts_out true 5 None AlternateFound (Some 6) (SoftProceeding 3 5) r
  crankback_retry_keeps_the_number r w =
      fact_mono 𝓤 _ _ (λ h. let z : ◌≡◌ {A = ℕ} _ 5 = sym (ap (λ (r : Effect). rerouting_of r.state) h) ∙ w in omega arith)
