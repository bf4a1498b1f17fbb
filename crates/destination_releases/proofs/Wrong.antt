-- Two wrong answers of each public function of destination_releases. Each theorem speaks of the function's contract as the
-- prover makes it from the source: that its `ensures` holds of the wrong answer, with any value where a variable stands,
-- is false. Assumes nothing.
use Prim.Native.Nat.{ℕ}
use native.Mathlib.Omega.{arith}
use mathlib.Core.Bool.{Bool, true}
use mathlib.Core.Path.{◌≡◌, ◌∙◌, ap, sym}
use lib.ListN.{get_or}
use seplogic.Ra.Ura.{Ura}
use base.Logic.{SProp, ent}
use contract.Monad.{Fun, fact, fact_mono}
use types.Logic.{Logic}
use prog.Memory.{Memory}
use prog.Routine.{Routine}
use Rattle.std.specs.Prelude.{Option, None, Some}
use Rattle.signal.specs.Causes.{cause}
use Rattle.signal.specs.Signals.{none}
use Rattle.signal.specs.declared.Crankback.TheVariants.{NoCrankback}
use Rattle.signal.specs.declared.Crankback.{Crankback}
use Rattle.signal.specs.declared.ReroutingCause.{ReroutingCause}
use Rattle.signal.specs.declared.SentCause.TheVariants.{Numbered}
use Rattle.signal.specs.declared.SentCause.{SentCause}
use Rattle.rows.specs.States.{state_number}
use Rattle.rows.specs.declared.Effect.{Effect}
use Rattle.rows.specs.declared.State.TheVariants.{Awaiting, HardUnderway, SoftInitiated}
use Rattle.rows.specs.declared.State.{State}
use Rattle.destination_releases.specs.contracts.calling_row as calling_row

module _ {M : Type 1} {𝓤 : Ura M} (𝓛 : Logic 𝓤) (memory : Memory → SProp 𝓤) (run : Routine → Fun 𝓤) where
  -- it is false: the logic proves falsity from it
  abbrev NeverHolds : SProp 𝓤 → Type 1
  NeverHolds says = ent 𝓤 says (fact 𝓤 ⊥)

  -- calling_row: of the hard service, the connection, the cause, the crankback, the next number and the state, what comes of a release
  abbrev calling_row_shuts_out : Bool → ℕ → Option ReroutingCause → Crankback → Option ℕ → State → Effect → Type 1
  calling_row_shuts_out hard connection came back next state r =
      NeverHolds ((calling_row.clauses 𝓛 memory run tt (hard, (connection, (came, (back, (next, (state, tt))))))
      ).ensures tt r (hard, (connection, (came, (back, (next, (state, tt)))))))

  -- in Soft Initiated the setup that came goes on in Hard Initiated, where the source would turn it away (6.3.4.5 case 4; decision 68)
  pub soft_initiated_gives_the_setup_up :
      (r : Effect) → state_number r.state ≡ 2 →
      calling_row_shuts_out true 3 None NoCrankback (Some 6) (SoftInitiated 3 5) r
  soft_initiated_gives_the_setup_up r w =
      fact_mono 𝓤 _ _ (λ h. let z : ◌≡◌ {A = ℕ} _ 2 = sym (ap (λ (r : Effect). state_number r.state) h) ∙ w in omega arith)

  -- the rerouting connection's own release carries no Rerouting cause (6.3.4.5 case 3; decision 68)
  pub rerouting_one_released_with_the_cause :
      (r : Effect) → (get_or r.signals 1 none).cause ≡ Numbered (cause 2) →
      calling_row_shuts_out true 3 (Some (cause 2)) NoCrankback (Some 6) (SoftInitiated 3 5) r
  rerouting_one_released_with_the_cause r w =
      fact_mono 𝓤 _ _ (λ h.
      let y : ◌≡◌ {A = SentCause} _ (Numbered (cause 2)) = sym (ap (λ (r : Effect). (get_or r.signals 1 none).cause) h) ∙ w in
      let z : ◌≡◌ {A = ℕ} 0 1 = cc in
      omega arith)

  -- for the rerouting connection #4 is another cause, and ends the call (6.3.4.6 case 5; decision 69)
  pub cause_4_for_the_rerouting_one_leaves_the_call :
      (r : Effect) → state_number r.state ≡ 1 →
      calling_row_shuts_out true 5 (Some (cause 4)) NoCrankback (Some 6) (Awaiting 3 5) r
  cause_4_for_the_rerouting_one_leaves_the_call r w =
      fact_mono 𝓤 _ _ (λ h. let z : ◌≡◌ {A = ℕ} _ 1 = sym (ap (λ (r : Effect). state_number r.state) h) ∙ w in omega arith)

  -- a setup may come again, at 65,535 too: the timer decides (6.3.4.4 case 4; decision 69)
  pub hard_initiated_gives_up_at_65535 :
      (r : Effect) → state_number r.state ≡ 0 →
      calling_row_shuts_out true 5 None NoCrankback None (HardUnderway 5) r
  hard_initiated_gives_up_at_65535 r w =
      fact_mono 𝓤 _ _ (λ h. let z : ◌≡◌ {A = ℕ} _ 0 = sym (ap (λ (r : Effect). state_number r.state) h) ∙ w in omega arith)
