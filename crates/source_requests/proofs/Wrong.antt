-- Two wrong answers of each public function of source_requests. Each theorem speaks of the function's contract as the
-- prover makes it from the source: that its `ensures` holds of the wrong answer, with any value where a variable stands,
-- is false. Assumes nothing.
use Prim.Native.Nat.{ℕ}
use native.Mathlib.Omega.{arith}
use mathlib.Core.Path.{◌≡◌, ◌∙◌, ap, sym}
use seplogic.Ra.Ura.{Ura}
use base.Logic.{SProp, ent}
use contract.Monad.{Fun, fact, fact_mono}
use types.Logic.{Logic}
use prog.Memory.{Memory}
use prog.Routine.{Routine}
use Rattle.std.specs.Prelude.{Option, None, Some}
use Rattle.rows.specs.States.{incumbent_of, state_number}
use Rattle.rows.specs.declared.Effect.{Effect}
use Rattle.rows.specs.declared.State.TheVariants.{HardWaiting, Idle, SoftTriggered}
use Rattle.rows.specs.declared.State.{State}
use Rattle.signal.specs.Numbers.{answer_number}
use Rattle.signal.specs.declared.Soft.TheVariants.{Asymmetric, NoSoft}
use Rattle.signal.specs.declared.Soft.{Soft}
use Rattle.source_requests.specs.contracts.trigger.trigger_row as trigger_row
use Rattle.source_requests.specs.contracts.path.path_row as path_row
use Rattle.source_requests.specs.contracts.path.no_path_row as no_path_row

module _ {M : Type 1} {𝓤 : Ura M} (𝓛 : Logic 𝓤) (memory : Memory → SProp 𝓤) (run : Routine → Fun 𝓤) where
  -- it is false: the logic proves falsity from it
  abbrev NeverHolds : SProp 𝓤 → Type 1
  NeverHolds says = ent 𝓤 says (fact 𝓤 ⊥)

  -- trigger_row: of the soft service and the state, what comes of a soft trigger
  abbrev trigger_row_shuts_out : Soft → State → Effect → Type 1
  trigger_row_shuts_out soft state r =
      NeverHolds ((trigger_row.clauses 𝓛 memory run tt (soft, (state, tt))).ensures tt r (soft, (state, tt)))

  -- a trigger in Idle moves to Soft Triggered with either soft service (01, "Soft trigger")
  pub trigger_does_nothing : (r : Effect) → state_number r.state ≡ 1 → trigger_row_shuts_out Asymmetric (Idle 3) r
  trigger_does_nothing r w =
      fact_mono 𝓤 _ _ (λ h. let z : ◌≡◌ {A = ℕ} _ 1 = sym (ap (λ (r : Effect). state_number r.state) h) ∙ w in omega arith)

  -- without it the trigger has no meaning, 106
  pub trigger_without_soft_names_nothing_held : (r : Effect) → answer_number r.answer ≡ 107 → trigger_row_shuts_out NoSoft (Idle 3) r
  trigger_without_soft_names_nothing_held r w =
      fact_mono 𝓤 _ _ (λ h. let z : ◌≡◌ {A = ℕ} _ 107 = sym (ap (λ (r : Effect). answer_number r.answer) h) ∙ w in omega arith)

  -- path_row: of the next number and the state, what comes of a path that was found
  abbrev path_row_shuts_out : Option ℕ → State → Effect → Type 1
  path_row_shuts_out next state r =
      NeverHolds ((path_row.clauses 𝓛 memory run tt (next, (state, tt))).ensures tt r (next, (state, tt)))

  -- without a number there is no setup: 108 (01, "Numbers of refusal")
  pub setup_on_no_number : (r : Effect) → answer_number r.answer ≡ 0 → path_row_shuts_out None HardWaiting r
  setup_on_no_number r w =
      fact_mono 𝓤 _ _ (λ h. let z : ◌≡◌ {A = ℕ} _ 0 = sym (ap (λ (r : Effect). answer_number r.answer) h) ∙ w in omega arith)

  -- the incumbent stays the incumbent (01, "Path found"; B11)
  pub soft_path_exchanges_connections : (r : Effect) → incumbent_of r.state ≡ 6 → path_row_shuts_out (Some 6) (SoftTriggered 3) r
  soft_path_exchanges_connections r w =
      fact_mono 𝓤 _ _ (λ h. let z : ◌≡◌ {A = ℕ} _ 6 = sym (ap (λ (r : Effect). incumbent_of r.state) h) ∙ w in omega arith)

  -- no_path_row: of the state, what comes of no path
  abbrev no_path_row_shuts_out : State → Effect → Type 1
  no_path_row_shuts_out state r = NeverHolds ((no_path_row.clauses 𝓛 memory run tt (state, tt)).ensures tt r (state, tt))

  -- Hard Triggered stays and the timer decides (01, "No path")
  pub no_path_ends_a_hard_reroute : (r : Effect) → state_number r.state ≡ 0 → no_path_row_shuts_out HardWaiting r
  no_path_ends_a_hard_reroute r w =
      fact_mono 𝓤 _ _ (λ h. let z : ◌≡◌ {A = ℕ} _ 0 = sym (ap (λ (r : Effect). state_number r.state) h) ∙ w in omega arith)

  -- Soft Triggered goes back to Idle
  pub no_path_stays_triggered : (r : Effect) → state_number r.state ≡ 4 → no_path_row_shuts_out (SoftTriggered 3) r
  no_path_stays_triggered r w =
      fact_mono 𝓤 _ _ (λ h. let z : ◌≡◌ {A = ℕ} _ 4 = sym (ap (λ (r : Effect). state_number r.state) h) ∙ w in omega arith)
