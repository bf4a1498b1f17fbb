-- Two wrong answers of each public function of destination_requests. Each theorem speaks of the function's contract as the
-- prover makes it from the source: that its `ensures` holds of the wrong answer, with any value where a variable stands,
-- is false. Assumes nothing.
use Prim.Native.Nat.{ℕ}
use native.Mathlib.Omega.{arith}
use mathlib.Core.Bool.{Bool, true}
use mathlib.Core.Path.{◌≡◌, ◌∙◌, ap, sym}
use lib.ListN.{get_or}
use seplogic.Ra.Ura.{Ura}
use base.Logic.{SProp, ent}
use contract.Monad.{Fun, fact, fact_mono}
use types.Logic.{Logic}
use prog.Memory.{Memory}
use prog.Routine.{Routine}
use Rattle.std.specs.Prelude.{Option, Some}
use Rattle.signal.specs.Numbers.{answer_number}
use Rattle.signal.specs.Signals.{none}
use Rattle.signal.specs.declared.SentCause.TheVariants.{Absent}
use Rattle.signal.specs.declared.SentCause.{SentCause}
use Rattle.signal.specs.declared.Soft.TheVariants.{Asymmetric, Symmetric}
use Rattle.signal.specs.declared.Soft.{Soft}
use Rattle.rows.specs.States.{incumbent_of, state_number}
use Rattle.rows.specs.declared.Effect.{Effect}
use Rattle.rows.specs.declared.State.TheVariants.{HardUnderway, HardWaiting, Idle, SoftProceeding, SoftTriggered}
use Rattle.rows.specs.declared.State.{State}
use Rattle.destination_requests.specs.contracts.trigger_row as trigger_row
use Rattle.destination_requests.specs.contracts.path_row as path_row
use Rattle.destination_requests.specs.contracts.no_path_row as no_path_row
use Rattle.destination_requests.specs.contracts.connect_row as connect_row

module _ {M : Type 1} {𝓤 : Ura M} (𝓛 : Logic 𝓤) (memory : Memory → SProp 𝓤) (run : Routine → Fun 𝓤) where
  -- it is false: the logic proves falsity from it
  abbrev NeverHolds : SProp 𝓤 → Type 1
  NeverHolds says = ent 𝓤 says (fact 𝓤 ⊥)

  -- trigger_row: of the soft service and the state, what comes of a soft trigger
  abbrev trigger_row_shuts_out : Soft → State → Effect → Type 1
  trigger_row_shuts_out soft state r =
      NeverHolds ((trigger_row.clauses 𝓛 memory run tt (soft, (state, tt))).ensures tt r (soft, (state, tt)))

  -- symmetric soft alone is started from this side (6.3.6 is [SYM SOFT]; decision 59)
  pub destination_triggers_with_asymmetric_soft : (r : Effect) → state_number r.state ≡ 4 → trigger_row_shuts_out Asymmetric (Idle 3) r
  destination_triggers_with_asymmetric_soft r w =
      fact_mono 𝓤 _ _ (λ h. let z : ◌≡◌ {A = ℕ} _ 4 = sym (ap (λ (r : Effect). state_number r.state) h) ∙ w in omega arith)

  -- in any state but Idle a trigger is disregarded (6.3.6.1 case 2)
  pub destination_trigger_gives_the_soft_reroute_up :
      (r : Effect) → state_number r.state ≡ 1 →
      trigger_row_shuts_out Symmetric (SoftProceeding 3 5) r
  destination_trigger_gives_the_soft_reroute_up r w =
      fact_mono 𝓤 _ _ (λ h. let z : ◌≡◌ {A = ℕ} _ 1 = sym (ap (λ (r : Effect). state_number r.state) h) ∙ w in omega arith)

  -- path_row: of the next number and the state, what comes of a path that was found
  abbrev path_row_shuts_out : Option ℕ → State → Effect → Type 1
  path_row_shuts_out next state r = NeverHolds ((path_row.clauses 𝓛 memory run tt (next, (state, tt))).ensures tt r (next, (state, tt)))

  -- this end looks for no hard path: 106 (decision 60)
  pub path_found_in_hard_indicated_is_done : (r : Effect) → answer_number r.answer ≡ 0 → path_row_shuts_out (Some 6) HardWaiting r
  path_found_in_hard_indicated_is_done r w =
      fact_mono 𝓤 _ _ (λ h. let z : ◌≡◌ {A = ℕ} _ 0 = sym (ap (λ (r : Effect). answer_number r.answer) h) ∙ w in omega arith)

  -- the incumbent stays the incumbent (6.3.6.1 case 1; 6.3.3)
  pub destination_path_exchanges_connections : (r : Effect) → incumbent_of r.state ≡ 6 → path_row_shuts_out (Some 6) (SoftTriggered 3) r
  destination_path_exchanges_connections r w =
      fact_mono 𝓤 _ _ (λ h. let z : ◌≡◌ {A = ℕ} _ 6 = sym (ap (λ (r : Effect). incumbent_of r.state) h) ∙ w in omega arith)

  -- no_path_row: of the state, what comes of no path
  abbrev no_path_row_shuts_out : State → Effect → Type 1
  no_path_row_shuts_out state r = NeverHolds ((no_path_row.clauses 𝓛 memory run tt (state, tt)).ensures tt r (state, tt))

  -- which Hard Indicated does not ask for: 106, where the source's Hard Triggered stays (decision 60)
  pub no_path_in_hard_indicated_is_done : (r : Effect) → answer_number r.answer ≡ 0 → no_path_row_shuts_out HardWaiting r
  no_path_in_hard_indicated_is_done r w =
      fact_mono 𝓤 _ _ (λ h. let z : ◌≡◌ {A = ℕ} _ 0 = sym (ap (λ (r : Effect). answer_number r.answer) h) ∙ w in omega arith)

  -- Soft Triggered goes back to Idle (6.3.6.1 case 1; decision 59)
  pub no_path_leaves_it_triggered : (r : Effect) → state_number r.state ≡ 4 → no_path_row_shuts_out (SoftTriggered 3) r
  no_path_leaves_it_triggered r w =
      fact_mono 𝓤 _ _ (λ h. let z : ◌≡◌ {A = ℕ} _ 4 = sym (ap (λ (r : Effect). state_number r.state) h) ∙ w in omega arith)

  -- connect_row: of the connection, the policy and the state, what comes of a connect
  abbrev connect_row_shuts_out : ℕ → Bool → State → Effect → Type 1
  connect_row_shuts_out connection agreed state r =
      NeverHolds ((connect_row.clauses 𝓛 memory run tt (connection, (agreed, (state, tt)))
      ).ensures tt r (connection, (agreed, (state, tt))))

  -- a connect has a meaning in Soft Proceeding alone: this end sends no hard setup (6.3.7.1; decision 60)
  pub connect_in_hard_initiated_is_done : (r : Effect) → answer_number r.answer ≡ 0 → connect_row_shuts_out 5 true (HardUnderway 5) r
  connect_in_hard_initiated_is_done r w =
      fact_mono 𝓤 _ _ (λ h. let z : ◌≡◌ {A = ℕ} _ 0 = sym (ap (λ (r : Effect). answer_number r.answer) h) ∙ w in omega arith)

  -- the incumbent is released with #4 (6.3.7.1; decision 74)
  pub incumbent_released_without_4_on_connect :
      (r : Effect) → (get_or r.signals 1 none).cause ≡ Absent →
      connect_row_shuts_out 5 true (SoftProceeding 3 5) r
  incumbent_released_without_4_on_connect r w =
      fact_mono 𝓤 _ _ (λ h.
      let y : ◌≡◌ {A = SentCause} _ Absent = sym (ap (λ (r : Effect). (get_or r.signals 1 none).cause) h) ∙ w in
      let z : ◌≡◌ {A = ℕ} 0 1 = cc in
      omega arith)
