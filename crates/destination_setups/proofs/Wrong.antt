-- Two wrong answers of each public function of destination_setups. Each theorem speaks of the function's contract as the
-- prover makes it from the source: that its `ensures` holds of the wrong answer, with any value where a variable stands,
-- is false. Assumes nothing.
use Prim.Native.Nat.{ℕ}
use native.Mathlib.Omega.{arith}
use mathlib.Core.Bool.{Bool, false, true}
use mathlib.Core.Path.{◌≡◌, ◌∙◌, ap, sym}
use lib.ListN.{get_or}
use seplogic.Ra.Ura.{Ura}
use base.Logic.{SProp, ent}
use contract.Monad.{Fun, fact, fact_mono}
use types.Logic.{Logic}
use prog.Memory.{Memory}
use prog.Routine.{Routine}
use Rattle.std.specs.Prelude.{Option, Some}
use Rattle.signal.specs.Counting.{is_call_rejected, kind_number}
use Rattle.signal.specs.Numbers.{answer_number}
use Rattle.signal.specs.Signals.{none}
use Rattle.signal.specs.declared.Soft.TheVariants.{Asymmetric, Symmetric}
use Rattle.signal.specs.declared.Soft.{Soft}
use Rattle.signal.specs.declared.Switchover.{Switchover}
use Rattle.rows.specs.States.{state_number}
use Rattle.rows.specs.declared.Effect.{Effect}
use Rattle.rows.specs.declared.State.TheVariants.{Awaiting, HardUnderway, Idle}
use Rattle.rows.specs.declared.State.{State}
use Rattle.destination_setups.specs.contracts.ready.ready_row as ready_row
use Rattle.destination_setups.specs.contracts.setup.setup_row as setup_row

module _ {M : Type 1} {𝓤 : Ura M} (𝓛 : Logic 𝓤) (memory : Memory → SProp 𝓤) (run : Routine → Fun 𝓤) where
  -- it is false: the logic proves falsity from it
  abbrev NeverHolds : SProp 𝓤 → Type 1
  NeverHolds says = ent 𝓤 says (fact 𝓤 ⊥)

  -- ready_row: of the state, what comes of "ready"
  abbrev ready_row_shuts_out : State → Effect → Type 1
  ready_row_shuts_out state r = NeverHolds ((ready_row.clauses 𝓛 memory run tt (state, tt)).ensures tt r (state, tt))

  -- in Hard Initiated the timer is stopped, before the switch (6.3.5.8; decision 62)
  pub hard_ready_leaves_the_timer_running :
      (r : Effect) → kind_number (get_or r.signals 0 none).kind ≡ 3 →
      ready_row_shuts_out (HardUnderway 5) r
  hard_ready_leaves_the_timer_running r w =
      fact_mono 𝓤 _ _ (λ h.
      let z : ◌≡◌ {A = ℕ} _ 3 = sym (ap (λ (r : Effect). kind_number (get_or r.signals 0 none).kind) h) ∙ w in
      omega arith)

  -- and the call is Idle at once: there is no incumbent whose release it would await
  pub hard_ready_awaits_switchover : (r : Effect) → state_number r.state ≡ 7 → ready_row_shuts_out (HardUnderway 5) r
  hard_ready_awaits_switchover r w =
      fact_mono 𝓤 _ _ (λ h. let z : ◌≡◌ {A = ℕ} _ 7 = sym (ap (λ (r : Effect). state_number r.state) h) ∙ w in omega arith)

  -- setup_row: of the services, the code, the number, the one on record, the next number and the state, what comes of a setup
  abbrev setup_row_shuts_out : Bool → Soft → Switchover → ℕ → ℕ → Option ℕ → State → Effect → Type 1
  setup_row_shuts_out hard soft code number remote next state r =
      NeverHolds ((setup_row.clauses 𝓛 memory run tt (hard, (soft, (code, (number, (remote, (next, (state, tt)))))))
      ).ensures tt r (hard, (soft, (code, (number, (remote, (next, (state, tt))))))))

  -- a hard setup is one that 6.3.5 knows (decision 71)
  pub hard_setup_is_unsupported :
      (r : Effect) → kind_number (get_or r.signals 0 none).kind ≡ 9 →
      setup_row_shuts_out true Symmetric (record { code = 0 }) 4 3 (Some 6) (Idle 3) r
  hard_setup_is_unsupported r w =
      fact_mono 𝓤 _ _ (λ h.
      let z : ◌≡◌ {A = ℕ} _ 9 = sym (ap (λ (r : Effect). kind_number (get_or r.signals 0 none).kind) h) ∙ w in
      omega arith)

  -- and it is taken with hard off too: 106 is for a call with no service (6.3.2; decision 58)
  pub hard_setup_needs_hard_on :
      (r : Effect) → answer_number r.answer ≡ 106 →
      setup_row_shuts_out false Asymmetric (record { code = 0 }) 4 3 (Some 6) (Idle 3) r
  hard_setup_needs_hard_on r w =
      fact_mono 𝓤 _ _ (λ h. let z : ◌≡◌ {A = ℕ} _ 106 = sym (ap (λ (r : Effect). answer_number r.answer) h) ∙ w in omega arith)

  -- the incumbent's release has no #21 where it is held alone (6.3.5.1 case 1; decision 72)
  pub incumbent_left_in_idle_with_code_21 :
      (r : Effect) → is_call_rejected (get_or r.signals 1 none).code ≡ true →
      setup_row_shuts_out true Symmetric (record { code = 0 }) 4 3 (Some 6) (Idle 3) r
  incumbent_left_in_idle_with_code_21 r w =
      fact_mono 𝓤 _ _ (λ h.
      let y : ◌≡◌ {A = Bool} _ true = sym (ap (λ (r : Effect). is_call_rejected (get_or r.signals 1 none).code) h) ∙ w in
      let z : ◌≡◌ {A = ℕ} 0 1 = cc in
      omega arith)

  -- a soft setup releases the older one with #21 (6.3.5.5; 6.3.5.4 case 2)
  pub older_one_left_without_code_21 :
      (r : Effect) → is_call_rejected (get_or r.signals 0 none).code ≡ false →
      setup_row_shuts_out true Symmetric (record { code = 1 }) 4 3 (Some 6) (Awaiting 3 5) r
  older_one_left_without_code_21 r w =
      fact_mono 𝓤 _ _ (λ h.
      let y : ◌≡◌ {A = Bool} _ false = sym (ap (λ (r : Effect). is_call_rejected (get_or r.signals 0 none).code) h) ∙ w in
      let z : ◌≡◌ {A = ℕ} 0 1 = cc in
      omega arith)

  -- in the Hard states the code is not read (6.3.5; decision 71)
  pub unrecognised_code_rejected_in_a_hard_state :
      (r : Effect) → kind_number (get_or r.signals 0 none).kind ≡ 9 →
      setup_row_shuts_out true Symmetric (record { code = 2 }) 4 3 (Some 6) (HardUnderway 5) r
  unrecognised_code_rejected_in_a_hard_state r w =
      fact_mono 𝓤 _ _ (λ h.
      let z : ◌≡◌ {A = ℕ} _ 9 = sym (ap (λ (r : Effect). kind_number (get_or r.signals 0 none).kind) h) ∙ w in
      omega arith)

  -- the number on record again is old, and rejected (6.3.5)
  pub hard_setup_with_the_number_on_record_is_stored :
      (r : Effect) → r.stores ≡ true →
      setup_row_shuts_out true Symmetric (record { code = 0 }) 3 3 (Some 6) (Idle 3) r
  hard_setup_with_the_number_on_record_is_stored r w =
      fact_mono 𝓤 _ _ (λ h.
      let y : ◌≡◌ {A = Bool} _ true = sym (ap (λ (r : Effect). r.stores) h) ∙ w in
      let z : ◌≡◌ {A = ℕ} 0 1 = cc in
      omega arith)
