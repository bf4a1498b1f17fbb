-- Two wrong answers of each public function of source_setups. Each theorem speaks of the function's contract as the
-- prover makes it from the source: that its `ensures` holds of the wrong answer, with any value where a variable stands,
-- is false. Assumes nothing.
use Prim.Native.Nat.{ℕ}
use native.Mathlib.Omega.{arith}
use mathlib.Core.Bool.{Bool, false, true, true≢false}
use mathlib.Core.Path.{◌≡◌, ◌∙◌, ap, sym}
use lib.ListN.{get_or}
use seplogic.Ra.Ura.{Ura}
use base.Logic.{SProp, ent}
use contract.Monad.{Fun, fact, fact_mono}
use types.Logic.{Logic}
use prog.Memory.{Memory}
use prog.Routine.{Routine}
use Rattle.std.specs.Prelude.{Option, None, Some}
use Rattle.rows.specs.States.{rerouting_of, state_number}
use Rattle.rows.specs.declared.Effect.{Effect}
use Rattle.rows.specs.declared.State.TheVariants.{Awaiting, HardWaiting, Idle, SoftInitiated, SoftProceeding}
use Rattle.rows.specs.declared.State.{State}
use Rattle.signal.specs.Counting.{kind_number}
use Rattle.signal.specs.Numbers.{answer_number}
use Rattle.signal.specs.Signals.{none}
use Rattle.signal.specs.declared.Soft.TheVariants.{Symmetric}
use Rattle.signal.specs.declared.Soft.{Soft}
use Rattle.signal.specs.declared.Switchover.{Switchover}
use Rattle.source_setups.specs.contracts.ready.ready_row as ready_row
use Rattle.source_setups.specs.contracts.setup.setup_row as setup_row

module _ {M : Type 1} {𝓤 : Ura M} (𝓛 : Logic 𝓤) (memory : Memory → SProp 𝓤) (run : Routine → Fun 𝓤) where
  -- it is false: the logic proves falsity from it
  abbrev NeverHolds : SProp 𝓤 → Type 1
  NeverHolds says = ent 𝓤 says (fact 𝓤 ⊥)

  -- ready_row: of the state, what comes of "ready"
  abbrev ready_row_shuts_out : State → Effect → Type 1
  ready_row_shuts_out state r = NeverHolds ((ready_row.clauses 𝓛 memory run tt (state, tt)).ensures tt r (state, tt))

  -- a connect goes out (01, "Ready"; B3)
  pub ready_sends_a_setup : (r : Effect) → kind_number (get_or r.signals 0 none).kind ≡ 7 → ready_row_shuts_out (SoftInitiated 3 5) r
  ready_sends_a_setup r w =
      fact_mono 𝓤 _ _ (λ h.
      let z : ◌≡◌ {A = ℕ} _ 7 = sym (ap (λ (r : Effect). kind_number (get_or r.signals 0 none).kind) h) ∙ w in
      omega arith)

  -- and the call awaits switchover
  pub ready_stays_initiated : (r : Effect) → state_number r.state ≡ 6 → ready_row_shuts_out (SoftInitiated 3 5) r
  ready_stays_initiated r w =
      fact_mono 𝓤 _ _ (λ h. let z : ◌≡◌ {A = ℕ} _ 6 = sym (ap (λ (r : Effect). state_number r.state) h) ∙ w in omega arith)

  -- setup_row: of the soft service, the code, the number, the one on record, the next number and the state, what comes of a setup
  abbrev setup_row_shuts_out : Soft → Switchover → ℕ → ℕ → Option ℕ → State → Effect → Type 1
  setup_row_shuts_out soft code number remote next state r =
      NeverHolds ((setup_row.clauses 𝓛 memory run tt (soft, (code, (number, (remote, (next, (state, tt))))))
      ).ensures tt r (soft, (code, (number, (remote, (next, (state, tt)))))))

  -- the number on record again is old (01, "Faults seen on shelves"; B4)
  pub old_number_is_taken :
      (r : Effect) → state_number r.state ≡ 6 →
      setup_row_shuts_out Symmetric (record { code = 1 }) 3 3 (Some 6) (Idle 3) r
  old_number_is_taken r w =
      fact_mono 𝓤 _ _ (λ h. let z : ◌≡◌ {A = ℕ} _ 6 = sym (ap (λ (r : Effect). state_number r.state) h) ∙ w in omega arith)

  -- the older rerouting connection is replaced (01, "Setup" row 5)
  pub older_connection_is_kept :
      (r : Effect) → rerouting_of r.state ≡ 5 →
      setup_row_shuts_out Symmetric (record { code = 1 }) 4 3 (Some 6) (Awaiting 3 5) r
  older_connection_is_kept r w =
      fact_mono 𝓤 _ _ (λ h. let z : ◌≡◌ {A = ℕ} _ 5 = sym (ap (λ (r : Effect). rerouting_of r.state) h) ∙ w in omega arith)

  -- a setup that meets a reroute in progress is rejected, and its number stored all the same (02, Ask 3; 6.2.7)
  pub number_in_progress_is_forgotten :
      (r : Effect) → r.stores ≡ false →
      setup_row_shuts_out Symmetric (record { code = 1 }) 4 3 (Some 6) (SoftProceeding 3 5) r
  number_in_progress_is_forgotten r w =
      fact_mono 𝓤 _ _ (λ h. let z : ◌≡◌ {A = Bool} true false = sym (ap (λ (r : Effect). r.stores) h) ∙ w in true≢false z)

  -- at 65,535 too: it asks for no connection, and is not refused (decision 79)
  pub setup_in_progress_refused_at_65535 :
      (r : Effect) → answer_number r.answer ≡ 108 →
      setup_row_shuts_out Symmetric (record { code = 1 }) 4 3 None HardWaiting r
  setup_in_progress_refused_at_65535 r w =
      fact_mono 𝓤 _ _ (λ h. let z : ◌≡◌ {A = ℕ} _ 108 = sym (ap (λ (r : Effect). answer_number r.answer) h) ∙ w in omega arith)

  -- an old number is rejected and not stored, nor is that of a code that is not supported (01, "Faults seen on shelves"; B4, B5)
  pub old_number_is_stored :
      (r : Effect) → r.stores ≡ true →
      setup_row_shuts_out Symmetric (record { code = 1 }) 3 3 (Some 6) (SoftProceeding 3 5) r
  old_number_is_stored r w =
      fact_mono 𝓤 _ _ (λ h. let z : ◌≡◌ {A = Bool} false true = sym (ap (λ (r : Effect). r.stores) h) ∙ w in true≢false (sym z))

  pub unsupported_number_is_stored :
      (r : Effect) → r.stores ≡ true →
      setup_row_shuts_out Symmetric (record { code = 0 }) 9 3 (Some 6) (SoftProceeding 3 5) r
  unsupported_number_is_stored r w =
      fact_mono 𝓤 _ _ (λ h. let z : ◌≡◌ {A = Bool} false true = sym (ap (λ (r : Effect). r.stores) h) ∙ w in true≢false (sym z))
