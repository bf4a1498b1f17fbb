-- Two wrong answers of each public function of source_connects. Each theorem speaks of the function's contract as the
-- prover makes it from the source: that its `ensures` holds of the wrong answer, with any value where a variable stands,
-- is false. Assumes nothing.
use Prim.Native.Nat.{ℕ}
use native.Mathlib.Omega.{arith}
use mathlib.Core.Bool.{Bool, true}
use mathlib.Core.Path.{◌≡◌, ◌∙◌, ap, sym}
use lib.ListN.{get_or}
use seplogic.Ra.Ura.{Ura}
use base.Logic.{SProp, ent}
use contract.Monad.{Fun, fact, fact_mono}
use types.Logic.{Logic}
use prog.Memory.{Memory}
use prog.Routine.{Routine}
use Rattle.rows.specs.declared.Effect.{Effect}
use Rattle.rows.specs.declared.State.TheVariants.{HardUnderway, SoftProceeding}
use Rattle.rows.specs.declared.State.{State}
use Rattle.signal.specs.Counting.{kind_number}
use Rattle.signal.specs.Numbers.{answer_number}
use Rattle.signal.specs.Signals.{none}
use Rattle.source_connects.specs.contracts.connect_row as connect_row

module _ {M : Type 1} {𝓤 : Ura M} (𝓛 : Logic 𝓤) (memory : Memory → SProp 𝓤) (run : Routine → Fun 𝓤) where
  -- it is false: the logic proves falsity from it
  abbrev NeverHolds : SProp 𝓤 → Type 1
  NeverHolds says = ent 𝓤 says (fact 𝓤 ⊥)

  -- connect_row: of the connection, the policy and the state, what comes of a connect
  abbrev connect_row_shuts_out : ℕ → Bool → State → Effect → Type 1
  connect_row_shuts_out connection agreed state r =
      NeverHolds ((connect_row.clauses 𝓛 memory run tt (connection, (agreed, (state, tt)))
      ).ensures tt r (connection, (agreed, (state, tt))))

  -- the timer is stopped on leaving the Hard states, before the switch (01, "Signals")
  pub connect_leaves_the_timer_running :
      (r : Effect) → kind_number (get_or r.signals 0 none).kind ≡ 3 →
      connect_row_shuts_out 5 true (HardUnderway 5) r
  connect_leaves_the_timer_running r w =
      fact_mono 𝓤 _ _ (λ h.
      let z : ◌≡◌ {A = ℕ} _ 3 = sym (ap (λ (r : Effect). kind_number (get_or r.signals 0 none).kind) h) ∙ w in
      omega arith)

  -- a connect is for the rerouting connection; for another it is 107
  pub connect_naming_the_incumbent_is_done :
      (r : Effect) → answer_number r.answer ≡ 0 →
      connect_row_shuts_out 3 true (SoftProceeding 3 5) r
  connect_naming_the_incumbent_is_done r w =
      fact_mono 𝓤 _ _ (λ h. let z : ◌≡◌ {A = ℕ} _ 0 = sym (ap (λ (r : Effect). answer_number r.answer) h) ∙ w in omega arith)
