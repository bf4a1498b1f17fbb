-- Two wrong answers of each public function of admission. Each theorem speaks of the function's contract as the
-- prover makes it from the source: that its `ensures` holds of the wrong answer, with any value where a variable stands,
-- is false. Assumes nothing.
use Prim.Native.Nat.{ℕ}
use native.Mathlib.Omega.{arith}
use mathlib.Core.Bool.{Bool, false, true}
use mathlib.Core.Path.{◌≡◌, ap}
use seplogic.Ra.Ura.{Ura}
use base.Logic.{SProp, ent}
use contract.Monad.{Fun, fact, fact_mono}
use types.Logic.{Logic}
use prog.Memory.{Memory}
use prog.Routine.{Routine}
use Rattle.std.specs.Prelude.{Result, Ok, Err, None}
use Rattle.signal.specs.Numbers.{answer_number}
use Rattle.signal.specs.declared.Answer.{Answer}
use Rattle.signal.specs.declared.Answer.TheVariants.{Done, KeyNotOnRecord, KeyOnRecord, NoEmptyRecord}
use Rattle.events.specs.declared.Act.{Act}
use Rattle.events.specs.declared.Act.TheVariants.{Meets, Opens}
use Rattle.events.specs.declared.Event.TheVariants.{Trigger}
use Rattle.admission.specs.Claims.{refusal_number}
use Rattle.admission.specs.contracts.admit as admit
use Rattle.admission.specs.contracts.refusal as refusal

module _ {M : Type 1} {𝓤 : Ura M} (𝓛 : Logic 𝓤) (memory : Memory → SProp 𝓤) (run : Routine → Fun 𝓤) where
  -- it is false: the logic proves falsity from it
  abbrev NeverHolds : SProp 𝓤 → Type 1
  NeverHolds says = ent 𝓤 says (fact 𝓤 ⊥)

  -- refusal: of what is admitted or refused, its answer
  abbrev refusal_shuts_out : Result Act Answer → Answer → Type 1
  refusal_shuts_out a r = NeverHolds ((refusal.clauses 𝓛 memory run tt (a, tt)).ensures tt r (a, tt))

  -- a refusal is never answered with 0
  pub refusal_answered_with_0 : refusal_shuts_out (Err KeyOnRecord) Done
  refusal_answered_with_0 = fact_mono 𝓤 _ _ (λ h. let z : ◌≡◌ {A = ℕ} 0 _ = ap answer_number h in omega arith)

  -- what goes on is not refused
  pub event_that_goes_on_refused : refusal_shuts_out (Ok (Meets Trigger)) KeyNotOnRecord
  event_that_goes_on_refused = fact_mono 𝓤 _ _ (λ h. let z : ◌≡◌ {A = ℕ} 105 _ = ap answer_number h in omega arith)

  -- admit: of a key, what is done with it, whether the key is missing and whether the table is full, what is admitted
  abbrev admit_shuts_out : ℕ → Act → Bool → Bool → Result Act Answer → Type 1
  admit_shuts_out key act missing full r =
      NeverHolds ((admit.clauses 𝓛 memory run tt (key, (act, (missing, (full, tt))))).ensures tt r (key, (act, (missing, (full, tt)))))

  -- key 0 opens no call (01, 102)
  pub key_0_takes_a_record : admit_shuts_out 0 (Opens None) true false (Ok (Opens None))
  key_0_takes_a_record = fact_mono 𝓤 _ _ (λ h. let z : ◌≡◌ {A = ℕ} 0 _ = ap refusal_number h in omega arith)

  -- nor does a key that is on record (01, 103)
  pub key_on_record_takes_a_record : admit_shuts_out 7 (Opens None) false false (Ok (Opens None))
  key_on_record_takes_a_record = fact_mono 𝓤 _ _ (λ h. let z : ◌≡◌ {A = ℕ} 0 _ = ap refusal_number h in omega arith)

  -- an event whose key is not on record goes to no record, not even to an empty one (01, 105)
  pub unknown_key_reaches_a_record : admit_shuts_out 7 (Meets Trigger) true false (Ok (Meets Trigger))
  unknown_key_reaches_a_record = fact_mono 𝓤 _ _ (λ h. let z : ◌≡◌ {A = ℕ} 0 _ = ap refusal_number h in omega arith)

  -- an event goes to the record of its key, however full the table is
  pub full_table_refuses_an_event : admit_shuts_out 7 (Meets Trigger) false true (Err NoEmptyRecord)
  full_table_refuses_an_event = fact_mono 𝓤 _ _ (λ h. let z : ◌≡◌ {A = ℕ} 104 _ = ap refusal_number h in omega arith)
