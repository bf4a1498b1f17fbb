-- The public functions of destination_setups have one possible answer each. Assumes nothing.
use mathlib.Core.Path.{refl}
use Rattle.one_answer.specs.One.{OneAnswer}
use Rattle.one_answer.proofs.Law.{facts, result}
use Rattle.destination_setups.specs.contracts.setup_row as setup_row
use Rattle.destination_setups.specs.contracts.ready_row as ready_row

pub setup_row-has_one_answer : {M : Type 1} → OneAnswer M setup_row.ended (λ 𝓤 𝓛. setup_row.clauses 𝓛) (λ 𝓤 𝓛. setup_row.spec 𝓛)
setup_row-has_one_answer 𝓤 𝓛 _ _ = (refl, λ _ _ _ _ _ _ _ _. facts 𝓤 result)

pub ready_row-has_one_answer : {M : Type 1} → OneAnswer M ready_row.ended (λ 𝓤 𝓛. ready_row.clauses 𝓛) (λ 𝓤 𝓛. ready_row.spec 𝓛)
ready_row-has_one_answer 𝓤 𝓛 _ _ = (refl, λ _ _ _ _ _ _ _ _. facts 𝓤 result)
