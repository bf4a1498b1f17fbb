-- The public functions of call_table have one possible answer each. Assumes nothing.
use mathlib.Core.Path.{refl}
use Rattle.one_answer.specs.One.{OneAnswer}
use Rattle.one_answer.proofs.Law.{same, facts, result_and_lent}
use Rattle.call_table.specs.contracts.handle as handle
use Rattle.call_table.specs.contracts.handle_fit as handle_fit
use Rattle.call_table.specs.contracts.handle64 as handle64

pub handle-has_one_answer : {M : Type 1} → OneAnswer M handle.ended (λ 𝓤 𝓛. handle.clauses 𝓛) (λ 𝓤 𝓛. handle.spec 𝓛)
handle-has_one_answer 𝓤 𝓛 _ _ = (refl, λ _ _ _ _ _ _ _ _. facts 𝓤 (result_and_lent refl))

pub handle_fit-has_one_answer : {M : Type 1} → OneAnswer M handle_fit.ended (λ 𝓤 𝓛. handle_fit.clauses 𝓛) (λ 𝓤 𝓛. handle_fit.spec 𝓛)
handle_fit-has_one_answer 𝓤 𝓛 _ _ = (refl, λ _ _ _ _ _ _ _ _. facts 𝓤 (result_and_lent refl))

-- each of the two fields that are answered has its equation
pub handle64-has_one_answer : {M : Type 1} → OneAnswer M handle64.ended (λ 𝓤 𝓛. handle64.clauses 𝓛) (λ 𝓤 𝓛. handle64.spec 𝓛)
handle64-has_one_answer 𝓤 𝓛 _ _ = (refl, λ _ _ _ _ _ _ _ _. facts 𝓤 (λ p q. (λ i. record { table = same p.1 q.1 i; done = same p.0 q.0 i }, refl)))
