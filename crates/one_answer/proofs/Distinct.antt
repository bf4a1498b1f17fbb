-- The public functions of distinct have one possible answer each. Assumes nothing.
use mathlib.Core.Path.{refl}
use Rattle.one_answer.specs.One.{OneAnswer}
use Rattle.one_answer.proofs.Law.{facts, result}
use Rattle.distinct.specs.contracts.distinct as distinct
use Rattle.distinct.specs.contracts.unique as unique

pub distinct-has_one_answer : {M : Type 1} → OneAnswer M distinct.ended (λ 𝓤 𝓛. distinct.clauses 𝓛) (λ 𝓤 𝓛. distinct.spec 𝓛)
distinct-has_one_answer 𝓤 𝓛 _ _ = (refl, λ _ _ _ _ _ _ _ _. facts 𝓤 result)

pub unique-has_one_answer : {M : Type 1} → OneAnswer M unique.ended (λ 𝓤 𝓛. unique.clauses 𝓛) (λ 𝓤 𝓛. unique.spec 𝓛)
unique-has_one_answer 𝓤 𝓛 _ _ = (refl, λ _ _ _ _ _ _ _ _. facts 𝓤 result)
