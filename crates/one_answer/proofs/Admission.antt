-- The public functions of admission have one possible answer each. Assumes nothing.
use mathlib.Core.Path.{refl}
use Rattle.one_answer.specs.One.{OneAnswer}
use Rattle.one_answer.proofs.Law.{facts, result}
use Rattle.admission.specs.contracts.admit as admit
use Rattle.admission.specs.contracts.refusal as refusal

pub refusal-has_one_answer : {M : Type 1} → OneAnswer M refusal.ended (λ 𝓤 𝓛. refusal.clauses 𝓛) (λ 𝓤 𝓛. refusal.spec 𝓛)
refusal-has_one_answer 𝓤 𝓛 _ _ = (refl, λ _ _ _ _ _ _ _ _. facts 𝓤 result)

pub admit-has_one_answer : {M : Type 1} → OneAnswer M admit.ended (λ 𝓤 𝓛. admit.clauses 𝓛) (λ 𝓤 𝓛. admit.spec 𝓛)
admit-has_one_answer 𝓤 𝓛 _ _ = (refl, λ _ _ _ _ _ _ _ _. facts 𝓤 result)
