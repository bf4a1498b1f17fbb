-- The public functions of cause_element have one possible answer each. Assumes nothing.
use mathlib.Core.Path.{refl}
use Rattle.one_answer.specs.One.{OneAnswer}
use Rattle.one_answer.specs.Part.{OnePart}
use Rattle.one_answer.proofs.Law.{facts, result, part}
use Rattle.cause_element.specs.contracts.named as named
use Rattle.cause_element.specs.contracts.element as element

pub named-has_one_answer : {M : Type 1} → OneAnswer M named.ended (λ 𝓤 𝓛. named.clauses 𝓛) (λ 𝓤 𝓛. named.spec 𝓛)
named-has_one_answer 𝓤 𝓛 _ _ = (refl, λ _ _ _ _ _ _ _ _. facts 𝓤 result)

pub element-has_one_answer : {M : Type 1} → OnePart M element.ended (λ 𝓤 𝓛. element.clauses 𝓛) (λ 𝓤 𝓛. element.spec 𝓛) (λ κs r. r)
element-has_one_answer 𝓤 𝓛 _ _ = (refl, λ _ _ _ _ _ _ _ _. facts 𝓤 part)
