-- The public functions of event_fault have one possible answer each. Assumes nothing.
use mathlib.Core.Path.{refl}
use Rattle.one_answer.specs.One.{OneAnswer}
use Rattle.one_answer.proofs.Law.{facts, result, lent}
use Rattle.event_fault.specs.contracts.find as find
use Rattle.event_fault.specs.contracts.put_fault as put_fault

pub find-has_one_answer : {M : Type 1} → OneAnswer M find.ended (λ 𝓤 𝓛. find.clauses 𝓛) (λ 𝓤 𝓛. find.spec 𝓛)
find-has_one_answer 𝓤 𝓛 _ _ = (refl, λ _ _ _ _ _ _ _ _. facts 𝓤 result)

pub put_fault-has_one_answer : {M : Type 1} → OneAnswer M put_fault.ended (λ 𝓤 𝓛. put_fault.clauses 𝓛) (λ 𝓤 𝓛. put_fault.spec 𝓛)
put_fault-has_one_answer 𝓤 𝓛 _ _ = (refl, λ _ _ _ _ _ _ _ _. facts 𝓤 (lent refl))
