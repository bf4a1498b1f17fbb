-- The public functions of line_reader have one possible answer each. Assumes nothing.
use mathlib.Core.Path.{refl}
use Rattle.one_answer.specs.One.{OneAnswer}
use Rattle.one_answer.proofs.Law.{facts, result}
use Rattle.line_reader.specs.contracts.after as after
use Rattle.line_reader.specs.contracts.is as is
use Rattle.line_reader.specs.contracts.number as number

pub after-has_one_answer : {M : Type 1} → OneAnswer M after.ended (λ 𝓤 𝓛. after.clauses 𝓛) (λ 𝓤 𝓛. after.spec 𝓛)
after-has_one_answer 𝓤 𝓛 _ _ = (refl, λ _ _ _ _ _ _ _ _. facts 𝓤 result)

pub is-has_one_answer : {M : Type 1} → OneAnswer M is.ended (λ 𝓤 𝓛. is.clauses 𝓛) (λ 𝓤 𝓛. is.spec 𝓛)
is-has_one_answer 𝓤 𝓛 _ _ = (refl, λ _ _ _ _ _ _ _ _. facts 𝓤 result)

pub number-has_one_answer : {M : Type 1} → OneAnswer M number.ended (λ 𝓤 𝓛. number.clauses 𝓛) (λ 𝓤 𝓛. number.spec 𝓛)
number-has_one_answer 𝓤 𝓛 _ _ = (refl, λ _ _ _ _ _ _ _ _. facts 𝓤 result)
