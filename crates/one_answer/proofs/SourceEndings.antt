-- The public functions of source_endings have one possible answer each. Assumes nothing.
use mathlib.Core.Path.{refl}
use Rattle.one_answer.specs.One.{OneAnswer}
use Rattle.one_answer.proofs.Law.{facts, result}
use Rattle.source_endings.specs.contracts.calling_row as calling_row

pub calling_row-has_one_answer : {M : Type 1} → OneAnswer M calling_row.ended (λ 𝓤 𝓛. calling_row.clauses 𝓛) (λ 𝓤 𝓛. calling_row.spec 𝓛)
calling_row-has_one_answer 𝓤 𝓛 _ _ = (refl, λ _ _ _ _ _ _ _ _. facts 𝓤 result)
