-- The public functions of source_releases have one possible answer each. Assumes nothing.
use mathlib.Core.Path.{refl}
use Rattle.one_answer.specs.One.{OneAnswer}
use Rattle.one_answer.proofs.Law.{facts, result}
use Rattle.source_releases.specs.contracts.called_row as called_row

pub called_row-has_one_answer : {M : Type 1} → OneAnswer M called_row.ended (λ 𝓤 𝓛. called_row.clauses 𝓛) (λ 𝓤 𝓛. called_row.spec 𝓛)
called_row-has_one_answer 𝓤 𝓛 _ _ = (refl, λ _ _ _ _ _ _ _ _. facts 𝓤 result)
