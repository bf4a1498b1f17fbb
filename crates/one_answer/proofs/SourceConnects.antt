-- The public functions of source_connects have one possible answer each. Assumes nothing.
use mathlib.Core.Path.{refl}
use Rattle.one_answer.specs.One.{OneAnswer}
use Rattle.one_answer.proofs.Law.{facts, result}
use Rattle.source_connects.specs.contracts.connect_row as connect_row

pub connect_row-has_one_answer : {M : Type 1} → OneAnswer M connect_row.ended (λ 𝓤 𝓛. connect_row.clauses 𝓛) (λ 𝓤 𝓛. connect_row.spec 𝓛)
connect_row-has_one_answer 𝓤 𝓛 _ _ = (refl, λ _ _ _ _ _ _ _ _. facts 𝓤 result)
