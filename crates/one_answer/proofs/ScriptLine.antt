-- The public functions of script_line have one possible answer each. Assumes nothing.
use mathlib.Core.Path.{refl}
use Rattle.one_answer.specs.One.{OneAnswer}
use Rattle.one_answer.proofs.Law.{facts, result}
use Rattle.script_line.specs.contracts.parse as parse

pub parse-has_one_answer : {M : Type 1} → OneAnswer M parse.ended (λ 𝓤 𝓛. parse.clauses 𝓛) (λ 𝓤 𝓛. parse.spec 𝓛)
parse-has_one_answer 𝓤 𝓛 _ _ = (refl, λ _ _ _ _ _ _ _ _. facts 𝓤 result)
