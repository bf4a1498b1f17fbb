-- The public functions of source_requests have one possible answer each. Assumes nothing.
use mathlib.Core.Path.{refl}
use Rattle.one_answer.specs.One.{OneAnswer}
use Rattle.one_answer.proofs.Law.{facts, result}
use Rattle.source_requests.specs.contracts.path_row as path_row
use Rattle.source_requests.specs.contracts.no_path_row as no_path_row
use Rattle.source_requests.specs.contracts.trigger_row as trigger_row

pub path_row-has_one_answer : {M : Type 1} → OneAnswer M path_row.ended (λ 𝓤 𝓛. path_row.clauses 𝓛) (λ 𝓤 𝓛. path_row.spec 𝓛)
path_row-has_one_answer 𝓤 𝓛 _ _ = (refl, λ _ _ _ _ _ _ _ _. facts 𝓤 result)

pub no_path_row-has_one_answer : {M : Type 1} → OneAnswer M no_path_row.ended (λ 𝓤 𝓛. no_path_row.clauses 𝓛) (λ 𝓤 𝓛. no_path_row.spec 𝓛)
no_path_row-has_one_answer 𝓤 𝓛 _ _ = (refl, λ _ _ _ _ _ _ _ _. facts 𝓤 result)

pub trigger_row-has_one_answer : {M : Type 1} → OneAnswer M trigger_row.ended (λ 𝓤 𝓛. trigger_row.clauses 𝓛) (λ 𝓤 𝓛. trigger_row.spec 𝓛)
trigger_row-has_one_answer 𝓤 𝓛 _ _ = (refl, λ _ _ _ _ _ _ _ _. facts 𝓤 result)
