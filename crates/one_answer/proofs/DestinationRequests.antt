-- The public functions of destination_requests have one possible answer each. Assumes nothing.
use mathlib.Core.Path.{refl}
use Rattle.one_answer.specs.One.{OneAnswer}
use Rattle.one_answer.proofs.Law.{facts, result}
use Rattle.destination_requests.specs.contracts.trigger_row as trigger_row
use Rattle.destination_requests.specs.contracts.path_row as path_row
use Rattle.destination_requests.specs.contracts.no_path_row as no_path_row
use Rattle.destination_requests.specs.contracts.connect_row as connect_row

pub trigger_row-has_one_answer : {M : Type 1} → OneAnswer M trigger_row.ended (λ 𝓤 𝓛. trigger_row.clauses 𝓛) (λ 𝓤 𝓛. trigger_row.spec 𝓛)
trigger_row-has_one_answer 𝓤 𝓛 _ _ = (refl, λ _ _ _ _ _ _ _ _. facts 𝓤 result)

pub path_row-has_one_answer : {M : Type 1} → OneAnswer M path_row.ended (λ 𝓤 𝓛. path_row.clauses 𝓛) (λ 𝓤 𝓛. path_row.spec 𝓛)
path_row-has_one_answer 𝓤 𝓛 _ _ = (refl, λ _ _ _ _ _ _ _ _. facts 𝓤 result)

pub no_path_row-has_one_answer : {M : Type 1} → OneAnswer M no_path_row.ended (λ 𝓤 𝓛. no_path_row.clauses 𝓛) (λ 𝓤 𝓛. no_path_row.spec 𝓛)
no_path_row-has_one_answer 𝓤 𝓛 _ _ = (refl, λ _ _ _ _ _ _ _ _. facts 𝓤 result)

pub connect_row-has_one_answer : {M : Type 1} → OneAnswer M connect_row.ended (λ 𝓤 𝓛. connect_row.clauses 𝓛) (λ 𝓤 𝓛. connect_row.spec 𝓛)
connect_row-has_one_answer 𝓤 𝓛 _ _ = (refl, λ _ _ _ _ _ _ _ _. facts 𝓤 result)
