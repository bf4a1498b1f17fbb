-- The public functions of script_feed, list_feed, cells_feed and tables_feed have one possible answer each. Assumes nothing.
use mathlib.Core.Path.{refl}
use contract.Monad.{fact_i}
use Rattle.one_answer.specs.One.{OneAnswer}
use Rattle.script_feed.specs.contracts.serve as serve_script
use Rattle.list_feed.specs.contracts.serve as serve_list
use Rattle.cells_feed.specs.contracts.serve as serve_cells
use Rattle.tables_feed.specs.contracts.serve as serve_tables

pub serve_script-has_one_answer : {M : Type 1} → OneAnswer M serve_script.ended (λ 𝓤 𝓛. serve_script.clauses 𝓛) (λ 𝓤 𝓛. serve_script.spec 𝓛)
serve_script-has_one_answer 𝓤 𝓛 _ _ = (refl, λ _ _ _ _ _ _ _ _. fact_i 𝓤 _ _ (refl, refl))

pub serve_list-has_one_answer : {M : Type 1} → OneAnswer M serve_list.ended (λ 𝓤 𝓛. serve_list.clauses 𝓛) (λ 𝓤 𝓛. serve_list.spec 𝓛)
serve_list-has_one_answer 𝓤 𝓛 _ _ = (refl, λ _ _ _ _ _ _ _ _. fact_i 𝓤 _ _ (refl, refl))

pub serve_cells-has_one_answer : {M : Type 1} → OneAnswer M serve_cells.ended (λ 𝓤 𝓛. serve_cells.clauses 𝓛) (λ 𝓤 𝓛. serve_cells.spec 𝓛)
serve_cells-has_one_answer 𝓤 𝓛 _ _ = (refl, λ _ _ _ _ _ _ _ _. fact_i 𝓤 _ _ (refl, refl))

pub serve_tables-has_one_answer : {M : Type 1} → OneAnswer M serve_tables.ended (λ 𝓤 𝓛. serve_tables.clauses 𝓛) (λ 𝓤 𝓛. serve_tables.spec 𝓛)
serve_tables-has_one_answer 𝓤 𝓛 _ _ = (refl, λ _ _ _ _ _ _ _ _. fact_i 𝓤 _ _ (refl, refl))
