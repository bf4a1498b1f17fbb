-- The public functions of shared_rows have one possible answer each. Assumes nothing.
use mathlib.Core.Path.{refl}
use Rattle.one_answer.specs.One.{OneAnswer}
use Rattle.one_answer.proofs.Law.{facts, result}
use Rattle.shared_rows.specs.contracts.trigger_in as trigger-in
use Rattle.shared_rows.specs.contracts.soft_path as soft_path
use Rattle.shared_rows.specs.contracts.soft_connect as soft_connect
use Rattle.shared_rows.specs.contracts.soft_crankback as soft_crankback
use Rattle.shared_rows.specs.contracts.idle_lost as idle_lost
use Rattle.shared_rows.specs.contracts.party_row as party_row
use Rattle.shared_rows.specs.contracts.expiry_row as expiry_row
use Rattle.shared_rows.specs.contracts.released as released
use Rattle.shared_rows.specs.contracts.turned_away as turned_away

pub trigger-in-has_one_answer : {M : Type 1} → OneAnswer M trigger-in.ended (λ 𝓤 𝓛. trigger-in.clauses 𝓛) (λ 𝓤 𝓛. trigger-in.spec 𝓛)
trigger-in-has_one_answer 𝓤 𝓛 _ _ = (refl, λ _ _ _ _ _ _ _ _. facts 𝓤 result)

pub soft_path-has_one_answer : {M : Type 1} → OneAnswer M soft_path.ended (λ 𝓤 𝓛. soft_path.clauses 𝓛) (λ 𝓤 𝓛. soft_path.spec 𝓛)
soft_path-has_one_answer 𝓤 𝓛 _ _ = (refl, λ _ _ _ _ _ _ _ _. facts 𝓤 result)

pub soft_connect-has_one_answer : {M : Type 1} → OneAnswer M soft_connect.ended (λ 𝓤 𝓛. soft_connect.clauses 𝓛) (λ 𝓤 𝓛. soft_connect.spec 𝓛)
soft_connect-has_one_answer 𝓤 𝓛 _ _ = (refl, λ _ _ _ _ _ _ _ _. facts 𝓤 result)

pub soft_crankback-has_one_answer : {M : Type 1} →
    OneAnswer M soft_crankback.ended (λ 𝓤 𝓛. soft_crankback.clauses 𝓛) (λ 𝓤 𝓛. soft_crankback.spec 𝓛)
soft_crankback-has_one_answer 𝓤 𝓛 _ _ = (refl, λ _ _ _ _ _ _ _ _. facts 𝓤 result)

pub idle_lost-has_one_answer : {M : Type 1} → OneAnswer M idle_lost.ended (λ 𝓤 𝓛. idle_lost.clauses 𝓛) (λ 𝓤 𝓛. idle_lost.spec 𝓛)
idle_lost-has_one_answer 𝓤 𝓛 _ _ = (refl, λ _ _ _ _ _ _ _ _. facts 𝓤 result)

pub party_row-has_one_answer : {M : Type 1} → OneAnswer M party_row.ended (λ 𝓤 𝓛. party_row.clauses 𝓛) (λ 𝓤 𝓛. party_row.spec 𝓛)
party_row-has_one_answer 𝓤 𝓛 _ _ = (refl, λ _ _ _ _ _ _ _ _. facts 𝓤 result)

pub expiry_row-has_one_answer : {M : Type 1} → OneAnswer M expiry_row.ended (λ 𝓤 𝓛. expiry_row.clauses 𝓛) (λ 𝓤 𝓛. expiry_row.spec 𝓛)
expiry_row-has_one_answer 𝓤 𝓛 _ _ = (refl, λ _ _ _ _ _ _ _ _. facts 𝓤 result)

pub released-has_one_answer : {M : Type 1} → OneAnswer M released.ended (λ 𝓤 𝓛. released.clauses 𝓛) (λ 𝓤 𝓛. released.spec 𝓛)
released-has_one_answer 𝓤 𝓛 _ _ = (refl, λ _ _ _ _ _ _ _ _. facts 𝓤 result)

pub turned_away-has_one_answer : {M : Type 1} → OneAnswer M turned_away.ended (λ 𝓤 𝓛. turned_away.clauses 𝓛) (λ 𝓤 𝓛. turned_away.spec 𝓛)
turned_away-has_one_answer 𝓤 𝓛 _ _ = (refl, λ _ _ _ _ _ _ _ _. facts 𝓤 result)
