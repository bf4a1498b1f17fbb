-- The public functions of event_record have one possible answer each. Assumes nothing.
use mathlib.Core.Path.{refl}
use Rattle.one_answer.specs.One.{OneAnswer}
use Rattle.one_answer.proofs.Law.{facts, result, result_and_lent}
use Rattle.event_record.specs.contracts.decode as decode
use Rattle.event_record.specs.contracts.encode as encode
use Rattle.event_record.specs.contracts.record_at as record-at
use Rattle.event_record.specs.contracts.keep_rest as keep_rest
use Rattle.event_record.specs.contracts.kind_at as kind_at

pub decode-has_one_answer : {M : Type 1} → OneAnswer M decode.ended (λ 𝓤 𝓛. decode.clauses 𝓛) (λ 𝓤 𝓛. decode.spec 𝓛)
decode-has_one_answer 𝓤 𝓛 _ _ = (refl, λ _ _ _ _ _ _ _ _. facts 𝓤 result)

pub encode-has_one_answer : {M : Type 1} → OneAnswer M encode.ended (λ 𝓤 𝓛. encode.clauses 𝓛) (λ 𝓤 𝓛. encode.spec 𝓛)
encode-has_one_answer 𝓤 𝓛 _ _ = (refl, λ _ _ _ _ _ _ _ _. facts 𝓤 result)

pub record-at-has_one_answer : {M : Type 1} → OneAnswer M record-at.ended (λ 𝓤 𝓛. record-at.clauses 𝓛) (λ 𝓤 𝓛. record-at.spec 𝓛)
record-at-has_one_answer 𝓤 𝓛 _ _ = (refl, λ _ _ _ _ _ _ _ _. facts 𝓤 result)

pub keep_rest-has_one_answer : {M : Type 1} → OneAnswer M keep_rest.ended (λ 𝓤 𝓛. keep_rest.clauses 𝓛) (λ 𝓤 𝓛. keep_rest.spec 𝓛)
keep_rest-has_one_answer 𝓤 𝓛 _ _ = (refl, λ _ _ _ _ _ _ _ _. facts 𝓤 (result_and_lent refl))

pub kind_at-has_one_answer : {M : Type 1} → OneAnswer M kind_at.ended (λ 𝓤 𝓛. kind_at.clauses 𝓛) (λ 𝓤 𝓛. kind_at.spec 𝓛)
kind_at-has_one_answer 𝓤 𝓛 _ _ = (refl, λ _ _ _ _ _ _ _ _. facts 𝓤 result)
