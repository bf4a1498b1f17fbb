-- The public functions of rows have one possible answer each. Assumes nothing.
use mathlib.Core.Path.{refl}
use Rattle.one_answer.specs.One.{OneAnswer}
use Rattle.one_answer.proofs.Law.{facts, result, told}
use Rattle.rows.specs.contracts.State.number as State-number
use Rattle.rows.specs.contracts.State.incumbent as State-incumbent
use Rattle.rows.specs.contracts.State.rerouting as State-rerouting
use Rattle.rows.specs.contracts.class_of as class_of
use Rattle.rows.specs.contracts.Effect.refused as Effect-refused
use Rattle.rows.specs.contracts.Effect.done as Effect-done
use Rattle.rows.specs.contracts.Effect.given as Effect-given
use Rattle.rows.specs.contracts.party_kind as party_kind
use Rattle.rows.specs.contracts.Effect.moved as Effect-moved
use Rattle.rows.specs.contracts.Effect.rejected as Effect-rejected
use Rattle.rows.specs.contracts.Effect.told as Effect-told
use Rattle.rows.specs.contracts.Effect.told_stopping as Effect-told_stopping

pub State-number-has_one_answer : {M : Type 1} → OneAnswer M State-number.ended (λ 𝓤 𝓛. State-number.clauses 𝓛) (λ 𝓤 𝓛. State-number.spec 𝓛)
State-number-has_one_answer 𝓤 𝓛 _ _ = (refl, λ _ _ _ _ _ _ _ _. facts 𝓤 result)

pub State-incumbent-has_one_answer : {M : Type 1} →
    OneAnswer M State-incumbent.ended (λ 𝓤 𝓛. State-incumbent.clauses 𝓛) (λ 𝓤 𝓛. State-incumbent.spec 𝓛)
State-incumbent-has_one_answer 𝓤 𝓛 _ _ = (refl, λ _ _ _ _ _ _ _ _. facts 𝓤 result)

pub State-rerouting-has_one_answer : {M : Type 1} →
    OneAnswer M State-rerouting.ended (λ 𝓤 𝓛. State-rerouting.clauses 𝓛) (λ 𝓤 𝓛. State-rerouting.spec 𝓛)
State-rerouting-has_one_answer 𝓤 𝓛 _ _ = (refl, λ _ _ _ _ _ _ _ _. facts 𝓤 result)

pub class_of-has_one_answer : {M : Type 1} → OneAnswer M class_of.ended (λ 𝓤 𝓛. class_of.clauses 𝓛) (λ 𝓤 𝓛. class_of.spec 𝓛)
class_of-has_one_answer 𝓤 𝓛 _ _ = (refl, λ _ _ _ _ _ _ _ _. facts 𝓤 told)

pub Effect-refused-has_one_answer : {M : Type 1} →
    OneAnswer M Effect-refused.ended (λ 𝓤 𝓛. Effect-refused.clauses 𝓛) (λ 𝓤 𝓛. Effect-refused.spec 𝓛)
Effect-refused-has_one_answer 𝓤 𝓛 _ _ = (refl, λ _ _ _ _ _ _ _ _. facts 𝓤 result)

pub Effect-done-has_one_answer : {M : Type 1} → OneAnswer M Effect-done.ended (λ 𝓤 𝓛. Effect-done.clauses 𝓛) (λ 𝓤 𝓛. Effect-done.spec 𝓛)
Effect-done-has_one_answer 𝓤 𝓛 _ _ = (refl, λ _ _ _ _ _ _ _ _. facts 𝓤 result)

pub Effect-given-has_one_answer : {M : Type 1} → OneAnswer M Effect-given.ended (λ 𝓤 𝓛. Effect-given.clauses 𝓛) (λ 𝓤 𝓛. Effect-given.spec 𝓛)
Effect-given-has_one_answer 𝓤 𝓛 _ _ = (refl, λ _ _ _ _ _ _ _ _. facts 𝓤 result)

pub party_kind-has_one_answer : {M : Type 1} → OneAnswer M party_kind.ended (λ 𝓤 𝓛. party_kind.clauses 𝓛) (λ 𝓤 𝓛. party_kind.spec 𝓛)
party_kind-has_one_answer 𝓤 𝓛 _ _ = (refl, λ _ _ _ _ _ _ _ _. facts 𝓤 result)

pub Effect-moved-has_one_answer : {M : Type 1} → OneAnswer M Effect-moved.ended (λ 𝓤 𝓛. Effect-moved.clauses 𝓛) (λ 𝓤 𝓛. Effect-moved.spec 𝓛)
Effect-moved-has_one_answer 𝓤 𝓛 _ _ = (refl, λ _ _ _ _ _ _ _ _. facts 𝓤 result)

pub Effect-rejected-has_one_answer : {M : Type 1} →
    OneAnswer M Effect-rejected.ended (λ 𝓤 𝓛. Effect-rejected.clauses 𝓛) (λ 𝓤 𝓛. Effect-rejected.spec 𝓛)
Effect-rejected-has_one_answer 𝓤 𝓛 _ _ = (refl, λ _ _ _ _ _ _ _ _. facts 𝓤 result)

pub Effect-told-has_one_answer : {M : Type 1} → OneAnswer M Effect-told.ended (λ 𝓤 𝓛. Effect-told.clauses 𝓛) (λ 𝓤 𝓛. Effect-told.spec 𝓛)
Effect-told-has_one_answer 𝓤 𝓛 _ _ = (refl, λ _ _ _ _ _ _ _ _. facts 𝓤 result)

pub Effect-told_stopping-has_one_answer : {M : Type 1} →
    OneAnswer M Effect-told_stopping.ended (λ 𝓤 𝓛. Effect-told_stopping.clauses 𝓛) (λ 𝓤 𝓛. Effect-told_stopping.spec 𝓛)
Effect-told_stopping-has_one_answer 𝓤 𝓛 _ _ = (refl, λ _ _ _ _ _ _ _ _. facts 𝓤 result)
