-- The public functions of signal have one possible answer each. Assumes nothing.
use mathlib.Core.Path.{refl}
use Rattle.one_answer.specs.One.{OneAnswer}
use Rattle.one_answer.proofs.Law.{facts, result}
use Rattle.signal.specs.contracts.SentCause.as_received as SentCause-as_received
use Rattle.signal.specs.contracts.SentCause.passed as SentCause-passed
use Rattle.signal.specs.contracts.Switchover.clearing as Switchover-clearing
use Rattle.signal.specs.contracts.Soft.number as Soft-number
use Rattle.signal.specs.contracts.Services.wanted as Services-wanted
use Rattle.signal.specs.contracts.Signal.naming as Signal-naming
use Rattle.signal.specs.contracts.Signal.release as Signal-release
use Rattle.signal.specs.contracts.Signal.rejection as Signal-rejection
use Rattle.signal.specs.contracts.Answer.number as Answer-number
use Rattle.signal.specs.contracts.fresh_after as fresh_after
use Rattle.signal.specs.contracts.late as late

pub SentCause-as_received-has_one_answer : {M : Type 1} →
    OneAnswer M SentCause-as_received.ended (λ 𝓤 𝓛. SentCause-as_received.clauses 𝓛) (λ 𝓤 𝓛. SentCause-as_received.spec 𝓛)
SentCause-as_received-has_one_answer 𝓤 𝓛 _ _ = (refl, λ _ _ _ _ _ _ _ _. facts 𝓤 result)

pub SentCause-passed-has_one_answer : {M : Type 1} →
    OneAnswer M SentCause-passed.ended (λ 𝓤 𝓛. SentCause-passed.clauses 𝓛) (λ 𝓤 𝓛. SentCause-passed.spec 𝓛)
SentCause-passed-has_one_answer 𝓤 𝓛 _ _ = (refl, λ _ _ _ _ _ _ _ _. facts 𝓤 result)

pub Switchover-clearing-has_one_answer : {M : Type 1} →
    OneAnswer M Switchover-clearing.ended (λ 𝓤 𝓛. Switchover-clearing.clauses 𝓛) (λ 𝓤 𝓛. Switchover-clearing.spec 𝓛)
Switchover-clearing-has_one_answer 𝓤 𝓛 _ _ = (refl, λ _ _ _ _ _ _ _ _. facts 𝓤 result)

pub Soft-number-has_one_answer : {M : Type 1} → OneAnswer M Soft-number.ended (λ 𝓤 𝓛. Soft-number.clauses 𝓛) (λ 𝓤 𝓛. Soft-number.spec 𝓛)
Soft-number-has_one_answer 𝓤 𝓛 _ _ = (refl, λ _ _ _ _ _ _ _ _. facts 𝓤 result)

pub Services-wanted-has_one_answer : {M : Type 1} →
    OneAnswer M Services-wanted.ended (λ 𝓤 𝓛. Services-wanted.clauses 𝓛) (λ 𝓤 𝓛. Services-wanted.spec 𝓛)
Services-wanted-has_one_answer 𝓤 𝓛 _ _ = (refl, λ _ _ _ _ _ _ _ _. facts 𝓤 result)

pub Signal-naming-has_one_answer : {M : Type 1} →
    OneAnswer M Signal-naming.ended (λ 𝓤 𝓛. Signal-naming.clauses 𝓛) (λ 𝓤 𝓛. Signal-naming.spec 𝓛)
Signal-naming-has_one_answer 𝓤 𝓛 _ _ = (refl, λ _ _ _ _ _ _ _ _. facts 𝓤 result)

pub Signal-release-has_one_answer : {M : Type 1} →
    OneAnswer M Signal-release.ended (λ 𝓤 𝓛. Signal-release.clauses 𝓛) (λ 𝓤 𝓛. Signal-release.spec 𝓛)
Signal-release-has_one_answer 𝓤 𝓛 _ _ = (refl, λ _ _ _ _ _ _ _ _. facts 𝓤 result)

pub Signal-rejection-has_one_answer : {M : Type 1} →
    OneAnswer M Signal-rejection.ended (λ 𝓤 𝓛. Signal-rejection.clauses 𝓛) (λ 𝓤 𝓛. Signal-rejection.spec 𝓛)
Signal-rejection-has_one_answer 𝓤 𝓛 _ _ = (refl, λ _ _ _ _ _ _ _ _. facts 𝓤 result)

pub Answer-number-has_one_answer : {M : Type 1} →
    OneAnswer M Answer-number.ended (λ 𝓤 𝓛. Answer-number.clauses 𝓛) (λ 𝓤 𝓛. Answer-number.spec 𝓛)
Answer-number-has_one_answer 𝓤 𝓛 _ _ = (refl, λ _ _ _ _ _ _ _ _. facts 𝓤 result)

pub fresh_after-has_one_answer : {M : Type 1} → OneAnswer M fresh_after.ended (λ 𝓤 𝓛. fresh_after.clauses 𝓛) (λ 𝓤 𝓛. fresh_after.spec 𝓛)
fresh_after-has_one_answer 𝓤 𝓛 _ _ = (refl, λ _ _ _ _ _ _ _ _. facts 𝓤 result)

pub late-has_one_answer : {M : Type 1} → OneAnswer M late.ended (λ 𝓤 𝓛. late.clauses 𝓛) (λ 𝓤 𝓛. late.spec 𝓛)
late-has_one_answer 𝓤 𝓛 _ _ = (refl, λ _ _ _ _ _ _ _ _. facts 𝓤 result)
