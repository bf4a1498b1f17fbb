-- The public functions of streams that no stream is lent to have one possible answer each, the zeros of whatever length. Assumes nothing.
use denote.RattleType.{RattleType}
use mathlib.Core.Path.{refl}
use Rattle.one_answer.specs.One.{OneAnswer}
use Rattle.one_answer.proofs.Law.{facts, facts_behind, result}
use Rattle.streams.specs.contracts.Failure.told as Failure-told
use Rattle.streams.specs.contracts.zeros as zeros

pub zeros-has_one_answer : {M : Type 1} → (N : RattleType) → OneAnswer M (zeros.ended N) (λ 𝓤 𝓛. zeros.clauses N 𝓛) (λ 𝓤 𝓛. zeros.spec N 𝓛)
zeros-has_one_answer N 𝓤 𝓛 _ _ = (refl, λ _ _ _ _ _ _ _ _. facts_behind 𝓤 result)

pub Failure-told-has_one_answer : {M : Type 1} → OneAnswer M Failure-told.ended (λ 𝓤 𝓛. Failure-told.clauses 𝓛) (λ 𝓤 𝓛. Failure-told.spec 𝓛)
Failure-told-has_one_answer 𝓤 𝓛 _ _ = (refl, λ _ _ _ _ _ _ _ _. facts 𝓤 result)
