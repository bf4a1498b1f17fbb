-- The public functions of call_words have one possible answer each. Assumes nothing.
use mathlib.Core.Path.{refl}
use Rattle.one_answer.specs.One.{OneAnswer}
use Rattle.one_answer.proofs.Law.{facts, lent}
use Rattle.call_words.specs.contracts.put_call as put_call

pub put_call-has_one_answer : {M : Type 1} → OneAnswer M put_call.ended (λ 𝓤 𝓛. put_call.clauses 𝓛) (λ 𝓤 𝓛. put_call.spec 𝓛)
put_call-has_one_answer 𝓤 𝓛 _ _ = (refl, λ _ _ _ _ _ _ _ _. facts 𝓤 (lent refl))
