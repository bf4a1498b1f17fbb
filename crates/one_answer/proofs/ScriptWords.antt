-- The public functions of script_words have one possible answer each. Assumes nothing.
use mathlib.Core.Path.{refl}
use Rattle.one_answer.specs.One.{OneAnswer}
use Rattle.one_answer.proofs.Law.{facts, lent}
use Rattle.script_words.specs.contracts.put_what as put_what

pub put_what-has_one_answer : {M : Type 1} → OneAnswer M put_what.ended (λ 𝓤 𝓛. put_what.clauses 𝓛) (λ 𝓤 𝓛. put_what.spec 𝓛)
put_what-has_one_answer 𝓤 𝓛 _ _ = (refl, λ _ _ _ _ _ _ _ _. facts 𝓤 (lent refl))
