-- The public functions of signal_words have one possible answer each. Assumes nothing.
use mathlib.Core.Path.{refl}
use Rattle.one_answer.specs.One.{OneAnswer}
use Rattle.one_answer.proofs.Law.{facts, lent}
use Rattle.signal_words.specs.contracts.put_signals as put_signals

pub put_signals-has_one_answer : {M : Type 1} → OneAnswer M put_signals.ended (λ 𝓤 𝓛. put_signals.clauses 𝓛) (λ 𝓤 𝓛. put_signals.spec 𝓛)
put_signals-has_one_answer 𝓤 𝓛 _ _ = (refl, λ _ _ _ _ _ _ _ _. facts 𝓤 (lent refl))
