-- The public functions of event_words have one possible answer each. Assumes nothing.
use mathlib.Core.Path.{refl}
use Rattle.one_answer.specs.One.{OneAnswer}
use Rattle.one_answer.proofs.Law.{facts, lent}
use Rattle.event_words.specs.contracts.put_event as put_event
use Rattle.event_words.specs.contracts.put_keyless as put_keyless
use Rattle.event_words.specs.contracts.put_program as put_program

pub put_event-has_one_answer : {M : Type 1} → OneAnswer M put_event.ended (λ 𝓤 𝓛. put_event.clauses 𝓛) (λ 𝓤 𝓛. put_event.spec 𝓛)
put_event-has_one_answer 𝓤 𝓛 _ _ = (refl, λ _ _ _ _ _ _ _ _. facts 𝓤 (lent refl))

pub put_keyless-has_one_answer : {M : Type 1} → OneAnswer M put_keyless.ended (λ 𝓤 𝓛. put_keyless.clauses 𝓛) (λ 𝓤 𝓛. put_keyless.spec 𝓛)
put_keyless-has_one_answer 𝓤 𝓛 _ _ = (refl, λ _ _ _ _ _ _ _ _. facts 𝓤 (lent refl))

pub put_program-has_one_answer : {M : Type 1} → OneAnswer M put_program.ended (λ 𝓤 𝓛. put_program.clauses 𝓛) (λ 𝓤 𝓛. put_program.spec 𝓛)
put_program-has_one_answer 𝓤 𝓛 _ _ = (refl, λ _ _ _ _ _ _ _ _. facts 𝓤 (lent refl))
