-- The public functions of lines have one possible answer each. Assumes nothing.
use mathlib.Core.Path.{refl}
use Rattle.one_answer.specs.One.{OneAnswer}
use Rattle.one_answer.proofs.Law.{facts, lent}
use Rattle.lines.specs.contracts.Line.put_byte as put_byte
use Rattle.lines.specs.contracts.Line.put_word as put_word
use Rattle.lines.specs.contracts.Line.put_number as put_number
use Rattle.lines.specs.contracts.Line.put_numbered as put_numbered

pub put_byte-has_one_answer : {M : Type 1} → OneAnswer M put_byte.ended (λ 𝓤 𝓛. put_byte.clauses 𝓛) (λ 𝓤 𝓛. put_byte.spec 𝓛)
put_byte-has_one_answer 𝓤 𝓛 _ _ = (refl, λ _ _ _ _ _ _ _ _. facts 𝓤 (lent refl))

pub put_word-has_one_answer : {M : Type 1} → OneAnswer M put_word.ended (λ 𝓤 𝓛. put_word.clauses 𝓛) (λ 𝓤 𝓛. put_word.spec 𝓛)
put_word-has_one_answer 𝓤 𝓛 _ _ = (refl, λ _ _ _ _ _ _ _ _. facts 𝓤 (lent refl))

pub put_number-has_one_answer : {M : Type 1} → OneAnswer M put_number.ended (λ 𝓤 𝓛. put_number.clauses 𝓛) (λ 𝓤 𝓛. put_number.spec 𝓛)
put_number-has_one_answer 𝓤 𝓛 _ _ = (refl, λ _ _ _ _ _ _ _ _. facts 𝓤 (lent refl))

pub put_numbered-has_one_answer : {M : Type 1} → OneAnswer M put_numbered.ended (λ 𝓤 𝓛. put_numbered.clauses 𝓛) (λ 𝓤 𝓛. put_numbered.spec 𝓛)
put_numbered-has_one_answer 𝓤 𝓛 _ _ = (refl, λ _ _ _ _ _ _ _ _. facts 𝓤 (lent refl))
