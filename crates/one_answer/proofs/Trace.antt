-- The public functions of fields, trace_line, trace_run and trace_feed have one possible answer each. Assumes nothing.
use mathlib.Core.Path.{◌≡◌, refl, ap}
use Rattle.one_answer.specs.One.{OneAnswer}
use contract.Monad.{fact_i}
use Rattle.one_answer.proofs.Law.{same, facts, pairs, lent}
use Rattle.lines.specs.Lines.{Page}
use Rattle.fields.specs.contracts.put_field as put_field
use Rattle.fields.specs.contracts.put_count as put_count
use Rattle.trace_line.specs.contracts.put_first_line as put_first_line
use Rattle.trace_line.specs.contracts.put_line as put_line
use Rattle.trace_run.specs.contracts.run as run
use Rattle.trace_feed.specs.contracts.serve as serve

pub put_field-has_one_answer : {M : Type 1} → OneAnswer M put_field.ended (λ 𝓤 𝓛. put_field.clauses 𝓛) (λ 𝓤 𝓛. put_field.spec 𝓛)
put_field-has_one_answer 𝓤 𝓛 _ _ = (refl, λ _ _ _ _ _ _ _ _. facts 𝓤 (lent refl))

pub put_count-has_one_answer : {M : Type 1} → OneAnswer M put_count.ended (λ 𝓤 𝓛. put_count.clauses 𝓛) (λ 𝓤 𝓛. put_count.spec 𝓛)
put_count-has_one_answer 𝓤 𝓛 _ _ = (refl, λ _ _ _ _ _ _ _ _. facts 𝓤 (lent refl))

pub put_first_line-has_one_answer : {M : Type 1} →
    OneAnswer M put_first_line.ended (λ 𝓤 𝓛. put_first_line.clauses 𝓛) (λ 𝓤 𝓛. put_first_line.spec 𝓛)
put_first_line-has_one_answer 𝓤 𝓛 _ _ = (refl, λ _ _ _ _ _ _ _ _. facts 𝓤 (lent refl))

pub put_line-has_one_answer : {M : Type 1} → OneAnswer M put_line.ended (λ 𝓤 𝓛. put_line.clauses 𝓛) (λ 𝓤 𝓛. put_line.spec 𝓛)
put_line-has_one_answer 𝓤 𝓛 _ _ = (refl, λ _ _ _ _ _ _ _ _. facts 𝓤 (lent refl))

-- each of the four fields that are answered has its equation, one of them with the buffer
pub run-has_one_answer : {M : Type 1} → OneAnswer M run.ended (λ 𝓤 𝓛. run.clauses 𝓛) (λ 𝓤 𝓛. run.spec 𝓛)
run-has_one_answer 𝓤 𝓛 _ _ = (
  refl,
  λ _ _ _ _ _ _ _ _. facts 𝓤 (λ p q.
      let buffer : ◌≡◌ {A = Page} _ _ = same p.1.1.1.0 q.1.1.1.0 in (
        λ i. record { table = same p.0 q.0 i; at = (buffer i).at; count = same p.1.0 q.1.0 i; good = same p.1.1.0 q.1.1.0 i },
        pairs refl (pairs refl (pairs refl (pairs (ap (λ (x : Page). x.bytes) buffer) refl))),
      )),
)

-- nothing is answered, and nothing lent to be written
pub serve-has_one_answer : {M : Type 1} → OneAnswer M serve.ended (λ 𝓤 𝓛. serve.clauses 𝓛) (λ 𝓤 𝓛. serve.spec 𝓛)
serve-has_one_answer 𝓤 𝓛 _ _ = (refl, λ _ _ _ _ _ _ _ _. fact_i 𝓤 _ _ (refl, refl))
