-- Where controls that do not do the work break what a document asks (specs/ShutOut), proved. Assumes nothing.
use mathlib.Core.Path.{◌≡◌, refl, ◌∙◌}
use mathlib.Core.Bool.{Bool, true, false, cond, false≢true}
use Rattle.lent.specs.Keyed.{replaced_for}
use Rattle.runs.specs.Run.{End, Reply, call_by_key}
use Rattle.runs.specs.Exact.{Document, stored_for, sent_for}
use Rattle.runs.specs.ShutOut as claim

module _ (E : End) (D : Document E) where
  pub refusing_breaks : claim.RefusingBreaks E D
  refusing_breaks one number never ys a done h = never ys a (one ys a _ _ h done)

  pub constant_breaks : claim.ConstantBreaks E D
  constant_breaks one r ys zs a b m n first second other h = other (one ys a _ _ first h.0 ∙ one zs b _ _ h.1 second)

  pub untouching_breaks : claim.UntouchingBreaks E D
  untouching_breaks C ys a done changed h = changed (h done).0

  pub moving_breaks : claim.MovingBreaks E D
  moving_breaks C new moved ys a met sends h = by_test (claim.moves E C new ys a) met h
    where
      moves_numbers : Reply E
      moves_numbers = record { answer = 0; signals = E.silent; table = replaced_for E.key a.key (moved (call_by_key E a.key ys)) ys }

      by_test : (b : Bool) → b ≡ true →
          ((cond b moves_numbers (C ys a)).answer ≡ 0 →
          ((cond b moves_numbers (C ys a)).table ≡ stored_for E D ys a.key a.does) × ((cond b moves_numbers (C ys a)).signals ≡ sent_for E D ys a.key a.does)) → ⊥
      by_test true t g = sends (g refl).1
      by_test false t g = absurd (false≢true t)
