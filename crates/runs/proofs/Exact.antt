-- Where a document leaves one answer, it leaves one control (specs/Exact), proved. Assumes nothing.
use mathlib.Core.Path.{◌≡◌, refl, sym, ◌∙◌}
use mathlib.Core.Bool.{Bool, true, false}
use lib.Dec.{eqb}
use borrow.Author.Tests.{eqb-true, eqb-false}
use Rattle.runs.specs.Run.{End, Reply}
use Rattle.runs.specs.Exact.{Document}
use Rattle.runs.specs.Exact as claim

pub one_number_leaves_one_control : (E : End) (D : Document E) → claim.OneNumberLeavesOneControl E D
one_number_leaves_one_control E D one B C answers does silent answers' does' silent' ys a = by_test (eqb (B ys a).answer 0) refl
  where
    same : (B ys a).answer ≡ (C ys a).answer
    same = one ys a _ _ (answers ys a) (answers' ys a)

    replies : {r s : Reply E} → r.answer ≡ s.answer → r.signals ≡ s.signals → r.table ≡ s.table → r ≡ s
    replies p q t i = record { answer = p i; signals = q i; table = t i }

    by_test : (b : Bool) → eqb (B ys a).answer 0 ≡ b → B ys a ≡ C ys a
    by_test true h =
        let done = eqb-true (B ys a).answer 0 h in
        let ours = does ys a done in
        let theirs = does' ys a (sym same ∙ done) in
        replies same (ours.1 ∙ sym theirs.1) (ours.0 ∙ sym theirs.0)
    by_test false h =
        let refused = eqb-false (B ys a).answer 0 h in
        let ours = silent ys a refused in
        let theirs = silent' ys a (λ e. refused (same ∙ e)) in
        replies same (ours.1 ∙ sym theirs.1) (ours.0 ∙ sym theirs.0)
