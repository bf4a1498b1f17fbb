-- Insertions that leave the table as it was leave all else (specs/Woven), proved. Assumes nothing.
use mathlib.Core.Path.{refl, ◌∙◌, ap}
use mathlib.Core.List.{[], ◌∷◌}
use Rattle.runs.specs.Run.{End, Control, replies_to, table_after}
use Rattle.runs.specs.Woven.{own, inserted, itself}
use Rattle.runs.specs.Woven as claim

pub inert_insertions : (E : End) (C : Control E) → claim.InertInsertions E C
inert_insertions E C ys [] at = record { replies = refl; table = refl }
inert_insertions E C ys (own a ∷ more) at =
    let rest = inert_insertions E C (C ys a).table more at in
    record { replies = ap (λ rs. C ys a ∷ rs) rest.replies; table = rest.table }
inert_insertions E C ys (inserted a ∷ more) at =
    let rest = inert_insertions E C (C ys a).table more at.1 in
    record {
      replies = rest.replies ∙ ap (λ zs. replies_to E C zs (itself E more)) at.0;
      table = rest.table ∙ ap (λ zs. table_after E C zs (itself E more)) at.0;
    }
