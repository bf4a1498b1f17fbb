-- What is turned away is harmless wherever it is inserted (specs/Late), proved. Assumes nothing.
use mathlib.Core.Path.{◌≡◌}
use mathlib.Core.List.{List, [], ◌∷◌}
use Rattle.runs.specs.Run.{End, KeyedRequest, Reply, Table, Control}
use Rattle.runs.specs.Woven.{Strand, own, inserted, AtInsertions}
use Rattle.runs.specs.Late.{Numbering, Rejected}
use Rattle.runs.specs.Late as claim
use Rattle.runs.proofs.Woven.{inert_insertions}

module _ (E : End) (C : Control E) (Kind : Table E → Type 0) (keeps : (ys : Table E) (a : KeyedRequest E) → Kind ys → Kind (C ys a).table) where
  -- what holds of an insertion over every table of a kind holds of all of them, since every table of the run is of that kind
  at_all : (P Q : Table E → KeyedRequest E → Reply E → Type 0) →
      ((ys : Table E) (a : KeyedRequest E) → Kind ys → P ys a (C ys a) → Q ys a (C ys a)) →
      (ys : Table E) (strands : List (Strand E)) → Kind ys → AtInsertions E C P ys strands → AtInsertions E C Q ys strands
  at_all P Q f ys [] kind at = tt
  at_all P Q f ys (own a ∷ more) kind at = at_all P Q f (C ys a).table more (keeps ys a kind) at
  at_all P Q f ys (inserted a ∷ more) kind at = (f ys a kind at.0, at_all P Q f (C ys a).table more (keeps ys a kind) at.1)

pub turned_away_is_harmless : (E : End) (N : Numbering E) → claim.TurnedAwayIsHarmless E N
turned_away_is_harmless E N C Kind Junk keeps rejects ys strands kind at =
    record {
      rejected = at_all E C Kind keeps (λ zs a r. Junk zs a) (Rejected E N) rejects ys strands kind at;
      others =
          inert_insertions E C ys strands
          (at_all E C Kind keeps (λ zs a r. Junk zs a) (λ zs a r. r.table ≡ zs) (λ zs a k j. (rejects zs a k j).table) ys strands kind at);
    }
