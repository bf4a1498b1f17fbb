-- A sequence of requests with others inserted anywhere into it. Assumes nothing.
use Rattle.std.specs.Prelude.{◌≡◌, List, [], ◌∷◌}
use Rattle.runs.specs.Run.{End, KeyedRequest, Reply, Table, Control, replies_to, table_after}

module _ (E : End) where
  -- a request of the sequence itself, or one that is inserted
  pub data Strand : Type 0 where
    own : KeyedRequest E → Strand
    inserted : KeyedRequest E → Strand

  -- the sequence by itself, and with what is inserted
  abbrev pub itself : List Strand → List (KeyedRequest E)
  itself [] = []
  itself (own a ∷ more) = a ∷ itself more
  itself (inserted a ∷ more) = itself more

  abbrev pub woven : List Strand → List (KeyedRequest E)
  woven [] = []
  woven (own a ∷ more) = a ∷ woven more
  woven (inserted a ∷ more) = a ∷ woven more

  -- of the replies to a woven sequence, those to its own requests
  abbrev pub own_replies : List Strand → List (Reply E) → List (Reply E)
  own_replies [] rs = []
  own_replies (own a ∷ more) [] = []
  own_replies (own a ∷ more) (r ∷ rs) = r ∷ own_replies more rs
  own_replies (inserted a ∷ more) [] = []
  own_replies (inserted a ∷ more) (r ∷ rs) = own_replies more rs

  module _ (C : Control E) where
    -- P holds of each insertion: of the table then, the request, and what the control replies to it
    abbrev pub AtInsertions : (Table E → KeyedRequest E → Reply E → Type 0) → Table E → List Strand → Type 0
    AtInsertions P ys [] = Unit {0}
    AtInsertions P ys (own a ∷ more) = AtInsertions P (C ys a).table more
    AtInsertions P ys (inserted a ∷ more) = P ys a (C ys a) × AtInsertions P (C ys a).table more

    -- what the insertions leave: every reply to the sequence's own requests, answer, signals and table, and the table at the end
    pub record LeftAlone (ys : Table E) (strands : List Strand) : Type 0 where
      pub replies : own_replies strands (replies_to E C ys (woven strands)) ≡ replies_to E C ys (itself strands)
      pub table : table_after E C ys (woven strands) ≡ table_after E C ys (itself strands)

    -- Insertions that each leave the table as it was leave all else: what follows is answered as if they had not been.
    abbrev pub InertInsertions : Type 0
    InertInsertions =
        (ys : Table E) (strands : List Strand) → AtInsertions (λ zs a r. r.table ≡ zs) ys strands → LeftAlone ys strands
