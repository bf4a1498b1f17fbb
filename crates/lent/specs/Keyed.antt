-- A table of records with keys, of any type: whether a key stands in it, whose record it is, and that record replaced. Assumes nothing.
use Rattle.std.specs.Prelude.{ℕ, Bool, false, ◌||◌, cond, List, [], ◌∷◌, eqb}

module _ {X : Type 0} (key : X → ℕ) where
  -- a key is on record
  abbrev pub on_record : ℕ → List X → Bool
  on_record k [] = false
  on_record k (c ∷ cs) = eqb (key c) k || on_record k cs

  -- the record of a key (the first), and the given one where none has it
  abbrev pub record_of : X → ℕ → List X → X
  record_of none k [] = none
  record_of none k (c ∷ cs) = cond (eqb (key c) k) c (record_of none k cs)

  -- the first record with a key replaced, and every other as it was
  abbrev pub replaced_for : ℕ → X → List X → List X
  replaced_for k d [] = []
  replaced_for k d (c ∷ cs) = cond (eqb (key c) k) (d ∷ cs) (c ∷ replaced_for k d cs)
