-- Setups that are late, or that ask for what an end does not support, inserted anywhere into a sequence of requests. Assumes nothing.
use Rattle.std.specs.Prelude.{ℕ, ◌≤◌, ◌≡◌, Bool, true, false, List, [], ◌∷◌, ◌⊎◌}
use Rattle.lent.specs.Keyed.{on_record}
use Rattle.runs.specs.Run.{End, meets, KeyedRequest, Reply, Table, Control, call_by_key}
use Rattle.runs.specs.Woven.{Strand, AtInsertions, LeftAlone}

-- The number check of an end: the neighbour's incarnation number on record; the number of a setup, and none of any other event; whether a
-- call takes such setups at all; whether it supports, as it is, what the setup asks for; and what is sent to turn it away, by the first
-- check that it breaks
pub record Numbering (E : End) : Type 0 where
  pub remote : E.Record → ℕ
  pub number : E.Event → List ℕ
  pub takes : E.Record → Bool
  pub supported : E.Record → E.Event → Bool
  pub reject : E.Record → E.Event → E.Signals

module _ (E : End) (N : Numbering E) where
  -- a setup for a call that is on record and takes such setups
  pub record SetupFor (ys : Table E) (a : KeyedRequest E) (e : E.Event) (n : ℕ) : Type 0 where
    pub is : a.does ≡ meets e
    pub numbered : N.number e ≡ n ∷ []
    pub named : a.key ≡ 0 → ⊥
    pub known : on_record E.key a.key ys ≡ true
    pub taken : N.takes (call_by_key E a.key ys) ≡ true

  -- it is late: its number is not above the one on record
  abbrev pub Late : Table E → KeyedRequest E → Type 0
  Late ys a = (e : E.Event) × ((n : ℕ) × (SetupFor ys a e n × (n ≤ N.remote (call_by_key E a.key ys))))

  -- it asks for what is not supported, whatever its number
  abbrev pub Unsupported : Table E → KeyedRequest E → Type 0
  Unsupported ys a = (e : E.Event) × ((n : ℕ) × (SetupFor ys a e n × (N.supported (call_by_key E a.key ys) e ≡ false)))

  -- either: what demand 3 inserts
  abbrev pub LateOrUnsupported : Table E → KeyedRequest E → Type 0
  LateOrUnsupported ys a = Late ys a ⊎ Unsupported ys a

  -- it is answered 0, turned away, and changes no record
  pub record Rejected (ys : Table E) (a : KeyedRequest E) (r : Reply E) : Type 0 where
    pub event : E.Event
    pub is : a.does ≡ meets event
    pub answer : r.answer ≡ 0
    pub signals : r.signals ≡ N.reject (call_by_key E a.key ys) event
    pub table : r.table ≡ ys

  -- what is inserted is turned away, each by the first check that it breaks, and all else is as without it
  pub record Harmless (C : Control E) (ys : Table E) (strands : List (Strand E)) : Type 0 where
    pub rejected : AtInsertions E C Rejected ys strands
    pub others : LeftAlone E C ys strands

  -- Where a control turns such requests away over every table of some kind, and keeps tables of that kind, they are harmless wherever they
  -- are inserted.
  abbrev pub TurnedAwayIsHarmless : Type 1
  TurnedAwayIsHarmless =
      (C : Control E) (Kind : Table E → Type 0) (Junk : Table E → KeyedRequest E → Type 0) →
      ((ys : Table E) (a : KeyedRequest E) → Kind ys → Kind (C ys a).table) →
      ((ys : Table E) (a : KeyedRequest E) → Kind ys → Junk ys a → Rejected ys a (C ys a)) →
      (ys : Table E) (strands : List (Strand E)) → Kind ys → AtInsertions E C (λ zs a r. Junk zs a) ys strands → Harmless C ys strands
