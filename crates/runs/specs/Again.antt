-- A setup that was heard and is sent again (02, Ask 3), at any end of a call: while that call lives, it is not taken. Assumes nothing.
use Rattle.std.specs.Prelude.{ℕ, ◌≤◌, ◌≡◌, true, List, [], ◌∷◌}
use Rattle.lent.specs.Keyed.{on_record}
use Rattle.runs.specs.Run.{End, KeyedRequest, Reply, Table, Control, event_by, table_after, empty_table, call_by_key}
use Rattle.runs.specs.Late.{Numbering, Rejected}
use Rattle.runs.specs.Account.{LawfulControl}
use Rattle.runs.specs.Demand.{KeepsDemandThree}

module _ (E : End) where
  -- The call of a key lives along requests: the key is on record before them, and after each. It is one call all along: a key that is on
  -- record is not opened anew, and no request both ends a call and opens one
  abbrev pub StaysOnRecord : Control E → ℕ → Table E → List (KeyedRequest E) → Type 0
  StaysOnRecord C k ys [] = on_record E.key k ys ≡ true
  StaysOnRecord C k ys (a ∷ more) = (on_record E.key k ys ≡ true) × StaysOnRecord C k (C ys a).table more

module _ (E : End) (N : Numbering E) where
  -- a call is past a number: it takes setups, and the number on record is not below that one
  abbrev pub IsPast : ℕ → E.Record → Type 0
  IsPast number c = (N.takes c ≡ true) × (number ≤ N.remote c)

module _ (E : End) (N : Numbering E) (Hears : Reply E → Type 0) where
  -- In any run from an empty table: a setup with a number is heard, as its reply tells; requests follow, whatever they are, and the call
  -- lives along them; then a setup with the same key and number comes, whatever else it carries. It is answered 0, turned away by the first
  -- check that it breaks, and changes no record: it is not taken.
  abbrev pub TakesNoneAgain : Control E → Type 0
  TakesNoneAgain C =
      (n : ℕ) (before between : List (KeyedRequest E)) (k number : ℕ) (first again : E.Event) →
      (k ≡ 0 → ⊥) → N.number first ≡ number ∷ [] → N.number again ≡ number ∷ [] →
      let ys = table_after E C (empty_table E n) before in
      let r = C ys (event_by E k first) in
      Hears r → StaysOnRecord E C k r.table between →
      let zs = table_after E C r.table between in Rejected E N zs (event_by E k again) (C zs (event_by E k again))

  -- ---- what a control shows for that, besides demand 3 and the laws of its account
  -- A setup that is heard is done, and the call that it leaves is past its number; and a call that is past a number is past it after every
  -- event that is done, while it lives. `L.met` names the call that an event leaves
  pub record Remembers (C : Control E) (L : LawfulControl E C) : Type 0 where
    pub done : (ys : Table E) (k : ℕ) (e : E.Event) → Hears (C ys (event_by E k e)) → (C ys (event_by E k e)).answer ≡ 0
    pub heard : (ys : Table E) (k number : ℕ) (e : E.Event) (d : (C ys (event_by E k e)).answer ≡ 0) → N.number e ≡ number ∷ [] →
        Hears (C ys (event_by E k e)) → IsPast E N number (L.met ys k e d).call
    pub keeps : (ys : Table E) (k number : ℕ) (e : E.Event) (d : (C ys (event_by E k e)).answer ≡ 0) →
        E.key (L.met ys k e d).call ≡ k → IsPast E N number (call_by_key E k ys) → IsPast E N number (L.met ys k e d).call

  -- Any control that shows this, and keeps demand 3, takes no such setup again: its number is late there.
  abbrev pub LawsTakeNoneAgain : Type 0
  LawsTakeNoneAgain = (C : Control E) (L : LawfulControl E C) → KeepsDemandThree E N C → Remembers C L → TakesNoneAgain C
