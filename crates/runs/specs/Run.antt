-- One end of a call, as far as runs and the account of connection numbers need it; a control over a table of such calls; and its runs.
-- Assumes nothing.
use Rattle.std.specs.Prelude.{ℕ, ◌≡◌, List, [], ◌∷◌, replicate}
use Rattle.lent.specs.Keyed.{record_of}

-- The records, openings, events and signals of an end. Of a record: its key, the last connection number given, and the connections that its
-- state holds. Of an event: the connections whose release it reports. Of what is sent: the connections that are released, and those that
-- are asked for by a setup; and what stands for nothing sent
pub record End : Type 1 where
  pub Record : Type 0
  pub Wanted : Type 0
  pub Event : Type 0
  pub Signals : Type 0
  pub empty : Record
  pub key : Record → ℕ
  pub last : Record → ℕ
  pub held : Record → List ℕ
  pub reported : Event → List ℕ
  pub silent : Signals
  pub released : Signals → List ℕ
  pub requested : Signals → List ℕ

-- what is done with a key: a call is opened, or an event meets it
pub data Does (Opening Happening : Type 0) : Type 0 where
  opens : Opening → Does Opening Happening
  meets : Happening → Does Opening Happening

-- a request: a key, and what is done with it
pub record KeyedRequest (E : End) : Type 0 where
  pub key : ℕ
  pub does : Does E.Wanted E.Event

-- an event by a key
abbrev pub event_by : (E : End) → ℕ → E.Event → KeyedRequest E
event_by E k e = record { key = k; does = meets e }

-- the records of a table, in their order
abbrev pub Table : End → Type 0
Table E = List E.Record

-- what a control makes of a table and a request: the answer's number, the signals, and the table afterwards
pub record Reply (E : End) : Type 0 where
  pub answer : ℕ
  pub signals : E.Signals
  pub table : Table E

abbrev pub Control : End → Type 0
Control E = Table E → KeyedRequest E → Reply E

module _ (E : End) (C : Control E) where
  -- requests, each answered in turn: the replies along the way
  abbrev pub replies_to : Table E → List (KeyedRequest E) → List (Reply E)
  replies_to ys [] = []
  replies_to ys (a ∷ more) = C ys a ∷ replies_to (C ys a).table more

  -- and the table at the end
  abbrev pub table_after : Table E → List (KeyedRequest E) → Table E
  table_after ys [] = ys
  table_after ys (a ∷ more) = table_after (C ys a).table more

  -- A refusal changes no record and sends no signal, over any table.
  abbrev pub RefusalsAreSilent : Type 0
  RefusalsAreSilent =
      (ys : Table E) (a : KeyedRequest E) → ((C ys a).answer ≡ 0 → ⊥) → ((C ys a).table ≡ ys) × ((C ys a).signals ≡ E.silent)

-- an empty table of n records
abbrev pub empty_table : (E : End) → ℕ → Table E
empty_table E n = replicate n E.empty

-- the call of a key, and the empty record where none has it
abbrev pub call_by_key : (E : End) → ℕ → Table E → E.Record
call_by_key E k ys = record_of E.key E.empty k ys
