-- Demand 3 (README.md) as one statement about a control of any end of a call, what such a control shows to keep it, and what it says at the
-- least, so that it is not kept by saying nothing. Assumes nothing.
use Rattle.std.specs.Prelude.{ℕ, ◌+◌, ◌≤◌, ◌≡◌, List, [], ◌∷◌, ◌++◌, ◌⊎◌}
use Rattle.signal.specs.Counting.{count}
use Rattle.runs.specs.Run.{End, meets, Table, KeyedRequest, Control, table_after, empty_table, call_by_key, RefusalsAreSilent}
use Rattle.runs.specs.Woven.{Strand, AtInsertions}
use Rattle.runs.specs.Woven as weave
use Rattle.runs.specs.Late.{Numbering, LateOrUnsupported, Rejected, Harmless}
use Rattle.runs.specs.Account.{empty_log, one_to, Settled, given_between, ended_by, logged, Account, Accounting, LawfulControl}

module _ (E : End) where
  -- the account of a key at the end of a sequence from an empty table of n records
  abbrev pub AccountAt : Control E → ℕ → List (KeyedRequest E) → ℕ → Type 0
  AccountAt C n requests k =
      Account E (call_by_key E k (table_after E C (empty_table E n) requests)) (logged E C k (empty_table E n) empty_log requests)

  -- and at every point of it: wherever it is cut in two, the account of every key is kept at the end of the first part
  abbrev pub AccountedThroughout : Control E → ℕ → List (KeyedRequest E) → Type 0
  AccountedThroughout C n requests =
      (before behind : List (KeyedRequest E)) → before ++ behind ≡ requests → (k : ℕ) → (k ≡ 0 → ⊥) → AccountAt C n before k

module _ (E : End) (N : Numbering E) where
  -- each request that is inserted is a setup which, at its point, is late or asks for what is not supported
  abbrev pub LateInserted : Control E → ℕ → List (Strand E) → Type 0
  LateInserted C n strands = AtInsertions E C (λ ys a r. LateOrUnsupported E N ys a) (empty_table E n) strands

  -- Each of them is answered 0, turned away by the first check that it breaks, and changes no record, and all else is as without them; and
  -- at every point, without them and with them, every number given to the call of a key is held, or has been ended exactly once
  pub record Upheld (C : Control E) (n : ℕ) (strands : List (Strand E)) : Type 0 where
    pub harmless : Harmless E N C (empty_table E n) strands
    pub itself : AccountedThroughout E C n (weave.itself E strands)
    pub woven : AccountedThroughout E C n (weave.woven E strands)

  abbrev pub DemandThreeAt : Control E → ℕ → List (Strand E) → Type 0
  DemandThreeAt C n strands = LateInserted C n strands → Upheld C n strands

  -- Demand 3: from an empty table of any length, of any sequence with such insertions.
  abbrev pub KeepsDemandThree : Control E → Type 0
  KeepsDemandThree C = (n : ℕ) (strands : List (Strand E)) → DemandThreeAt C n strands

  -- ---- what a control shows for that
  -- Tables of some kind (the fit ones) stay of that kind, and over them such setups are turned away. An empty table is of that kind, or
  -- every request over it is refused
  pub record TurnsAway (C : Control E) : Type 1 where
    pub Fit : Table E → Type 0
    pub begins : (n : ℕ) → Fit (empty_table E n) ⊎ ((a : KeyedRequest E) → (C (empty_table E n) a).answer ≡ 0 → ⊥)
    pub stays : (ys : Table E) (a : KeyedRequest E) → Fit ys → Fit (C ys a).table
    pub rejects : (ys : Table E) (a : KeyedRequest E) → Fit ys → LateOrUnsupported E N ys a → Rejected E N ys a (C ys a)

  -- Any control that shows this, and the laws of the account, keeps demand 3.
  abbrev pub LawsKeepDemandThree : Type 1
  LawsKeepDemandThree = (C : Control E) → LawfulControl E C → TurnsAway C → KeepsDemandThree C

  -- An empty table takes no such setup: nothing is on record.
  abbrev pub NothingToInsert : Type 0
  NothingToInsert = E.key E.empty ≡ 0 → (n : ℕ) (a : KeyedRequest E) → LateOrUnsupported E N (empty_table E n) a → ⊥

  -- So where every request over an empty table is refused, no call comes on record, and nothing is ever inserted.
  abbrev pub NothingInsertedWhereRefused : Type 0
  NothingInsertedWhereRefused =
      (C : Control E) → E.key E.empty ≡ 0 → RefusalsAreSilent E C →
      (n : ℕ) → ((a : KeyedRequest E) → (C (empty_table E n) a).answer ≡ 0 → ⊥) →
      (strands : List (Strand E)) → LateInserted C n strands → weave.woven E strands ≡ weave.itself E strands

  -- ---- what demand 3 says at the least, of any control, in words that read no more off a log than what was given and ended
  -- at every point of every run such a setup, where there is one, is rejected
  abbrev pub RejectsAnywhere : Control E → Type 0
  RejectsAnywhere C =
      (n : ℕ) (before : List (KeyedRequest E)) (a : KeyedRequest E) →
      let ys = table_after E C (empty_table E n) before in LateOrUnsupported E N ys a → Rejected E N ys a (C ys a)

  -- every event of a run that is done balances: what the call held, with the number given, is what it holds then and what was ended, by a
  -- release received or sent, each number counted
  abbrev pub BalancesAnywhere : Control E → Type 0
  BalancesAnywhere C =
      (n : ℕ) (before : List (KeyedRequest E)) (k : ℕ) (e : E.Event) → (k ≡ 0 → ⊥) →
      let ys = table_after E C (empty_table E n) before in
      let r = C ys (record { key = k; does = meets e }) in
      r.answer ≡ 0 → (x : ℕ) →
      count x (E.held (call_by_key E k ys)) + count x (given_between E (call_by_key E k ys) (call_by_key E k r.table))
      ≡ count x (E.held (call_by_key E k r.table)) + count x (ended_by E e r)

  -- a setup that is sent on any request for a key names a number that was given to its call
  abbrev pub NamesGivenAnywhere : Control E → Type 0
  NamesGivenAnywhere C =
      (n : ℕ) (before : List (KeyedRequest E)) (a : KeyedRequest E) → (a.key ≡ 0 → ⊥) → (x : ℕ) → 1 ≤ x →
      count x (E.requested (C (table_after E C (empty_table E n) before) a).signals)
      ≤ count x (logged E C a.key (empty_table E n) empty_log (before ++ (a ∷ []))).given

  -- while a call is on record, the numbers given to it are 1 to its last
  abbrev pub NumbersAnywhere : Control E → Type 0
  NumbersAnywhere C =
      (n : ℕ) (before : List (KeyedRequest E)) (k : ℕ) → (k ≡ 0 → ⊥) →
      let c = call_by_key E k (table_after E C (empty_table E n) before) in
      (E.key c ≡ 0 → ⊥) → (logged E C k (empty_table E n) empty_log before).given ≡ one_to (E.last c)

  -- and once it has ended each of them was ended exactly once, and no other
  abbrev pub SettlesAnywhere : Control E → Type 0
  SettlesAnywhere C =
      (n : ℕ) (before : List (KeyedRequest E)) (k : ℕ) → (k ≡ 0 → ⊥) →
      E.key (call_by_key E k (table_after E C (empty_table E n) before)) ≡ 0 →
      let l = logged E C k (empty_table E n) empty_log before in Settled (record { given = l.given; ended = l.ended })

  -- setups of one kind alone, say the late ones, are harmless too
  abbrev pub OneKindIsHarmless : Control E → Type 1
  OneKindIsHarmless C =
      (Kind : Table E → KeyedRequest E → Type 0) → ((ys : Table E) (a : KeyedRequest E) → Kind ys a → LateOrUnsupported E N ys a) →
      (n : ℕ) (strands : List (Strand E)) → AtInsertions E C (λ ys a r. Kind ys a) (empty_table E n) strands →
      Harmless E N C (empty_table E n) strands

  -- all of that, and the account in every run
  pub record AtTheLeast (C : Control E) : Type 1 where
    pub rejects : RejectsAnywhere C
    pub balances : BalancesAnywhere C
    pub names : NamesGivenAnywhere C
    pub numbers : NumbersAnywhere C
    pub settles : SettlesAnywhere C
    pub one_kind : OneKindIsHarmless C
    pub account : Accounting E C

  abbrev pub DemandThreeSays : Type 1
  DemandThreeSays = (C : Control E) → KeepsDemandThree C → AtTheLeast C
