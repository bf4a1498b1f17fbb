-- The claims on one opening or event over a lent row of records, at either end: any row, fit or not, any key and any act. `Ran` is what is
-- decided, and `table_of` the row after it: the two that the contracts of `handle` and `handle64` fix. "01" is the scope document, a demand
-- one of the three in README.md. Proofs: proofs/Fit.antt, Stored.antt, Claims.antt, Given.antt,
-- Stopped.antt and Kept.antt. Assumes nothing.
use Rattle.std.specs.Prelude.{◌<◌, ◌≤◌, ℕ, Bool, cond, false, not, true, List, [], ◌++◌, ◌∷◌, map, ◌↔◌, ◌⊎◌, ◌≡◌, eqb, get_or, length, set}
use Rattle.std.specs.Prelude.{Option, None}
use Rattle.signal.specs.Numbers.{answer_number}
use Rattle.signal.specs.Signals.{places}
use Rattle.signal.specs.declared.Services.{Services}
use Rattle.events.specs.declared.Act.{Act}
use Rattle.events.specs.declared.Act.TheVariants.{Meets, Opens}
use Rattle.events.specs.declared.Event.{Event}
use Rattle.rows.specs.States.{is_null}
use Rattle.call.specs.Claims.{HasNoNumber, IsMeaningless, NamesNotHeld, Sound}
use Rattle.call.specs.Events.{Half, handled_at}
use Rattle.call.specs.Record.{emptied, opened_for}
use Rattle.call.specs.declared.Call.{Call}
use Rattle.call_table.specs.Fit.{fit_table}
use Rattle.call_table.specs.Reading.{decide_at_of, fetched_from, needed_by, places_in}
use Rattle.call_table.specs.Table.{ran_fit_of, ran_of, sought_at_start, table_fit_of, table_of}
use Rattle.call_table.specs.declared.Sought.{Sought}
use Rattle.lent.specs.Keyed as keyed

-- 01, 101, of one record in use: it is not in Null, has a last number of at least 1, and its held numbers lie between 1 and the last and
-- differ (`Sound`)
pub record InUse (c : Call) : Type 0 where
  pub live : is_null c.state ≡ false
  pub given : 1 ≤ c.last
  pub held : Sound c

-- 01, 101, of one record: an empty one is all empty, and one that is not is in use
pub record FitRecord (c : Call) : Type 0 where
  pub empty : c.key ≡ 0 → c ≡ emptied
  pub used : (c.key ≡ 0 → ⊥) → InUse c

-- 01, 101, of the table: at most 1,024 records, no two different places with one key but 0, and every record fit
pub record FitTable (ys : List Call) : Type 0 where
  pub few : length ys ≤ 1024
  pub keys : (j k : ℕ) → j < k → k < length ys → (get_or ys j emptied).key ≡ (get_or ys k emptied).key → (get_or ys j emptied).key ≡ 0
  pub each : (i : ℕ) → i < length ys → FitRecord (get_or ys i emptied)

-- 01, 101: the test that the code makes is exactly this.
abbrev pub FitExactly : Type 0
FitExactly = (ys : List Call) → (fit_table ys ≡ true) ↔ FitTable ys

-- a key stands on record, and the call that it names (the first, which in a fit table is the only one)
abbrev pub has_call : ℕ → List Call → Bool
has_call k ys = keyed.on_record (λ c. c.key) k ys

abbrev pub call_of : ℕ → List Call → Call
call_of k ys = keyed.record_of (λ c. c.key) emptied k ys

-- A check, with its number and what must hold for it to apply
pub record Check : Type 1 where
  pub number : ℕ
  pub applies : Type 0

-- a key stands at some place
abbrev pub Stands : ℕ → List Call → Type 0
Stands key ys = (i : ℕ) × ((i < length ys) × ((get_or ys i emptied).key ≡ key))

-- what is asked of an opening alone, and of an event alone
abbrev pub IfOpening : Act → Type 0 → Type 0
IfOpening (Opens wanted) P = P
IfOpening (Meets e) P = ⊥

abbrev pub IfEvent : Act → (Event → Type 0) → Type 0
IfEvent (Opens wanted) P = ⊥
IfEvent (Meets e) P = P e

-- n is the number of the first check in the list that applies, and 0 where none does
abbrev pub FirstOf : ℕ → List Check → Type 0
FirstOf n [] = n ≡ 0
FirstOf n (c ∷ cs) = (c.applies × (n ≡ c.number)) ⊎ ((c.applies → ⊥) × FirstOf n cs)

-- And it is the only one: two numbers that are the first of one list are equal, so each is given exactly when its check applies and none
-- before it does.
abbrev pub FirstIsOne : Type 1
FirstIsOne = (cs : List Check) (m n : ℕ) → FirstOf m cs → FirstOf n cs → m ≡ n

-- A key is on record wherever it stands.
abbrev pub FoundAnywhere : Type 0
FoundAnywhere = (ys : List Call) (i : ℕ) → i < length ys → has_call (get_or ys i emptied).key ys ≡ true

-- the first record with a key replaced by another, and every other record as it was
abbrev pub call_replaced : ℕ → Call → List Call → List Call
call_replaced k d ys = keyed.replaced_for (λ c. c.key) k d ys

module _ (half : Half) where
  -- 01, "Numbers of refusal", in the printed order. An opening: 103 where the key is on record, 104 where no record is empty. An event: 105
  -- where the key is not on record, then what the record of the key answers (106 to 108, or 0)
  abbrev pub answer_for : List Call → ℕ → Act → ℕ
  answer_for ys key (Opens wanted) = cond (has_call key ys) 103 (cond (not (has_call 0 ys)) 104 0)
  answer_for ys key (Meets e) = cond (not (has_call key ys)) 105 (answer_number (handled_at half (call_of key ys) e).answer)

  -- 101 where the table is unfit, then 102 where the key is 0
  abbrev pub answer_wanted : List Call → ℕ → Act → ℕ
  answer_wanted ys key act = cond (fit_table ys) (cond (eqb key 0) 102 (answer_for ys key act)) 101

  abbrev pub answered : List Call → ℕ → Act → ℕ
  answered ys key act = answer_number (ran_of half ys key act).done.answer

  -- Demand 1 and 01, "Numbers of refusal": after any refusal the row is unchanged and all four places are "none", over any row.
  abbrev pub RefusalsChangeNothing : Type 0
  RefusalsChangeNothing =
      (ys : List Call) (key : ℕ) (act : Act) → (answered ys key act ≡ 0 → ⊥) →
      (table_of half ys key act ≡ ys) × ((ran_of half ys key act).done.signals ≡ places [])

  -- 01, 101: an unfit table is refused before anything else is looked at.
  abbrev pub UnfitIsRefused : Type 0
  UnfitIsRefused = (ys : List Call) (key : ℕ) (act : Act) → fit_table ys ≡ false → answered ys key act ≡ 101

  -- On a fit row the entry without the check does what the checked one does.
  abbrev pub FitNeedsNoCheck : Type 0
  FitNeedsNoCheck =
      (ys : List Call) (key : ℕ) (act : Act) → fit_table ys ≡ true →
      (ran_fit_of half ys key act ≡ ran_of half ys key act) × (table_fit_of half ys key act ≡ table_of half ys key act)

  -- 01, "Numbers of refusal": checks run in the printed order, and the first that applies is given; 0 exactly when none does. As a
  -- computation.
  abbrev pub AnswersInOrder : Type 0
  AnswersInOrder = (ys : List Call) (key : ℕ) (act : Act) → answered ys key act ≡ answer_wanted ys key act

  -- 01, "Numbers of refusal", line by line: the table is unfit; the key is 0; an opening's key is on record; no record is empty; an event's
  -- key is not on record; the event means nothing to the call of the key; it names a connection that is not held; no number is left
  abbrev pub checks : List Call → ℕ → Act → List Check
  checks ys key act =
      record { number = 101; applies = FitTable ys → ⊥ }
      ∷ record { number = 102; applies = key ≡ 0 }
      ∷ record { number = 103; applies = IfOpening act (Stands key ys) }
      ∷ record { number = 104; applies = IfOpening act (Stands 0 ys → ⊥) }
      ∷ record { number = 105; applies = IfEvent act (λ e. Stands key ys → ⊥) }
      ∷ record { number = 106; applies = IfEvent act (IsMeaningless half (call_of key ys)) }
      ∷ record { number = 107; applies = IfEvent act (NamesNotHeld half (call_of key ys)) }
      ∷ record { number = 108; applies = IfEvent act (HasNoNumber half (call_of key ys)) }
      ∷ []

  -- Demand 1 and 01, "Numbers of refusal": the answer is that number, over any row.
  abbrev pub GivenExactly : Type 0
  GivenExactly = (ys : List Call) (key : ℕ) (act : Act) → FirstOf (answered ys key act) (checks ys key act)

  -- 01, "The table and its records"; "Numbers of refusal", 0: an event that is done turns the record of its key into what the event makes
  -- of that call, leaves every other record, and sends what that call sends.
  abbrev pub EventChangesItsCall : Type 0
  EventChangesItsCall =
      (ys : List Call) (key : ℕ) (e : Event) → answered ys key (Meets e) ≡ 0 →
      (table_of half ys key (Meets e) ≡ call_replaced key (handled_at half (call_of key ys) e).call ys)
      × ((ran_of half ys key (Meets e)).done.signals ≡ (handled_at half (call_of key ys) e).signals)

  -- 01, "The table and its records"; "Numbers of refusal", 0: an opening that is done turns the first empty record into the new call under
  -- its key, leaves every other record, and sends what an opening sends.
  abbrev pub OpeningTakesItsRecord : Type 0
  OpeningTakesItsRecord =
      (ys : List Call) (key : ℕ) (wanted : Option Services) → answered ys key (Opens wanted) ≡ 0 →
      (table_of half ys key (Opens wanted) ≡ call_replaced 0 (opened_for key wanted).call ys)
      × ((ran_of half ys key (Opens wanted)).done.signals ≡ (opened_for key wanted).signals)

  -- 01, "The table and its records": the same by places. Where no record below the empty one at i is empty, an opening that is done stores
  -- at i, and only there.
  abbrev pub TakesLowestEmpty : Type 0
  TakesLowestEmpty =
      (ys : List Call) (key : ℕ) (wanted : Option Services) → answered ys key (Opens wanted) ≡ 0 →
      (i : ℕ) → i < length ys → (get_or ys i emptied).key ≡ 0 → ((j : ℕ) → j < i → (get_or ys j emptied).key ≡ 0 → ⊥) →
      table_of half ys key (Opens wanted) ≡ set ys i (opened_for key wanted).call

  -- 01, "The table and its records": whatever is done, a call under another key stays as it was, at its place; the row stays as long as it
  -- was.
  abbrev pub OthersStay : Type 0
  OthersStay =
      (ys : List Call) (key : ℕ) (act : Act) →
      (length (table_of half ys key act) ≡ length ys)
      × ((i : ℕ) → ((get_or ys i emptied).key ≡ key → ⊥) → ((get_or ys i emptied).key ≡ 0 → ⊥) →
      get_or (table_of half ys key act) i emptied ≡ get_or ys i emptied)

  -- 02, Ask 4: what is decided of what is read of a row without the check, the keys up to the one that is sought and the record of an
  -- event, is what is decided of the whole row; fit or not.
  abbrev pub EnoughIsRead : Type 0
  EnoughIsRead =
      (ys : List Call) (key : ℕ) (act : Act) →
      decide_at_of half (length ys) (places_in ys key) (fetched_from ys (needed_by (length ys) (places_in ys key) act)) key act
      ≡ ran_fit_of half ys key act

  -- Demand 1 and 2: a fit table stays fit under every opening and event.
  abbrev pub StaysFit : Type 0
  StaysFit = (ys : List Call) (key : ℕ) (act : Act) → FitTable ys → FitTable (table_of half ys key act)

-- 02, Ask 4, of the search without the check, as `look` and `fetch` make it: what stands behind the record with the key has no say in it.
-- (That it is not loaded either no contract can say: `./measure reads` counts the loads.)
abbrev pub NothingBehindIsRead : Type 0
NothingBehindIsRead = (xs ys zs : List Call) (c : Call) → places_in (xs ++ (c ∷ ys)) c.key ≡ places_in (xs ++ (c ∷ zs)) c.key

-- For key 0 no record has a say in the search, and none is fetched.
abbrev pub NothingIsReadForKeyZero : Type 0
NothingIsReadForKeyZero =
    (ys : List Call) (act : Act) → (places_in ys 0 ≡ sought_at_start 0)
    × (fetched_from ys (needed_by (length ys) (places_in ys 0) act) ≡ None)

-- Of a record nothing but its key has a say in the search.
abbrev pub KeysAloneAreRead : Type 0
KeysAloneAreRead = (ys zs : List Call) (key : ℕ) → map (λ c. c.key) ys ≡ map (λ c. c.key) zs → places_in ys key ≡ places_in zs key

-- For an opening no record is fetched, whatever the search has found.
abbrev pub OpeningFetchesNone : Type 0
OpeningFetchesNone =
    (ys : List Call) (s : Sought ℕ) (wanted : Option Services) → fetched_from ys (needed_by (length ys) s (Opens wanted)) ≡ None

-- all of them, of one half
pub record TableClaims (half : Half) : Type 0 where
  pub refusals_change_nothing : RefusalsChangeNothing half
  pub unfit_is_refused : UnfitIsRefused half
  pub fit_needs_no_check : FitNeedsNoCheck half
  pub answers_in_order : AnswersInOrder half
  pub given_exactly : GivenExactly half
  pub event_changes_its_call : EventChangesItsCall half
  pub opening_takes_its_record : OpeningTakesItsRecord half
  pub takes_lowest_empty : TakesLowestEmpty half
  pub others_stay : OthersStay half
  pub enough_is_read : EnoughIsRead half
  pub stays_fit : StaysFit half
