-- The account of connection numbers over a whole run: what has been given to the call of a key since its opening, and what has been ended.
-- Assumes nothing.
use Rattle.std.specs.Prelude.{ℕ, zero, suc, ◌+◌, ◌≤◌, ◌<◌, ◌≡◌, Bool, true, false, cond, List, [], ◌∷◌, ◌++◌, ◌⊎◌, eqb, ltb, length}
use Rattle.lent.specs.Keyed.{on_record, replaced_for}
use Rattle.signal.specs.Counting.{count}
use Rattle.runs.specs.Run.{Control, Does, End, KeyedRequest, RefusalsAreSilent, Reply, Table, call_by_key, empty_table, meets, opens}
use Rattle.runs.specs.Run.{table_after}

-- a call that has been: the numbers given to it, and the numbers ended, each as often as it was
pub record Spell : Type 0 where
  pub given : List ℕ
  pub ended : List ℕ

-- since a call's opening: the numbers given, ended, and asked for by a setup that was sent; and the calls under the same key before it
pub record Log : Type 0 where
  pub given : List ℕ
  pub ended : List ℕ
  pub requested : List ℕ
  pub past : List Spell

abbrev pub empty_log : Log
empty_log = record { given = []; ended = []; requested = []; past = [] }

-- the numbers from 1 to n
abbrev pub one_to : ℕ → List ℕ
one_to zero = []
one_to (suc n) = one_to n ++ (suc n ∷ [])

-- a call that is over and done with: the numbers 1, 2, 3 and so on were given to it, and each of them, and no other, was ended exactly once
pub record Settled (s : Spell) : Type 0 where
  pub numbers : s.given ≡ one_to (length s.given)
  pub ended : (x : ℕ) → count x s.ended ≡ count x s.given

abbrev pub AllSettled : List Spell → Type 0
AllSettled [] = Unit {0}
AllSettled (s ∷ more) = Settled s × AllSettled more

module _ (E : End) where
  -- the number that a request gives: the record's last number, where it has grown
  abbrev pub given_between : E.Record → E.Record → List ℕ
  given_between before now = cond (ltb (E.last before) (E.last now)) (E.last now ∷ []) []

  -- the numbers that an event ends, read off the event and what is sent alone: by a release received, and by releases sent
  abbrev pub ended_by : E.Event → Reply E → List ℕ
  ended_by e r = E.reported e ++ E.released r.signals

  -- the numbers that are asked for by setups that are sent
  abbrev pub asked_by : Reply E → List ℕ
  asked_by r = E.requested r.signals

  -- what is sent counts, whatever the answer
  abbrev pub sent_in : Reply E → Log → Log
  sent_in r l =
      record {
        given = l.given;
        ended = l.ended ++ E.released r.signals;
        requested = l.requested ++ asked_by r;
        past = l.past;
      }

  -- a request for the key enters its log. An opening that is done begins it anew, and what was before is a call that has been; an event
  -- that is done adds what it gives and ends; of what is refused, only what is sent counts
  abbrev pub entered : Does E.Wanted E.Event → Bool → E.Record → E.Record → Reply E → Log → Log
  entered (opens w) true before now r l =
      record {
        given = E.last now ∷ [];
        ended = E.released r.signals;
        requested = asked_by r;
        past = record { given = l.given; ended = l.ended } ∷ l.past;
      }
  entered (opens w) false before now r l = sent_in r l
  entered (meets e) true before now r l =
      record {
        given = l.given ++ given_between before now;
        ended = l.ended ++ ended_by e r;
        requested = l.requested ++ asked_by r;
        past = l.past;
      }
  entered (meets e) false before now r l = sent_in r l

  abbrev pub noted : ℕ → Table E → KeyedRequest E → Reply E → Log → Log
  noted k ys a r l = cond (eqb a.key k) (entered a.does (eqb r.answer 0) (call_by_key E k ys) (call_by_key E k r.table) r l) l

  -- the log of a key along a run
  abbrev pub logged : Control E → ℕ → Table E → Log → List (KeyedRequest E) → Log
  logged C k ys l [] = l
  logged C k ys l (a ∷ more) = logged C k (C ys a).table (noted k ys a (C ys a) l) more

  -- the account of a call: c is its record, or the empty one where it has ended or was never opened
  pub record Account (c : E.Record) (l : Log) : Type 0 where
    -- the numbers given since the opening are 1, 2, 3 and so on, and while the call is on record the last of them is the record's
    pub numbers : l.given ≡ one_to (length l.given)
    pub recorded : (E.key c ≡ 0 → ⊥) → length l.given ≡ E.last c
    -- each number given has been ended exactly once and is not held, or is held and has not been ended
    pub accounted : (x : ℕ) → 1 ≤ x → x ≤ length l.given →
        ((count x l.ended ≡ 1) × (count x (E.held c) ≡ 0)) ⊎ ((count x l.ended ≡ 0) × (count x (E.held c) ≡ 1))
    -- a call that has ended holds nothing: every number given to it was ended exactly once
    pub closed : E.key c ≡ 0 → (x : ℕ) → 1 ≤ x → x ≤ length l.given → count x l.ended ≡ 1
    -- no other number is held, or has been ended
    pub others : (x : ℕ) → (x ≡ 0) ⊎ (length l.given < x) → (count x l.ended ≡ 0) × (count x (E.held c) ≡ 0)
    -- a number that was asked for by a setup is one that was given, and was asked for once
    pub asked : (x : ℕ) → 1 ≤ x → count x l.requested ≤ count x l.given
    -- and every call under the key before it was over and done with when the key was used again
    pub before : AllSettled l.past

  -- In every run from an empty table, at every point (a run to there is a run), for every key.
  abbrev pub Accounting : Control E → Type 0
  Accounting C =
      (n : ℕ) (requests : List (KeyedRequest E)) (k : ℕ) → (k ≡ 0 → ⊥) →
      Account (call_by_key E k (table_after E C (empty_table E n) requests)) (logged C k (empty_table E n) empty_log requests)

  -- ---- what one request must do for that, over any table: the laws that an end shows of its own control

  -- an opening that is done: the key was not on record, a record was empty, and the first such holds the new call, with number 1; nothing
  -- is sent
  pub record Opened (ys : Table E) (k : ℕ) (r : Reply E) : Type 0 where
    pub call : E.Record
    pub own : E.key call ≡ k
    pub free : on_record E.key 0 ys ≡ true
    pub new : on_record E.key k ys ≡ false
    pub stored : r.table ≡ replaced_for E.key 0 call ys
    pub first : E.last call ≡ 1
    pub holds : E.held call ≡ 1 ∷ []
    pub quiet : r.signals ≡ E.silent

  -- the call lives, and its last number stays or grows by one; or its record is emptied
  abbrev pub Lives : ℕ → E.Record → E.Record → Type 0
  Lives k before now = ((E.key now ≡ k) × ((E.last now ≡ E.last before) ⊎ (E.last now ≡ suc (E.last before)))) ⊎ (now ≡ E.empty)

  -- an event that is done: the record of the key becomes another, and what was held and given is held or ended
  pub record Met (ys : Table E) (k : ℕ) (e : E.Event) (r : Reply E) : Type 0 where
    pub call : E.Record
    pub known : on_record E.key k ys ≡ true
    pub stored : r.table ≡ replaced_for E.key k call ys
    pub lives : Lives k (call_by_key E k ys) call
    pub balances : (x : ℕ) →
        count x (E.held (call_by_key E k ys)) + count x (given_between (call_by_key E k ys) call)
        ≡ count x (E.held call) + count x (ended_by e r)
    pub asks : (x : ℕ) → 1 ≤ x → count x (E.requested r.signals) ≤ count x (given_between (call_by_key E k ys) call)

  pub record LawfulControl (C : Control E) : Type 0 where
    pub unused : E.key E.empty ≡ 0
    pub spent : E.last E.empty ≡ 0
    pub nothing_held : E.held E.empty ≡ []
    pub nothing_released : E.released E.silent ≡ []
    pub nothing_requested : E.requested E.silent ≡ []
    pub refused : RefusalsAreSilent E C
    pub opened : (ys : Table E) (k : ℕ) (w : E.Wanted) → (C ys (record { key = k; does = opens w })).answer ≡ 0 →
        Opened ys k (C ys (record { key = k; does = opens w }))
    pub met : (ys : Table E) (k : ℕ) (e : E.Event) → (C ys (record { key = k; does = meets e })).answer ≡ 0 →
        Met ys k e (C ys (record { key = k; does = meets e }))

  -- Any control with these laws keeps the account.
  abbrev pub LawsKeepAccount : Type 0
  LawsKeepAccount = (C : Control E) → LawfulControl C → Accounting C
