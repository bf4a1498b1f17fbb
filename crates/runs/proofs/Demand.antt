-- Demand 3 of any control with its laws, and what demand 3 says at the least (specs/Demand), proved. Assumes nothing.
use Prim.Native.Nat.{ℕ, ◌+◌, ◌≤◌, ◌<◌}
use native.Mathlib.Omega.{arith}
use mathlib.Core.Path.{◌≡◌, refl, sym, ◌∙◌, ap, subst}
use mathlib.Core.Bool.{Bool, true, false, true≢false}
use mathlib.Core.List.{List, [], ◌∷◌, ◌++◌}
use mathlib.Core.Logic.{◌⊎◌, inl, inr}
use lib.Dec.{eqb, leb}
use lib.ListN.{length}
use borrow.Author.Tests.{eqb-true, eqb-false, eq-eqb, leb-true, leb-false}
use Rattle.signal.specs.Counting.{count}
use Rattle.signal.proofs.Counting.{count_append}
use Rattle.runs.specs.Run.{End, Does, opens, meets, KeyedRequest, Reply, Table, Control, table_after, empty_table, call_by_key}
use Rattle.runs.specs.Woven.{Strand, own, inserted, itself, woven, AtInsertions}
use Rattle.runs.specs.Late.{Numbering, SetupFor, LateOrUnsupported, Rejected}
use Rattle.runs.specs.Account.{Log, empty_log, one_to, given_between, ended_by, asked_by, entered, noted, logged, Account, LawfulControl}
use Rattle.runs.specs.Demand.{AccountAt, LateInserted, Upheld, TurnsAway, KeepsDemandThree}
use Rattle.runs.specs.Demand as claim
use Rattle.runs.proofs.Keyed.{none_on}
use Rattle.runs.proofs.Late.{turned_away_is_harmless}
use Rattle.runs.proofs.Account.{outside, within, laws_keep_account}

-- ---- an empty table takes no setup
module _ (E : End) (N : Numbering E) where
  pub nothing_to_insert : claim.NothingToInsert E N
  nothing_to_insert unused n a at = by_kind at
    where
      none : {e : E.Event} {m : ℕ} → SetupFor E N (empty_table E n) a e m → ⊥
      none s = true≢false (sym s.known ∙ none_on E.key E.empty a.key n (λ q. s.named (sym q ∙ unused)))

      by_kind : LateOrUnsupported E N (empty_table E n) a → ⊥
      by_kind (inl late) = none late.1.1.0
      by_kind (inr other) = none other.1.1.0

  pub nothing_inserted_where_refused : claim.NothingInsertedWhereRefused E N
  nothing_inserted_where_refused C unused silent n refuses strands at = along (empty_table E n) strands refl at
    where
      Late : Table E → List (Strand E) → Type 0
      Late ys strands = AtInsertions E C (λ zs a r. LateOrUnsupported E N zs a) ys strands

      still : (ys : Table E) (a : KeyedRequest E) → ys ≡ empty_table E n → (C ys a).table ≡ empty_table E n
      still ys a is = ap (λ zs. (C zs a).table) is ∙ (silent (empty_table E n) a (refuses a)).0

      along : (ys : Table E) (strands : List (Strand E)) → ys ≡ empty_table E n → Late ys strands → woven E strands ≡ itself E strands
      along ys [] is at = refl
      along ys (own a ∷ more) is at = ap (λ rs. a ∷ rs) (along (C ys a).table more (still ys a is) at)
      along ys (inserted a ∷ more) is at = absurd (nothing_to_insert unused n a (subst (λ zs. LateOrUnsupported E N zs a) is at.0))

-- ---- any control with the laws
module _ (E : End) (N : Numbering E) (C : Control E) (L : LawfulControl E C) (T : TurnsAway E N C) where
  -- the kind of table that a run keeps: fit, or an empty one over which every request is refused
  abbrev Refuses : Table E → Type 0
  Refuses ys = ((n : ℕ) × (ys ≡ empty_table E n)) × ((a : KeyedRequest E) → (C ys a).answer ≡ 0 → ⊥)

  abbrev Kind : Table E → Type 0
  Kind ys = T.Fit ys ⊎ Refuses ys

  at_first : (n : ℕ) → Kind (empty_table E n)
  at_first n = by_begin (T.begins n)
    where
      by_begin : T.Fit (empty_table E n) ⊎ ((a : KeyedRequest E) → (C (empty_table E n) a).answer ≡ 0 → ⊥) → Kind (empty_table E n)
      by_begin (inl fit) = inl fit
      by_begin (inr refuses) = inr ((n, refl), refuses)

  keeps : (ys : Table E) (a : KeyedRequest E) → Kind ys → Kind (C ys a).table
  keeps ys a (inl fit) = inl (T.stays ys a fit)
  keeps ys a (inr stuck) = inr (subst Refuses (sym (L.refused ys a (stuck.1 a)).0) stuck)

  rejects : (ys : Table E) (a : KeyedRequest E) → Kind ys → LateOrUnsupported E N ys a → Rejected E N ys a (C ys a)
  rejects ys a (inl fit) at = T.rejects ys a fit at
  rejects ys a (inr stuck) at =
      absurd (nothing_to_insert E N L.unused stuck.0.0 a (subst (λ zs. LateOrUnsupported E N zs a) stuck.0.1 at))

  upheld : (n : ℕ) (strands : List (Strand E)) → LateInserted E N C n strands → Upheld E N C n strands
  upheld n strands at =
      record {
        harmless = turned_away_is_harmless E N C Kind (LateOrUnsupported E N) keeps rejects (empty_table E n) strands (at_first n) at;
        itself = λ before behind cut k named. laws_keep_account E C L n before k named;
        woven = λ before behind cut k named. laws_keep_account E C L n before k named;
      }

pub laws_keep_demand_three : (E : End) (N : Numbering E) → claim.LawsKeepDemandThree E N
laws_keep_demand_three E N C L T n strands at = upheld E N C L T _ strands at

-- ---- what an account counts: each number as often given as it was ended and is held; and of a call that has ended, as it was ended
module _ (E : End) (c : E.Record) (l : Log) (h : Account E c l) (x : ℕ) where
  -- by whether x is one of the numbers given
  by_number : (P : ℕ → Type 0) → ((x ≡ 0) ⊎ (length l.given < x) → P 0) → (1 ≤ x → x ≤ length l.given → P 1) → P (count x l.given)
  by_number P none some = subst P (sym (ap (count x) h.numbers)) (by_tests (eqb x 0) (leb x (length l.given)) refl refl)
    where
      beyond : (x ≡ 0) ⊎ (length l.given < x) → P (count x (one_to (length l.given)))
      beyond o = subst P (sym (outside (length l.given) x o)) (none o)

      by_tests : (nought few : Bool) → eqb x 0 ≡ nought → leb x (length l.given) ≡ few → P (count x (one_to (length l.given)))
      by_tests true few z b = beyond (inl (eqb-true x 0 z))
      by_tests false false z b = beyond (inr (omega (arith, leb-false x (length l.given) b)))
      by_tests false true z b =
          let used : x ≡ 0 → ⊥ = eqb-false x 0 z in
          let bound : x ≤ length l.given = leb-true x (length l.given) b in
          subst P (sym (within (length l.given) x (omega arith) bound)) (some (omega arith) bound)

  counted : count x l.given ≡ count x l.ended + count x (E.held c)
  counted = by_number (λ n. n ≡ count x l.ended + count x (E.held c)) (λ o. let none = h.others x o in omega arith) (λ a b. once (h.accounted x (omega arith) b))
    where
      once : ((count x l.ended ≡ 1) × (count x (E.held c) ≡ 0)) ⊎ ((count x l.ended ≡ 0) × (count x (E.held c) ≡ 1)) →
          1 ≡ count x l.ended + count x (E.held c)
      once (inl e) = omega arith
      once (inr e) = omega arith

  ended_once : E.key c ≡ 0 → count x l.ended ≡ count x l.given
  ended_once over = by_number (λ n. count x l.ended ≡ n) (λ o. (h.others x o).0) (λ a b. h.closed over x (omega arith) b)

-- ---- what demand 3 says of each request of a run
module _ (E : End) (C : Control E) where
  -- requests as strands, and others behind them
  abbrev owned : List (KeyedRequest E) → List (Strand E) → List (Strand E)
  owned [] strands = strands
  owned (a ∷ more) strands = own a ∷ owned more strands

  itself_owned : (requests : List (KeyedRequest E)) → requests ++ [] ≡ itself E (owned requests [])
  itself_owned [] = refl
  itself_owned (a ∷ more) = ap (λ rs. a ∷ rs) (itself_owned more)

  module _ (P : Table E → KeyedRequest E → Reply E → Type 0) where
    into_owned : (ys : Table E) (requests : List (KeyedRequest E)) (strands : List (Strand E)) →
        AtInsertions E C P (table_after E C ys requests) strands → AtInsertions E C P ys (owned requests strands)
    into_owned ys [] strands at = at
    into_owned ys (a ∷ more) strands at = into_owned (C ys a).table more strands at

    out_of_owned : (ys : Table E) (requests : List (KeyedRequest E)) (strands : List (Strand E)) →
        AtInsertions E C P ys (owned requests strands) → AtInsertions E C P (table_after E C ys requests) strands
    out_of_owned ys [] strands at = at
    out_of_owned ys (a ∷ more) strands at = out_of_owned (C ys a).table more strands at

  -- the table and the log after one request more
  after_more : (ys : Table E) (before : List (KeyedRequest E)) (a : KeyedRequest E) →
      table_after E C ys (before ++ (a ∷ [])) ≡ (C (table_after E C ys before) a).table
  after_more ys [] a = refl
  after_more ys (b ∷ more) a = after_more (C ys b).table more a

  logged_more : (k : ℕ) (ys : Table E) (l : Log) (before : List (KeyedRequest E)) (a : KeyedRequest E) →
      logged E C k ys l (before ++ (a ∷ [])) ≡ noted E k (table_after E C ys before) a (C (table_after E C ys before) a) (logged E C k ys l before)
  logged_more k ys l [] a = refl
  logged_more k ys l (b ∷ more) a = logged_more k (C ys b).table (noted E k ys b (C ys b) l) more a

module _ (E : End) (N : Numbering E) (C : Control E) (D : KeepsDemandThree E N C) where
  account_at : (n : ℕ) (requests : List (KeyedRequest E)) (k : ℕ) → (k ≡ 0 → ⊥) → AccountAt E C n requests k
  account_at n requests k named =
      (D n (owned E C requests []) (into_owned E C (λ ys a r. LateOrUnsupported E N ys a) (empty_table E n) requests [] tt)).itself requests [] (itself_owned E C requests) k named

  rejects_anywhere : claim.RejectsAnywhere E N C
  rejects_anywhere n before a at =
      (out_of_owned E C (Rejected E N) (empty_table E n) before (inserted a ∷ [])
      (D n (owned E C before (inserted a ∷ []))
      (into_owned E C (λ ys b r. LateOrUnsupported E N ys b) (empty_table E n) before (inserted a ∷ []) (at, tt))).harmless.rejected).0

  -- an event that is done: the two accounts, before it and after it
  module _ (n : ℕ) (before : List (KeyedRequest E)) (k : ℕ) (e : E.Event) (named : k ≡ 0 → ⊥) where
    abbrev a : KeyedRequest E
    a = record { key = k; does = meets e }

    abbrev ys : Table E
    ys = table_after E C (empty_table E n) before

    abbrev r : Reply E
    r = C ys a

    abbrev l : Log
    l = logged E C k (empty_table E n) empty_log before

    abbrev now : E.Record
    now = call_by_key E k r.table

    abbrev entry : Log
    entry =
        record {
          given = l.given ++ given_between E (call_by_key E k ys) now;
          ended = l.ended ++ ended_by E e r;
          requested = l.requested ++ asked_by E r;
          past = l.past;
        }

    module _ (done : r.answer ≡ 0) where
      logged_is : logged E C k (empty_table E n) empty_log (before ++ (a ∷ [])) ≡ entry
      logged_is = logged_more E C k (empty_table E n) empty_log before a ∙ rw (eq-eqb k k refl, eq-eqb r.answer 0 done)

      after_it : Account E now entry
      after_it =
          subst (Account E now) logged_is
          (subst (λ zs. Account E (call_by_key E k zs) (logged E C k (empty_table E n) empty_log (before ++ (a ∷ [])))) (after_more E C (empty_table E n) before a)
          (account_at n (before ++ (a ∷ [])) k named))

      balances : (x : ℕ) →
          count x (E.held (call_by_key E k ys)) + count x (given_between E (call_by_key E k ys) now) ≡ count x (E.held now) + count x (ended_by E e r)
      balances x =
          omega (
            arith,
            counted E (call_by_key E k ys) l (account_at n before k named) x,
            counted E now entry after_it x,
            count_append x l.given (given_between E (call_by_key E k ys) now),
            count_append x l.ended (ended_by E e r),
          )

  -- what is asked for is in the log, whatever the request and its answer
  asked_in : (does : Does E.Wanted E.Event) (done : Bool) (c d : E.Record) (r : Reply E) (l : Log) (x : ℕ) →
      count x (E.requested r.signals) ≤ count x (entered E does done c d r l).requested
  asked_in (opens w) true c d r l x = omega arith
  asked_in (opens w) false c d r l x = omega (arith, count_append x l.requested (asked_by E r))
  asked_in (meets e) true c d r l x = omega (arith, count_append x l.requested (asked_by E r))
  asked_in (meets e) false c d r l x = omega (arith, count_append x l.requested (asked_by E r))

  names_given : claim.NamesGivenAnywhere E N C
  names_given n before a named x positive =
      omega (
        arith,
        (account_at n (before ++ (a ∷ [])) a.key named).asked x positive,
        subst (λ m. count x (E.requested r.signals) ≤ count x m.requested) (sym entry)
            (asked_in a.does (eqb r.answer 0) (call_by_key E a.key ys) (call_by_key E a.key r.table) r (logged E C a.key (empty_table E n) empty_log before) x),
      )
    where
      ys : Table E
      ys = table_after E C (empty_table E n) before

      r : Reply E
      r = C ys a

      entry : logged E C a.key (empty_table E n) empty_log (before ++ (a ∷ [])) ≡
          entered E a.does (eqb r.answer 0) (call_by_key E a.key ys) (call_by_key E a.key r.table) r (logged E C a.key (empty_table E n) empty_log before)
      entry = logged_more E C a.key (empty_table E n) empty_log before a ∙ rw (eq-eqb a.key a.key refl)

  one_kind : claim.OneKindIsHarmless E N C
  one_kind Kind of n strands at = (D n strands (each (empty_table E n) strands at)).harmless
    where
      each : (ys : Table E) (strands : List (Strand E)) → AtInsertions E C (λ zs a r. Kind zs a) ys strands →
          AtInsertions E C (λ zs a r. LateOrUnsupported E N zs a) ys strands
      each ys [] at = tt
      each ys (own a ∷ more) at = each (C ys a).table more at
      each ys (inserted a ∷ more) at = (of ys a at.0, each (C ys a).table more at.1)

  numbers : claim.NumbersAnywhere E N C
  numbers n before k named used = let h = account_at n before k named in h.numbers ∙ ap one_to (h.recorded used)

  settles : claim.SettlesAnywhere E N C
  settles n before k named over =
      let h = account_at n before k named in
      record { numbers = h.numbers; ended = λ x. ended_once E _ _ h x over }

pub demand_three_says : (E : End) (N : Numbering E) → claim.DemandThreeSays E N
demand_three_says E N C D =
    record {
      rejects = rejects_anywhere E N C D;
      balances = balances E N C D;
      names = names_given E N C D;
      numbers = numbers E N C D;
      settles = settles E N C D;
      one_kind = one_kind E N C D;
      account = account_at E N C D;
    }
