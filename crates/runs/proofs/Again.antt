-- A setup that was heard is never taken again (specs/Again), proved of any control with the laws: the call of its key stays past its number, so that
-- the setup is late, which demand 3 rejects. Assumes nothing.
use Prim.Native.Nat.{ℕ}
use mathlib.Core.Path.{◌≡◌, refl, sym, ◌∙◌, subst}
use mathlib.Core.Bool.{Bool, true, false, true≢false}
use mathlib.Core.List.{List, [], ◌∷◌, ◌++◌}
use mathlib.Core.Logic.{inl, inr}
use lib.Dec.{eqb}
use borrow.Author.Tests.{eqb-true, eqb-false}
use Rattle.lent.specs.Keyed.{on_record}
use Rattle.runs.specs.Run.{End, Does, opens, meets, KeyedRequest, Reply, Table, Control, event_by, table_after, empty_table, call_by_key}
use Rattle.runs.specs.Late.{Numbering, Rejected}
use Rattle.runs.specs.Account.{Log, empty_log, LawfulControl, Lives, Met, noted, logged}
use Rattle.runs.specs.Demand.{KeepsDemandThree}
use Rattle.runs.specs.Again.{StaysOnRecord, IsPast, Remembers}
use Rattle.runs.specs.Again as claim
use Rattle.runs.proofs.Account.{Kept, along, at_first, now_is, off_record, other_same, step}
use Rattle.runs.proofs.Demand.{demand_three_says}

-- requests behind requests
after_both : (E : End) (C : Control E) (ys : Table E) (before more : List (KeyedRequest E)) →
    table_after E C ys (before ++ more) ≡ table_after E C (table_after E C ys before) more
after_both E C ys [] more = refl
after_both E C ys (a ∷ before) more = after_both E C (C ys a).table before more

module _ (E : End) (N : Numbering E) (Hears : Reply E → Type 0) (C : Control E) (L : LawfulControl E C) (D : KeepsDemandThree E N C) (M : Remembers E N Hears C L) where
  module _ (k number : ℕ) (named : k ≡ 0 → ⊥) where
    abbrev On : Table E → Type 0
    On ys = on_record E.key k ys ≡ true

    -- the call of the key is past the number
    abbrev Past : Table E → Type 0
    Past ys = IsPast E N number (call_by_key E k ys)

    -- what follows keeps that, while the key is on record
    own_event : (ys : Table E) (e : E.Event) (l : Log) → Kept E C L k ys l → On (C ys (event_by E k e)).table →
        (C ys (event_by E k e)).answer ≡ 0 → Past ys → Past (C ys (event_by E k e)).table
    own_event ys e l kept on done past =
        subst (IsPast E N number) (sym (now_is E C L k ys e _ named kept.1 m)) (M.keeps ys k number e done (by_life m.lives) past)
      where
        m : Met E ys k e (C ys (event_by E k e))
        m = L.met ys k e done

        by_life : Lives E k (call_by_key E k ys) m.call → E.key m.call ≡ k
        by_life (inl lives) = lives.0
        by_life (inr emptied) = absurd (true≢false (sym on ∙ off_record E C L k ys e _ named kept.1 m emptied))

    own_done : (ys : Table E) (does : Does E.Wanted E.Event) (l : Log) → Kept E C L k ys l → On ys →
        On (C ys (record { key = k; does = does })).table → (C ys (record { key = k; does = does })).answer ≡ 0 →
        Past ys → Past (C ys (record { key = k; does = does })).table
    own_done ys (opens w) l kept was on done past = absurd (true≢false (sym was ∙ (L.opened ys k w done).new))
    own_done ys (meets e) l kept was on done past = own_event ys e l kept on done past

    past_on : (ys : Table E) (j : ℕ) (does : Does E.Wanted E.Event) (l : Log) → Kept E C L k ys l → On ys →
        On (C ys (record { key = j; does = does })).table → Past ys → Past (C ys (record { key = j; does = does })).table
    past_on ys j does l kept was on past = by_tests (eqb j k) (eqb (C ys a).answer 0) refl refl
      where
        a : KeyedRequest E
        a = record { key = j; does = does }

        by_tests : (mine done : Bool) → eqb j k ≡ mine → eqb (C ys a).answer 0 ≡ done → Past (C ys a).table
        by_tests mine false own done = subst Past (sym (L.refused ys a (eqb-false (C ys a).answer 0 done)).0) past
        by_tests false true own done =
            subst (IsPast E N number) (sym (other_same E C L k j ys does named (eqb-false j k own) (eqb-true (C ys a).answer 0 done)).of_same) past
        by_tests true true own done =
            subst
            (λ i. On (C ys (record { key = i; does = does })).table → (C ys (record { key = i; does = does })).answer ≡ 0 →
            Past (C ys (record { key = i; does = does })).table)
            (sym (eqb-true j k own)) (λ o d. own_done ys does l kept was o d past) on (eqb-true (C ys a).answer 0 done)

    first_on : (ys : Table E) (requests : List (KeyedRequest E)) → StaysOnRecord E C k ys requests → On ys
    first_on ys [] on = on
    first_on ys (a ∷ more) on = on.0

    -- so it is past it at the end, where the key is on record
    past_along : (ys : Table E) (requests : List (KeyedRequest E)) (l : Log) → Kept E C L k ys l → StaysOnRecord E C k ys requests → Past ys →
        Past (table_after E C ys requests) × On (table_after E C ys requests)
    past_along ys [] l kept on past = (past, on)
    past_along ys (a ∷ more) l kept on past =
        past_along (C ys a).table more (noted E k ys a (C ys a) l) (step E C L k a.key ys a.does l named kept) on.1
        (past_on ys a.key a.does l kept on.0 (first_on (C ys a).table more on.1) past)

    -- at the end of a run a setup with the number is late, and is turned away
    turned_away_lem : (n : ℕ) (requests : List (KeyedRequest E)) (e : E.Event) → N.number e ≡ number ∷ [] →
        let zs = table_after E C (empty_table E n) requests in On zs → Past zs → Rejected E N zs (event_by E k e) (C zs (event_by E k e))
    turned_away_lem n requests e numbered on past =
        (demand_three_says E N C D).rejects n requests (event_by E k e)
        (inl (e, (number, (record { is = refl; numbered = numbered; named = named; known = on; taken = past.0 }, past.1))))

  takes_none_again : claim.TakesNoneAgain E N Hears C
  takes_none_again n before between k number first again named numbered same heard on =
      subst (λ zs. On k number named zs → Past k number named zs → Rejected E N zs (event_by E k again) (C zs (event_by E k again)))
      (after_both E C (empty_table E n) before (event_by E k first ∷ between))
      (turned_away_lem k number named n (before ++ (event_by E k first ∷ between)) again same) at_end.1 at_end.0
    where
      ys : Table E
      ys = table_after E C (empty_table E n) before

      r : Reply E
      r = C ys (event_by E k first)

      kept : Kept E C L k ys (logged E C k (empty_table E n) empty_log before)
      kept = along E C L k (empty_table E n) before empty_log named (at_first E C L k n named)

      past : Past k number named r.table
      past =
          let done = M.done ys k first heard in
          subst (IsPast E N number) (sym (now_is E C L k ys first r named kept.1 (L.met ys k first done)))
          (M.heard ys k number first done numbered heard)

      at_end : Past k number named (table_after E C r.table between) × On k number named (table_after E C r.table between)
      at_end = past_along k number named r.table between _ (step E C L k k ys (meets first) _ named kept) on past

pub laws_take_none_again : (E : End) (N : Numbering E) (Hears : Reply E → Type 0) → claim.LawsTakeNoneAgain E N Hears
laws_take_none_again E N Hears C L D M = takes_none_again E N Hears C L D M
