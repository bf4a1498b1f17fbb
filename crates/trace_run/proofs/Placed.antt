-- Over a fit table of 64, where an opening or event goes by the keys, and what comes of it there, are what `ran_of` and `table_of` say.
-- Assumes nothing.
use Prim.Native.Nat.{ℕ, zero, suc, ◌+◌, ◌≤◌, ◌<◌, suc-le-suc}
use native.Mathlib.Nat.{not-suc-le-zero, le_of_suc-le-suc}
use native.Mathlib.Omega.{arith}
use mathlib.Core.Path.{◌≡◌, refl, sym, ap, ◌∙◌}
use mathlib.Core.Bool.{Bool, true, false, cond, not, true≢false}
use mathlib.Core.Logic.{⊎_elim}
use mathlib.Core.List.{List, [], ◌∷◌}
use lib.Dec.{eqb, ltb}
use lib.ListN.{get_or-eq_default, get_or, length, length-set, set}
use lib.Seq.{get_or-set_same, get_or-set_other, set-get_or, set_out}
use borrow.Author.Tests.{eq-eqb, ne_eqb, eqb-false, eqb-true, ltb-true, ltb-false}
use Rattle.std.specs.Prelude.{Option, Some, None, Result, Err, is_none, unwrap_or}
use Rattle.std.specs.List.{position_from}
use Rattle.std.proofs.lemmas.Iterator.Adapters.{position_from-zero}
use Rattle.std.proofs.lemmas.Option.{none-some}
use Rattle.lent.specs.Search.{first_from}
use Rattle.signal.specs.declared.Answer.{Answer}
use Rattle.signal.specs.declared.Answer.TheVariants.{KeyZero, KeyOnRecord, NoEmptyRecord, KeyNotOnRecord}
use Rattle.events.specs.declared.Event.{Event}
use Rattle.events.specs.declared.Node.{Node}
use Rattle.call.specs.declared.Call.{Call}
use Rattle.call.specs.declared.Outcome.{Outcome}
use Rattle.call.specs.Record.{emptied, opened_for}
use Rattle.call.specs.Events.{half_of, handled_at}
use Rattle.events.specs.declared.Act.{Act}
use Rattle.events.specs.declared.Act.TheVariants.{Opens, Meets}
use Rattle.call_table.specs.declared.Ran.{Ran}
use Rattle.admission.specs.Admission.{act_admitted, admission_of, refusal_in}
use Rattle.admission.proofs.Claims.{full_is_read_last}
use Rattle.call_table.specs.Table.{call_in, ran_by, refused_at, table_of}
use Rattle.call_table.specs.Claims.{FitRecord, FitTable, TableClaims, call_of}
use Rattle.call_table.proofs.Search.{Found, first, place_of, sought_is, call_of_lem, FoundAt, found_at, on_record_lem, stands_on_record}
use Rattle.call_table.proofs.Fit.{fit_exactly}
use Rattle.call_table.proofs.Claims.{past_the_end}
use Rattle.call.proofs.Ends.{lawful_at}
use Rattle.call_table.proofs.All as any
use Rattle.call_table.proofs.Kept.{after_event}
use Rattle.trace_run.specs.Run.{shown_of}
use Rattle.trace_run.specs.Placed.{keys_in, index_of, place_for, refused_with, carried_on, worked_on, unplaced_for}

-- the call of a key: at the first place that has it, and empty where none has
call_first : (k : ℕ) (ys : List Call) (i : ℕ) → i < length ys → (get_or ys i emptied).key ≡ k →
    ((m : ℕ) → m < i → (get_or ys m emptied).key ≡ k → ⊥) → call_of k ys ≡ get_or ys i emptied
call_first k [] i l e b = absurd (not-suc-le-zero l)
call_first k (c ∷ cs) zero l e b = rw (eq-eqb c.key k e)
call_first k (c ∷ cs) (suc i) l e b =
    rw (ne_eqb c.key k (b 0 (omega arith))) (call_first k cs i (le_of_suc-le-suc l) e (λ m n. b (suc m) (suc-le-suc n)))

call_none : (k : ℕ) (ys : List Call) → ((m : ℕ) → m < length ys → (get_or ys m emptied).key ≡ k → ⊥) → call_of k ys ≡ emptied
call_none k [] h = refl
call_none k (c ∷ cs) h = rw (ne_eqb c.key k (h 0 (omega arith))) (call_none k cs (λ m l. h (suc m) (suc-le-suc l)))

-- the place of a key among the keys is that of the record which a search finds
index_from : (k i : ℕ) (ys : List Call) → position_from (λ x. eqb x k) i (keys_in ys) ≡ place_of (first k i ys)
unfolding first_from
index_from k i [] = refl
index_from k i (c ∷ cs) = by_test (index_from k (i + 1) cs) (eqb c.key k)
  where
    by_test : position_from (λ x. eqb x k) (i + 1) (keys_in cs) ≡ place_of (first k (i + 1) cs) → (b : Bool) →
        cond b (Some i) (position_from (λ x. eqb x k) (i + 1) (keys_in cs)) ≡ place_of (cond b (Some (i, c)) (first k (i + 1) cs))
    by_test h true = refl
    by_test h false = h

index_is : (k : ℕ) (ys : List Call) → index_of k (keys_in ys) ≡ place_of (first k 0 ys)
index_is k ys = position_from-zero (λ x. eqb x k) (keys_in ys) ∙ index_from k 0 ys

-- what a search found stands in the table, first of its key
record Here (k : ℕ) (ys : List Call) (i : ℕ) (c : Call) : Type 0 where
  inside : i < length ys
  there : get_or ys i emptied ≡ c
  named : c.key ≡ k
  before : (m : ℕ) → m < i → (get_or ys m emptied).key ≡ k → ⊥

here : (k : ℕ) (ys : List Call) (i : ℕ) (c : Call) → first k 0 ys ≡ Some (i, c) → Here k ys i c
here k ys i c p =
    let a : FoundAt k 0 i c ys = found_at k 0 i c ys p in
    let e : a.place ≡ i = omega (arith, a.at) in
    record {
      inside = omega (arith, a.at, a.inside);
      there = ap (λ (n : ℕ). get_or ys n emptied) (sym e) ∙ a.there;
      named = a.named;
      before = λ m l q. a.before m (omega arith) q;
    }

nowhere : (k : ℕ) (ys : List Call) → first k 0 ys ≡ None → (m : ℕ) → m < length ys → (get_or ys m emptied).key ≡ k → ⊥
nowhere k ys p m l e =
    true≢false (sym (stands_on_record k m ys l e) ∙ (sym (on_record_lem k 0 ys) ∙ ap (λ (x : Found). not (is_none x)) p))

key_of : {a b : Call} → a ≡ b → a.key ≡ b.key
key_of e = ap (λ (x : Call). x.key) e

-- what is shown of a decision
abbrev shown_by : List Call → ℕ → Ran → Outcome
shown_by ys key d = record { answer = d.done.answer; call = call_of key (set ys d.at d.call); signals = d.done.signals }

-- an outcome is shown with its own call where that is the call of the key
shown_as : (o : Outcome) (c : Call) → c ≡ o.call → ◌≡◌ {A = Outcome} (record { answer = o.answer; call = c; signals = o.signals }) o
shown_as o c e i = record { answer = o.answer; call = e i; signals = o.signals }

-- ---- at an end of the call
module _ (node : Node) where
  abbrev table_claims : TableClaims (half_of node)
  table_claims = any.claims (half_of node) (lawful_at node)

  module _ (ys : List Call) (f : FitTable ys) where
    -- a key but 0 stands at one place only
    alone : (k i m : ℕ) → (k ≡ 0 → ⊥) → i < length ys → m < length ys → (get_or ys i emptied).key ≡ k → (get_or ys m emptied).key ≡ k →
        (m ≡ i → ⊥) → ⊥
    alone k i m z li lm ei em o = by_order (ltb m i) refl
      where
        by_order : (b : Bool) → ltb m i ≡ b → ⊥
        by_order true t = z (sym em ∙ f.keys m i (ltb-true m i t) li (em ∙ sym ei))
        by_order false t =
            let g : i < m = omega (arith, ltb-false m i t, o) in
            z (sym ei ∙ f.keys i m g lm (ei ∙ sym em))

    module _ (key : ℕ) (z : key ≡ 0 → ⊥) where
      -- a call with its key at the place of the first, and all before it as they were
      call_put : (i : ℕ) (d : Call) → i < length ys → ((m : ℕ) → m < i → (get_or ys m emptied).key ≡ key → ⊥) → d.key ≡ key →
          call_of key (set ys i d) ≡ d
      call_put i d l b e =
          call_first key (set ys i d) i (omega (arith, length-set ys i d)) (key_of (get_or-set_same ys i d emptied l) ∙ e)
          (λ m n q. b m n (sym (key_of (get_or-set_other ys i m d emptied (λ (s : m ≡ i). omega arith))) ∙ q))
          ∙ get_or-set_same ys i d emptied l

      -- where the call of a key ends, none has the key
      call_gone : (i : ℕ) → i < length ys → (get_or ys i emptied).key ≡ key → call_of key (set ys i emptied) ≡ emptied
      call_gone i l e =
          call_none key (set ys i emptied)
          (λ m n q.
          let lm : m < length ys = omega (arith, length-set ys i emptied) in
          by_place m lm q)
        where
          by_place : (m : ℕ) → m < length ys → (get_or (set ys i emptied) m emptied).key ≡ key → ⊥
          by_place m lm q =
              let o : m ≡ i → ⊥ = λ s.
              z (sym q ∙ (ap (λ (x : ℕ). (get_or (set ys i emptied) x emptied).key) s ∙ key_of (get_or-set_same ys i emptied emptied l))) in
              alone key i m z l lm e (sym (key_of (get_or-set_other ys i m emptied emptied o)) ∙ q) o

      event_shown : (i : ℕ) (c : Call) (e : Event) → Here key ys i c →
          call_of key (set ys i (handled_at (half_of node) c e).call) ≡ (handled_at (half_of node) c e).call
      event_shown i c e h =
          let cn : c.key ≡ 0 → ⊥ = λ q. z (sym h.named ∙ q) in
          let fc : FitRecord c = rw h.there at (f.each i h.inside) in
          let r = after_event (half_of node) (lawful_at node) c e cn (fc.used cn) in
          ⊎_elim
          (λ q.
          let g : (handled_at (half_of node) c e).call ≡ emptied = r.0.empty q in
          rw g (call_gone i h.inside (key_of h.there ∙ h.named)))
          (λ q. call_put i (handled_at (half_of node) c e).call h.inside h.before (q ∙ h.named))
          r.1

  -- where an opening or event goes, by what the searches find
  abbrev place_on : Found → Found → Act → Option ℕ
  place_on (Some (i, c)) free act = Some i
  place_on None free (Opens wanted) = place_of free
  place_on None free (Meets e) = None

  -- where a record is found for it, that is so whether the table is full or not: an opening is asked for an empty one only where its key
  -- is missing
  admitted_in : (key : ℕ) (act : Act) (found free : Found) (j : ℕ) → place_on found free act ≡ Some j →
      admission_of key act (is_none (place_of found)) false ≡ admission_of key act (is_none found) (is_none free)
  admitted_in key act (Some (i, c)) free j h = full_is_read_last.0 key act false ∙ sym (full_is_read_last.0 key act (is_none free))
  admitted_in key (Opens wanted) None (Some (i, c)) j h = refl
  admitted_in key (Opens wanted) None None j h = absurd (none-some j h)
  admitted_in key (Meets e) None free j h = absurd (none-some j h)

  -- and where none is, the key is missing, and for an opening the table is full
  admitted_out : (key : ℕ) (act : Act) (found free : Found) → place_on found free act ≡ None →
      admission_of key act true true ≡ admission_of key act (is_none found) (is_none free)
  admitted_out key act (Some (i, c)) free h = absurd (none-some i (sym h))
  admitted_out key (Opens wanted) None (Some (i, c)) h = absurd (none-some i (sym h))
  admitted_out key (Opens wanted) None None h = refl
  admitted_out key (Meets e) None free h = refl

  -- there it is refused
  turned_away_lem : (key : ℕ) (act : Act) (c : Call) →
      carried_on node c key (admission_of key act true true) ≡ refused_with (refusal_in (admission_of key act true true)) c
  turned_away_lem key act c = by_key (eqb key 0) act
    where
      by_key : (b : Bool) (act : Act) →
          let a = cond b (Err KeyZero) (act_admitted act true true) in carried_on node c key a ≡ refused_with (refusal_in a) c
      by_key true act = refl
      by_key false (Opens wanted) = refl
      by_key false (Meets e) = refl

  -- the place, by what the searches find
  place_on_lem : (act : Act) (found free : Found) (ks : List ℕ) → index_of 0 ks ≡ place_of free →
      place_for ks (place_of found) act ≡ place_on found free act
  place_on_lem act (Some (i, c)) free ks q = refl
  place_on_lem (Opens wanted) None free ks q = q
  place_on_lem (Meets e) None free ks q = refl

  -- past the end, where there is no place
  abbrev or_end : Option ℕ → ℕ
  or_end place = unwrap_or place 64

  -- what is decided, and what comes of an admission at a place: the same table, and the same outcome shown
  abbrev Goes : List Call → ℕ → Result Act Answer → ℕ → Ran → Type 0
  Goes ys key a j d =
      (set ys d.at d.call ≡ set ys j (carried_on node (get_or ys j emptied) key a).call)
      × (shown_by ys key d ≡ carried_on node (get_or ys j emptied) key a)

  -- a refusal leaves the table, and shows the record of the key where it goes
  refusal_goes : (ys : List Call) (key : ℕ) (a : Answer) (j : ℕ) → get_or ys j emptied ≡ call_of key ys →
      Goes ys key (Err a) j (refused_at (length ys) a)
  refusal_goes ys key a j e =
      let q = (past_the_end ys a).0 in
      (q ∙ sym (set-get_or ys j emptied), shown_as (refused_with a (get_or ys j emptied)) _ (ap (call_of key) q ∙ sym e))

  module _ (ys : List Call) (f : FitTable ys) (n : length ys ≡ 64) (key : ℕ) where
    -- what stands where a search ends
    found_there : (k : ℕ) (found : Found) → first k 0 ys ≡ found → get_or ys (or_end (place_of found)) emptied ≡ call_in found
    found_there k (Some (i, c)) p = (here k ys i c p).there
    found_there k None p = get_or-eq_default ys emptied (omega arith)

    call_there : (k : ℕ) (found : Found) → first k 0 ys ≡ found → get_or ys (or_end (place_of found)) emptied ≡ call_of k ys
    call_there k found p = found_there k found p ∙ (sym (ap call_in p) ∙ call_of_lem k 0 ys)

    by_found : (act : Act) (found free : Found) → first key 0 ys ≡ found → first 0 0 ys ≡ free → (key ≡ 0 → ⊥) →
        let a = act_admitted act (is_none found) (is_none free) in
        Goes ys key a (or_end (place_on found free act)) (ran_by (half_of node) (length ys) (record { found = found; free = free }) key a)
    by_found (Opens wanted) (Some (i, c)) free p q z = refusal_goes ys key KeyOnRecord i (call_there key (Some (i, c)) p)
    by_found (Opens wanted) None (Some (i, c)) p q z =
        let h = here 0 ys i c q in (
          refl,
          shown_as (opened_for key wanted) _
              (call_put ys f key z i _ h.inside (λ m l e. nowhere key ys p m (omega (arith, h.inside)) e) refl),
        )
    by_found (Opens wanted) None None p q z = refusal_goes ys key NoEmptyRecord 64 (call_there key None p)
    by_found (Meets e) (Some (i, c)) free p q z =
        let h = here key ys i c p in
        rw h.there (refl, shown_as (handled_at (half_of node) c e) _ (event_shown ys f key z i c e h))
    by_found (Meets e) None free p q z = refusal_goes ys key KeyNotOnRecord 64 (call_there key None p)

    -- key 0 is found wherever a record is empty, and refused there
    by_zero : (act : Act) (found free : Found) → first key 0 ys ≡ found → first 0 0 ys ≡ free → key ≡ 0 →
        place_on found free act ≡ place_of found
    by_zero act (Some (i, c)) free p q z = refl
    by_zero (Meets e) None free p q z = refl
    by_zero (Opens wanted) None free p q z = ap place_of (sym q ∙ (ap (λ (k : ℕ). first k 0 ys) (sym z) ∙ p))

    by_key : (act : Act) (found free : Found) → first key 0 ys ≡ found → first 0 0 ys ≡ free → (b : Bool) → eqb key 0 ≡ b →
        let a = cond b (Err KeyZero) (act_admitted act (is_none found) (is_none free)) in
        Goes ys key a (or_end (place_on found free act)) (ran_by (half_of node) (length ys) (record { found = found; free = free }) key a)
    by_key act found free p q true t =
        refusal_goes ys key KeyZero (or_end (place_on found free act))
        (ap (λ (j : Option ℕ). get_or ys (or_end j) emptied) (by_zero act found free p q (eqb-true key 0 t)) ∙ call_there key found p)
    by_key act found free p q false t = by_found act found free p q (eqb-false key 0 t)

    went : (act : Act) → let a = admission_of key act (is_none (first key 0 ys)) (is_none (first 0 0 ys)) in
        let j = or_end (place_on (first key 0 ys) (first 0 0 ys) act) in
        (table_of (half_of node) ys key act ≡ set ys j (carried_on node (get_or ys j emptied) key a).call)
        × (shown_of node ys key act ≡ carried_on node (get_or ys j emptied) key a)
    unfolding shown_of
    went act =
        rw (← (table_claims.fit_needs_no_check ys key act ((fit_exactly ys).1 f)).0, sought_is ys key)
        (by_key act (first key 0 ys) (first 0 0 ys) refl refl (eqb key 0) refl)

    module _ (act : Act) (i : Option ℕ) (at : i ≡ index_of key (keys_in ys)) where
      place_is : place_on (first key 0 ys) (first 0 0 ys) act ≡ place_for (keys_in ys) i act
      place_is =
          sym (ap (λ (m : Option ℕ). place_for (keys_in ys) m act) (at ∙ index_is key ys)
          ∙ place_on_lem act (first key 0 ys) (first 0 0 ys) (keys_in ys) (index_is 0 ys))

      -- at a place of the table, the record there becomes what comes of it, and that is shown
      pub placed : (j : ℕ) → place_for (keys_in ys) i act ≡ Some j →
          (table_of (half_of node) ys key act ≡ set ys j (worked_on node (get_or ys j emptied) key act (is_none i)).call)
          × (shown_of node ys key act ≡ worked_on node (get_or ys j emptied) key act (is_none i))
      placed j h =
          let to : j ≡ or_end (place_on (first key 0 ys) (first 0 0 ys) act) = sym (ap or_end (place_is ∙ h)) in
          let a = admitted_in key act (first key 0 ys) (first 0 0 ys) j (place_is ∙ h) in
          rw (at, index_is key ys, a, to) (went act)

      -- past its end, the table stays
      pub unplaced : place_for (keys_in ys) i act ≡ None → (table_of (half_of node) ys key act ≡ ys) × (shown_of node ys key act ≡ unplaced_for key act)
      unplaced h =
          let a = admitted_out key act (first key 0 ys) (first 0 0 ys) (place_is ∙ h) in
          let past : length ys ≤ 64 = omega arith in
          let end = ap or_end (place_is ∙ h) in
          let w = rw (← a, end, get_or-eq_default ys emptied past) at (went act) in
          (w.0 ∙ set_out ys 64 _ past, w.1 ∙ turned_away_lem key act emptied)
