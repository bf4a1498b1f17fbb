-- The laws that the account asks of an end (runs, specs/Account), of our control of any end whose half keeps the laws. Assumes nothing.
use Prim.Native.Nat.{◌+◌, ◌<◌, ◌≤◌, suc, suc-le-suc, zero, zero-le, ℕ}
use native.Mathlib.Omega.{arith}
use mathlib.Core.Bool.{Bool, ◌||◌, cond, false, false≢true, not, true}
use mathlib.Core.List.{List, [], ◌++◌, ◌∷◌}
use mathlib.Core.Logic.{◌⊎◌, inl, inr}
use mathlib.Core.Path.{◌∙◌, ◌≡◌, ap, refl, subst, sym}
use lib.Dec.{eqb, ltb}
use lib.ListN.{get_or, length}
use borrow.Author.Tests.{eqb-false, lt-ltb}
use Rattle.std.specs.Prelude.{Option}
use Rattle.runs.proofs.Keyed.{has_key}
use Rattle.runs.specs.Account.{LawfulControl, Lives, Met, Opened, given_between}
use Rattle.runs.specs.Run.{meets, opens}
use Rattle.signal.proofs.Counting.{one_other}
use Rattle.signal.specs.Counting.{count, ended_sent, named, of_kind, one}
use Rattle.signal.specs.Numbers.{answer_number}
use Rattle.signal.specs.declared.Kind.TheVariants.{SetupRequest}
use Rattle.signal.specs.declared.Signal.{Signal}
use Rattle.signal.specs.declared.Services.{Services}
use Rattle.events.specs.Events.{reported}
use Rattle.events.specs.declared.Act.{Act}
use Rattle.events.specs.declared.Act.TheVariants.{Meets, Opens}
use Rattle.events.specs.declared.Event.{Event}
use Rattle.rows.specs.Checks.{AllAre}
use Rattle.rows.specs.States.{held_in, is_null}
use Rattle.call.specs.Claims.{EventClaims, Lawful, ended_received}
use Rattle.call.specs.Events.{Half, handled_at}
use Rattle.call.specs.Record.{emptied, opened_for}
use Rattle.call.specs.declared.Call.{Call}
use Rattle.call.specs.declared.Outcome.{Outcome}
use Rattle.call_table.proofs.Fit.{fit_exactly}
use Rattle.call_table.specs.Claims.{TableClaims}
use Rattle.call_table.specs.Fit.{fit_table}
use Rattle.promises.specs.Ends.{as_act, calls, ours}
use Rattle.call.proofs.Claims as events
use Rattle.call_table.proofs.All as tables
use Rattle.call_table.specs.Claims as table

-- ---- of a table and a key
-- what holds of each record holds of the one of a key that stands
each_of : (P : Call → Type 0) (k : ℕ) (ys : List Call) → ((i : ℕ) → i < length ys → P (get_or ys i emptied)) → table.has_call k ys ≡ true →
    P (table.call_of k ys)
each_of P k [] each h = absurd (false≢true h)
each_of P k (c ∷ cs) each h = by_test (eqb c.key k) h (each_of P k cs (λ i l. each (suc i) (suc-le-suc l)))
  where
    by_test : (b : Bool) → (b || table.has_call k cs) ≡ true → (table.has_call k cs ≡ true → P (table.call_of k cs)) →
        P (cond b c (table.call_of k cs))
    by_test true t rest = each 0 (suc-le-suc zero-le)
    by_test false t rest = rest t

pub key_of : (k : ℕ) (ys : List Call) → table.has_call k ys ≡ true → (table.call_of k ys).key ≡ k
key_of k ys h = has_key calls.key emptied k ys h

-- the call of a key that stands in a fit table is in use
pub live_of : (k : ℕ) (ys : List Call) → (k ≡ 0 → ⊥) → fit_table ys ≡ true → table.has_call k ys ≡ true →
    is_null (table.call_of k ys).state ≡ false
live_of k ys named fit h =
    ((each_of table.FitRecord k ys ((fit_exactly ys).0 fit).each h).used (λ nought. named (sym (key_of k ys h) ∙ nought))).live

-- ---- of the setups that are sent
length_named : (ss : List Signal) → length (named ss) ≡ length ss
length_named [] = refl
length_named (s ∷ ss) = ap suc (length_named ss)

never_nought : (x : ℕ) (ns : List ℕ) → 1 ≤ x → AllAre 0 ns → count x ns ≡ 0
never_nought x [] positive h = refl
never_nought x (n ∷ ns) positive h =
    let nought : n ≡ 0 = h.0 in
    let other : one x n ≡ 0 = one_other x n (λ s. omega arith) in
    omega (arith, never_nought x ns positive h.1)

at_most_one : (x last now m : ℕ) (ns : List ℕ) → AllAre now ns → length ns ≤ m → m ≤ 1 → now ≡ last + m →
    count x ns ≤ count x (cond (ltb last now) (now ∷ []) [])
at_most_one x last now m [] own few one' grown = zero-le
at_most_one x last now m (n ∷ []) own few one' grown =
    let same : count x (n ∷ []) ≡ count x (now ∷ []) = ap (λ k. count x (k ∷ [])) own.0 in
    rw (lt-ltb last now (omega arith)) (omega arith)
at_most_one x last now m (n ∷ (k ∷ ns)) own few one' grown = absurd (omega arith)

module _ (half : Half) (L : Lawful half) where
  -- the claims on one event, and on the table
  pub event : EventClaims half
  event = events.claims half L

  pub row : TableClaims half
  row = tables.claims half L

  -- what an event makes of a call
  abbrev after : Call → Event → Outcome
  after = handled_at half

  -- ---- what an answer 0 says: the table is fit, the key is not 0, and the key stands or does not
  pub done_fit : (ys : List Call) (key : ℕ) (act : Act) → table.answered half ys key act ≡ 0 →
      (fit_table ys ≡ true) × ((eqb key 0 ≡ false) × (table.answer_for half ys key act ≡ 0))
  done_fit ys key act done = by_tests (fit_table ys) (eqb key 0) refl refl (sym (row.answers_in_order ys key act) ∙ done)
    where
      by_tests : (fit nought : Bool) → fit_table ys ≡ fit → eqb key 0 ≡ nought →
          cond fit (cond nought 102 (table.answer_for half ys key act)) 101 ≡ 0 →
          (fit_table ys ≡ true) × ((eqb key 0 ≡ false) × (table.answer_for half ys key act ≡ 0))
      by_tests true false f n e = (f, (n, e))
      by_tests true true f n e = absurd (omega arith)
      by_tests false nought f n e = absurd (omega arith)

  -- ---- openings
  opening_law : (ys : List Call) (k : ℕ) (w : Option Services) → table.answered half ys k (Opens w) ≡ 0 → Opened calls ys k (ours half ys (record { key = k; does = opens w }))
  opening_law ys k w done =
      let found = by_tests (table.has_call k ys) (table.has_call 0 ys) refl refl (done_fit ys k (Opens w) done).1.1 in
      let stored = row.opening_takes_its_record ys k w done in
      record {
        call = (opened_for k w).call;
        own = refl;
        free = found.1;
        new = found.0;
        stored = stored.0;
        first = refl;
        holds = refl;
        quiet = stored.1;
      }
    where
      by_tests : (here free : Bool) → table.has_call k ys ≡ here → table.has_call 0 ys ≡ free → ◌≡◌ {A = ℕ} (cond here 103 (cond (not free) 104 0)) 0 →
          (table.has_call k ys ≡ false) × (table.has_call 0 ys ≡ true)
      by_tests false true h f e = (h, f)
      by_tests false false h f e = absurd (omega arith)
      by_tests true free h f e = absurd (omega arith)

  -- ---- events
  pub standing : (ys : List Call) (k : ℕ) (e : Event) → table.answer_for half ys k (Meets e) ≡ 0 →
      (table.has_call k ys ≡ true) × (answer_number (after (table.call_of k ys) e).answer ≡ 0)
  standing ys k e done = by_test (table.has_call k ys) refl done
    where
      by_test : (here : Bool) → table.has_call k ys ≡ here → cond (not here) 105 (answer_number (after (table.call_of k ys) e).answer) ≡ 0 →
          (table.has_call k ys ≡ true) × (answer_number (after (table.call_of k ys) e).answer ≡ 0)
      by_test true h d = (h, d)
      by_test false h d = absurd (omega arith)

  -- the call lives, with its last number or the next; or its record is emptied
  lives_on : (k : ℕ) (c : Call) (e : Event) → c.key ≡ k → is_null c.state ≡ false → Lives calls k c (after c e).call
  lives_on k c e own live = by_state (is_null (after c e).call.state) refl
    where
      grows : (m n : ℕ) → n ≤ 1 → m ≡ c.last + n → (m ≡ c.last) ⊎ (m ≡ suc c.last)
      grows m zero l p = inl (omega arith)
      grows m (suc n) l p = inr (omega arith)

      by_state : (b : Bool) → is_null (after c e).call.state ≡ b → Lives calls k c (after c e).call
      by_state false h =
          let last = event.last_by_one c e _ refl h in
          inl ((event.key_and_services_stay c e _ refl h).0 ∙ own, grows _ _ last.1 last.0)
      by_state true h = inr (event.ended_is_emptied c e _ refl live h)

  -- the balance, where the event is not refused
  balanced : (c : Call) (e : Event) → answer_number (after c e).answer ≡ 0 → (x : ℕ) →
      count x (held_in c.state) + count x (given_between calls c (after c e).call) ≡ count x (held_in (after c e).call.state) + count x (reported e ++ ended_sent (after c e).signals)
  balanced c e done x =
      event.balances c e _ refl x
      ∙ ap (λ n. count x (held_in (after c e).call.state) + count x (ended_received n (reported e) ++ ended_sent (after c e).signals)) done

  -- a setup that is sent names the number that is given
  asked_for : (c : Call) (e : Event) → is_null c.state ≡ false → (x : ℕ) → 1 ≤ x →
      count x (calls.requested (after c e).signals) ≤ count x (given_between calls c (after c e).call)
  asked_for c e live x positive = by_state (is_null (after c e).call.state) refl
    where
      sent : List Signal
      sent = of_kind SetupRequest (after c e).signals

      own : AllAre (after c e).call.last (named sent)
      own = (event.signals_name_their_own c e _ refl).1.1.1

      by_state : (b : Bool) → is_null (after c e).call.state ≡ b →
          count x (calls.requested (after c e).signals) ≤ count x (given_between calls c (after c e).call)
      by_state false h =
          let last = event.last_by_one c e _ refl h in
          let few = at_most_one x c.last (after c e).call.last _ (named sent) own (omega (arith, length_named sent)) last.1 last.0 in
          omega arith
      by_state true h =
          let none = never_nought x (named sent) positive (subst (λ n. AllAre n (named sent)) (ap (λ d. d.last) (event.ended_is_emptied c e _ refl live h)) own) in
          omega arith

  event_law : (ys : List Call) (k : ℕ) (e : Event) → table.answered half ys k (Meets e) ≡ 0 → Met calls ys k e (ours half ys (record { key = k; does = meets e }))
  event_law ys k e done =
      let fit = done_fit ys k (Meets e) done in
      let here = standing ys k e fit.1.1 in
      let changed = row.event_changes_its_call ys k e done in
      let c = table.call_of k ys in
      let live = live_of k ys (eqb-false k 0 fit.1.0) fit.0 here.0 in
      record {
        call = (after c e).call;
        known = here.0;
        stored = changed.0;
        lives = lives_on k c e (key_of k ys here.0) live;
        balances = λ x.
            balanced c e here.1 x ∙ ap (λ ss. count x (held_in (after c e).call.state) + count x (reported e ++ ended_sent ss)) (sym changed.1);
        asks = λ x positive.
            subst (λ ss. count x (calls.requested ss) ≤ count x (given_between calls c (after c e).call)) (sym changed.1) (asked_for c e live x positive);
      }

  -- ---- all of them
  pub lawful : LawfulControl calls (ours half)
  lawful =
      record {
        unused = refl;
        spent = refl;
        nothing_held = refl;
        nothing_released = refl;
        nothing_requested = refl;
        refused = λ ys a h. row.refusals_change_nothing ys a.key (as_act a.does) h;
        opened = opening_law;
        met = event_law;
      }

  -- the call that an event leaves is what it makes of the call of its key
  pub met_is : (ys : List Call) (k : ℕ) (e : Event) (done : table.answered half ys k (Meets e) ≡ 0) →
      (lawful.met ys k e done).call ≡ (after (table.call_of k ys) e).call
  unfolding lawful event_law
  met_is ys k e done = refl
