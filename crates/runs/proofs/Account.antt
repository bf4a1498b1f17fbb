-- Any control with the laws of specs/Account keeps the account, proved. Assumes nothing.
use Prim.Native.Nat.{ℕ, zero, suc, ◌+◌, ◌≤◌, ◌<◌}
use native.Mathlib.Omega.{arith}
use mathlib.Core.Path.{◌≡◌, refl, sym, ◌∙◌, ap, subst}
use mathlib.Core.Bool.{Bool, true, false, cond, true≢false}
use mathlib.Core.List.{List, [], ◌∷◌, ◌++◌, append-nil}
use mathlib.Core.Logic.{◌⊎◌, inl, inr}
use lib.Dec.{eqb}
use lib.ListN.{length, length-append}
use borrow.Author.Tests.{eqb-true, eqb-false, le-ltb, lt-ltb}
use Rattle.signal.specs.Counting.{one, count}
use Rattle.signal.proofs.Counting.{count_append, one_self, one_other}
use Rattle.lent.specs.Keyed.{on_record, replaced_for}
use Rattle.runs.specs.Run.{End, Does, opens, meets, KeyedRequest, Reply, Table, Control, table_after, empty_table, call_by_key}
use Rattle.runs.specs.Account.{Log, empty_log, one_to, Settled, AllSettled, given_between, ended_by, asked_by, sent_in, entered, noted}
use Rattle.runs.specs.Account.{logged, Account, Opened, Lives, Met, LawfulControl}
use Rattle.runs.specs.Account as claim
use Rattle.runs.proofs.Keyed.{has_key, is_none, none_on, same_on, same_of, new_of, Once, once_none, once_same, once_new, once_own}
use Rattle.runs.proofs.Keyed.{gone}

-- ---- the numbers from 1 to n
pub outside : (n x : ℕ) → (x ≡ 0) ⊎ (n < x) → count x (one_to n) ≡ 0
outside zero x o = refl
outside (suc n) x (inl e) =
    let other : one x (suc n) ≡ 0 = one_other x (suc n) (λ s. omega arith) in
    count_append x (one_to n) (suc n ∷ []) ∙ omega (arith, outside n x (inl e), other)
outside (suc n) x (inr l) =
    let other : one x (suc n) ≡ 0 = one_other x (suc n) (λ s. omega arith) in
    count_append x (one_to n) (suc n ∷ []) ∙ omega (arith, outside n x (inr (omega arith)), other)

pub within : (n x : ℕ) → 1 ≤ x → x ≤ n → count x (one_to n) ≡ 1
within zero x l m = absurd (omega arith)
within (suc n) x l m = count_append x (one_to n) (suc n ∷ []) ∙ by_test (eqb x (suc n)) refl (within n x l)
  where
    by_test : (b : Bool) → eqb x (suc n) ≡ b → (x ≤ n → count x (one_to n) ≡ 1) → count x (one_to n) + (one x (suc n) + 0) ≡ 1
    by_test true e rest =
        let same : x ≡ suc n = eqb-true x (suc n) e in
        let once : one x (suc n) ≡ 1 = ap (one x) (sym same) ∙ one_self x in
        omega (arith, outside n x (inr (omega arith)), once)
    by_test false e rest =
        let apart : x ≡ suc n → ⊥ = eqb-false x (suc n) e in
        let never : one x (suc n) ≡ 0 = one_other x (suc n) apart in
        omega (arith, rest (omega arith), never)

module _ (E : End) (C : Control E) (L : LawfulControl E C) where
  abbrev on : ℕ → Table E → Bool
  on k ys = on_record E.key k ys

  abbrev of : ℕ → Table E → E.Record
  of k ys = call_by_key E k ys

  -- what holds from request to request, of one key: of its record, whether it is on record, and its log
  pub record Keeps (c : E.Record) (live : Bool) (l : Log) : Type 0 where
    pub numbers : l.given ≡ one_to (length l.given)
    pub recorded : live ≡ true → length l.given ≡ E.last c
    pub counted : (x : ℕ) → count x l.given ≡ count x l.ended + count x (E.held c)
    pub asked : (x : ℕ) → 1 ≤ x → count x l.requested ≤ count x l.given
    pub before : AllSettled l.past

  -- and that the key stands at most once
  abbrev pub Kept : ℕ → Table E → Log → Type 0
  Kept k ys l = Keeps (of k ys) (on k ys) l × Once E.key E.empty k ys

  -- the account, from that
  on_call : (k : ℕ) (ys : Table E) → (E.key (of k ys) ≡ 0 → ⊥) → on k ys ≡ true
  on_call k ys named = by_test (on k ys) refl
    where
      by_test : (b : Bool) → on k ys ≡ b → on k ys ≡ true
      by_test true e = e
      by_test false e = absurd (named (ap E.key (is_none E.key E.empty k ys e) ∙ L.unused))

  -- where a key is not on record, nothing is held
  none_held : (k : ℕ) (ys : Table E) → on k ys ≡ false → (x : ℕ) → count x (E.held (of k ys)) ≡ 0
  none_held k ys e x = ap (λ c. count x (E.held c)) (is_none E.key E.empty k ys e) ∙ ap (count x) L.nothing_held

  off_call : (k : ℕ) (ys : Table E) → (k ≡ 0 → ⊥) → E.key (of k ys) ≡ 0 → on k ys ≡ false
  off_call k ys named nought = by_test (on k ys) refl
    where
      by_test : (b : Bool) → on k ys ≡ b → on k ys ≡ false
      by_test true e = absurd (named (sym (has_key E.key E.empty k ys e) ∙ nought))
      by_test false e = e

  once : (c : E.Record) (live : Bool) (l : Log) → Keeps c live l → (x : ℕ) → 1 ≤ x → x ≤ length l.given →
      count x l.ended + count x (E.held c) ≡ 1
  once c live l h x a b = sym (h.counted x) ∙ (ap (count x) h.numbers ∙ within (length l.given) x a b)

  either_way : (m n : ℕ) → m + n ≡ 1 → ((m ≡ 1) × (n ≡ 0)) ⊎ ((m ≡ 0) × (n ≡ 1))
  either_way zero n e = inr (refl, omega arith)
  either_way (suc m) n e = inl (omega arith, omega arith)

  account : (k : ℕ) (ys : Table E) (l : Log) → (k ≡ 0 → ⊥) → Keeps (of k ys) (on k ys) l → Account E (of k ys) l
  account k ys l named h =
      record {
        numbers = h.numbers;
        recorded = λ used. h.recorded (on_call k ys used);
        accounted = λ x a b. either_way _ _ (once (of k ys) (on k ys) l h x (omega arith) b);
        closed = λ nought x a b. omega (arith, once (of k ys) (on k ys) l h x (omega arith) b, none_held k ys (off_call k ys named nought) x);
        others = λ x o. both_nought (sym (h.counted x) ∙ (ap (count x) h.numbers ∙ outside (length l.given) x o));
        asked = h.asked;
        before = h.before;
      }
    where
      both_nought : {m n : ℕ} → m + n ≡ 0 → (m ≡ 0) × (n ≡ 0)
      both_nought e = (omega arith, omega arith)

  -- ---- a refused request sends nothing, and its log says the same
  nothing_more : (x : ℕ) (ns more : List ℕ) → more ≡ [] → count x (ns ++ more) ≡ count x ns
  nothing_more x ns more e = ap (λ m. count x (ns ++ m)) e ∙ ap (count x) (append-nil ns)

  none_asked : (x : ℕ) (r : Reply E) → r.signals ≡ E.silent → count x (E.requested r.signals) ≡ 0
  none_asked x r quiet = ap (λ s. count x (E.requested s)) quiet ∙ ap (count x) L.nothing_requested

  refused_kept : (k : ℕ) (ys : Table E) (a : KeyedRequest E) (l : Log) → ((C ys a).answer ≡ 0 → ⊥) → Kept k ys l →
      Kept k (C ys a).table (sent_in E (C ys a) l)
  refused_kept k ys a l refused h = subst (λ zs. Kept k zs (sent_in E (C ys a) l)) (sym quiet.0) (record { numbers = h.0.numbers; recorded = h.0.recorded; counted = counted'; asked = asked'; before = h.0.before }, h.1)
    where
      quiet : ((C ys a).table ≡ ys) × ((C ys a).signals ≡ E.silent)
      quiet = L.refused ys a refused

      counted' : (x : ℕ) → count x l.given ≡ count x (l.ended ++ E.released (C ys a).signals) + count x (E.held (of k ys))
      counted' x = omega (arith, h.0.counted x, nothing_more x l.ended _ (ap E.released quiet.1 ∙ L.nothing_released))

      asked' : (x : ℕ) → 1 ≤ x → count x (l.requested ++ asked_by E (C ys a)) ≤ count x l.given
      asked' x a' = omega (arith, h.0.asked x a', count_append x l.requested (asked_by E (C ys a)), none_asked x (C ys a) quiet.1)

  -- ---- an opening
  opening_own : (k : ℕ) (ys : Table E) (r : Reply E) (l : Log) (w : E.Wanted) → Opened E ys k r → Kept k ys l →
      Kept k r.table (entered E (opens w) true (of k ys) (of k r.table) r l)
  opening_own k ys r l w o h = (subst (λ c. Keeps c (on k r.table) (entered E (opens w) true (of k ys) c r l)) (sym now) begun, subst (Once E.key E.empty k) (sym o.stored) (once_new E.key E.empty k 0 o.call ys o.new))
    where
      now : of k r.table ≡ o.call
      now = ap (of k) o.stored ∙ new_of E.key E.empty k 0 o.call ys o.free o.own (inr o.new)

      -- what was before is over and done with: the key was not on record, so nothing was held
      settled : Settled (record { given = l.given; ended = l.ended })
      settled = record { numbers = h.0.numbers; ended = λ x. omega (arith, h.0.counted x, none_held k ys o.new x) }

      begun : Keeps o.call (on k r.table) (entered E (opens w) true (of k ys) o.call r l)
      begun =
          record {
            numbers = ap (λ n. n ∷ []) o.first;
            recorded = λ t. sym o.first;
            counted = λ x.
                let given : count x (E.last o.call ∷ []) ≡ count x (E.held o.call) = ap (λ n. count x (n ∷ [])) o.first ∙ ap (count x) (sym o.holds) in
                let none : count x (E.released r.signals) ≡ 0 = ap (λ s. count x (E.released s)) o.quiet ∙ ap (count x) L.nothing_released in
                omega arith;
            asked = λ x a. omega (arith, none_asked x r o.quiet);
            before = (settled, h.0.before);
          }

  -- ---- an event
  -- the record that it leaves has another key, where it is the empty one
  emptied_other : (k : ℕ) (d : E.Record) → (k ≡ 0 → ⊥) → d ≡ E.empty → E.key d ≡ k → ⊥
  emptied_other k d named emptied s = named (sym s ∙ (ap E.key emptied ∙ L.unused))

  -- the call's record after it
  pub now_is : (k : ℕ) (ys : Table E) (e : E.Event) (r : Reply E) → (k ≡ 0 → ⊥) → Once E.key E.empty k ys → (m : Met E ys k e r) →
      of k r.table ≡ m.call
  now_is k ys e r named single m = ap (of k) m.stored ∙ by_life m.lives
    where
      by_life : Lives E k (of k ys) m.call → of k (replaced_for E.key k m.call ys) ≡ m.call
      by_life (inl lives) = new_of E.key E.empty k k m.call ys m.known lives.0 (inl refl)
      by_life (inr emptied) =
          is_none E.key E.empty k (replaced_for E.key k m.call ys) (gone E.key E.empty k m.call ys single (emptied_other k m.call named emptied))
          ∙ sym emptied

  -- whether the key is on record after it: not where the record was emptied
  pub off_record : (k : ℕ) (ys : Table E) (e : E.Event) (r : Reply E) → (k ≡ 0 → ⊥) → Once E.key E.empty k ys → (m : Met E ys k e r) →
      m.call ≡ E.empty → on k r.table ≡ false
  off_record k ys e r named single m emptied = ap (on k) m.stored ∙ gone E.key E.empty k m.call ys single (emptied_other k m.call named emptied)

  -- the numbers given, where none and where one is added
  none_added : (c d : E.Record) (g : List ℕ) → E.last d ≤ E.last c → g ++ given_between E c d ≡ g
  none_added c d g h = rw (le-ltb (E.last c) (E.last d) h) (append-nil g)

  one_added : (c d : E.Record) (g : List ℕ) → E.last d ≡ suc (E.last c) → g ++ given_between E c d ≡ g ++ (suc (E.last c) ∷ [])
  one_added c d g h = rw (lt-ltb (E.last c) (E.last d) (omega arith), h)

  event_own : (k : ℕ) (ys : Table E) (e : E.Event) (r : Reply E) (l : Log) → (k ≡ 0 → ⊥) → Met E ys k e r → Kept k ys l →
      Kept k r.table (entered E (meets e) true (of k ys) (of k r.table) r l)
  event_own k ys e r l named m h = (
    subst (λ c. Keeps c (on k r.table) (entered E (meets e) true (of k ys) c r l)) (sym (now_is k ys e r named h.1 m))
        record { numbers = numbers' m.lives; recorded = recorded' m.lives; counted = counted'; asked = asked'; before = h.0.before },
    subst (Once E.key E.empty k) (sym m.stored) (once_own E.key E.empty k m.call ys h.1),
  )
    where
      before : length l.given ≡ E.last (of k ys)
      before = h.0.recorded m.known

      given' : List ℕ
      given' = l.given ++ given_between E (of k ys) m.call

      unchanged : E.last m.call ≤ E.last (of k ys) → given' ≡ one_to (length given')
      unchanged h' = let same = none_added (of k ys) m.call l.given h' in same ∙ (h.0.numbers ∙ ap (λ g. one_to (length g)) (sym same))

      longer : E.last m.call ≡ suc (E.last (of k ys)) → length given' ≡ suc (E.last (of k ys))
      longer grew = ap length (one_added (of k ys) m.call l.given grew) ∙ (length-append l.given (suc (E.last (of k ys)) ∷ []) ∙ omega (arith, before))

      numbers' : Lives E k (of k ys) m.call → given' ≡ one_to (length given')
      numbers' (inl (own, inl same)) = unchanged (omega arith)
      numbers' (inl (own, inr grew)) =
          one_added (of k ys) m.call l.given grew ∙ (ap (λ g. g ++ (suc (E.last (of k ys)) ∷ [])) (h.0.numbers ∙ ap one_to before) ∙ ap one_to (sym (longer grew)))
      numbers' (inr emptied) = let none : E.last m.call ≡ 0 = ap E.last emptied ∙ L.spent in unchanged (omega arith)

      recorded' : Lives E k (of k ys) m.call → on k r.table ≡ true → length given' ≡ E.last m.call
      recorded' (inl (own, inl same)) t = ap length (none_added (of k ys) m.call l.given (omega arith)) ∙ (before ∙ sym same)
      recorded' (inl (own, inr grew)) t = longer grew ∙ sym grew
      recorded' (inr emptied) t = absurd (true≢false (sym t ∙ off_record k ys e r named h.1 m emptied))

      counted' : (x : ℕ) → count x given' ≡ count x (l.ended ++ ended_by E e r) + count x (E.held m.call)
      counted' x = omega (arith, count_append x l.given (given_between E (of k ys) m.call), count_append x l.ended (ended_by E e r), h.0.counted x, m.balances x)

      asked' : (x : ℕ) → 1 ≤ x → count x (l.requested ++ asked_by E r) ≤ count x given'
      asked' x a = omega (arith, count_append x l.given (given_between E (of k ys) m.call), count_append x l.requested (asked_by E r), h.0.asked x a, m.asks x a)

  -- ---- a request for another key leaves this one
  pub record Same (k : ℕ) (ys zs : Table E) : Type 0 where
    pub on_same : on k zs ≡ on k ys
    pub of_same : of k zs ≡ of k ys
    pub single : Once E.key E.empty k ys → Once E.key E.empty k zs

  replaced_same : (k j : ℕ) (d : E.Record) (ys zs : Table E) → zs ≡ replaced_for E.key j d ys → (j ≡ k → ⊥) → (E.key d ≡ k → ⊥) →
      Same k ys zs
  replaced_same k j d ys zs stored other new =
      record {
        on_same = ap (on k) stored ∙ same_on E.key E.empty k j d ys other new;
        of_same = ap (of k) stored ∙ same_of E.key E.empty k j d ys other new;
        single = λ h. subst (Once E.key E.empty k) (sym stored) (once_same E.key E.empty k j d ys new h);
      }

  pub other_same : (k j : ℕ) (ys : Table E) (does : Does E.Wanted E.Event) → (k ≡ 0 → ⊥) → (j ≡ k → ⊥) → (C ys (record { key = j; does = does })).answer ≡ 0 →
      Same k ys (C ys (record { key = j; does = does })).table
  other_same k j ys (opens w) named other done =
      let o = L.opened ys j w done in replaced_same k 0 o.call ys _ o.stored (λ s. named (sym s)) (λ s. other (sym o.own ∙ s))
  other_same k j ys (meets e) named other done =
      let m = L.met ys j e done in replaced_same k j m.call ys _ m.stored other (new m.lives)
    where
      new : {c d : E.Record} → Lives E j c d → E.key d ≡ k → ⊥
      new (inl lives) s = other (sym lives.0 ∙ s)
      new (inr emptied) s = named (sym s ∙ (ap E.key emptied ∙ L.unused))

  kept_same : (k : ℕ) (ys zs : Table E) (l : Log) → Same k ys zs → Kept k ys l → Kept k zs l
  kept_same k ys zs l same h = (subst (λ b. Keeps (of k zs) b l) (sym same.on_same) (subst (λ c. Keeps c (on k ys) l) (sym same.of_same) h.0), same.single h.1)

  -- ---- a request for this key, done or refused
  own_done : (k : ℕ) (ys : Table E) (does : Does E.Wanted E.Event) (l : Log) → (k ≡ 0 → ⊥) → (C ys (record { key = k; does = does })).answer ≡ 0 → Kept k ys l →
      Kept k (C ys (record { key = k; does = does })).table
      (entered E does true (of k ys) (of k (C ys (record { key = k; does = does })).table) (C ys (record { key = k; does = does })) l)
  own_done k ys (opens w) l named done h = opening_own k ys _ l w (L.opened ys k w done) h
  own_done k ys (meets e) l named done h = event_own k ys e _ l named (L.met ys k e done) h

  own_refused : (does : Does E.Wanted E.Event) (before now : E.Record) (r : Reply E) (l : Log) →
      entered E does false before now r l ≡ sent_in E r l
  own_refused (opens w) before now r l = refl
  own_refused (meets e) before now r l = refl

  -- ---- any request, and a run
  pub step : (k j : ℕ) (ys : Table E) (does : Does E.Wanted E.Event) (l : Log) → (k ≡ 0 → ⊥) → Kept k ys l →
      Kept k (C ys (record { key = j; does = does })).table (noted E k ys (record { key = j; does = does }) (C ys (record { key = j; does = does })) l)
  step k j ys does l named h = by_tests (eqb j k) (eqb r.answer 0) refl refl
    where
      a : KeyedRequest E
      a = record { key = j; does = does }

      r : Reply E
      r = C ys a

      by_tests : (mine done : Bool) → eqb j k ≡ mine → eqb r.answer 0 ≡ done →
          Kept k r.table (cond mine (entered E does done (of k ys) (of k r.table) r l) l)
      by_tests true true own done =
          subst
          (λ i. (C ys (record { key = i; does = does })).answer ≡ 0 →
          Kept k (C ys (record { key = i; does = does })).table
          (entered E does true (of k ys) (of k (C ys (record { key = i; does = does })).table) (C ys (record { key = i; does = does })) l))
          (sym (eqb-true j k own)) (λ d. own_done k ys does l named d h) (eqb-true r.answer 0 done)
      by_tests true false own done =
          subst (Kept k r.table) (sym (own_refused does (of k ys) (of k r.table) r l)) (refused_kept k ys a l (eqb-false r.answer 0 done) h)
      by_tests false true own done = kept_same k ys r.table l (other_same k j ys does named (eqb-false j k own) (eqb-true r.answer 0 done)) h
      by_tests false false own done = subst (λ zs. Kept k zs l) (sym (L.refused ys a (eqb-false r.answer 0 done)).0) h

  pub along : (k : ℕ) (ys : Table E) (requests : List (KeyedRequest E)) (l : Log) → (k ≡ 0 → ⊥) → Kept k ys l →
      Kept k (table_after E C ys requests) (logged E C k ys l requests)
  along k ys [] l named h = h
  along k ys (a ∷ more) l named h = along k (C ys a).table more (noted E k ys a (C ys a) l) named (step k a.key ys a.does l named h)

  -- an empty table has no key, and nothing to account for
  none_first : (k n : ℕ) → (k ≡ 0 → ⊥) → on k (empty_table E n) ≡ false
  none_first k n named = none_on E.key E.empty k n (λ s. named (sym s ∙ L.unused))

  pub at_first : (k n : ℕ) → (k ≡ 0 → ⊥) → Kept k (empty_table E n) empty_log
  at_first k n named = (
    record {
      numbers = refl;
      recorded = λ t. absurd (true≢false (sym t ∙ none_first k n named));
      counted = λ x. omega (arith, none_held k (empty_table E n) (none_first k n named) x);
      asked = λ x a. omega arith;
      before = tt;
    },
    once_none E.key E.empty k (empty_table E n) (none_first k n named),
  )

pub laws_keep_account : (E : End) → claim.LawsKeepAccount E
laws_keep_account E C L n requests k named =
    account E C L k (table_after E C (empty_table E n) requests) _ named (along E C L k (empty_table E n) requests empty_log named (at_first E C L k n named)).0
