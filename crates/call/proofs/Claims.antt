-- The claims on one event (specs/Claims), proved once for any half that keeps the laws: the first part turns an effect into facts on the record, the second
-- reads as an index. Assumes nothing.
use Prim.Native.Nat.{◌+◌, ◌<◌, ◌≤◌, ℕ}
use native.Mathlib.Omega.{arith}
use mathlib.Core.Bool.{Bool, ◌&&◌, cond, false, false≢true, not, true, true≢false}
use mathlib.Core.List.{List, [], ◌∷◌}
use mathlib.Core.Logic.{◌↔◌, ◌⊎◌, inl, inr}
use mathlib.Core.Path.{◌∙◌, ◌≡◌, ap, refl, subst, sym}
use lib.Dec.{eqb, ltb}
use lib.ListN.{length}
use borrow.Author.Tests.{eq-eqb, eqb-false, eqb-true, le-ltb, lt-ltb, ltb-false, ltb-true, ne_eqb}
use Rattle.signal.proofs.Claims.{services_exactly}
use Rattle.signal.proofs.Counting.{count_append, one_most, one_same}
use Rattle.signal.specs.Causes.{in_progress}
use Rattle.signal.specs.Counting.{count, ended_sent, named, of_kind}
use Rattle.signal.specs.Numbers.{answer_number}
use Rattle.signal.specs.Signals.{rejection}
use Rattle.signal.specs.declared.Kind.TheVariants.{Rejection, SetupRequest}
use Rattle.signal.specs.declared.Signal.{Signal}
use Rattle.events.specs.Events.{number_brought, reported, setup_number}
use Rattle.events.specs.declared.Event.{Event}
use Rattle.events.specs.declared.Event.TheVariants.{Setup}
use Rattle.rows.proofs.Same.{not_so}
use Rattle.rows.specs.Cases.{Standing, has_room}
use Rattle.rows.specs.Checks.{AllAre, asks_number, first_of, is_stored_rejected, names_not_held, number_stored, numbers_spent, rejection_wanted}
use Rattle.rows.specs.Checks.{stored_wanted, unrejected}
use Rattle.rows.specs.Meaning.{Kept, Left, Obeys, accepted_by, given_by, stored_by}
use Rattle.rows.specs.Rules.{is_done}
use Rattle.rows.specs.States.{held_in, is_null}
use Rattle.rows.specs.declared.Effect.{Effect}
use Rattle.rows.specs.declared.State.{State}
use Rattle.rows.specs.declared.State.TheVariants.{Awaiting, HardUnderway, HardWaiting, Idle, Null, SoftInitiated, SoftProceeding}
use Rattle.rows.specs.declared.State.TheVariants.{SoftTriggered}
use Rattle.call.specs.Claims.{ended}
use Rattle.call.specs.Events.{Half, handled_at}
use Rattle.call.specs.Record.{call_done, emptied, last_after, last_given, moved_to, standing}
use Rattle.call.specs.declared.Call.{Call}
use Rattle.call.specs.declared.Outcome.{Outcome}
use Rattle.call.proofs.Setups.{Stores, accepted_stores, brought, by_event, in_progress_is, in_progress_stores, rejected_for_lem, stored_by_lem}
use Rattle.call.specs.Claims as claim

-- ---- openings, and what is returned
pub opens_with_one : claim.OpensWithOne
opens_with_one key wanted o r = rw r (refl, (refl, (refl, (refl, (refl, refl)))))

pub opens_with_services : claim.OpensWithServices
opens_with_services key wanted o r = rw r ((services_exactly wanted _ _).1 (refl, refl))

pub handle_is_returned : claim.HandleIsReturned
handle_is_returned node c e = refl

-- ---- the first of three checks
module _ (a : ℕ) where
  first_106 : (m h n : Bool) → a ≡ first_of m h n → (a ≡ 106) ↔ (m ≡ true)
  first_106 true h n e = (λ p. refl, λ p. e)
  first_106 false true n e = (λ p. absurd (omega arith), λ p. absurd (false≢true p))
  first_106 false false true e = (λ p. absurd (omega arith), λ p. absurd (false≢true p))
  first_106 false false false e = (λ p. absurd (omega arith), λ p. absurd (false≢true p))

  first_107 : (m h n : Bool) → a ≡ first_of m h n → (a ≡ 107) ↔ ((m ≡ true → ⊥) × (h ≡ true))
  first_107 true h n e = (λ p. absurd (omega arith), λ p. absurd (p.0 refl))
  first_107 false true n e = (λ p. (false≢true, refl), λ p. e)
  first_107 false false true e = (λ p. absurd (omega arith), λ p. absurd (false≢true p.1))
  first_107 false false false e = (λ p. absurd (omega arith), λ p. absurd (false≢true p.1))

  first_108 : (m h n : Bool) → a ≡ first_of m h n → (a ≡ 108) ↔ ((m ≡ true → ⊥) × ((h ≡ true → ⊥) × (n ≡ true)))
  first_108 true h n e = (λ p. absurd (omega arith), λ p. absurd (p.0 refl))
  first_108 false true n e = (λ p. absurd (omega arith), λ p. absurd (p.1.0 refl))
  first_108 false false true e = (λ p. (false≢true, (false≢true, refl)), λ p. e)
  first_108 false false false e = (λ p. absurd (omega arith), λ p. absurd (false≢true p.1.1))

  first_0 : (m h n : Bool) → a ≡ first_of m h n → (a ≡ 0) ↔ ((m ≡ true → ⊥) × ((h ≡ true → ⊥) × (n ≡ true → ⊥)))
  first_0 true h n e = (λ p. absurd (omega arith), λ p. absurd (p.0 refl))
  first_0 false true n e = (λ p. absurd (omega arith), λ p. absurd (p.1.0 refl))
  first_0 false false true e = (λ p. absurd (omega arith), λ p. absurd (p.1.1 refl))
  first_0 false false false e = (λ p. (false≢true, (false≢true, false≢true)), λ p. e)

-- 108's check, and its words
no_number : (asks : Bool) (last : ℕ) → (asks && not (has_room last) ≡ true) ↔ ((asks ≡ true) × (65535 ≤ last))
no_number true last = (λ p. (refl, ltb-false last 65535 (not_so (ltb last 65535) p)), λ p. rw (le-ltb last 65535 p.1))
no_number false last = (λ p. absurd (false≢true p), λ p. absurd (false≢true p.0))

-- ---- numbers
none_named : (x : ℕ) (sent : List Signal) → length sent ≡ 0 → AllAre x (named sent)
none_named x [] p = tt
none_named x (s ∷ more) p = absurd (omega arith)

-- the next number is the last plus one, where there is room
given_next : (last : ℕ) → has_room last ≡ true → last_given last ≡ last + 1
given_next last p = rw p

one_long : (b : Bool) (n : ℕ) → length (cond b (n ∷ []) []) ≤ 1
one_long true n = omega arith
one_long false n = omega arith

received_same : (n : ℕ) (got : List ℕ) → claim.ended_received n got ≡ cond (eqb n 0) got []
received_same n got = by (eqb n 0) refl
  where
    by : (b : Bool) → eqb n 0 ≡ b → claim.ended_received n got ≡ cond b got []
    by true p = let z : n ≡ 0 = eqb-true n 0 p in rw (le-ltb 0 n (omega arith))
    by false p = let z : n ≡ 0 → ⊥ = eqb-false n 0 p in rw (lt-ltb 0 n (omega arith))

null_is : (s : State) → is_null s ≡ true → s ≡ Null
null_is Null p = refl
null_is (Idle i) p = absurd (false≢true p)
null_is HardWaiting p = absurd (false≢true p)
null_is (HardUnderway r) p = absurd (false≢true p)
null_is (SoftTriggered i) p = absurd (false≢true p)
null_is (SoftProceeding i r) p = absurd (false≢true p)
null_is (SoftInitiated i r) p = absurd (false≢true p)
null_is (Awaiting i r) p = absurd (false≢true p)

-- a number that is stored is greater than the one on record
stored_above : (remote number : ℕ) (meaningless stores : Bool) → (stores ≡ true → remote < number) →
    let stored = claim.number_else remote (cond (not meaningless && stores) (number ∷ []) []) in
    (stored ≡ remote) ⊎ (remote < stored)
stored_above remote number true stores newer = inl refl
stored_above remote number false true newer = inr (newer refl)
stored_above remote number false false newer = inl refl

module _ (half : Half) (L : claim.Lawful half) where
  -- ---- what one event leaves of the record, by its effect
  module _ (c : Call) (e : Event) where
    abbrev x : Standing
    x = standing c

    abbrev f : Effect
    f = half.does x e

    abbrev o : Outcome
    o = handled_at half c e

    law : Kept half.demands.node x e f
    law = L.kept x e

    asked : Obeys half.demands x e f
    asked = L.obeyed x e

    -- refused, ended, or gone on
    by_end : (P : Call → Type 0) → (is_done f.answer ≡ false → P c) → (is_done f.answer ≡ true → is_null f.state ≡ true → P emptied) →
        (is_done f.answer ≡ true → is_null f.state ≡ false → P (moved_to c f.state (last_after f.gives c.last) (cond f.stores (number_brought e) c.remote))) → P o.call
    by_end P refused ended on = by_answer (is_done f.answer) refl
      where
        by_null : (b : Bool) → is_done f.answer ≡ true → is_null f.state ≡ b →
            P (cond b emptied (moved_to c f.state (last_after f.gives c.last) (cond f.stores (number_brought e) c.remote)))
        by_null true d p = ended d p
        by_null false d p = on d p

        by_answer : (b : Bool) → is_done f.answer ≡ b → P (cond b (call_done c (number_brought e) f.state f.gives f.stores) c)
        by_answer true d = by_null (is_null f.state) d refl
        by_answer false d = refused d

    pub state_same : o.call.state ≡ f.state
    state_same = by_end (λ d. d.state ≡ f.state) (λ r. sym (law.quiet r).state) (λ d p. sym (null_is f.state p)) (λ d p. refl)

    -- a number is given to a call that goes on
    not_given : is_null f.state ≡ true → f.gives ≡ false
    not_given p = by f.gives refl
      where
        by : (b : Bool) → f.gives ≡ b → b ≡ false
        by true g = absurd (true≢false (sym p ∙ law.lives g))
        by false g = refl

    given_same : claim.given c o ≡ given_by x f
    given_same =
        by_end (λ d. cond (ltb c.last d.last) (d.last ∷ []) [] ≡ given_by x f)
        (λ r. rw (le-ltb c.last c.last (omega arith), (law.quiet r).gives))
        (λ d p. rw (le-ltb c.last 0 (omega arith), not_given p))
        (λ d p. by f.gives refl)
      where
        by : (b : Bool) → f.gives ≡ b → let last = last_after b c.last in cond (ltb c.last last) (last ∷ []) [] ≡ cond b ((c.last + 1) ∷ []) []
        by true g = rw (given_next c.last (law.roomy g), lt-ltb c.last (c.last + 1) (omega arith))
        by false g = rw (le-ltb c.last c.last (omega arith))

    balance : (n : ℕ) →
        count n (held_in c.state) + count n (claim.given c o) ≡ count n (held_in o.call.state) + count n (claim.ended e o)
    balance n =
        simp (given_same, state_same, received_same (answer_number f.answer) (reported e), count_append) (law.balanced n)

    -- the last number, while the call lives
    last_live : is_null o.call.state ≡ false → o.call.last ≡ c.last + length (given_by x f)
    last_live =
        by_end (λ d. is_null d.state ≡ false → d.last ≡ c.last + length (given_by x f))
        (λ r live. rw (law.quiet r).gives (omega arith))
        (λ d p live. absurd (true≢false live))
        (λ d p live. by f.gives refl)
      where
        by : (b : Bool) → f.gives ≡ b → last_after b c.last ≡ c.last + length (cond b ((c.last + 1) ∷ []) [])
        by true g = given_next c.last (law.roomy g)
        by false g = omega arith

    given_most : (n : ℕ) → count n (given_by x f) ≤ 1
    given_most n = by f.gives
      where
        by : (b : Bool) → count n (cond b ((c.last + 1) ∷ []) []) ≤ 1
        by true = omega (arith, one_most n (c.last + 1))
        by false = omega arith

    given_is : (n : ℕ) → 1 ≤ count n (given_by x f) → (n ≡ c.last + 1) × (1 ≤ length (given_by x f))
    given_is n = by f.gives
      where
        by : (b : Bool) → 1 ≤ count n (cond b ((c.last + 1) ∷ []) []) → (n ≡ c.last + 1) × (1 ≤ length (cond b ((c.last + 1) ∷ []) []))
        by true h = (one_same n (c.last + 1) (omega arith), omega arith)
        by false h = absurd (omega arith)

    -- held or given before, a number counts once at most
    once : claim.Sound c → (n : ℕ) → count n (held_in c.state) + count n (claim.given c o) ≤ 1
    once sound n = rw given_same (by (ltb 0 (count n (held_in c.state))) (ltb 0 (count n (given_by x f))) refl refl)
      where
        by : (v w : Bool) → ltb 0 (count n (held_in c.state)) ≡ v → ltb 0 (count n (given_by x f)) ≡ w →
            count n (held_in c.state) + count n (given_by x f) ≤ 1
        by true true p q =
            let held : 0 < count n (held_in c.state) = ltb-true 0 _ p in
            let new : 0 < count n (given_by x f) = ltb-true 0 _ q in
            let next : n ≡ c.last + 1 = (given_is n (omega arith)).0 in
            absurd (omega (arith, (sound.within n (omega arith)).1))
        by true false p q = omega (arith, ltb-false 0 (count n (given_by x f)) q, sound.differ n)
        by false w p q = omega (arith, ltb-false 0 (count n (held_in c.state)) p, given_most n)

    -- while anything is held, the call lives
    held_live : (n : ℕ) → 1 ≤ count n (held_in o.call.state) → is_null o.call.state ≡ false
    held_live n h = by (is_null o.call.state) refl
      where
        by : (b : Bool) → is_null o.call.state ≡ b → is_null o.call.state ≡ false
        by true p =
            let none' : count n (held_in o.call.state) ≡ 0 = ap (λ s. count n (held_in s)) (null_is o.call.state p) in
            absurd (omega arith)
        by false p = p

    stays_within : claim.Sound c → (n : ℕ) → 1 ≤ count n (held_in o.call.state) → (1 ≤ n) × (n ≤ o.call.last)
    stays_within sound n held = by (ltb 0 (count n (held_in c.state))) refl
      where
        last : o.call.last ≡ c.last + length (given_by x f)
        last = last_live (held_live n held)

        by : (v : Bool) → ltb 0 (count n (held_in c.state)) ≡ v → (1 ≤ n) × (n ≤ o.call.last)
        by true p =
            let w : (1 ≤ n) × (n ≤ c.last) = sound.within n (ltb-true 0 _ p) in
            (w.0, omega (arith, w.1, last))
        by false p =
            let new : 1 ≤ count n (given_by x f) = omega (arith, balance n, ap (count n) given_same, ltb-false 0 (count n (held_in c.state)) p) in
            let g = given_is n new in
            (omega (arith, g.0), omega (arith, g.0, g.1, last))

    setups_last : AllAre o.call.last (named (of_kind SetupRequest f.signals))
    setups_last = by f.gives refl
      where
        by : (b : Bool) → f.gives ≡ b → AllAre o.call.last (named (of_kind SetupRequest f.signals))
        by true g =
            let live : is_null o.call.state ≡ false = ap is_null state_same ∙ law.lives g in
            let one' : length (given_by x f) ≡ 1 = ap (λ b. length (cond b ((c.last + 1) ∷ []) [])) g in
            subst (λ n. AllAre n (named (of_kind SetupRequest f.signals))) (sym (last_live live ∙ ap (λ n. c.last + n) one')) law.setups
        by false g =
            let none' : length (given_by x f) ≡ 0 = ap (λ b. length (cond b ((c.last + 1) ∷ []) [])) g in
            none_named _ (of_kind SetupRequest f.signals) (omega (arith, law.given))

    -- a rejection leaves all but the remote number
    abbrev storing : List ℕ → Call
    storing numbers = moved_to c c.state c.last (claim.number_else c.remote numbers)

    left_but_number : (r : Signal) → Left x f r → o.call ≡ storing (stored_wanted half.demands x e)
    left_but_number r l =
        by_end (λ d. d ≡ storing (stored_by e f))
        (λ refused. absurd (false≢true (sym refused ∙ eq-eqb (answer_number f.answer) 0 l.done)))
        (λ d p. absurd (true≢false (sym p ∙ (ap is_null l.state ∙ l.live))))
        (λ d p. by f.stores)
        ∙ ap storing asked.stored
      where
        by : (b : Bool) →
            moved_to c f.state (last_after f.gives c.last) (cond b (number_brought e) c.remote) ≡ storing (cond b (number_brought e ∷ []) [])
        by true = λ i. moved_to c (l.state i) (last_after (l.gives i) c.last) (number_brought e)
        by false = λ i. moved_to c (l.state i) (last_after (l.gives i) c.last) c.remote

    remote_live : is_null o.call.state ≡ false → o.call.remote ≡ claim.number_else c.remote (stored_wanted half.demands x e)
    remote_live live =
        by_end (λ d. is_null d.state ≡ false → d.remote ≡ claim.number_else c.remote (stored_by e f))
        (λ r _. rw (law.quiet r).stores)
        (λ d p l. absurd (true≢false l))
        (λ d p _. by f.stores)
        live
        ∙ ap (claim.number_else c.remote) asked.stored
      where
        by : (b : Bool) → cond b (number_brought e) c.remote ≡ claim.number_else c.remote (cond b (number_brought e ∷ []) [])
        by true = refl
        by false = refl

    stored_greater : (e : Event) → let stored = claim.number_else c.remote (stored_wanted half.demands x e) in (stored ≡ c.remote) ⊎ (c.remote < stored)
    stored_greater =
        by_event half.demands x
        (λ e. let stored = claim.number_else c.remote (stored_wanted half.demands x e) in (stored ≡ c.remote) ⊎ (c.remote < stored))
        (λ code number.
        stored_above c.remote number (half.demands.meaningless x (Setup code number)) (number_stored (half.demands.rejected x code number) (has_room c.last))
        (L.newer x code number (has_room c.last)))
        (λ e none sent stored. inl (ap (claim.number_else c.remote) stored))

    -- the remote number grows only where the setup's is stored
    grown_stored : c.remote < o.call.remote → (f.stores ≡ true) × ((is_done f.answer ≡ true) × (o.call.remote ≡ number_brought e))
    grown_stored =
        by_end (λ d. c.remote < d.remote → (f.stores ≡ true) × ((is_done f.answer ≡ true) × (d.remote ≡ number_brought e)))
        (λ r grown. absurd (omega arith))
        (λ d p grown. absurd (omega arith))
        (λ d p. by f.stores refl d)
      where
        by : (b : Bool) → f.stores ≡ b → is_done f.answer ≡ true → c.remote < cond b (number_brought e) c.remote →
            (f.stores ≡ true) × ((is_done f.answer ≡ true) × (cond b (number_brought e) c.remote ≡ number_brought e))
        by true s d grown = (s, (d, refl))
        by false s d grown = absurd (omega arith)

    -- so it grows by a setup that is heard, and to its number
    grown_by : c.remote < o.call.remote →
        ((length (setup_number e) ≡ 1) × claim.Heard (answer_number o.answer) o.signals) × (setup_number e ≡ o.call.remote ∷ [])
    grown_by grown = (
      (ap length why.0, (eqb-true (answer_number f.answer) 0 is.1.0, by why.1)),
      why.0 ∙ ap (λ n. n ∷ []) (sym is.1.1),
    )
      where
        is : (f.stores ≡ true) × ((is_done f.answer ≡ true) × (o.call.remote ≡ number_brought e))
        is = grown_stored grown

        why : (setup_number e ≡ number_brought e ∷ [])
            × ((rejection_wanted half.demands x e ≡ []) ⊎ (rejection_wanted half.demands x e ≡ rejection in_progress ∷ []))
        why = stored_by_lem half.demands x (L.once x) e (sym (ap (λ b. cond b (number_brought e ∷ []) []) is.0) ∙ asked.stored)

        by : (rejection_wanted half.demands x e ≡ []) ⊎ (rejection_wanted half.demands x e ≡ rejection in_progress ∷ []) →
            (of_kind Rejection o.signals ≡ []) ⊎ (of_kind Rejection o.signals ≡ rejection in_progress ∷ [])
        by (inl none) = inl (asked.rejected ∙ none)
        by (inr six) = inr (asked.rejected ∙ six)

    -- and where it is stored, to a call that goes on, it grows
    grows_live : is_null f.state ≡ false → Stores half.demands x e → c.remote < o.call.remote
    grows_live live s =
        let now : o.call.remote ≡ number_brought e = remote_live (ap is_null state_same ∙ live) ∙ ap (claim.number_else c.remote) s.0 in
        omega (arith, s.1, now)

    heard_grows : length (setup_number e) ≡ 1 → claim.Heard (answer_number o.answer) o.signals → c.remote < o.call.remote
    heard_grows one' (done, inl none) = grows_live (law.lives (by f.gives long)) stores
      where
        stores : Stores half.demands x e
        stores = accepted_stores half.demands x (L.newer x) e one' (sym done ∙ asked.answered) (sym none ∙ asked.rejected)

        taken : length (accepted_by e f) ≡ 1
        taken = (λ i. length (unrejected (none i) (stored_by e f))) ∙ ap length (asked.stored ∙ stores.0)

        long : 1 ≤ length (given_by x f)
        long = omega (arith, law.given, taken)

        by : (b : Bool) → 1 ≤ length (cond b ((c.last + 1) ∷ []) []) → b ≡ true
        by true h = refl
        by false h = absurd (omega arith)
    heard_grows one' (done, inr six) =
        let wanted : rejection_wanted half.demands x e ≡ rejection in_progress ∷ [] = sym asked.rejected ∙ six in
        let l = asked.rejects (rejection in_progress) wanted in
        grows_live (ap is_null l.state ∙ l.live) (in_progress_stores half.demands x (L.newer x) e wanted)

  -- ---- the claims, in the order of specs/Claims

  pub refusal_leaves_record : claim.RefusalLeavesRecord half
  refusal_leaves_record c e o r = rw r (λ refused.
      let no : is_done (f c e).answer ≡ false = ne_eqb _ 0 refused in
      (rw no, ((law c e).quiet no).signals))

  pub given_106 : claim.Given106 half
  given_106 c e o r = rw r (first_106 _ (half.demands.meaningless (x c e) e) (names_not_held c.state e) (numbers_spent half.demands (x c e) e) (asked c e).answered)

  pub given_107 : claim.Given107 half
  given_107 c e o r = rw r (first_107 _ (half.demands.meaningless (x c e) e) (names_not_held c.state e) (numbers_spent half.demands (x c e) e) (asked c e).answered)

  pub given_108 : claim.Given108 half
  given_108 c e o r =
      rw r
      (simp (← (no_number (asks_number half.demands (x c e) e) c.last))
      (first_108 _ (half.demands.meaningless (x c e) e) (names_not_held c.state e) (numbers_spent half.demands (x c e) e) (asked c e).answered))

  pub given_0 : claim.Given0 half
  given_0 c e o r =
      rw r
      (simp (← (no_number (asks_number half.demands (x c e) e) c.last))
      (first_0 _ (half.demands.meaningless (x c e) e) (names_not_held c.state e) (numbers_spent half.demands (x c e) e) (asked c e).answered))

  pub signals_in_order : claim.SignalsInOrder half
  signals_in_order c e o r = rw r ((law c e).four, ((law c e).ordered, (law c e).blank))

  pub few_signals : claim.FewSignals half
  few_signals c e o r = rw r (asked c e).few

  pub timer_starts : claim.TimerStarts half
  timer_starts c e o r = rw (r, state_same c e) (law c e).starts

  pub timer_stops : claim.TimerStops half
  timer_stops c e o r = rw (r, state_same c e) (law c e).stops

  pub switch_names_incumbent : claim.SwitchNamesIncumbent half
  switch_names_incumbent c e o r = rw (r, state_same c e) (law c e).switched

  pub signals_name_their_own : claim.SignalsNameTheirOwn half
  signals_name_their_own c e o r = rw r ((law c e).incumbents, ((law c e).reroutings, ((law c e).connects, setups_last c e)))

  pub party_told : claim.PartyTold half
  party_told c e o r = rw (r, state_same c e) (law c e).told

  pub causes_as_received : claim.CausesAsReceived half
  causes_as_received c e o r = rw r (law c e).honest

  pub rejected_by_first_row : claim.RejectedByFirstRow half
  rejected_by_first_row c e o r = rw r (asked c e).rejected

  pub rejected_setup_leaves_record : claim.RejectedSetupLeavesRecord half
  rejected_setup_leaves_record c e o r s wanted other =
      let l = (asked c e).rejects s wanted in
      let k = rejected_for_lem half.demands (x c e) e s wanted in
      let kept : cond (is_stored_rejected k.0) (number_brought e ∷ []) [] ≡ [] =
      ap (λ b. cond b (number_brought e ∷ []) []) (ne_eqb k.0.number 6 (λ six. other (k.1.0 ∙ in_progress_is k.0 six))) in
      rw r (l.done, (left_but_number c e s l ∙ ap (storing c e) (k.1.1 ∙ kept), l.signals))

  pub rejected_in_progress_stores : claim.RejectedInProgressStores half
  rejected_in_progress_stores c e o r number numbered wanted =
      let l = (asked c e).rejects (rejection in_progress) wanted in
      let stored = (in_progress_stores half.demands (x c e) (L.newer (x c e)) e wanted).0 in
      let own = ap (λ n. n ∷ []) (brought half.demands (x c e) e number numbered) in
      rw r (l.done, (left_but_number c e (rejection in_progress) l ∙ ap (storing c e) (stored ∙ own), l.signals))

  pub code_21_exactly : claim.Code21Exactly half
  code_21_exactly c e o r = rw r (asked c e).code21

  pub ended_is_emptied : claim.EndedIsEmptied half
  ended_is_emptied c e o r = rw r (λ live.
      by_end c e (λ d. is_null d.state ≡ true → d ≡ emptied)
      (λ refused over. absurd (false≢true (sym live ∙ over)))
      (λ d p over. refl)
      (λ d p over. absurd (false≢true (sym p ∙ over))))

  pub key_and_services_stay : claim.KeyAndServicesStay half
  key_and_services_stay c e o r = rw r
      (by_end c e (λ d. is_null d.state ≡ false → (d.key ≡ c.key) × ((d.hard ≡ c.hard) × (d.soft ≡ c.soft)))
      (λ refused live. (refl, (refl, refl)))
      (λ d p live. absurd (true≢false live))
      (λ d p live. (refl, (refl, refl))))

  pub remote_by_stored_number : claim.RemoteByStoredNumber half
  remote_by_stored_number c e o r = rw r (remote_live c e)

  pub remote_grows : claim.RemoteGrows half
  remote_grows c e o r live = rw (remote_by_stored_number c e o r live) (stored_greater c e e)

  pub remote_grows_exactly : claim.RemoteGrowsExactly half
  remote_grows_exactly c e o r =
      rw r ((λ grown. (grown_by c e grown).0, λ heard. heard_grows c e heard.0 heard.1), λ grown. (grown_by c e grown).1)

  pub last_by_one : claim.LastByOne half
  last_by_one c e o r = rw r (λ live.
      let made : claim.setups_made half c e (handled_at half c e) ≡ length (given_by (x c e) (f c e)) = rw (← (asked c e).stored, ← (asked c e).rejected) (law c e).given in
      rw made (last_live c e live, one_long (f c e).gives (c.last + 1)))

  pub balances : claim.Balances half
  balances c e o r = rw r (balance c e)

  pub held_or_ended_once : claim.HeldOrEndedOnce half
  held_or_ended_once c e o r =
      rw r
      (λ sound n.
      (λ h. omega (arith, balance c e n, once c e sound n), λ h. omega (arith, balance c e n)))

  pub received_not_released : claim.ReceivedNotReleased half
  received_not_released c e o r =
      rw r
      (λ sound n h.
      omega (
        arith,
        balance c e n,
        once c e sound n,
        count_append n (claim.ended_received (claim.answer_given (handled_at half c e)) (reported e)) (ended_sent (f c e).signals),
      ))

  pub stays_sound : claim.StaysSound half
  stays_sound c e o r =
      rw r
      (λ sound.
      record {
        within = stays_within c e sound;
        differ = λ n. omega (arith, balance c e n, once c e sound n);
      })

  -- all of them
  pub claims : claim.EventClaims half
  claims =
      record {
        refusal_leaves_record = refusal_leaves_record;
        given106 = given_106;
        given107 = given_107;
        given108 = given_108;
        given0 = given_0;
        signals_in_order = signals_in_order;
        few_signals = few_signals;
        timer_starts = timer_starts;
        timer_stops = timer_stops;
        switch_names_incumbent = switch_names_incumbent;
        signals_name_their_own = signals_name_their_own;
        party_told = party_told;
        causes_as_received = causes_as_received;
        rejected_by_first_row = rejected_by_first_row;
        rejected_setup_leaves_record = rejected_setup_leaves_record;
        rejected_in_progress_stores = rejected_in_progress_stores;
        code21_exactly = code_21_exactly;
        ended_is_emptied = ended_is_emptied;
        key_and_services_stay = key_and_services_stay;
        remote_by_stored_number = remote_by_stored_number;
        remote_grows = remote_grows;
        remote_grows_exactly = remote_grows_exactly;
        last_by_one = last_by_one;
        balances = balances;
        held_or_ended_once = held_or_ended_once;
        received_not_released = received_not_released;
        stays_sound = stays_sound;
      }
