-- Which setups store their number, and which are rejected with what, by what the documents ask of any end: what the claims on the remote number
-- rest on. Assumes nothing.
use Prim.Native.Nat.{◌<◌, ◌≤◌, ℕ}
use native.Mathlib.Omega.{arith}
use mathlib.Core.Bool.{Bool, ◌&&◌, cond, false, false≢true, not, true}
use mathlib.Core.List.{List, [], ◌∷◌}
use mathlib.Core.Logic.{◌⊎◌, inl, inr}
use mathlib.Core.Path.{◌∙◌, ◌≡◌, ap, refl, sym}
use lib.Dec.{eqb}
use lib.ListN.{get_or, length}
use borrow.Author.Tests.{eq-eqb, eqb-true, leb-false}
use Rattle.signal.specs.Causes.{in_progress, old_number, unsupported}
use Rattle.signal.specs.Numbers.{is_late}
use Rattle.signal.specs.Signals.{rejection}
use Rattle.signal.specs.declared.ReroutingCause.{ReroutingCause}
use Rattle.signal.specs.declared.SentCause.TheVariants.{Numbered}
use Rattle.signal.specs.declared.Signal.{Signal}
use Rattle.signal.specs.declared.Switchover.{Switchover}
use Rattle.events.specs.Events.{number_brought, setup_number}
use Rattle.events.specs.declared.Event.{Event}
use Rattle.events.specs.declared.Event.TheVariants.{Connect, Expiry, FromDomain, FromParty, NoPath, PathFound, Ready, Setup, Trigger}
use Rattle.rows.specs.Cases.{Standing, has_room}
use Rattle.rows.specs.Checks.{Demands, answer_number_wanted, first_of, is_none, is_stored_rejected, number_stored, rejection_wanted, rejections}
use Rattle.rows.specs.Checks.{stored_wanted}

-- ---- a setup that is looked at in order: its code, its number, and the rest
-- it is rejected with one cause at most, and where its number is stored it is not late
module _ (remote number : ℕ) (lacks : Bool) (rest : List ReroutingCause) where
  abbrev looked : Bool → List ReroutingCause
  looked late = cond lacks (unsupported ∷ []) (cond late (old_number ∷ []) rest)

  pub once_by : length rest ≤ 1 → length (looked (is_late number remote)) ≤ 1
  once_by few = by lacks (is_late number remote)
    where
      by : (a b : Bool) → length (cond a (unsupported ∷ []) (cond b (old_number ∷ []) rest)) ≤ 1
      by true b = omega arith
      by false true = omega arith
      by false false = few

  pub newer_by : (room : Bool) → number_stored (looked (is_late number remote)) room ≡ true → remote < number
  newer_by room = by lacks (is_late number remote) refl
    where
      by : (a b : Bool) → is_late number remote ≡ b →
          number_stored (cond a (unsupported ∷ []) (cond b (old_number ∷ []) rest)) room ≡ true → remote < number
      by true b p e = absurd (false≢true e)
      by false true p e = absurd (false≢true e)
      by false false p e = leb-false number remote p

-- ---- lists and causes
pub nil_cons : {A : Type 0} {a : A} {more : List A} → [] ≡ a ∷ more → ⊥
nil_cons e = let z : ◌≡◌ {A = ℕ} 0 1 = cc in omega arith

first_signal : {r s : Signal} {more : List Signal} → s ∷ more ≡ r ∷ [] → s ≡ r
first_signal e = cc

pub in_progress_is : (k : ReroutingCause) → k.number ≡ 6 → rejection k ≡ rejection in_progress
in_progress_is k six i = rejection (record { number = six i })

pub six_is : (k : ReroutingCause) → rejection k ≡ rejection in_progress → k.number ≡ 6
six_is k same =
    let said : Numbered k ≡ Numbered in_progress = ap (λ (s : Signal). s.cause) same in
    let is : k ≡ in_progress = cc in
    ap (λ (j : ReroutingCause). j.number) is

-- neither of the first two causes is #6
pub not_in_progress : (lacks late : Bool) →
    rejections (cond lacks (unsupported ∷ []) (cond late (old_number ∷ []) [])) ≡ rejection in_progress ∷ [] → ⊥
not_in_progress true late e = let z : ◌≡◌ {A = ℕ} 8 6 = six_is unsupported (first_signal e) in omega arith
not_in_progress false true e = let z : ◌≡◌ {A = ℕ} 5 6 = six_is old_number (first_signal e) in omega arith
not_in_progress false false e = nil_cons e

-- ---- what is wanted of an event: of a setup, and of no other
module _ (d : Demands) (x : Standing) where
  pub by_event : (P : Event → Type 0) → ((code : Switchover) (number : ℕ) → P (Setup code number)) →
      ((e : Event) → setup_number e ≡ [] → rejection_wanted d x e ≡ [] → stored_wanted d x e ≡ [] → P e) → (e : Event) → P e
  by_event P setup other Trigger = other Trigger refl refl refl
  by_event P setup other PathFound = other PathFound refl refl refl
  by_event P setup other NoPath = other NoPath refl refl refl
  by_event P setup other (Connect n agreed) = other (Connect n agreed) refl refl refl
  by_event P setup other (Setup code number) = setup code number
  by_event P setup other (FromParty cause) = other (FromParty cause) refl refl refl
  by_event P setup other (FromDomain n cause tried) = other (FromDomain n cause tried) refl refl refl
  by_event P setup other Ready = other Ready refl refl refl
  by_event P setup other Expiry = other Expiry refl refl refl

  -- a number that an event brings is what it stores, where it stores one
  pub brought : (e : Event) (n : ℕ) → setup_number e ≡ n ∷ [] → number_brought e ≡ n
  brought =
      by_event (λ e. (n : ℕ) → setup_number e ≡ n ∷ [] → number_brought e ≡ n)
      (λ code number n numbered. ap (λ (ns : List ℕ). get_or ns 0 0) numbered)
      (λ e none sent stored n numbered. absurd (nil_cons (sym none ∙ numbered)))

  -- where no setup is rejected with #6, nothing is
  pub never_in_progress : ((code : Switchover) (number : ℕ) → rejections (d.rejected x code number) ≡ rejection in_progress ∷ [] → ⊥) →
      (e : Event) → rejection_wanted d x e ≡ rejection in_progress ∷ [] → ⊥
  never_in_progress never =
      by_event (λ e. rejection_wanted d x e ≡ rejection in_progress ∷ [] → ⊥)
      (λ code number. by code number (d.meaningless x (Setup code number)))
      (λ e none sent stored w. nil_cons (sym sent ∙ w))
    where
      by : (code : Switchover) (number : ℕ) (meaningless : Bool) →
          cond meaningless [] (rejections (d.rejected x code number)) ≡ rejection in_progress ∷ [] → ⊥
      by code number true e = nil_cons e
      by code number false e = never code number e

  -- a setup that is rejected is so for a cause, by which its number is stored or not
  pub rejected_for_lem : (e : Event) (r : Signal) → rejection_wanted d x e ≡ r ∷ [] →
      (k : ReroutingCause) × ((r ≡ rejection k) × (stored_wanted d x e ≡ cond (is_stored_rejected k) (number_brought e ∷ []) []))
  rejected_for_lem =
      by_event
      (λ e. (r : Signal) → rejection_wanted d x e ≡ r ∷ [] →
      (k : ReroutingCause) × ((r ≡ rejection k) × (stored_wanted d x e ≡ cond (is_stored_rejected k) (number_brought e ∷ []) [])))
      (λ code number r. by number r (d.meaningless x (Setup code number)) (d.rejected x code number))
      (λ e none sent stored r w. absurd (nil_cons (sym sent ∙ w)))
    where
      by : (number : ℕ) (r : Signal) (meaningless : Bool) (l : List ReroutingCause) → cond meaningless [] (rejections l) ≡ r ∷ [] →
          (k : ReroutingCause)
          × ((r ≡ rejection k) × (cond (not meaningless && number_stored l (has_room x.last)) (number ∷ []) [] ≡ cond (is_stored_rejected k) (number ∷ []) []))
      by number r true l e = absurd (nil_cons e)
      by number r false [] e = absurd (nil_cons e)
      by number r false (k ∷ more) e = (k, (sym (first_signal e), refl))

  -- a number that is stored is that of a setup that nothing rejects, or that is rejected with #6
  pub stored_by_lem : ((code : Switchover) (number : ℕ) → length (d.rejected x code number) ≤ 1) → (e : Event) →
      number_brought e ∷ [] ≡ stored_wanted d x e →
      (setup_number e ≡ number_brought e ∷ []) × ((rejection_wanted d x e ≡ []) ⊎ (rejection_wanted d x e ≡ rejection in_progress ∷ []))
  stored_by_lem once =
      by_event
      (λ e. number_brought e ∷ [] ≡ stored_wanted d x e →
      (setup_number e ≡ number_brought e ∷ []) × ((rejection_wanted d x e ≡ []) ⊎ (rejection_wanted d x e ≡ rejection in_progress ∷ [])))
      (λ code number w. (refl, by number (d.meaningless x (Setup code number)) (d.rejected x code number) (once code number) w))
      (λ e none sent stored w. absurd (nil_cons (sym (w ∙ stored))))
    where
      by_cause : (number : ℕ) (k : ReroutingCause) (b : Bool) → eqb k.number 6 ≡ b → number ∷ [] ≡ cond b (number ∷ []) [] →
          (rejection k ∷ [] ≡ []) ⊎ (rejection k ∷ [] ≡ rejection in_progress ∷ [])
      by_cause number k true six e = inr (ap (λ s. s ∷ []) (in_progress_is k (eqb-true k.number 6 six)))
      by_cause number k false other e = absurd (nil_cons (sym e))

      by : (number : ℕ) (meaningless : Bool) (l : List ReroutingCause) → length l ≤ 1 →
          number ∷ [] ≡ cond (not meaningless && number_stored l (has_room x.last)) (number ∷ []) [] →
          let sent = cond meaningless [] (rejections l) in (sent ≡ []) ⊎ (sent ≡ rejection in_progress ∷ [])
      by number true l few e = inl refl
      by number false [] few e = inl refl
      by number false (k ∷ []) few e = by_cause number k (eqb k.number 6) refl e
      by number false (k ∷ (j ∷ more)) few e = absurd (omega arith)

  -- and the number of each such setup is stored, and is greater than the one on record
  abbrev pub Stores : Event → Type 0
  Stores e = (stored_wanted d x e ≡ number_brought e ∷ []) × (x.remote < number_brought e)

  module _ (newer : (code : Switchover) (number : ℕ) (room : Bool) → number_stored (d.rejected x code number) room ≡ true → x.remote < number) where
    pub accepted_stores : (e : Event) → length (setup_number e) ≡ 1 → 0 ≡ answer_number_wanted d x e → [] ≡ rejection_wanted d x e → Stores e
    accepted_stores =
        by_event (λ e. length (setup_number e) ≡ 1 → 0 ≡ answer_number_wanted d x e → [] ≡ rejection_wanted d x e → Stores e)
        (λ code number one'. by number (d.meaningless x (Setup code number)) (has_room x.last) (d.rejected x code number) (newer code number))
        (λ e none sent stored one'. let z : ◌≡◌ {A = ℕ} 1 0 = sym one' ∙ ap length none in absurd (omega arith))
      where
        by : (number : ℕ) (meaningless room : Bool) (l : List ReroutingCause) → ((b : Bool) → number_stored l b ≡ true → x.remote < number) →
            0 ≡ first_of meaningless false (is_none l && not room) → [] ≡ cond meaningless [] (rejections l) →
            (cond (not meaningless && number_stored l room) (number ∷ []) [] ≡ number ∷ []) × (x.remote < number)
        by number true room l new answer sent = absurd (omega arith)
        by number false true [] new answer sent = (refl, new true refl)
        by number false false [] new answer sent = absurd (omega arith)
        by number false room (k ∷ more) new answer sent = absurd (nil_cons sent)

    pub in_progress_stores : (e : Event) → rejection_wanted d x e ≡ rejection in_progress ∷ [] → Stores e
    in_progress_stores =
        by_event (λ e. rejection_wanted d x e ≡ rejection in_progress ∷ [] → Stores e)
        (λ code number. by number (d.meaningless x (Setup code number)) (d.rejected x code number) (newer code number))
        (λ e none sent stored w. absurd (nil_cons (sym sent ∙ w)))
      where
        by : (number : ℕ) (meaningless : Bool) (l : List ReroutingCause) → ((b : Bool) → number_stored l b ≡ true → x.remote < number) →
            cond meaningless [] (rejections l) ≡ rejection in_progress ∷ [] →
            (cond (not meaningless && number_stored l (has_room x.last)) (number ∷ []) [] ≡ number ∷ []) × (x.remote < number)
        by number true l new e = absurd (nil_cons e)
        by number false [] new e = absurd (nil_cons e)
        by number false (k ∷ more) new e =
            let stores : eqb k.number 6 ≡ true = eq-eqb k.number 6 (six_is k (first_signal e)) in
            (ap (λ b. cond b (number ∷ []) []) stores, new true stores)
