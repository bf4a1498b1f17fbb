-- Each number of refusal is given exactly when its check applies and no earlier one does (specs/Claims), proved. Assumes nothing.
use Prim.Native.Nat.{suc, suc-le-suc, zero-le, ℕ}
use mathlib.Core.Bool.{Bool, ◌||◌, cond, false, false≢true, not, true, true≢false}
use mathlib.Core.List.{List, [], ◌∷◌}
use mathlib.Core.Logic.{◌⊎◌, inl, inr}
use mathlib.Core.Path.{◌∙◌, ◌≡◌, refl, subst, sym}
use lib.Dec.{eqb, leb}
use lib.ListN.{drop}
use borrow.Author.Tests.{eqb-false, eqb-true, le-leb, leb-true, not-false, not-true}
use Rattle.std.specs.Prelude.{Option}
use Rattle.signal.specs.Numbers.{answer_number}
use Rattle.signal.specs.declared.Services.{Services}
use Rattle.events.specs.declared.Act.{Act}
use Rattle.events.specs.declared.Act.TheVariants.{Meets, Opens}
use Rattle.events.specs.declared.Event.{Event}
use Rattle.rows.specs.Checks.{asks_number, names_not_held}
use Rattle.call.specs.Claims.{HasNoNumber, IsMeaningless, Lawful, NamesNotHeld}
use Rattle.call.specs.Events.{Half, handled_at}
use Rattle.call.specs.Record.{standing}
use Rattle.call.specs.declared.Call.{Call}
use Rattle.call_table.proofs.Claims.{answers_in_order}
use Rattle.call_table.proofs.Fit.{fit_exactly}
use Rattle.call_table.proofs.Search.{stands_on_record}
use Rattle.call_table.specs.Claims.{Check, FirstOf, Stands, answer_for, call_of, checks, has_call}
use Rattle.call_table.specs.Fit.{fit_table}
use Rattle.call_table.specs.Claims as claim
use Rattle.call.proofs.Claims as any

pub first_is_one : claim.FirstIsOne
first_is_one [] m n p q = p ∙ sym q
first_is_one (c ∷ cs) m n (inl p) (inl q) = p.1 ∙ sym q.1
first_is_one (c ∷ cs) m n (inl p) (inr q) = absurd (q.0 p.0)
first_is_one (c ∷ cs) m n (inr p) (inl q) = absurd (p.0 q.0)
first_is_one (c ∷ cs) m n (inr p) (inr q) = first_is_one cs m n p.1 q.1

-- one check, by a test that decides it
tested : (b : Bool) (c : Check) (n : ℕ) (cs : List Check) → (b ≡ true → c.applies) → (b ≡ false → c.applies → ⊥) → (b ≡ false → FirstOf n cs) →
    FirstOf (cond b c.number n) (c ∷ cs)
tested true c n cs holds fails more = inl (holds refl, refl)
tested false c n cs holds fails more = inr (fails refl, more refl)

-- a key stands at a place exactly where the row is found to have it
stands : (k : ℕ) (ys : List Call) → has_call k ys ≡ true → Stands k ys
stands k [] h = absurd (false≢true h)
stands k (c ∷ cs) h = by_test (eqb c.key k) refl h (stands k cs)
  where
    by_test : (b : Bool) → eqb c.key k ≡ b → (b || has_call k cs) ≡ true → (has_call k cs ≡ true → Stands k cs) → Stands k (c ∷ cs)
    by_test true e t rest = (0, (suc-le-suc zero-le, eqb-true c.key k e))
    by_test false e t rest = let s = rest t in (suc s.0, (suc-le-suc s.1.0, s.1.1))

stands_not : (k : ℕ) (ys : List Call) → has_call k ys ≡ false → Stands k ys → ⊥
stands_not k ys h s = true≢false (sym (stands_on_record k s.0 ys s.1.0 s.1.1) ∙ h)

module _ (half : Half) (L : Lawful half) where
  -- the checks half behind the first two, and those of the record
  abbrev later : List Call → ℕ → Act → List Check
  later ys key act = drop 2 (checks half ys key act)

  abbrev after_meaning : Call → Event → List Check
  after_meaning c e = record { number = 107; applies = NamesNotHeld half c e } ∷ record { number = 108; applies = HasNoNumber half c e } ∷ []

  abbrev of_record : Call → Event → List Check
  of_record c e = record { number = 106; applies = IsMeaningless half c e } ∷ after_meaning c e

  -- an opening: 103, then 104
  opening_given : (ys : List Call) (key : ℕ) (wanted : Option Services) → FirstOf (answer_for half ys key (Opens wanted)) (later ys key (Opens wanted))
  opening_given ys key wanted =
      tested (has_call key ys) _ _ (drop 3 (checks half ys key (Opens wanted))) (stands key ys) (stands_not key ys)
      (λ _. tested (not (has_call 0 ys)) _ 0 (drop 4 (checks half ys key (Opens wanted))) (λ full. stands_not 0 ys (not-true _ full)) (λ free none. none (stands 0 ys (not-false _ free)))
      (λ _. inr (λ x. x, inr (λ x. x, inr (λ x. x, inr (λ x. x, refl))))))

  -- what the record of the key answers: 106, 107, 108 or 0
  record_given : (c : Call) (e : Event) → FirstOf (answer_number (handled_at half c e).answer) (of_record c e)
  record_given c e = by_106 (half.demands.meaningless (standing c) e) refl
    where
      by_108 : (IsMeaningless half c e → ⊥) → (NamesNotHeld half c e → ⊥) → (asks low : Bool) → asks_number half.demands (standing c) e ≡ asks → leb 65535 c.last ≡ low →
          (HasNoNumber half c e × (answer_number (handled_at half c e).answer ≡ 108)) ⊎ ((HasNoNumber half c e → ⊥) × (answer_number (handled_at half c e).answer ≡ 0))
      by_108 m n true true a l = let h : HasNoNumber half c e = (a, leb-true 65535 c.last l) in inl (h, (any.given_108 half L c e _ refl).1 (m, (n, h)))
      by_108 m n false low a l =
          let none : HasNoNumber half c e → ⊥ = λ h. true≢false (sym h.0 ∙ a) in inr (none, (any.given_0 half L c e _ refl).1 (m, (n, none)))
      by_108 m n true false a l =
          let none : HasNoNumber half c e → ⊥ = λ h. true≢false (sym (le-leb 65535 c.last h.1) ∙ l) in inr (none, (any.given_0 half L c e _ refl).1 (m, (n, none)))

      by_107 : (IsMeaningless half c e → ⊥) → (b : Bool) → names_not_held c.state e ≡ b → FirstOf (answer_number (handled_at half c e).answer) (after_meaning c e)
      by_107 m true h = inl (h, (any.given_107 half L c e _ refl).1 (m, h))
      by_107 m false h = let n : NamesNotHeld half c e → ⊥ = λ t. true≢false (sym t ∙ h) in inr (n, by_108 m n _ _ refl refl)

      by_106 : (b : Bool) → half.demands.meaningless (standing c) e ≡ b → FirstOf (answer_number (handled_at half c e).answer) (of_record c e)
      by_106 true h = inl (h, (any.given_106 half L c e _ refl).1 h)
      by_106 false h = let m : IsMeaningless half c e → ⊥ = λ t. true≢false (sym t ∙ h) in inr (m, by_107 m _ refl)

  -- an event: 105, then the record's
  meeting_given : (ys : List Call) (key : ℕ) (e : Event) → FirstOf (answer_for half ys key (Meets e)) (later ys key (Meets e))
  meeting_given ys key e =
      inr (
        λ x. x,
        inr (
          λ x. x,
          tested (not (has_call key ys)) _ _ (of_record (call_of key ys) e) (λ missing. stands_not key ys (not-true _ missing)) (λ found none. none (stands key ys (not-false _ found)))
              (λ _. record_given (call_of key ys) e),
        ),
      )

  act_given : (ys : List Call) (key : ℕ) (act : Act) → FirstOf (answer_for half ys key act) (later ys key act)
  act_given ys key (Opens wanted) = opening_given ys key wanted
  act_given ys key (Meets e) = meeting_given ys key e

  turned_round : (b : Bool) (m n : ℕ) → cond b m n ≡ cond (not b) n m
  turned_round true m n = refl
  turned_round false m n = refl

  pub given_exactly : claim.GivenExactly half
  given_exactly ys key act =
      subst (λ n. FirstOf n (checks half ys key act)) (sym (answers_in_order half L ys key act ∙ turned_round (fit_table ys) _ 101))
      (tested (not (fit_table ys)) _ _ (drop 1 (checks half ys key act)) (λ unfit fit. true≢false (sym ((fit_exactly ys).1 fit) ∙ not-true _ unfit)) (λ fit unfit. unfit ((fit_exactly ys).0 (not-false _ fit)))
      (λ _. tested (eqb key 0) _ _ (later ys key act) (eqb-true key 0) (eqb-false key 0)
      (λ _. act_given ys key act)))
