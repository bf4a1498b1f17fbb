-- The claims on the table (specs/Claims), proved. Assumes nothing.
use Prim.Native.Nat.{suc, zero, ℕ}
use native.Mathlib.Omega.{arith}
use mathlib.Core.Bool.{Bool, cond, false, not, true}
use mathlib.Core.List.{List, [], ◌∷◌}
use mathlib.Core.Path.{◌∙◌, ◌≡◌, ap, refl, sym}
use lib.Dec.{eqb}
use lib.ListN.{get_or, length, length-set, set}
use lib.Seq.{set-get_or, set_out}
use borrow.Author.Tests.{eqb-false, eqb-true}
use Rattle.std.specs.Prelude.{Some, None, Err, is_none}
use Rattle.signal.specs.Numbers.{answer_number}
use Rattle.signal.specs.Signals.{places}
use Rattle.signal.specs.declared.Answer.{Answer}
use Rattle.signal.specs.declared.Answer.TheVariants.{KeyZero, TableUnfit}
use Rattle.events.specs.declared.Act.{Act}
use Rattle.events.specs.declared.Act.TheVariants.{Meets, Opens}
use Rattle.events.specs.declared.Event.{Event}
use Rattle.admission.specs.Admission.{act_admitted}
use Rattle.call.specs.Claims.{Lawful}
use Rattle.call.specs.Events.{Half, handled_at}
use Rattle.call.specs.Record.{emptied}
use Rattle.call.specs.declared.Call.{Call}
use Rattle.call_table.proofs.Decided.{Placed, decided, ran_is}
use Rattle.call_table.proofs.Search.{Found, FoundAt, call_of_lem, first, found_at, on_record_lem, sought_is, stands_on_record}
use Rattle.call_table.proofs.Stored.{event_changes_its_call, opening_takes_its_record}
use Rattle.call_table.specs.Claims.{call_of, has_call}
use Rattle.call_table.specs.Fit.{fit_table}
use Rattle.call_table.specs.Table.{call_in, ran_by, decide_fit_of, placed_at, ran_fit_of, ran_of, refused_at, table_of}
use Rattle.call_table.specs.declared.Ran.{Ran}
use Rattle.call_table.specs.Claims as claim
use Rattle.call.proofs.Claims as any

-- what is decided leaves the row and sends nothing
abbrev pub Untouched : List Call → Ran → Type 0
Untouched ys d = (set ys d.at d.call ≡ ys) × (d.done.signals ≡ places [])

-- a decision whose refusal leaves the row
abbrev Quiet : List Call → Ran → Type 0
Quiet ys d = (answer_number d.done.answer ≡ 0 → ⊥) → Untouched ys d

pub past_the_end : (ys : List Call) (a : Answer) → Untouched ys (refused_at (length ys) a)
past_the_end ys a = (set_out ys (length ys) emptied (omega arith), refl)

module _ (half : Half) (L : Lawful half) where
  -- an event that a record refuses leaves that record, which stands where it was found
  meeting_quiet : (ys : List Call) (key i : ℕ) (c : Call) → first key 0 ys ≡ Some (i, c) → (e : Event) → Quiet ys (placed_at i (handled_at half c e))
  meeting_quiet ys key i c p e h =
      let f : FoundAt key 0 i c ys = found_at key 0 i c ys p in
      let kept = any.refusal_leaves_record half L c e (handled_at half c e) refl h in
      let at : i ≡ f.place = omega (arith, f.at) in (
        ap (set ys i) kept.0
            ∙ (ap (λ (n : ℕ). set ys n c) at ∙ (ap (set ys f.place) (sym f.there) ∙ set-get_or ys f.place emptied)),
        kept.1,
      )

  -- and an opening is never refused by its record
  placed_quiet : (ys : List Call) (key : ℕ) (act : Act) → Placed half ys key (Quiet ys) act
  placed_quiet ys key (Opens wanted) = λ i c z p q h. absurd (h refl)
  placed_quiet ys key (Meets e) = λ i c z p. meeting_quiet ys key i c p e

  pub refusals_change_nothing : claim.RefusalsChangeNothing half
  refusals_change_nothing ys key act = decided half ys key (Quiet ys) (λ a no h. past_the_end ys a) act (placed_quiet ys key act)

  pub unfit_is_refused : claim.UnfitIsRefused half
  unfit_is_refused ys key act unfit = rw (ran_is half ys key act, unfit)

  same_ran : (ys : List Call) (key : ℕ) (act : Act) → fit_table ys ≡ true → ran_fit_of half ys key act ≡ ran_of half ys key act
  same_ran ys key act fit = sym (ran_is half ys key act ∙ ap (λ b. cond b (ran_fit_of half ys key act) (refused_at (length ys) TableUnfit)) fit)

  pub fit_needs_no_check : claim.FitNeedsNoCheck half
  fit_needs_no_check ys key act fit = (same_ran ys key act fit, ap (λ d. set ys d.at d.call) (same_ran ys key act fit))

  -- the answer that is wanted, by what is on record
  abbrev answer_by : Call → Bool → Bool → Act → ℕ
  answer_by c known free (Opens wanted) = cond known 103 (cond (not free) 104 0)
  answer_by c known free (Meets e) = cond (not known) 105 (answer_number (handled_at half c e).answer)

  wanted_is : (ys : List Call) (key : ℕ) (act : Act) → answer_by (call_of key ys) (has_call key ys) (has_call 0 ys) act ≡ claim.answer_for half ys key act
  wanted_is ys key (Opens wanted) = refl
  wanted_is ys key (Meets e) = refl

  -- and the answer that is given
  answer_by_found : (n key : ℕ) (act : Act) (found free : Found) →
      answer_number (decide_fit_of half n (record { found = found; free = free }) key act).done.answer
      ≡ cond (eqb key 0) 102 (answer_by (call_in found) (not (is_none found)) (not (is_none free)) act)
  answer_by_found n key act found free = by_key (eqb key 0) act found free
    where
      by_key : (b : Bool) (act : Act) (found free : Found) →
          answer_number (ran_by half n (record { found = found; free = free }) key
          (cond b (Err KeyZero) (act_admitted act (is_none found) (is_none free)))).done.answer
          ≡ cond b 102 (answer_by (call_in found) (not (is_none found)) (not (is_none free)) act)
      by_key true act found free = refl
      by_key false (Opens wanted) (Some (i, c)) free = refl
      by_key false (Opens wanted) None (Some (i, c)) = refl
      by_key false (Opens wanted) None None = refl
      by_key false (Meets e) (Some (i, c)) free = refl
      by_key false (Meets e) None free = refl

  pub answers_in_order : claim.AnswersInOrder half
  answers_in_order ys key act = rw (ran_is half ys key act, sought_is ys key) (by_fit (fit_table ys))
    where
      by_fit : (b : Bool) →
          answer_number (cond b (decide_fit_of half (length ys) (record { found = first key 0 ys; free = first 0 0 ys }) key act) (refused_at (length ys) TableUnfit)).done.answer
          ≡ cond b (cond (eqb key 0) 102 (claim.answer_for half ys key act)) 101
      by_fit true =
          answer_by_found (length ys) key act (first key 0 ys) (first 0 0 ys)
          ∙ rw (on_record_lem key 0 ys, on_record_lem 0 0 ys, call_of_lem key 0 ys, wanted_is ys key act)
      by_fit false = refl

  pub found_anywhere : claim.FoundAnywhere
  found_anywhere ys i l = stands_on_record (get_or ys i emptied).key i ys l refl

  -- a record with another key stays where one is replaced
  replaced_other : (k : ℕ) (d : Call) (ys : List Call) (i : ℕ) → ((get_or ys i emptied).key ≡ k → ⊥) → get_or (claim.call_replaced k d ys) i emptied ≡ get_or ys i emptied
  replaced_other k d [] i n = refl
  replaced_other k d (c ∷ cs) i n = by_test (replaced_other k d cs) i n (eqb c.key k) refl
    where
      by_test : ((i : ℕ) → ((get_or cs i emptied).key ≡ k → ⊥) → get_or (claim.call_replaced k d cs) i emptied ≡ get_or cs i emptied) → (i : ℕ) → ((get_or (c ∷ cs) i emptied).key ≡ k → ⊥) → (b : Bool) → eqb c.key k ≡ b → get_or (cond b (d ∷ cs) (c ∷ claim.call_replaced k d cs)) i emptied ≡ get_or (c ∷ cs) i emptied
      by_test onward zero n true t = absurd (n (eqb-true c.key k t))
      by_test onward (suc i) n true t = refl
      by_test onward zero n false t = refl
      by_test onward (suc i) n false t = onward i n

  pub others_stay : claim.OthersStay half
  others_stay ys key act = (
    length-set ys (ran_of half ys key act).at (ran_of half ys key act).call,
    λ i other used. by_answer act i other used (eqb (claim.answered half ys key act) 0) refl,
  )
    where
      at : ℕ → List Call → Call
      at i zs = get_or zs i emptied

      by_answer : (act : Act) (i : ℕ) → ((get_or ys i emptied).key ≡ key → ⊥) → ((get_or ys i emptied).key ≡ 0 → ⊥) → (b : Bool) → eqb (claim.answered half ys key act) 0 ≡ b → get_or (table_of half ys key act) i emptied ≡ get_or ys i emptied
      by_answer act i other used false t = ap (at i) (refusals_change_nothing ys key act (eqb-false _ 0 t)).0
      by_answer (Opens wanted) i other used true t =
          ap (at i) (opening_takes_its_record half ys key wanted (eqb-true _ 0 t)).0 ∙ replaced_other 0 _ ys i used
      by_answer (Meets e) i other used true t =
          ap (at i) (event_changes_its_call half ys key e (eqb-true _ 0 t)).0 ∙ replaced_other key _ ys i other
