-- What is decided over a row, in three ways: a refusal, an opening at the lowest empty record, an event at the record of its key. Whatever holds of each
-- holds of every decision, at either end. Assumes nothing.
use Prim.Native.Nat.{ℕ}
use native.Mathlib.Omega.{arith}
use mathlib.Core.Bool.{Bool, cond, false, true}
use mathlib.Core.List.{List}
use mathlib.Core.Path.{◌≡◌, ap, refl}
use lib.Dec.{eqb}
use lib.ListN.{length}
use borrow.Author.Tests.{eqb-false}
use Rattle.std.specs.Prelude.{Some, None, Err, is_none}
use Rattle.signal.specs.Numbers.{answer_number}
use Rattle.signal.specs.declared.Answer.{Answer}
use Rattle.signal.specs.declared.Answer.TheVariants.{KeyNotOnRecord, KeyOnRecord, KeyZero, NoEmptyRecord, TableUnfit}
use Rattle.events.specs.declared.Act.{Act}
use Rattle.events.specs.declared.Act.TheVariants.{Meets, Opens}
use Rattle.admission.specs.Admission.{act_admitted}
use Rattle.call.specs.Events.{Half, handled_at}
use Rattle.call.specs.Record.{opened_for}
use Rattle.call.specs.declared.Call.{Call}
use Rattle.call_table.proofs.Search.{Found, first, seen_is, sought_is}
use Rattle.call_table.specs.Fit.{fit_keys, fit_table}
use Rattle.call_table.specs.Table.{ran_by, decide_of, placed_at, ran_fit_of, ran_of, refused_at}
use Rattle.call_table.specs.declared.Ran.{Ran}

module _ (half : Half) where
  -- the checked decision, by whether the table is fit
  pub ran_is : (ys : List Call) (key : ℕ) (act : Act) →
      ran_of half ys key act ≡ cond (fit_table ys) (ran_fit_of half ys key act) (refused_at (length ys) TableUnfit)
  ran_is ys key act = ap (λ s. decide_of half (length ys) s (fit_keys ys) key act) (seen_is ys key)

  module _ (ys : List Call) (key : ℕ) (P : Ran → Type 0) where
    -- P of every refusal
    abbrev pub Refused : Type 0
    Refused = (a : Answer) → (answer_number a ≡ 0 → ⊥) → P (refused_at (length ys) a)

    -- P of what is stored: a new call at the first empty record, where no record has its key; and what an event makes of the first record with its key
    abbrev pub Placed : Act → Type 0
    Placed (Opens wanted) =
        (i : ℕ) (c : Call) → (key ≡ 0 → ⊥) → first key 0 ys ≡ None → first 0 0 ys ≡ Some (i, c) → P (placed_at i (opened_for key wanted))
    Placed (Meets e) = (i : ℕ) (c : Call) → (key ≡ 0 → ⊥) → first key 0 ys ≡ Some (i, c) → P (placed_at i (handled_at half c e))

    by_found : Refused → (act : Act) → Placed act → (key ≡ 0 → ⊥) → (found free : Found) → first key 0 ys ≡ found → first 0 0 ys ≡ free →
        P (ran_by half (length ys) (record { found = found; free = free }) key (act_admitted act (is_none found) (is_none free)))
    by_found refused (Opens wanted) placed z (Some (i, c)) free p q = refused KeyOnRecord (λ h. omega arith)
    by_found refused (Opens wanted) placed z None (Some (i, c)) p q = placed i c z p q
    by_found refused (Opens wanted) placed z None None p q = refused NoEmptyRecord (λ h. omega arith)
    by_found refused (Meets e) placed z (Some (i, c)) free p q = placed i c z p
    by_found refused (Meets e) placed z None free p q = refused KeyNotOnRecord (λ h. omega arith)

    by_key : Refused → (act : Act) → Placed act → (b : Bool) → eqb key 0 ≡ b →
        P (ran_by half (length ys) (record { found = first key 0 ys; free = first 0 0 ys }) key
        (cond b (Err KeyZero) (act_admitted act (is_none (first key 0 ys)) (is_none (first 0 0 ys)))))
    by_key refused act placed true t = refused KeyZero (λ h. omega arith)
    by_key refused act placed false t = by_found refused act placed (eqb-false key 0 t) (first key 0 ys) (first 0 0 ys) refl refl

    pub decided_fit : Refused → (act : Act) → Placed act → P (ran_fit_of half ys key act)
    decided_fit refused act placed = rw (sought_is ys key) (by_key refused act placed (eqb key 0) refl)

    pub decided : Refused → (act : Act) → Placed act → P (ran_of half ys key act)
    decided refused act placed = rw (ran_is ys key act) (by_fit (fit_table ys))
      where
        by_fit : (b : Bool) → P (cond b (ran_fit_of half ys key act) (refused_at (length ys) TableUnfit))
        by_fit true = decided_fit refused act placed
        by_fit false = refused TableUnfit (λ h. omega arith)
