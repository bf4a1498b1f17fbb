-- What an opening or event that is done stores, and where: at the first record with its key, or the first empty one (specs/Claims). It stands before the other claims, so
-- that what is stored wrongly is told here. Assumes nothing.
use Prim.Native.Nat.{◌<◌, suc, suc-le-suc, zero, ℕ}
use native.Mathlib.Nat.{le_of_suc-le-suc, not-suc-le-zero}
use native.Mathlib.Omega.{arith}
use mathlib.Core.List.{List, [], ◌∷◌}
use mathlib.Core.Path.{◌∙◌, ◌≡◌, ap, refl, sym}
use lib.ListN.{get_or, length, set}
use borrow.Author.Tests.{eq-eqb, ne_eqb}
use Rattle.std.specs.Prelude.{Some}
use Rattle.signal.specs.Numbers.{answer_number}
use Rattle.events.specs.declared.Act.TheVariants.{Meets, Opens}
use Rattle.call.specs.Events.{Half, handled_at}
use Rattle.call.specs.Record.{emptied, opened_for}
use Rattle.call.specs.declared.Call.{Call}
use Rattle.call.specs.declared.Outcome.{Outcome}
use Rattle.call_table.proofs.Decided.{decided}
use Rattle.call_table.proofs.Search.{FoundAt, call_of_lem, first, found_at}
use Rattle.call_table.specs.Claims.{call_of, call_replaced}
use Rattle.call_table.specs.Table.{call_in}
use Rattle.call_table.specs.declared.Ran.{Ran}
use Rattle.call_table.specs.Claims as claim

module _ (half : Half) where
  -- a record put at the first place that has a key
  put_first : (k : ℕ) (d : Call) (ys : List Call) (i : ℕ) → i < length ys → (get_or ys i emptied).key ≡ k → ((m : ℕ) → m < i → (get_or ys m emptied).key ≡ k → ⊥) → set ys i d ≡ call_replaced k d ys
  put_first k d [] i l e b = absurd (not-suc-le-zero l)
  put_first k d (c ∷ cs) zero l e b = rw (eq-eqb c.key k e)
  put_first k d (c ∷ cs) (suc i) l e b =
      rw (ne_eqb c.key k (b 0 (omega arith)))
      (ap (λ (r : List Call). c ∷ r) (put_first k d cs i (le_of_suc-le-suc l) e (λ m n. b (suc m) (suc-le-suc n))))

  put_found : (ys : List Call) (k i : ℕ) (c d : Call) → first k 0 ys ≡ Some (i, c) → set ys i d ≡ call_replaced k d ys
  put_found ys k i c d p =
      let f : FoundAt k 0 i c ys = found_at k 0 i c ys p in
      let at : i ≡ f.place = omega (arith, f.at) in
      ap (λ (n : ℕ). set ys n d) at
      ∙ put_first k d ys f.place f.inside (ap (λ (x : Call). x.key) f.there ∙ f.named) f.before

  -- a decision that, where it is done, puts the outcome's call at the first record with a key and sends the outcome's signals
  abbrev Stores : List Call → ℕ → Outcome → Ran → Type 0
  Stores ys k o d =
      answer_number d.done.answer ≡ 0 → (set ys d.at d.call ≡ call_replaced k o.call ys) × (d.done.signals ≡ o.signals)

  pub event_changes_its_call : claim.EventChangesItsCall half
  event_changes_its_call ys key e =
      decided half ys key (Stores ys key (handled_at half (call_of key ys) e)) (λ a no h. absurd (no h)) (Meets e)
      (λ i c z p h.
      let is : c ≡ call_of key ys = sym (ap call_in p) ∙ call_of_lem key 0 ys in
      (put_found ys key i c _ p ∙ ap (λ (x : Call). call_replaced key (handled_at half x e).call ys) is, ap (λ (x : Call). (handled_at half x e).signals) is))

  pub opening_takes_its_record : claim.OpeningTakesItsRecord half
  opening_takes_its_record ys key wanted =
      decided half ys key (Stores ys 0 (opened_for key wanted)) (λ a no h. absurd (no h)) (Opens wanted)
      (λ i c z p q h. (put_found ys 0 i c (opened_for key wanted).call q, refl))

  pub takes_lowest_empty : claim.TakesLowestEmpty half
  takes_lowest_empty ys key wanted h i l e b =
      (opening_takes_its_record ys key wanted h).0 ∙ sym (put_first 0 (opened_for key wanted).call ys i l e b)
