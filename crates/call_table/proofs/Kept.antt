-- A fit table stays fit (specs/Claims). Assumes nothing.
use Prim.Native.Nat.{◌<◌, ℕ}
use native.Mathlib.Omega.{arith}
use mathlib.Core.Bool.{Bool, false, not, true, true≢false}
use mathlib.Core.List.{List}
use mathlib.Core.Logic.{◌⊎◌, inl, inr, ⊎_elim}
use mathlib.Core.Path.{◌∙◌, ◌≡◌, ap, refl, sym}
use lib.Dec.{ltb}
use lib.ListN.{get_or, length, length-set, set}
use lib.Seq.{get_or-set_other, get_or-set_same}
use borrow.Author.Tests.{ltb-false, ltb-true}
use Rattle.std.specs.Prelude.{Some, None, is_none, Option}
use Rattle.signal.specs.declared.Answer.{Answer}
use Rattle.signal.specs.declared.Services.{Services}
use Rattle.events.specs.declared.Act.{Act}
use Rattle.events.specs.declared.Act.TheVariants.{Meets, Opens}
use Rattle.events.specs.declared.Event.{Event}
use Rattle.rows.specs.States.{is_null}
use Rattle.call.specs.Claims.{Lawful}
use Rattle.call.specs.Events.{Half, handled_at}
use Rattle.call.specs.Record.{emptied, opened_for}
use Rattle.call.specs.declared.Call.{Call}
use Rattle.call_table.proofs.Claims.{past_the_end}
use Rattle.call_table.proofs.Fit.{Well, by_equal, one_well}
use Rattle.call_table.proofs.Decided.{Placed, decided}
use Rattle.call_table.proofs.Search.{Found, FoundAt, first, found_at, on_record_lem, stands_on_record}
use Rattle.call_table.specs.Claims.{FitRecord, FitTable, InUse}
use Rattle.call_table.specs.Table.{placed_at, refused_at}
use Rattle.call_table.specs.declared.Ran.{Ran}
use Rattle.call_table.specs.Claims as claim
use Rattle.call.proofs.Claims as any

-- a record put into a fit table, with a key that no other place has but 0
put_fit : (ys : List Call) → FitTable ys → (i : ℕ) (c : Call) → i < length ys → FitRecord c → ((j : ℕ) → (j ≡ i → ⊥) → j < length ys → (get_or ys j emptied).key ≡ c.key → c.key ≡ 0) → FitTable (set ys i c)
put_fit ys f i c li fc alone =
    record {
      few = rw (length-set ys i c) f.few;
      keys = λ j k l m e. keys j k l (rw (length-set ys i c) at m) e;
      each = λ j m. by_equal j i (λ e. rw (e, get_or-set_same ys i c emptied li) fc)
          (λ n. rw (get_or-set_other ys i j c emptied n) (f.each j (rw (length-set ys i c) at m)));
    }
  where
    same : get_or (set ys i c) i emptied ≡ c
    same = get_or-set_same ys i c emptied li

    other : (j : ℕ) → (j ≡ i → ⊥) → get_or (set ys i c) j emptied ≡ get_or ys j emptied
    other j n = get_or-set_other ys i j c emptied n

    key_of : {a b : Call} → a ≡ b → a.key ≡ b.key
    key_of e = ap (λ (x : Call). x.key) e

    keys : (j k : ℕ) → j < k → k < length ys → (get_or (set ys i c) j emptied).key ≡ (get_or (set ys i c) k emptied).key → (get_or (set ys i c) j emptied).key ≡ 0
    keys j k l m e =
        by_equal j i
        (λ p.
        let n : k ≡ i → ⊥ = λ q. omega arith in
        let h : (get_or (set ys i c) j emptied).key ≡ c.key = key_of (ap (λ (x : ℕ). get_or (set ys i c) x emptied) p ∙ same) in
        h ∙ alone k n m (sym (key_of (other k n)) ∙ (sym e ∙ h)))
        (λ n.
        by_equal k i
        (λ q.
        let h : (get_or (set ys i c) k emptied).key ≡ c.key = key_of (ap (λ (x : ℕ). get_or (set ys i c) x emptied) q ∙ same) in
        let lj : j < length ys = omega arith in
        e ∙ (h ∙ alone j n lj (sym (key_of (other j n)) ∙ (e ∙ h))))
        (λ o. key_of (other j n) ∙ f.keys j k l m (sym (key_of (other j n)) ∙ (e ∙ key_of (other k o)))))

emptied_fit : FitRecord emptied
emptied_fit = record { empty = λ k. refl; used = λ n. absurd (n refl) }

-- a new call
opened_fit : (key : ℕ) (wanted : Option Services) → (key ≡ 0 → ⊥) → FitRecord (opened_for key wanted).call
opened_fit key wanted n =
    let w : Well 1 _ = (one_well 1 1).0 (omega arith) in
    record {
      empty = λ k. absurd (n k);
      used = λ k. record { live = refl; given = omega arith; held = record { within = w.within; differ = w.differ } };
    }

module _ (half : Half) (L : Lawful half) where
  -- a call after an event: emptied, or the same call still in use
  pub after_event : (c : Call) (e : Event) → (c.key ≡ 0 → ⊥) → InUse c → FitRecord (handled_at half c e).call × (((handled_at half c e).call.key ≡ 0) ⊎ ((handled_at half c e).call.key ≡ c.key))
  after_event c e n u = by_test (is_null (handled_at half c e).call.state) refl
    where
      by_test : (b : Bool) → is_null (handled_at half c e).call.state ≡ b → FitRecord (handled_at half c e).call × (((handled_at half c e).call.key ≡ 0) ⊎ ((handled_at half c e).call.key ≡ c.key))
      by_test true t =
          let z : (handled_at half c e).call ≡ emptied = any.ended_is_emptied half L c e (handled_at half c e) refl u.live t in
          (rw z emptied_fit, inl (ap (λ (x : Call). x.key) z))
      by_test false t =
          let k : (handled_at half c e).call.key ≡ c.key = (any.key_and_services_stay half L c e (handled_at half c e) refl t).0 in
          let l = any.last_by_one half L c e (handled_at half c e) refl t in (
            record {
              empty = λ q. absurd (n (sym k ∙ q));
              used = λ q.
                  record {
                    live = t;
                    given = omega (arith, l.0, u.given);
                    held = any.stays_sound half L c e (handled_at half c e) refl u.held;
                  };
            },
            inr k,
          )

  -- two places of a fit table with one key hold 0
  apart : (ys : List Call) → FitTable ys → (i j : ℕ) → i < length ys → j < length ys → (j ≡ i → ⊥) → (get_or ys j emptied).key ≡ (get_or ys i emptied).key → (get_or ys i emptied).key ≡ 0
  apart ys f i j li lj o k = by_order (ltb j i) refl
    where
      by_order : (b : Bool) → ltb j i ≡ b → (get_or ys i emptied).key ≡ 0
      by_order true t = sym k ∙ f.keys j i (ltb-true j i t) li k
      by_order false t =
          let g : i < j = omega (arith, ltb-false j i t, o) in
          f.keys i j g lj (sym k)

  -- what is decided keeps a fit table fit
  abbrev Keeps : List Call → Ran → Type 0
  Keeps ys d = FitTable (set ys d.at d.call)

  refusal_keeps : (ys : List Call) → FitTable ys → (a : Answer) → Keeps ys (refused_at (length ys) a)
  refusal_keeps ys f a = rw (past_the_end ys a).0 f

  -- a new call at an empty record, where no record has its key
  opening_keeps : (ys : List Call) → FitTable ys → (key : ℕ) → (key ≡ 0 → ⊥) → first key 0 ys ≡ None → (wanted : Option Services) (i : ℕ) (c : Call) →
      first 0 0 ys ≡ Some (i, c) → Keeps ys (placed_at i (opened_for key wanted))
  opening_keeps ys f key n none wanted i c p =
      let a : FoundAt 0 0 i c ys = found_at 0 0 i c ys p in
      let li : i < length ys = omega (arith, a.at, a.inside) in
      put_fit ys f i (opened_for key wanted).call li (opened_fit key wanted n)
      (λ j o l e. absurd (true≢false (sym (stands_on_record key j ys l e) ∙ (sym (on_record_lem key 0 ys) ∙ ap (λ (x : Found). not (is_none x)) none))))

  -- what an event makes of the record of its key
  meeting_keeps : (ys : List Call) → FitTable ys → (key : ℕ) → (key ≡ 0 → ⊥) → (i : ℕ) (c : Call) → first key 0 ys ≡ Some (i, c) → (e : Event) →
      Keeps ys (placed_at i (handled_at half c e))
  meeting_keeps ys f key n i c p e =
      let a : FoundAt key 0 i c ys = found_at key 0 i c ys p in
      let li : i < length ys = omega (arith, a.at, a.inside) in
      let ip : i ≡ a.place = omega (arith, a.at) in
      let here : get_or ys i emptied ≡ c = ap (λ (x : ℕ). get_or ys x emptied) ip ∙ a.there in
      let cn : c.key ≡ 0 → ⊥ = λ q. n (sym a.named ∙ q) in
      let fc : FitRecord c = rw here at (f.each i li) in
      let r = after_event c e cn (fc.used cn) in
      put_fit ys f i (handled_at half c e).call li r.0
      (λ j o l q.
      ⊎_elim (λ z. z)
      (λ same.
      let k : (get_or ys j emptied).key ≡ (get_or ys i emptied).key = q ∙ (same ∙ ap (λ (x : Call). x.key) (sym here)) in
      absurd (cn (ap (λ (x : Call). x.key) (sym here) ∙ apart ys f i j li l o k)))
      r.1)

  placed_keeps : (ys : List Call) → FitTable ys → (key : ℕ) (act : Act) → Placed half ys key (Keeps ys) act
  placed_keeps ys f key (Opens wanted) = λ i c z p q. opening_keeps ys f key z p wanted i c q
  placed_keeps ys f key (Meets e) = λ i c z p. meeting_keeps ys f key z i c p e

  pub stays_fit : claim.StaysFit half
  stays_fit ys key act f = decided half ys key (Keeps ys) (λ a no. refusal_keeps ys f a) act (placed_keeps ys f key act)
