-- A setup that was heard is never taken again (specs/Claims), of our control of any end whose half keeps the laws, whose number check is its own,
-- and which takes setups by the services of a call. Assumes nothing.
use Prim.Native.Nat.{◌<◌, ◌≤◌, ℕ}
use native.Mathlib.Omega.{arith}
use mathlib.Core.Bool.{Bool, false, not, true}
use mathlib.Core.List.{List, [], ◌∷◌}
use mathlib.Core.Logic.{◌⊎◌, inl, inr}
use mathlib.Core.Path.{◌∙◌, ◌≡◌, ap, refl, subst, sym}
use lib.Dec.{eqb}
use lib.ListN.{get_or, length}
use borrow.Author.Tests.{eqb-false}
use Rattle.runs.proofs.Again.{laws_take_none_again}
use Rattle.runs.specs.Account.{LawfulControl}
use Rattle.runs.specs.Again.{IsPast, Remembers}
use Rattle.runs.specs.Demand.{KeepsDemandThree}
use Rattle.runs.specs.Run.{Table, event_by}
use Rattle.signal.specs.Causes.{in_progress}
use Rattle.signal.specs.Counting.{of_kind}
use Rattle.signal.specs.Signals.{rejection}
use Rattle.signal.specs.declared.Kind.TheVariants.{Rejection}
use Rattle.events.specs.Events.{setup_number}
use Rattle.events.specs.declared.Act.TheVariants.{Meets}
use Rattle.events.specs.declared.Event.{Event}
use Rattle.rows.specs.States.{is_null}
use Rattle.call.specs.Claims.{Heard, Lawful, answer_given}
use Rattle.call.specs.Events.{Half, handled_at}
use Rattle.call.specs.Record.{emptied, standing as standing_of}
use Rattle.call.specs.declared.Call.{Call}
use Rattle.call.specs.declared.Outcome.{Outcome}
use Rattle.call_table.specs.Fit.{fit_table}
use Rattle.promises.proofs.Laws.{done_fit, event, key_of, lawful, live_of, met_is, row, standing}
use Rattle.promises.proofs.Rejected.{IsSetup, is_setup_lem}
use Rattle.promises.specs.Claims.{IsHeard}
use Rattle.promises.specs.Ends.{ByServices, Sieve, Sifts, calls, numbering, ours}
use Rattle.call_table.specs.Claims as table
use Rattle.promises.specs.Claims as claim

-- ---- the call of a key, and an event on it
module _ (half : Half) (L : Lawful half) (ys : Table calls) (k : ℕ) (e : Event) where
  abbrev c : Call
  c = table.call_of k ys

  abbrev o : Outcome
  o = handled_at half c e

  -- that is done
  module _ (done : (ours half ys (event_by calls k e)).answer ≡ 0) where
    fit : (fit_table ys ≡ true) × ((eqb k 0 ≡ false) × (table.answer_for half ys k (Meets e) ≡ 0))
    fit = done_fit half L ys k (Meets e) done

    here : (table.has_call k ys ≡ true) × (answer_given o ≡ 0)
    here = standing half L ys k e fit.1.1

    named : k ≡ 0 → ⊥
    named = eqb-false k 0 fit.1.0

    live : is_null c.state ≡ false
    live = live_of k ys named fit.0 here.0

    -- the call lives on, where what the event leaves is not the empty record
    lives_on : (o.call ≡ emptied → ⊥) → is_null o.call.state ≡ false
    lives_on used = by (is_null o.call.state) refl
      where
        by : (b : Bool) → is_null o.call.state ≡ b → is_null o.call.state ≡ false
        by false h = h
        by true h = absurd (used ((event half L).ended_is_emptied c e o refl live h))

    -- what is heard over the table is heard by the call
    heard_call : IsHeard (ours half ys (event_by calls k e)) → Heard (answer_given o) o.signals
    heard_call heard = (
      here.1,
      subst (λ ss. (of_kind Rejection ss ≡ []) ⊎ (of_kind Rejection ss ≡ rejection in_progress ∷ [])) ((row half L).event_changes_its_call ys k e done).1 heard.1,
    )

module _ (s : Sieve) (L : Lawful s.half) (S : Sifts s) (steady : ByServices s) where
  -- which calls take setups, while they live
  still_takes : (d : Call) (e : Event) → is_null (handled_at s.half d e).call.state ≡ false → s.takes (handled_at s.half d e).call ≡ s.takes d
  still_takes d e on = let stay = (event s.half L).key_and_services_stay d e _ refl on in steady (handled_at s.half d e).call d stay.1.0 stay.1.1

  -- ---- a setup that is heard: the number on record grows to its own, and the call takes setups
  module _ (ys : Table calls) (k number : ℕ) (e : Event) (done : (ours s.half ys (event_by calls k e)).answer ≡ 0) (numbered : setup_number e ≡ number ∷ []) (heard : IsHeard (ours s.half ys (event_by calls k e))) where
    abbrev before : Call
    before = c s.half L ys k e

    abbrev after : Outcome
    after = o s.half L ys k e

    grown : before.remote < after.call.remote
    grown = ((event s.half L).remote_grows_exactly before e after refl).0.1 (ap length numbered, heard_call s.half L ys k e done heard)

    stored : number ≤ after.call.remote
    stored =
        let same : number ≡ after.call.remote =
        ap (λ (ns : List ℕ). get_or ns 0 0) (sym numbered ∙ ((event s.half L).remote_grows_exactly before e after refl).1 grown) in
        omega arith

    on : is_null after.call.state ≡ false
    on = lives_on s.half L ys k e done (λ over. let none : after.call.remote ≡ 0 = ap (λ d. d.remote) over in absurd (omega (arith, grown, none)))

    takes : s.takes before ≡ true
    takes = by (s.takes before) refl
      where
        is : IsSetup e number
        is = is_setup_lem e number numbered

        by : (b : Bool) → s.takes before ≡ b → b ≡ true
        by true t = refl
        by false t =
            absurd ((((event s.half L).given0 before e after refl).0 (here s.half L ys k e done).1).0
            (ap (s.half.demands.meaningless (standing_of before)) is.1 ∙ (S.meant before is.0 number (live s.half L ys k e done) ∙ ap not t)))

    past_it : IsPast calls (numbering s) number after.call
    past_it = (still_takes before e on ∙ takes, stored)

  -- ---- what is heard is remembered
  abbrev control : LawfulControl calls (ours s.half)
  control = lawful s.half L

  keeps_by : (ys : Table calls) (k number : ℕ) (e : Event) (d : (ours s.half ys (event_by calls k e)).answer ≡ 0) →
      (control.met ys k e d).call.key ≡ k → IsPast calls (numbering s) number (table.call_of k ys) →
      IsPast calls (numbering s) number (control.met ys k e d).call
  keeps_by ys k number e d stands past =
      subst (IsPast calls (numbering s) number) (sym (met_is s.half L ys k e d))
      (still_takes (table.call_of k ys) e on ∙ past.0, by ((event s.half L).remote_grows (table.call_of k ys) e _ refl on))
    where
      left : Call
      left = (handled_at s.half (table.call_of k ys) e).call

      own_key : left.key ≡ k
      own_key = sym (ap (λ (d : Call). d.key) (met_is s.half L ys k e d)) ∙ stands

      on : is_null left.state ≡ false
      on = lives_on s.half L ys k e d (λ over. named s.half L ys k e d (sym own_key ∙ ap (λ (d : Call). d.key) over))

      by : {m : ℕ} → (m ≡ (table.call_of k ys).remote) ⊎ ((table.call_of k ys).remote < m) → number ≤ m
      by (inl same) = omega (arith, past.1)
      by (inr more) = omega (arith, past.1)

  remembers : Remembers calls (numbering s) IsHeard (ours s.half) control
  remembers =
      record {
        done = λ ys k e heard. heard.0;
        heard = λ ys k number e d numbered heard.
            subst (IsPast calls (numbering s) number) (sym (met_is s.half L ys k e d)) (past_it ys k number e d numbered heard);
        keeps = keeps_by;
      }

  pub never_taken_again : KeepsDemandThree calls (numbering s) (ours s.half) → claim.NeverTakenAgain s (ours s.half)
  never_taken_again demand = laws_take_none_again calls (numbering s) IsHeard (ours s.half) control demand remembers
