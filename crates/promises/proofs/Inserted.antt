-- What demand 3 inserts is there (specs/Inserted), proved of any end that shows what is to be shown on the bench run. Assumes nothing.
use Prim.Native.Nat.{zero-le}
use native.Mathlib.Omega.{arith}
use mathlib.Core.Bool.{cond, false}
use mathlib.Core.List.{[], ◌∷◌}
use mathlib.Core.Logic.{inl, inr}
use mathlib.Core.Path.{◌∙◌, ◌≡◌, ap, refl, subst, sym}
use Rattle.std.specs.Prelude.{Option}
use Rattle.runs.proofs.Demand.{demand_three_says}
use Rattle.runs.specs.Late.{LateOrUnsupported, Rejected}
use Rattle.runs.specs.Run.{Does, KeyedRequest, Reply, meets}
use Rattle.signal.specs.Causes.{old_number, unsupported}
use Rattle.signal.specs.declared.Switchover.{Switchover}
use Rattle.signal.specs.declared.Services.{Services}
use Rattle.events.specs.declared.Event.{Event}
use Rattle.events.specs.declared.Event.TheVariants.{Setup}
use Rattle.call_table.specs.Bench.{clearing}
use Rattle.promises.proofs.Shown.{shown, shown_at}
use Rattle.promises.specs.Ends.{Sieve, calls, numbering}
use Rattle.promises.specs.Inserted.{InWords, awaiting, awaiting_call, b1_to_b3, b4, b5, rejection_reply}
use Rattle.promises.specs.Inserted as claim

pub same_event : {d e : Event} → ◌≡◌ {A = Does (Option Services) Event} (meets d) (meets e) → d ≡ e
same_event is = cc

-- ---- the bench run
-- what demand 3 says of a request that is inserted there is a whole reply
module _ (s : Sieve) (e : Event) (r : Reply calls) (h : Rejected calls (numbering s) awaiting (record { key = 7; does = meets e }) r) where
  signals_are : r.signals ≡ (numbering s).reject awaiting_call e
  signals_are = h.signals ∙ ap ((numbering s).reject awaiting_call) (sym (same_event h.is))

  reply_is : r ≡ record { answer = 0; signals = (numbering s).reject awaiting_call e; table = awaiting }
  reply_is i = record { answer = h.answer i; signals = signals_are i; table = h.table i }

module _ (s : Sieve) (shows : shown_at s ≡ shown) where
  pub bench_reached : claim.BenchReached s
  bench_reached = ap (λ v. v.reached) shows

  pub b4_is_late : claim.B4IsLate s
  b4_is_late = (
    Setup clearing 3,
    (3, (record { is = refl; numbered = refl; named = λ e. omega arith; known = refl; taken = ap (λ v. v.taken) shows }, omega arith)),
  )

  module _ (code : Switchover) (lacks : s.supports awaiting_call code ≡ false) where
    pub b5_is_unsupported : claim.B5IsUnsupported s code
    b5_is_unsupported = (
      Setup code 9,
      (9, (record { is = refl; numbered = refl; named = λ e. omega arith; known = refl; taken = ap (λ v. v.taken) shows }, lacks)),
    )

    pub bench_inserted : claim.BenchInserted s code
    bench_inserted = (
      subst (λ ys. LateOrUnsupported calls (numbering s) ys b4) (sym bench_reached) (inl b4_is_late),
      (subst (λ ys. LateOrUnsupported calls (numbering s) ys (b5 code)) (sym (ap (λ v. v.left) shows)) (inr b5_is_unsupported), tt),
    )

    pub bench_rejected : claim.BenchRejected s code
    bench_rejected C demand reached = ap (λ r. r ∷ C r.table (b5 code) ∷ []) first ∙ ap (λ r. rejection_reply old_number ∷ r ∷ []) second
      where
        there : (a : KeyedRequest calls) → LateOrUnsupported calls (numbering s) awaiting a → Rejected calls (numbering s) awaiting a (C awaiting a)
        there a at =
            subst (λ ys. Rejected calls (numbering s) ys a (C ys a)) reached
            ((demand_three_says calls (numbering s) C demand).rejects 1 b1_to_b3 a (subst (λ ys. LateOrUnsupported calls (numbering s) ys a) (sym reached) at))

        first : C awaiting b4 ≡ rejection_reply old_number
        first =
            reply_is s (Setup clearing 3) (C awaiting b4) (there b4 (inl b4_is_late))
            ∙ ap (λ v. rejection_reply (cond v.supported old_number unsupported)) shows

        second : C awaiting (b5 code) ≡ rejection_reply unsupported
        second =
            reply_is s (Setup code 9) (C awaiting (b5 code)) (there (b5 code) (inr b5_is_unsupported))
            ∙ ap (λ b. rejection_reply (cond b old_number unsupported)) lacks

-- ---- every call that takes setups
module _ (s : Sieve) (words : InWords) (takes : claim.TakesInWords s words) (lacks : claim.LacksInWords s words) where
  pub setups_to_insert : claim.SetupsToInsert s words
  setups_to_insert ys k named known taken = (
    λ code. (Setup code 0, (0, (record { is = refl; numbered = refl; named = named; known = known; taken = (takes _).1 taken }, zero-le))),
    λ code lacking number. (
      Setup code number,
      (number, (record { is = refl; numbered = refl; named = named; known = known; taken = (takes _).1 taken }, (lacks _ code).1 lacking)),
    ),
  )

  -- ---- all of it
  pub insertions : shown_at s ≡ shown → (code : Switchover) → s.supports awaiting_call code ≡ false → claim.HasInsertions s words code
  insertions shows code lacking =
      record {
        bench_reached = bench_reached s shows;
        b4_is_late = b4_is_late s shows;
        b5_is_unsupported = b5_is_unsupported s shows code lacking;
        bench_inserted = bench_inserted s shows code lacking;
        bench_rejected = bench_rejected s shows code lacking;
        takes_in_words = takes;
        lacks_in_words = lacks;
        setups_to_insert = setups_to_insert;
      }
