-- The promises over whole runs, at the destination. Assumes nothing.
use Prim.Native.Nat.{◌+◌, ◌<◌, ℕ}
use native.Mathlib.Omega.{arith}
use mathlib.Core.Bool.{Bool, ◌&&◌, ◌||◌, cond, false, false≢true, not, true, true≢false}
use mathlib.Core.List.{List, [], ◌∷◌}
use mathlib.Core.Logic.{◌↔◌, ◌⊎◌, inl, inr}
use mathlib.Core.Path.{◌∙◌, ◌≡◌, ap, refl, subst, sym}
use lib.Dec.{eqb}
use lib.ListN.{get_or}
use borrow.Author.Tests.{eqb-false, lt-leb, lt-ltb, ne_eqb}
use Rattle.std.specs.Prelude.{None}
use Rattle.distinct.specs.Distinct.{distinct_of, has}
use Rattle.lent.specs.Search.{read_from}
use Rattle.runs.specs.Run.{call_by_key}
use Rattle.signal.specs.Causes.{unsupported}
use Rattle.signal.specs.Counting.{one}
use Rattle.signal.specs.Numbers.{has_soft}
use Rattle.signal.specs.declared.ReroutingCause.{ReroutingCause}
use Rattle.signal.specs.declared.Soft.{Soft}
use Rattle.signal.specs.declared.Soft.TheVariants.{Asymmetric, NoSoft, Symmetric}
use Rattle.events.specs.Events.{setup_number}
use Rattle.events.specs.declared.Event.TheVariants.{Setup}
use Rattle.events.specs.declared.Node.TheVariants.{Destination}
use Rattle.rows.specs.Cases.{AsksClearing, AsksImmediate, AsksOther, Asking, asking_of, case_of}
use Rattle.rows.specs.Effects.{effect}
use Rattle.rows.specs.Rules.{Rule, storing}
use Rattle.rows.specs.States.{Phase, is_hard, phase_of}
use Rattle.rows.specs.declared.State.{State}
use Rattle.rows.specs.declared.State.TheVariants.{Awaiting, HardUnderway, HardWaiting, Idle, Null, SoftInitiated, SoftProceeding}
use Rattle.rows.specs.declared.State.TheVariants.{SoftTriggered}
use Rattle.source_rows.specs.Shared.{in_call}
use Rattle.destination_rows.specs.Demands.{has_service, is_unrecognized}
use Rattle.destination_rows.specs.Rows.{destination_row, newly_hard, served, setup_asked_here}
use Rattle.call.proofs.Destination.{lawful}
use Rattle.call.specs.Claims.{answer_given}
use Rattle.call.specs.Record.{carried_out, moved_to, standing}
use Rattle.call.specs.declared.Call.{Call}
use Rattle.call_table.specs.DestinationBench.{unrecognized}
use Rattle.promises.proofs.Inserted.{same_event}
use Rattle.promises.proofs.Rejected.{sifts_by}
use Rattle.promises.proofs.Shown.{shown, shown_at}
use Rattle.promises.specs.Claims.{KeepsPromises}
use Rattle.promises.specs.Ends.{ByServices, Sifts, asks_supported, calls, destination_sieve}
use Rattle.promises.specs.Inserted.{HasInsertions, LacksInWords, TakesInWords, destination_in_words}
use Rattle.promises.specs.ShutOut.{ShutsOut}
use Rattle.promises.specs.Inserted as claim
use Rattle.promises.proofs.Claims as any
use Rattle.promises.proofs.Inserted as any_run
use Rattle.promises.proofs.ShutOut as any_control

-- ---- its number check
-- the code is looked at first, outside the Hard states, and then the number
code_first : (hard unknown : Bool) (others : List ReroutingCause) →
    cond (unknown && not hard) (unsupported ∷ []) others ≡ cond (hard || not unknown) others (unsupported ∷ [])
code_first true true others = refl
code_first true false others = refl
code_first false true others = refl
code_first false false others = refl

pub sifts : Sifts destination_sieve
sifts =
    sifts_by destination_sieve (λ c. [])
    (λ c code number live. ap (λ b. b || not (has_service c.hard c.soft)) live)
    (λ c code number. code_first (is_hard c.state) (is_unrecognized code) _)

by_services : ByServices destination_sieve
by_services c d hard soft i = has_service (hard i) (soft i)

has_service_lem : (hard : Bool) (soft : Soft) → (has_service hard soft ≡ true) ↔ ((hard ≡ true) ⊎ ((soft ≡ Asymmetric) ⊎ (soft ≡ Symmetric)))
has_service_lem true soft = (λ h. inl refl, λ w. refl)
has_service_lem false Asymmetric = (λ h. inr (inl refl), λ w. refl)
has_service_lem false Symmetric = (λ h. inr (inr refl), λ w. refl)
has_service_lem false NoSoft = (λ h. absurd (false≢true h), by)
  where
    by : (false ≡ true) ⊎ ((NoSoft ≡ Asymmetric) ⊎ (NoSoft ≡ Symmetric)) → false ≡ true
    by (inl e) = e
    by (inr (inl e)) = ap has_soft e
    by (inr (inr e)) = ap has_soft e

takes_in_words : TakesInWords destination_sieve destination_in_words
takes_in_words c = has_service_lem c.hard c.soft

lacks_in_words : LacksInWords destination_sieve destination_in_words
lacks_in_words c code = (
  λ lacks. by (is_hard c.state) (eqb code.code 0) (eqb code.code 1) refl refl refl lacks,
  λ w. rw (w.0, ne_eqb code.code 0 w.1.0, ne_eqb code.code 1 w.1.1),
)
  where
    by : (hard immediate clearing : Bool) → is_hard c.state ≡ hard → eqb code.code 0 ≡ immediate → eqb code.code 1 ≡ clearing →
        (hard || not (not immediate && not clearing)) ≡ false → destination_in_words.Lacks c code
    by false false false h i u e = (h, (eqb-false code.code 0 i, eqb-false code.code 1 u))
    by true immediate clearing h i u e = absurd (true≢false e)
    by false true clearing h i u e = absurd (true≢false e)
    by false false true h i u e = absurd (true≢false e)

-- ---- what it shows on the runs that are written out
shows : shown_at destination_sieve ≡ shown
unfolding read_from has distinct_of one
shows = refl

-- ---- the promises
pub promises : KeepsPromises destination_sieve
promises = any.promises destination_sieve lawful sifts by_services

pub insertions : HasInsertions destination_sieve destination_in_words unrecognized
insertions = any_run.insertions destination_sieve destination_in_words takes_in_words lacks_in_words shows unrecognized refl

pub shut_out : ShutsOut destination_sieve
shut_out = any_control.shut_out destination_sieve shows lawful

-- ---- its Hard states
pub only_late_when_hard : claim.OnlyLateWhenHard
only_late_when_hard ys k code number hard (inl (e, (n, (setup, late)))) =
    let same : number ≡ n = ap (λ (ns : List ℕ). get_or ns 0 0) (ap setup_number (same_event setup.is) ∙ setup.numbered) in
    omega arith
only_late_when_hard ys k code number hard (inr (e, (n, (setup, lacks)))) =
    let c = call_by_key calls k ys in
    absurd (true≢false (sym (ap (λ b. b || not (is_unrecognized code)) hard) ∙ (ap (asks_supported destination_sieve c) (same_event setup.is) ∙ lacks)))

served_is : (hard : Bool) (soft : Soft) (phase : Phase) (rule : Rule) → has_service hard soft ≡ true → served hard soft phase rule ≡ rule
served_is true NoSoft phase rule h = refl
served_is true Asymmetric phase rule h = refl
served_is true Symmetric phase rule h = refl
served_is false Asymmetric phase rule h = refl
served_is false Symmetric phase rule h = refl
served_is false NoSoft phase rule h = absurd (false≢true h)

module _ (c : Call) (number : ℕ) (room : c.last < 65535) where
  -- a rule that takes the setup as a hard one: it answers 0, holds the next number alone, and stores the setup's
  abbrev TakesHard : Rule → Type 0
  TakesHard rule =
      let o = carried_out c number (effect Destination c.state (c.last + 1) None rule) in
      (answer_given o ≡ 0) × (o.call ≡ moved_to c (HardUnderway (c.last + 1)) (c.last + 1) number)

  newly_hard_lem : TakesHard (storing newly_hard)
  newly_hard_lem = rw (lt-ltb c.last 65535 room) (refl, refl)

  asked_when_hard : (s : State) → is_hard s ≡ true → (asked : Asking) → TakesHard (in_call (phase_of s) (setup_asked_here asked false (phase_of s) true))
  asked_when_hard HardWaiting h AsksImmediate = newly_hard_lem
  asked_when_hard HardWaiting h AsksClearing = newly_hard_lem
  asked_when_hard HardWaiting h AsksOther = newly_hard_lem
  asked_when_hard (HardUnderway r) h AsksImmediate = newly_hard_lem
  asked_when_hard (HardUnderway r) h AsksClearing = newly_hard_lem
  asked_when_hard (HardUnderway r) h AsksOther = newly_hard_lem
  asked_when_hard Null h asked = absurd (false≢true h)
  asked_when_hard (Idle i) h asked = absurd (false≢true h)
  asked_when_hard (SoftTriggered i) h asked = absurd (false≢true h)
  asked_when_hard (SoftProceeding i r) h asked = absurd (false≢true h)
  asked_when_hard (SoftInitiated i r) h asked = absurd (false≢true h)
  asked_when_hard (Awaiting i r) h asked = absurd (false≢true h)

pub any_code_taken_when_hard : claim.AnyCodeTakenWhenHard
any_code_taken_when_hard c code number taken hard new room =
    subst (TakesHard c number room) (sym row_is) (asked_when_hard c number room c.state hard (asking_of code))
  where
    row_is : destination_row (case_of (standing c) (Setup code number)) ≡ in_call (phase_of c.state) (setup_asked_here (asking_of code) false (phase_of c.state) true)
    row_is =
        served_is c.hard c.soft (phase_of c.state) _ ((has_service_lem c.hard c.soft).1 taken)
        ∙ rw (lt-leb number c.remote new, lt-ltb c.last 65535 room)
