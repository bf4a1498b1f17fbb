-- Rules that are the same in every state, and the party's release, carried out at either end. Assumes nothing.
use mathlib.Core.Bool.{Bool, cond, false, true}
use mathlib.Core.Path.{◌≡◌, ap, refl}
use lib.Dec.{eqb}
use Prim.Native.Nat.{ℕ}
use Rattle.std.specs.Prelude.{Option, None, Some}
use Rattle.signal.specs.Causes.{passed}
use Rattle.signal.specs.Signals.{none, release_of, release_with, timer_stop}
use Rattle.signal.specs.declared.Answer.{Answer}
use Rattle.signal.specs.declared.CauseCode.TheVariants.{Section66}
use Rattle.signal.specs.declared.ReroutingCause.{ReroutingCause}
use Rattle.signal.specs.declared.Kind.TheVariants.{Rejection, ReroutingRelease}
use Rattle.signal.specs.declared.SentCause.TheVariants.{AsReceived}
use Rattle.events.specs.declared.Node.{Node}
use Rattle.rows.specs.Cases.{class_of}
use Rattle.rows.specs.Effects.{carried_at, done_in, refused_in, said}
use Rattle.rows.specs.Rules.{Saying, refuses}
use Rattle.rows.specs.States.{phase_of}
use Rattle.rows.specs.declared.Class.TheVariants.{CameComplete, CameOther, CameOutside}
use Rattle.rows.specs.declared.State.{State}
use Rattle.rows.specs.declared.State.TheVariants.{Awaiting, HardUnderway, HardWaiting, Idle, Null, SoftInitiated, SoftProceeding}
use Rattle.rows.specs.declared.State.TheVariants.{SoftTriggered}
use Rattle.shared_rows.specs.Effects.{both_ended_with, incumbent_ended, party_ended}
use Rattle.source_rows.specs.Shared.{party_row, passing, rejects}

-- a refusal leaves the state
pub refused_at_lem : (node : Node) (a : Answer) (s : State) (next : Option ℕ) (cause : Option ReroutingCause) →
    carried_at node s next cause (refuses a (phase_of s)) ≡ refused_in a s
refused_at_lem node a Null next cause = refl
refused_at_lem node a (Idle i) next cause = refl
refused_at_lem node a HardWaiting next cause = refl
refused_at_lem node a (HardUnderway r) next cause = refl
refused_at_lem node a (SoftTriggered i) next cause = refl
refused_at_lem node a (SoftProceeding i r) next cause = refl
refused_at_lem node a (SoftInitiated i r) next cause = refl
refused_at_lem node a (Awaiting i r) next cause = refl

-- a rejection leaves the state
pub rejected_at : (node : Node) (say : Saying) (s : State) (next : Option ℕ) →
    carried_at node s next None (rejects say (phase_of s)) ≡ done_in s (release_with Rejection 0 (said None say) Section66) none none
rejected_at node say Null next = refl
rejected_at node say (Idle i) next = refl
rejected_at node say HardWaiting next = refl
rejected_at node say (HardUnderway r) next = refl
rejected_at node say (SoftTriggered i) next = refl
rejected_at node say (SoftProceeding i r) next = refl
rejected_at node say (SoftInitiated i r) next = refl
rejected_at node say (Awaiting i r) next = refl

-- a cause from the party, by its class
pub passed_is : (hard : Bool) (cause : Option ReroutingCause) → passed hard cause ≡ said cause (passing hard (class_of cause))
passed_is true None = refl
passed_is false None = refl
passed_is hard (Some k) = by (eqb k.number 1) (eqb k.number 4)
  where
    by : (a b : Bool) → AsReceived k ≡ said (Some k) (passing hard (cond a CameOutside (cond b CameComplete CameOther)))
    by true b = refl
    by false true = refl
    by false false = refl

-- the party's release is the row of the page, at either end, with what Soft Triggered's release says there
pub party_is : (node : Node) (say : Saying) (hard : Bool) (cause : Option ReroutingCause) (s : State) →
    party_ended hard cause (said cause say) s ≡ carried_at node s None cause (party_row say (phase_of s) hard (class_of cause))
party_is node say hard cause Null = refl
party_is node say hard cause (Idle i) = ap (incumbent_ended i) (passed_is hard cause)
party_is node say hard cause HardWaiting = refl
party_is node say hard cause (HardUnderway r) = ap (λ sent. done_in Null timer_stop (release_of ReroutingRelease r sent) none) (passed_is true cause)
party_is node say hard cause (SoftTriggered i) = refl
party_is node say hard cause (SoftProceeding i r) = ap (both_ended_with i r) (passed_is hard cause)
party_is node say hard cause (SoftInitiated i r) = ap (both_ended_with i r) (passed_is hard cause)
party_is node say hard cause (Awaiting i r) = ap (both_ended_with i r) (passed_is hard cause)
