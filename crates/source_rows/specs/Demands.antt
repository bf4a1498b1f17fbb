-- What the documents ask of the source node, in the words of 01: of a call and an event (`source_demands`), and the same by case
-- (`source_wants`). None of it mentions a row. Proofs that the two agree: proofs/Agree.antt. Assumes nothing.
use Rattle.std.specs.Prelude.{ℕ, Bool, ◌&&◌, ◌||◌, cond, false, not, true, List, [], ◌∷◌}
use Rattle.signal.specs.Causes.{in_progress, old_number, unsupported}
use Rattle.signal.specs.Numbers.{has_soft, has_symmetric, is_clearing, is_late}
use Rattle.signal.specs.declared.ReroutingCause.{ReroutingCause}
use Rattle.signal.specs.declared.Soft.{Soft}
use Rattle.signal.specs.declared.Switchover.{Switchover}
use Rattle.events.specs.declared.Event.{Event}
use Rattle.events.specs.declared.Event.TheVariants.{Connect, Expiry, FromDomain, FromParty, NoPath, PathFound, Ready, Setup, Trigger}
use Rattle.events.specs.declared.Node.TheVariants.{Source}
use Rattle.rows.specs.Cases.{Asking, Connected, DomainReleased, Expired, FoundNone, FoundPath, Happening, NamesIncumbent, PartyReleased}
use Rattle.rows.specs.Cases.{SaidReady, SetUp, Triggered, asks_clearing, came_none}
use Rattle.rows.specs.Checks.{Demands, has_no_cause, is_its_incumbent, names_not_held}
use Rattle.rows.specs.Laws.{Wants, names_unheld, same_role, same_slot}
use Rattle.rows.specs.Rules.{Closing, NoClosing, OldRerouting, Rejects, Rule, Saying, Says5, Says6, Says8, SendsConnect, SendsSetup}
use Rattle.rows.specs.States.{Phase, holds_rerouting, is_at, is_hard, is_hard_phase, is_in, is_null}
use Rattle.rows.specs.declared.State.{State}

-- ---- of a call and an event
-- the two Triggered states, the two Proceeding states, Soft Initiated
abbrev pub is_triggered : State → Bool
is_triggered s = is_at 2 s || is_at 4 s

abbrev pub is_proceeding : State → Bool
is_proceeding s = is_at 3 s || is_at 5 s

abbrev pub is_initiated : State → Bool
is_initiated s = is_at 6 s

abbrev pub is_soft_proceeding : State → Bool
is_soft_proceeding s = is_at 5 s

-- 106: an event without meaning. A connect outside the two Proceeding states, a path answer outside the two Triggered states, "ready"
-- outside Soft Initiated, timer expiry outside the two Hard states, a soft trigger with soft none, a setup without symmetric soft; and any
-- event in Null (decision 26)
abbrev pub meaningless : Soft → State → Event → Bool
meaningless soft s Trigger = is_null s || not (has_soft soft)
meaningless soft s PathFound = not (is_triggered s)
meaningless soft s NoPath = not (is_triggered s)
meaningless soft s (Connect c agreed) = not (is_proceeding s)
meaningless soft s (Setup code number) = is_null s || not (has_symmetric soft)
meaningless soft s (FromParty cause) = is_null s
meaningless soft s (FromDomain c cause tried) = is_null s
meaningless soft s Ready = not (is_initiated s)
meaningless soft s Expiry = not (is_hard s)

-- any Triggered or Proceeding state ("Setup" row 3)
abbrev pub is_busy : State → Bool
is_busy s = is_triggered s || is_proceeding s

-- a setup is rejected by the first of rows 1 to 3 that applies
abbrev pub setup_rejection : ℕ → State → Switchover → ℕ → List ReroutingCause
setup_rejection remote s code number =
    cond (not (is_clearing code)) (unsupported ∷ [])
    (cond (is_late number remote) (old_number ∷ []) (cond (is_busy s) (in_progress ∷ []) []))

-- Cause code #21 stands on the rerouting release of a connect answered no (6.2.6.2) and of D18's last line, and nowhere else
abbrev pub turns_away : Bool → State → Event → Bool
turns_away hard s Trigger = false
turns_away hard s PathFound = false
turns_away hard s NoPath = false
turns_away hard s (Connect c agreed) = is_soft_proceeding s && (not (names_not_held s (Connect c agreed)) && not agreed)
turns_away hard s (Setup code number) = false
turns_away hard s (FromParty cause) = false
turns_away hard s (FromDomain c cause tried) = is_initiated s && (is_its_incumbent s c && (hard && has_no_cause cause))
turns_away hard s Ready = false
turns_away hard s Expiry = false

-- no event fills more than two of the four places (decision 18)
abbrev pub source_demands : Demands
source_demands =
    record {
      node = Source;
      meaningless = λ x e. meaningless x.soft x.state e;
      rejected = λ x code number. setup_rejection x.remote x.state code number;
      retired21 = λ x e. false;
      dropped21 = λ x e. turns_away x.hard x.state e;
      most = 2;
    }

-- ---- the same by case
abbrev pub waits_for_path : Phase → Bool
waits_for_path phase = is_in 2 phase || is_in 4 phase

abbrev pub waits_for_connect : Phase → Bool
waits_for_connect phase = is_in 3 phase || is_in 5 phase

abbrev pub meaningless_in : Phase → Soft → Happening → Bool
meaningless_in phase soft Triggered = is_in 0 phase || not (has_soft soft)
meaningless_in phase soft FoundPath = not (waits_for_path phase)
meaningless_in phase soft FoundNone = not (waits_for_path phase)
meaningless_in phase soft (Connected role agreed) = not (waits_for_connect phase)
meaningless_in phase soft (SetUp asked late) = is_in 0 phase || not (has_symmetric soft)
meaningless_in phase soft (PartyReleased class) = is_in 0 phase
meaningless_in phase soft (DomainReleased role class tried) = is_in 0 phase
meaningless_in phase soft SaidReady = not (is_in 6 phase)
meaningless_in phase soft Expired = not (is_hard_phase phase)

abbrev pub rejected_for : Phase → Asking → Bool → List Saying
rejected_for phase asked late =
    cond (not (asks_clearing asked)) (Says8 ∷ [])
    (cond late (Says5 ∷ []) (cond (waits_for_path phase || waits_for_connect phase) (Says6 ∷ []) []))

abbrev pub turns_away_in : Phase → Bool → Happening → Bool
turns_away_in phase hard Triggered = false
turns_away_in phase hard FoundPath = false
turns_away_in phase hard FoundNone = false
turns_away_in phase hard (Connected role agreed) = is_in 5 phase && (not (names_unheld phase (Connected role agreed)) && not agreed)
turns_away_in phase hard (SetUp asked late) = false
turns_away_in phase hard (PartyReleased class) = false
turns_away_in phase hard (DomainReleased role class tried) = is_in 6 phase && (same_role role NamesIncumbent && (hard && came_none class))
turns_away_in phase hard SaidReady = false
turns_away_in phase hard Expired = false

abbrev pub source_wants : Wants
source_wants =
    record {
      meaningless = λ c. meaningless_in c.phase c.soft c.happening;
      rejected = rejected_for;
      retired21 = λ c. false;
      dropped21 = λ c. turns_away_in c.phase c.hard c.happening;
      most = 2;
    }

-- beside that, at the source: a connect leaves its connection the rerouting one of the state after
abbrev pub sends_connect : Closing → Bool
sends_connect NoClosing = false
sends_connect (SendsSetup slot) = false
sends_connect (SendsConnect slot) = true
sends_connect (Rejects say code) = false

abbrev pub stays_rerouting : Rule → Bool
stays_rerouting rule = not (sends_connect rule.closing) || (holds_rerouting rule.phase && same_slot rule.rerouting OldRerouting)
