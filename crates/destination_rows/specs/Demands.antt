-- What the documents ask of the destination node, in the words of 01 and 6.3: of a call and an event (`destination_demands`), and the same
-- by case (`destination_wants`). None of it mentions a row. Proofs that the two agree: proofs/Agree.antt. Assumes nothing.
use Rattle.std.specs.Prelude.{ℕ, Bool, ◌&&◌, ◌||◌, cond, false, not, List, [], ◌∷◌, eqb}
use Rattle.signal.specs.Causes.{old_number, unsupported}
use Rattle.signal.specs.Numbers.{has_soft, has_symmetric, is_clearing, is_late}
use Rattle.signal.specs.declared.ReroutingCause.{ReroutingCause}
use Rattle.signal.specs.declared.Soft.{Soft}
use Rattle.signal.specs.declared.Switchover.{Switchover}
use Rattle.events.specs.declared.Event.{Event}
use Rattle.events.specs.declared.Event.TheVariants.{Connect, Expiry, FromDomain, FromParty, NoPath, PathFound, Ready, Setup, Trigger}
use Rattle.events.specs.declared.Node.TheVariants.{Destination}
use Rattle.rows.specs.Cases.{Asking, Connected, DomainReleased, Expired, FoundNone, FoundPath, Happening, NamesIncumbent, PartyReleased}
use Rattle.rows.specs.Cases.{SaidReady, SetUp, Standing, Triggered, came_none, has_room}
use Rattle.rows.specs.Checks.{Demands, has_no_cause, is_its_incumbent, is_none, names_not_held}
use Rattle.rows.specs.Laws.{Wants, is_empty, names_unheld, same_role}
use Rattle.rows.specs.Rules.{Saying, Says5, Says8}
use Rattle.rows.specs.Situations.{asks_immediate, asks_unrecognized}
use Rattle.rows.specs.States.{Phase, holds_incumbent, holds_rerouting, is_at, is_hard, is_hard_phase, is_in, is_null, phase_of}
use Rattle.rows.specs.declared.State.{State}

-- ---- of a call and an event
-- a rerouting service is activated for the call (6.3.2)
abbrev pub has_service : Bool → Soft → Bool
has_service hard soft = hard || has_soft soft

-- 106: an event without meaning (decision 60). A connect outside Soft Proceeding, a path answer outside Soft Triggered, "ready" outside the
-- two Initiated states, timer expiry outside the two Hard states, a soft trigger without symmetric soft, a setup where no service is
-- activated; and any event in Null (decision 26)
abbrev pub meaningless_here : Bool → Soft → State → Event → Bool
meaningless_here hard soft s Trigger = is_null s || not (has_symmetric soft)
meaningless_here hard soft s PathFound = not (is_at 4 s)
meaningless_here hard soft s NoPath = not (is_at 4 s)
meaningless_here hard soft s (Connect c agreed) = not (is_at 5 s)
meaningless_here hard soft s (Setup code number) = is_null s || not (has_service hard soft)
meaningless_here hard soft s (FromParty cause) = is_null s
meaningless_here hard soft s (FromDomain c cause tried) = is_null s
meaningless_here hard soft s Ready = not (is_at 3 s || is_at 6 s)
meaningless_here hard soft s Expiry = not (is_hard s)

-- the switchover that is immediate, code 0 (5.2), and one that is neither this nor clearing
abbrev pub is_immediate : Switchover → Bool
is_immediate code = eqb code.code 0

abbrev pub is_unrecognized : Switchover → Bool
is_unrecognized code = not (is_immediate code) && not (is_clearing code)

-- a setup is rejected by the first that applies: #8 for an unrecognised code outside the Hard states, #5 for a number that is not greater
-- than the one on record (6.3.5; decision 71)
abbrev pub setup_turned_away : ℕ → State → Switchover → ℕ → List ReroutingCause
setup_turned_away remote s code number =
    cond (is_unrecognized code && not (is_hard s)) (unsupported ∷ []) (cond (is_late number remote) (old_number ∷ []) [])

-- a setup that is accepted
abbrev pub is_taken : Standing → Switchover → ℕ → Bool
is_taken x code number =
    not (meaningless_here x.hard x.soft x.state (Setup code number))
    && (is_none (setup_turned_away x.remote x.state code number) && has_room x.last)

-- Cause code #21 on the incumbent's release: a hard setup is accepted where a rerouting connection is held beside it (6.3.5.4, 6.3.5.5,
-- 6.3.5.7)
abbrev pub retired_away : Standing → Event → Bool
retired_away x Trigger = false
retired_away x PathFound = false
retired_away x NoPath = false
retired_away x (Connect c agreed) = false
retired_away x (Setup code number) =
    is_taken x code number
    && (is_immediate code && (holds_incumbent (phase_of x.state) && holds_rerouting (phase_of x.state)))
retired_away x (FromParty cause) = false
retired_away x (FromDomain c cause tried) = false
retired_away x Ready = false
retired_away x Expiry = false

-- Cause code #21 on the rerouting connection's release: a connect answered no (6.3.7.1), a setup that is accepted where one is held
-- (6.3.5.3, 6.3.5.4, 6.3.5.5, 6.3.5.7), and the incumbent released without a cause in Soft Proceeding with hard on (6.3.4.8 case 4)
abbrev pub dropped_away : Standing → Event → Bool
dropped_away x Trigger = false
dropped_away x PathFound = false
dropped_away x NoPath = false
dropped_away x (Connect c agreed) = is_at 5 x.state && (not (names_not_held x.state (Connect c agreed)) && not agreed)
dropped_away x (Setup code number) = is_taken x code number && holds_rerouting (phase_of x.state)
dropped_away x (FromParty cause) = false
dropped_away x (FromDomain c cause tried) =
    is_at 5 x.state && (is_its_incumbent x.state c && (x.hard && has_no_cause cause))
dropped_away x Ready = false
dropped_away x Expiry = false

-- no event fills more than three of the four places (decision 63)
abbrev pub destination_demands : Demands
destination_demands =
    record {
      node = Destination;
      meaningless = λ x e. meaningless_here x.hard x.soft x.state e;
      rejected = λ x code number. setup_turned_away x.remote x.state code number;
      retired21 = retired_away;
      dropped21 = dropped_away;
      most = 3;
    }

-- ---- the same by case
abbrev pub meaningless_case : Phase → Bool → Soft → Happening → Bool
meaningless_case phase hard soft Triggered = is_in 0 phase || not (has_symmetric soft)
meaningless_case phase hard soft FoundPath = not (is_in 4 phase)
meaningless_case phase hard soft FoundNone = not (is_in 4 phase)
meaningless_case phase hard soft (Connected role agreed) = not (is_in 5 phase)
meaningless_case phase hard soft (SetUp asked late) = is_in 0 phase || not (has_service hard soft)
meaningless_case phase hard soft (PartyReleased class) = is_in 0 phase
meaningless_case phase hard soft (DomainReleased role class tried) = is_in 0 phase
meaningless_case phase hard soft SaidReady = not (is_in 3 phase || is_in 6 phase)
meaningless_case phase hard soft Expired = not (is_hard_phase phase)

abbrev pub turned_away_for : Phase → Asking → Bool → List Saying
turned_away_for phase asked late =
    cond (asks_unrecognized asked && not (is_hard_phase phase)) (Says8 ∷ []) (cond late (Says5 ∷ []) [])

abbrev pub is_taken_in : Phase → Bool → Soft → Bool → Asking → Bool → Bool
is_taken_in phase hard soft room asked late =
    not (meaningless_case phase hard soft (SetUp asked late)) && (is_empty (turned_away_for phase asked late) && room)

abbrev pub retired_away_in : Phase → Bool → Soft → Bool → Happening → Bool
retired_away_in phase hard soft room Triggered = false
retired_away_in phase hard soft room FoundPath = false
retired_away_in phase hard soft room FoundNone = false
retired_away_in phase hard soft room (Connected role agreed) = false
retired_away_in phase hard soft room (SetUp asked late) =
    is_taken_in phase hard soft room asked late && (asks_immediate asked && (holds_incumbent phase && holds_rerouting phase))
retired_away_in phase hard soft room (PartyReleased class) = false
retired_away_in phase hard soft room (DomainReleased role class tried) = false
retired_away_in phase hard soft room SaidReady = false
retired_away_in phase hard soft room Expired = false

abbrev pub dropped_away_in : Phase → Bool → Soft → Bool → Happening → Bool
dropped_away_in phase hard soft room Triggered = false
dropped_away_in phase hard soft room FoundPath = false
dropped_away_in phase hard soft room FoundNone = false
dropped_away_in phase hard soft room (Connected role agreed) =
    is_in 5 phase && (not (names_unheld phase (Connected role agreed)) && not agreed)
dropped_away_in phase hard soft room (SetUp asked late) = is_taken_in phase hard soft room asked late && holds_rerouting phase
dropped_away_in phase hard soft room (PartyReleased class) = false
dropped_away_in phase hard soft room (DomainReleased role class tried) =
    is_in 5 phase && (same_role role NamesIncumbent && (hard && came_none class))
dropped_away_in phase hard soft room SaidReady = false
dropped_away_in phase hard soft room Expired = false

abbrev pub destination_wants : Wants
destination_wants =
    record {
      meaningless = λ c. meaningless_case c.phase c.hard c.soft c.happening;
      rejected = turned_away_for;
      retired21 = λ c. retired_away_in c.phase c.hard c.soft c.room c.happening;
      dropped21 = λ c. dropped_away_in c.phase c.hard c.soft c.room c.happening;
      most = 3;
    }
