-- The checks on one event at either end, in the words of 01 ("Numbers of refusal", "Setup", "Signals"): of a call and an event, with no
-- word of cases or rules. What the documents ask of one end alone is a record, `Demands`. Assumes nothing.
use Rattle.std.specs.Prelude.{ℕ, Bool, ◌&&◌, ◌||◌, cond, false, not, true, List, [], ◌++◌, ◌∷◌, ◌≡◌, eqb, Option, None, Some}
use Rattle.signal.specs.Signals.{none, rejection, release_with, timer_start, timer_stop}
use Rattle.signal.specs.declared.CauseCode.TheVariants.{CallRejected}
use Rattle.signal.specs.declared.Kind.TheVariants.{IncumbentRelease, ReroutingRelease}
use Rattle.signal.specs.declared.ReroutingCause.{ReroutingCause}
use Rattle.signal.specs.declared.SentCause.TheVariants.{Absent}
use Rattle.signal.specs.declared.Signal.{Signal}
use Rattle.signal.specs.declared.Switchover.{Switchover}
use Rattle.events.specs.Events.{is_from_party}
use Rattle.events.specs.declared.Event.{Event}
use Rattle.events.specs.declared.Event.TheVariants.{Connect, Expiry, FromDomain, FromParty, NoPath, PathFound, Ready, Setup, Trigger}
use Rattle.events.specs.declared.Node.{Node}
use Rattle.rows.specs.Cases.{Standing, has_room}
use Rattle.rows.specs.States.{held_in, incumbent_of, rerouting_of}
use Rattle.rows.specs.declared.State.{State}
use Rattle.rows.specs.declared.State.TheVariants.{Awaiting, HardUnderway, HardWaiting, Idle, Null, SoftInitiated, SoftProceeding}
use Rattle.rows.specs.declared.State.TheVariants.{SoftTriggered}

-- What the documents ask of one end: the node, by the party that it tells; 106, the events without meaning; the cause with which a setup is
-- rejected, none where it is not; whether the release of the incumbent, and that of the rerouting connection, bears Cause code #21; and how
-- many signals an event sends at most
pub record Demands : Type 0 where
  pub node : Node
  pub meaningless : Standing → Event → Bool
  pub rejected : Standing → Switchover → ℕ → List ReroutingCause
  pub retired21 : Standing → Event → Bool
  pub dropped21 : Standing → Event → Bool
  pub most : ℕ

-- a number stands in a list
abbrev pub among : ℕ → List ℕ → Bool
among c [] = false
among c (x ∷ more) = eqb c x || among c more

-- the state holds connection c
abbrev pub holds : State → ℕ → Bool
holds s c = among c (held_in s)

-- c is the state's incumbent
abbrev pub is_its_incumbent : State → ℕ → Bool
is_its_incumbent Null c = false
is_its_incumbent (Idle i) c = eqb c i
is_its_incumbent HardWaiting c = false
is_its_incumbent (HardUnderway r) c = false
is_its_incumbent (SoftTriggered i) c = eqb c i
is_its_incumbent (SoftProceeding i r) c = eqb c i
is_its_incumbent (SoftInitiated i r) c = eqb c i
is_its_incumbent (Awaiting i r) c = eqb c i

-- 107: a connect or a release for a connection names one that is not held, or a connect names the incumbent
abbrev pub names_not_held : State → Event → Bool
names_not_held s Trigger = false
names_not_held s PathFound = false
names_not_held s NoPath = false
names_not_held s (Connect c agreed) = is_its_incumbent s c || not (holds s c)
names_not_held s (Setup code number) = false
names_not_held s (FromParty cause) = false
names_not_held s (FromDomain c cause tried) = not (holds s c)
names_not_held s Ready = false
names_not_held s Expiry = false

-- no Rerouting cause came
abbrev pub has_no_cause : Option ReroutingCause → Bool
has_no_cause None = true
has_no_cause (Some k) = false

abbrev pub is_none : List ReroutingCause → Bool
is_none [] = true
is_none (k ∷ more) = false

-- "path found", or a setup that would otherwise be accepted: what asks for a new number, and is refused without one
abbrev pub asks_number : Demands → Standing → Event → Bool
asks_number d x Trigger = false
asks_number d x PathFound = true
asks_number d x NoPath = false
asks_number d x (Connect c agreed) = false
asks_number d x (Setup code number) = is_none (d.rejected x code number)
asks_number d x (FromParty cause) = false
asks_number d x (FromDomain c cause tried) = false
asks_number d x Ready = false
asks_number d x Expiry = false

-- 108: such an event, when there is no next number
abbrev pub numbers_spent : Demands → Standing → Event → Bool
numbers_spent d x e = asks_number d x e && not (has_room x.last)

-- the first check that applies gives the answer; 0 where none does
abbrev pub first_of : Bool → Bool → Bool → ℕ
first_of meaningless not_held spent = cond meaningless 106 (cond not_held 107 (cond spent 108 0))

abbrev pub answer_number_wanted : Demands → Standing → Event → ℕ
answer_number_wanted d x e = first_of (d.meaningless x e) (names_not_held x.state e) (numbers_spent d x e)

abbrev pub rejections : List ReroutingCause → List Signal
rejections [] = []
rejections (k ∷ more) = rejection k ∷ rejections more

-- the rejection of a setup that has a meaning; no other event is rejected
abbrev pub rejection_wanted : Demands → Standing → Event → List Signal
rejection_wanted d x Trigger = []
rejection_wanted d x PathFound = []
rejection_wanted d x NoPath = []
rejection_wanted d x (Connect c agreed) = []
rejection_wanted d x (Setup code number) = cond (d.meaningless x (Setup code number)) [] (rejections (d.rejected x code number))
rejection_wanted d x (FromParty cause) = []
rejection_wanted d x (FromDomain c cause tried) = []
rejection_wanted d x Ready = []
rejection_wanted d x Expiry = []

-- a setup that is rejected with this cause stores its number all the same: with #6, work in progress, and no other (02, Ask 3; 6.2.7)
abbrev pub is_stored_rejected : ReroutingCause → Bool
is_stored_rejected k = eqb k.number 6

-- whether a setup that has a meaning stores its number, by what it is rejected with: one that is not rejected does where there is a next
-- number, and is refused with 108 where there is none; a rejected one by its cause
abbrev pub number_stored : List ReroutingCause → Bool → Bool
number_stored [] room = room
number_stored (k ∷ more) room = is_stored_rejected k

-- the number that a setup stores is its own; no other event stores one
abbrev pub stored_wanted : Demands → Standing → Event → List ℕ
stored_wanted d x Trigger = []
stored_wanted d x PathFound = []
stored_wanted d x NoPath = []
stored_wanted d x (Connect c agreed) = []
stored_wanted d x (Setup code number) =
    cond (not (d.meaningless x (Setup code number)) && number_stored (d.rejected x code number) (has_room x.last)) (number ∷ []) []
stored_wanted d x (FromParty cause) = []
stored_wanted d x (FromDomain c cause tried) = []
stored_wanted d x Ready = []
stored_wanted d x Expiry = []

-- the number of a setup that is accepted: it is stored, and nothing is rejected
abbrev pub unrejected : List Signal → List ℕ → List ℕ
unrejected [] stored = stored
unrejected (r ∷ more) stored = []

abbrev pub accepted_wanted : Demands → Standing → Event → List ℕ
accepted_wanted d x e = unrejected (rejection_wanted d x e) (stored_wanted d x e)

-- the releases with Cause code #21, which carry no Rerouting cause beside it (decision 12)
abbrev pub code21_wanted : Demands → Standing → Event → List Signal
code21_wanted d x e =
    cond (d.retired21 x e) (release_with IncumbentRelease (incumbent_of x.state) Absent CallRejected ∷ []) []
    ++ cond (d.dropped21 x e) (release_with ReroutingRelease (rerouting_of x.state) Absent CallRejected ∷ []) []

-- every one of the numbers is x
abbrev pub AllAre : ℕ → List ℕ → Type 0
AllAre x [] = Unit
AllAre x (y ∷ more) = (y ≡ x) × AllAre x more

-- every one of the connections is the state's incumbent
abbrev pub AllIncumbent : State → List ℕ → Type 0
AllIncumbent s [] = Unit
AllIncumbent s (x ∷ more) = (is_its_incumbent s x ≡ true) × AllIncumbent s more

-- every one of the signals is none, as 01 says what a "none" place holds (decision 17)
abbrev pub Nones : List Signal → Type 0
Nones [] = Unit
Nones (s ∷ more) = (s ≡ none) × Nones more

-- timer start exactly on entering the Hard states from outside them, once (01, "Signals"); told whether the call is in them before and
-- after
abbrev pub starts_wanted : Bool → Bool → List Signal
starts_wanted before after = cond (not before && after) (timer_start ∷ []) []

-- timer stop exactly on leaving them other than by expiry, once
abbrev pub stops_wanted : Bool → Bool → Bool → List Signal
stops_wanted expired before after = cond (before && (not after && not expired)) (timer_stop ∷ []) []

-- the node's own party is released, once and on connection 0, exactly when the call ends otherwise than by its own release; told whether
-- there is a call before and after
abbrev pub party_wanted : Bool → Bool → Event → List ℕ
party_wanted before after e = cond (before && (not after && not (is_from_party e))) (0 ∷ []) []
