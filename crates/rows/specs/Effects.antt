-- What a rule does to a call: one definition for either end, carried out on its state, the next number and the cause that came.
-- Assumes nothing.
use Rattle.std.specs.Prelude.{ℕ, Bool, ◌&&◌, ◌||◌, false, true, List, [], ◌++◌, ◌∷◌, Option, None, Some}
use Rattle.signal.specs.Causes.{as_received, cause}
use Rattle.signal.specs.Signals.{connect_on, none, places, rejection, release_of, release_with}
use Rattle.signal.specs.Signals.{setup_on, switch_to, timer_start, timer_stop}
use Rattle.signal.specs.declared.Answer.{Answer}
use Rattle.signal.specs.declared.Answer.TheVariants.{Done}
use Rattle.signal.specs.declared.Kind.{Kind}
use Rattle.signal.specs.declared.Kind.TheVariants.{CalledRelease, CallingRelease, IncumbentRelease, Rejection, ReroutingRelease}
use Rattle.signal.specs.declared.ReroutingCause.{ReroutingCause}
use Rattle.signal.specs.declared.SentCause.{SentCause}
use Rattle.signal.specs.declared.SentCause.TheVariants.{Absent, Numbered}
use Rattle.signal.specs.declared.Signal.{Signal}
use Rattle.events.specs.declared.Node.{Node}
use Rattle.events.specs.declared.Node.TheVariants.{Destination, Source}
use Rattle.rows.specs.Rules.{Closing, LeavesTimer, NewNumber, NoClosing, NoSlot, OldIncumbent, OldRerouting, Rejects, Rule, Saying}
use Rattle.rows.specs.Rules.{Says1, Says2, Says4, Says5, Says6, Says8, SaysAsCame, SaysNothing, SendsConnect, SendsSetup, Slot}
use Rattle.rows.specs.Rules.{StartsTimer, StopsTimer, Tells, Timer, Told, Untold}
use Rattle.rows.specs.States.{Phase, built, holds_incumbent, holds_rerouting, incumbent_of, rerouting_of}
use Rattle.rows.specs.declared.Effect.{Effect}
use Rattle.rows.specs.declared.State.{State}
use Rattle.rows.specs.declared.State.TheVariants.{Null}

-- the number in a slot: of the state before, or the next one, n
abbrev pub value : State → ℕ → Slot → ℕ
value s n NoSlot = 0
value s n OldIncumbent = incumbent_of s
value s n OldRerouting = rerouting_of s
value s n NewNumber = n

abbrev pub is_new : Slot → Bool
is_new NoSlot = false
is_new OldIncumbent = false
is_new OldRerouting = false
is_new NewNumber = true

abbrev pub said : Option ReroutingCause → Saying → SentCause
said got SaysNothing = Absent
said got Says1 = Numbered (cause 1)
said got Says2 = Numbered (cause 2)
said got Says4 = Numbered (cause 4)
said got Says5 = Numbered (cause 5)
said got Says6 = Numbered (cause 6)
said got Says8 = Numbered (cause 8)
said got SaysAsCame = as_received got

-- the number of a saying that is a number
abbrev pub cause_said : Saying → ReroutingCause
cause_said SaysNothing = cause 0
cause_said Says1 = cause 1
cause_said Says2 = cause 2
cause_said Says4 = cause 4
cause_said Says5 = cause 5
cause_said Says6 = cause 6
cause_said Says8 = cause 8
cause_said SaysAsCame = cause 0

abbrev pub causes_of : List Saying → List ReroutingCause
causes_of [] = []
causes_of (say ∷ more) = cause_said say ∷ causes_of more

abbrev pub timer_sent : Timer → List Signal
timer_sent LeavesTimer = []
timer_sent StartsTimer = timer_start ∷ []
timer_sent StopsTimer = timer_stop ∷ []

abbrev pub switch_sent : State → ℕ → Slot → List Signal
switch_sent s n NoSlot = []
switch_sent s n OldIncumbent = switch_to (incumbent_of s) ∷ []
switch_sent s n OldRerouting = switch_to (rerouting_of s) ∷ []
switch_sent s n NewNumber = switch_to n ∷ []

abbrev pub told_sent : Kind → ℕ → Option ReroutingCause → Told → List Signal
told_sent kind connection got Untold = []
told_sent kind connection got (Tells say code) = release_with kind connection (said got say) code ∷ []

abbrev pub closing_sent : State → ℕ → Option ReroutingCause → Closing → List Signal
closing_sent s n got NoClosing = []
closing_sent s n got (SendsSetup slot) = setup_on (value s n slot) ∷ []
closing_sent s n got (SendsConnect slot) = connect_on (value s n slot) ∷ []
closing_sent s n got (Rejects say code) = release_with Rejection 0 (said got say) code ∷ []

-- the release of the node's own party: at the source the calling one, at the destination the called one (02, Ask 2; decision 63)
abbrev pub party_kind : Node → Kind
party_kind Source = CallingRelease
party_kind Destination = CalledRelease

-- the signals of a rule, in the printed order
abbrev pub sent_by : Node → State → ℕ → Option ReroutingCause → Rule → List Signal
sent_by node s n got rule =
    timer_sent rule.timer
    ++ (switch_sent s n rule.switch
    ++ (told_sent (party_kind node) 0 got rule.party
    ++ (told_sent IncumbentRelease (incumbent_of s) got rule.retires
    ++ (told_sent ReroutingRelease (rerouting_of s) got rule.drops ++ closing_sent s n got rule.closing))))

abbrev pub state_after : State → ℕ → Rule → State
state_after s n rule = built rule.phase (value s n rule.incumbent) (value s n rule.rerouting)

-- a number is given: it becomes the incumbent or the rerouting connection of a phase that holds one
abbrev pub gives_in : Phase → Slot → Slot → Bool
gives_in phase i r = (holds_incumbent phase && is_new i) || (holds_rerouting phase && is_new r)

abbrev pub gives_new : Rule → Bool
gives_new rule = gives_in rule.phase rule.incumbent rule.rerouting

-- a rule, carried out
abbrev pub effect : Node → State → ℕ → Option ReroutingCause → Rule → Effect
effect node s n got rule =
    record {
      answer = rule.answer;
      state = state_after s n rule;
      gives = gives_new rule;
      stores = rule.stores;
      signals = places (sent_by node s n got rule);
    }

-- the next number and whether there is one, as the code has them
abbrev pub next_number : Option ℕ → ℕ
next_number (Some n) = n
next_number None = 0

abbrev pub is_next : Option ℕ → Bool
is_next (Some n) = true
is_next None = false

-- the same with the next number as the code has it; `None` where the event gives none
abbrev pub carried_at : Node → State → Option ℕ → Option ReroutingCause → Rule → Effect
carried_at node s next got rule = effect node s (next_number next) got rule

-- the effects that the code builds
abbrev pub refused_in : Answer → State → Effect
refused_in a s = record { answer = a; state = s; gives = false; stores = false; signals = places [] }

abbrev pub done_in : State → Signal → Signal → Signal → Effect
done_in s x y z = record { answer = Done; state = s; gives = false; stores = false; signals = x ∷ y ∷ z ∷ none ∷ [] }

-- nothing is sent; a setup is rejected; the call ends and the node's own party is told, with another signal behind it or the timer stopped
-- before it
abbrev pub moved_quietly : State → Effect
moved_quietly s = done_in s none none none

abbrev pub rejection_left : ReroutingCause → State → Effect
rejection_left k s = done_in s (rejection k) none none

abbrev pub ended_telling : Node → SentCause → Signal → Effect
ended_telling node cause other = done_in Null (release_of (party_kind node) 0 cause) other none

abbrev pub stopped_telling : Node → SentCause → Effect
stopped_telling node cause = done_in Null timer_stop (release_of (party_kind node) 0 cause) none

abbrev pub given_in : State → Bool → Signal → Signal → Signal → Effect
given_in s stores x y z = record { answer = Done; state = s; gives = true; stores = stores; signals = x ∷ y ∷ z ∷ none ∷ [] }
