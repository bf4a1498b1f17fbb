-- The case of a call and an event: all that a row may read, and no number. It is finite: 684 cases a phase, 5,472 in all. Assumes nothing.
use Rattle.std.specs.Prelude.{ℕ, Bool, ◌&&◌, cond, false, true, eqb, ltb, Option, None, Some}
use Rattle.signal.specs.Numbers.{is_late}
use Rattle.signal.specs.declared.Crankback.{Crankback}
use Rattle.signal.specs.declared.ReroutingCause.{ReroutingCause}
use Rattle.signal.specs.declared.Soft.{Soft}
use Rattle.signal.specs.declared.Switchover.{Switchover}
use Rattle.events.specs.declared.Event.{Event}
use Rattle.events.specs.declared.Event.TheVariants.{Connect, Expiry, FromDomain, FromParty, NoPath, PathFound, Ready, Setup, Trigger}
use Rattle.rows.specs.States.{Phase, holds_incumbent, holds_rerouting, incumbent_of, phase_of, rerouting_of}
use Rattle.rows.specs.declared.Class.{Class}
use Rattle.rows.specs.declared.Class.TheVariants.{CameComplete, CameNone, CameOther, CameOutside}
use Rattle.rows.specs.declared.State.{State}

-- what the connection that an event names is to the call
pub data Role : Type 0 where
  NamesIncumbent : Role
  NamesRerouting : Role
  NamesOther : Role

-- the switchover that a setup asks for: immediate (code 0), when the call is cleared (code 1), another
pub data Asking : Type 0 where
  AsksImmediate : Asking
  AsksClearing : Asking
  AsksOther : Asking

-- an event without its numbers; a setup is late or not
pub data Happening : Type 0 where
  Triggered : Happening
  FoundPath : Happening
  FoundNone : Happening
  Connected : Role → Bool → Happening
  SetUp : Asking → Bool → Happening
  PartyReleased : Class → Happening
  DomainReleased : Role → Class → Crankback → Happening
  SaidReady : Happening
  Expired : Happening

-- `room`: there is a next number
pub record Case : Type 0 where
  pub phase : Phase
  pub hard : Bool
  pub soft : Soft
  pub room : Bool
  pub happening : Happening

-- how a call stands: what rows read and write of its record
pub record Standing : Type 0 where
  pub hard : Bool
  pub soft : Soft
  pub state : State
  pub last : ℕ
  pub remote : ℕ

abbrev pub is_incumbent : State → ℕ → Bool
is_incumbent s c = holds_incumbent (phase_of s) && eqb c (incumbent_of s)

abbrev pub is_rerouting : State → ℕ → Bool
is_rerouting s c = holds_rerouting (phase_of s) && eqb c (rerouting_of s)

-- a number held twice names the incumbent (decision 26)
abbrev pub role_of : State → ℕ → Role
role_of s c = cond (is_incumbent s c) NamesIncumbent (cond (is_rerouting s c) NamesRerouting NamesOther)

-- no row reads more of a cause than this (01, "Release from the called side"; 6.2.4)
abbrev pub class_of : Option ReroutingCause → Class
class_of None = CameNone
class_of (Some k) = cond (eqb k.number 1) CameOutside (cond (eqb k.number 4) CameComplete CameOther)

-- 01, "The trace": 1 is clearing; 5.2: 0 is immediate
abbrev pub asking_of : Switchover → Asking
asking_of s = cond (eqb s.code 0) AsksImmediate (cond (eqb s.code 1) AsksClearing AsksOther)

-- the number of a class, in the order of its words; the numbers are ours
abbrev pub class_number : Class → ℕ
class_number CameNone = 0
class_number CameOutside = 1
class_number CameComplete = 2
class_number CameOther = 3

-- no cause came; a setup asks for the one switchover that the source supports
abbrev pub came_none : Class → Bool
came_none CameNone = true
came_none CameOutside = false
came_none CameComplete = false
came_none CameOther = false

abbrev pub asks_clearing : Asking → Bool
asks_clearing AsksImmediate = false
asks_clearing AsksClearing = true
asks_clearing AsksOther = false

-- 01, 108
abbrev pub has_room : ℕ → Bool
has_room last = ltb last 65535

abbrev pub happening_of : State → ℕ → Event → Happening
happening_of s remote Trigger = Triggered
happening_of s remote PathFound = FoundPath
happening_of s remote NoPath = FoundNone
happening_of s remote (Connect c agreed) = Connected (role_of s c) agreed
happening_of s remote (Setup code number) = SetUp (asking_of code) (is_late number remote)
happening_of s remote (FromParty cause) = PartyReleased (class_of cause)
happening_of s remote (FromDomain c cause tried) = DomainReleased (role_of s c) (class_of cause) tried
happening_of s remote Ready = SaidReady
happening_of s remote Expiry = Expired

abbrev pub case_of : Standing → Event → Case
case_of x e =
    record {
      phase = phase_of x.state;
      hard = x.hard;
      soft = x.soft;
      room = has_room x.last;
      happening = happening_of x.state x.remote e;
    }
