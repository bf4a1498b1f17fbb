-- The claims on cases and rules, in natural words: how a case is read off a call and an event, and what a rule says when it is carried
-- out. The rows and their laws use the definitions of Cases, States and Effects; these say what those mean. Proofs: proofs/Claims.antt.
-- Assumes nothing.
use Rattle.std.specs.Prelude.{◌<◌, ℕ, Bool, false, true, ◌↔◌, ◌≡◌, Option, None, Some}
use Rattle.signal.specs.Causes.{cause}
use Rattle.signal.specs.Numbers.{is_late}
use Rattle.signal.specs.declared.Crankback.{Crankback}
use Rattle.signal.specs.declared.ReroutingCause.{ReroutingCause}
use Rattle.signal.specs.declared.SentCause.TheVariants.{Absent, AsReceived, Numbered}
use Rattle.signal.specs.declared.Switchover.{Switchover}
use Rattle.events.specs.declared.Event.{Event}
use Rattle.events.specs.declared.Event.TheVariants.{Connect, Expiry, FromDomain, FromParty, NoPath, PathFound, Ready, Setup, Trigger}
use Rattle.rows.specs.Cases.{AsksClearing, AsksImmediate, Connected, DomainReleased, Expired, FoundNone, FoundPath, NamesIncumbent}
use Rattle.rows.specs.Cases.{NamesOther, PartyReleased, SaidReady, SetUp, Standing, Triggered, asking_of, case_of, class_of, has_room}
use Rattle.rows.specs.Cases.{role_of}
use Rattle.rows.specs.Checks.{holds, is_its_incumbent}
use Rattle.rows.specs.Effects.{said}
use Rattle.rows.specs.Rules.{Says1, Says2, Says4, Says5, Says6, Says8, SaysAsCame, SaysNothing}
use Rattle.rows.specs.States.{Phase, built, phase_number, phase_of, state_number}
use Rattle.rows.specs.declared.Class.TheVariants.{CameComplete, CameNone, CameOutside}
use Rattle.rows.specs.declared.State.{State}

-- 01, "Release from the called side": a row asks whether a cause came, whether it is #1 and whether it is #4; every other number is
-- another cause.
pub record ClassExactly : Type 0 where
  pub none : (got : Option ReroutingCause) → (class_of got ≡ CameNone) ↔ (got ≡ None)
  pub outside : (k : ReroutingCause) → (class_of (Some k) ≡ CameOutside) ↔ (k.number ≡ 1)
  pub complete : (k : ReroutingCause) → (class_of (Some k) ≡ CameComplete) ↔ (k.number ≡ 4)

-- 01, "The trace", and 5.2: code 1 asks to switch when the call is cleared, code 0 at once; every other code is another switchover.
pub record AskingExactly : Type 0 where
  pub clearing : (s : Switchover) → (asking_of s ≡ AsksClearing) ↔ (s.code ≡ 1)
  pub immediate : (s : Switchover) → (asking_of s ≡ AsksImmediate) ↔ (s.code ≡ 0)

-- 01, 107: a connection is the incumbent, or is not held, or else is the rerouting one. A number held twice is the incumbent (decision 26).
pub record RoleExactly : Type 0 where
  pub incumbent : (s : State) (c : ℕ) → (role_of s c ≡ NamesIncumbent) ↔ (is_its_incumbent s c ≡ true)
  pub unheld : (s : State) (c : ℕ) → (role_of s c ≡ NamesOther) ↔ (holds s c ≡ false)

-- 01, 108: there is a next number exactly while the last is below 65,535.
abbrev pub RoomExactly : Type 0
RoomExactly = (last : ℕ) → (has_room last ≡ true) ↔ (last < 65535)

-- A case hands on the state's number, both services and whether there is a next number as the call has them, and of an event each value
-- that a row reads: local policy, the switchover and whether the number is late, the cause, the crankback.
pub record CaseHandsOn (x : Standing) : Type 0 where
  pub phase : (e : Event) → phase_number (case_of x e).phase ≡ state_number x.state
  pub hard : (e : Event) → (case_of x e).hard ≡ x.hard
  pub soft : (e : Event) → (case_of x e).soft ≡ x.soft
  pub room : (e : Event) → ((case_of x e).room ≡ true) ↔ (x.last < 65535)
  pub trigger : (case_of x Trigger).happening ≡ Triggered
  pub path : (case_of x PathFound).happening ≡ FoundPath
  pub no_path : (case_of x NoPath).happening ≡ FoundNone
  pub connect : (c : ℕ) (agreed : Bool) → (case_of x (Connect c agreed)).happening ≡ Connected (role_of x.state c) agreed
  pub setup : (code : Switchover) (number : ℕ) →
      (case_of x (Setup code number)).happening ≡ SetUp (asking_of code) (is_late number x.remote)
  pub from_party : (got : Option ReroutingCause) → (case_of x (FromParty got)).happening ≡ PartyReleased (class_of got)
  pub from_domain : (c : ℕ) (got : Option ReroutingCause) (tried : Crankback) →
      (case_of x (FromDomain c got tried)).happening ≡ DomainReleased (role_of x.state c) (class_of got) tried
  pub ready : (case_of x Ready).happening ≡ SaidReady
  pub expiry : (case_of x Expiry).happening ≡ Expired

-- 01, "Signals": a cause is absent, a number, or the one that came, as received; where none came there is none to send on.
pub record SaidExactly (got : Option ReroutingCause) : Type 0 where
  pub nothing : said got SaysNothing ≡ Absent
  pub number1 : said got Says1 ≡ Numbered (cause 1)
  pub number2 : said got Says2 ≡ Numbered (cause 2)
  pub number4 : said got Says4 ≡ Numbered (cause 4)
  pub number5 : said got Says5 ≡ Numbered (cause 5)
  pub number6 : said got Says6 ≡ Numbered (cause 6)
  pub number8 : said got Says8 ≡ Numbered (cause 8)
  pub as_came : (k : ReroutingCause) → (said got SaysAsCame ≡ AsReceived k) ↔ (got ≡ Some k)
  pub came_not : (said got SaysAsCame ≡ Absent) ↔ (got ≡ None)

-- 01, "The table and its records": a phase has the number of its states, 0 to 7, and a rule leads to a state of the phase that it names.
pub record PhaseExactly : Type 0 where
  pub read : (s : State) → phase_number (phase_of s) ≡ state_number s
  pub built : (phase : Phase) (i r : ℕ) → state_number (built phase i r) ≡ phase_number phase
