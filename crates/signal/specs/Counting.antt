-- What a row of signals says, counted: the natural terms in which claims speak of signals. None of it mentions a state or a row.
-- Assumes nothing.
use Rattle.std.specs.Prelude.{ℕ, ◌+◌, ◌≡◌, Bool, true, false, ◌&&◌, ◌||◌, cond, List, [], ◌∷◌, eqb, ltb, Option, Some}
use Rattle.signal.specs.declared.Kind.{Kind}
use Rattle.signal.specs.declared.Kind.TheVariants.{NoSignal, TimerStart, TimerStop, Switch, CallingRelease, IncumbentRelease}
use Rattle.signal.specs.declared.Kind.TheVariants.{ReroutingRelease, SetupRequest, ConnectRequest, Rejection, CalledRelease}
use Rattle.signal.specs.declared.SentCause.{SentCause}
use Rattle.signal.specs.declared.SentCause.TheVariants.{Absent, Numbered, AsReceived}
use Rattle.signal.specs.declared.ReroutingCause.{ReroutingCause}
use Rattle.signal.specs.declared.CauseCode.{CauseCode}
use Rattle.signal.specs.declared.CauseCode.TheVariants.{Section66, CallRejected}
use Rattle.signal.specs.declared.Signal.{Signal}

-- whether x is y, as a number
unfoldable pub one : ℕ → ℕ → ℕ
one x y = cond (eqb x y) 1 0

-- how often x stands in a list
abbrev pub count : ℕ → List ℕ → ℕ
count x [] = 0
count x (y ∷ more) = one x y + count x more

-- the number of a kind, in the order of decision 16; the numbers are ours
abbrev pub kind_number : Kind → ℕ
kind_number NoSignal = 0
kind_number TimerStart = 1
kind_number TimerStop = 2
kind_number Switch = 3
kind_number CallingRelease = 4
kind_number IncumbentRelease = 5
kind_number ReroutingRelease = 6
kind_number SetupRequest = 7
kind_number ConnectRequest = 8
kind_number Rejection = 9
kind_number CalledRelease = 10

-- the signals of one kind, in order
abbrev pub of_kind : Kind → List Signal → List Signal
of_kind k [] = []
of_kind k (s ∷ more) = cond (eqb (kind_number s.kind) (kind_number k)) (s ∷ of_kind k more) (of_kind k more)

-- the connections that signals name
abbrev pub named : List Signal → List ℕ
named [] = []
named (s ∷ more) = s.connection ∷ named more

-- a release of the incumbent or of the rerouting connection, sent, ends it
abbrev pub ends_connection : Signal → Bool
ends_connection s = eqb (kind_number s.kind) 5 || eqb (kind_number s.kind) 6

-- the connections that the signals end
abbrev pub ended_sent : List Signal → List ℕ
ended_sent [] = []
ended_sent (s ∷ more) = cond (ends_connection s) (s.connection ∷ ended_sent more) (ended_sent more)

abbrev pub is_call_rejected : CauseCode → Bool
is_call_rejected Section66 = false
is_call_rejected CallRejected = true

-- the signals with Cause code #21
abbrev pub with_code21 : List Signal → List Signal
with_code21 [] = []
with_code21 (s ∷ more) = cond (is_call_rejected s.code) (s ∷ with_code21 more) (with_code21 more)

-- the printed order: timer, switch, calling-side release, incumbent release, rerouting release, setup or connect or reject (01, "Signals");
-- at the destination the called-side release has the place of the calling-side one (02, Ask 2; decision 63)
abbrev pub turn_of : Kind → ℕ
turn_of NoSignal = 7
turn_of TimerStart = 1
turn_of TimerStop = 1
turn_of Switch = 2
turn_of CallingRelease = 3
turn_of IncumbentRelease = 4
turn_of ReroutingRelease = 5
turn_of SetupRequest = 6
turn_of ConnectRequest = 6
turn_of Rejection = 6
turn_of CalledRelease = 3

-- b may stand in the place after a: it is none, or its turn is later (and a is not none)
abbrev pub follows : Kind → Kind → Bool
follows a b = eqb (turn_of b) 7 || ltb (turn_of a) (turn_of b)

-- filled from the front, in the printed order
abbrev pub in_order : List Signal → Bool
in_order [] = true
in_order (a ∷ []) = true
in_order (a ∷ (b ∷ more)) = follows a.kind b.kind && in_order (b ∷ more)

-- a cause goes out "as received" only where that very cause came
abbrev pub CameSo : Option ReroutingCause → SentCause → Type 0
CameSo got Absent = Unit
CameSo got (Numbered k) = Unit
CameSo got (AsReceived k) = got ≡ Some k

abbrev pub Honest : Option ReroutingCause → List Signal → Type 0
Honest got [] = Unit
Honest got (s ∷ more) = CameSo got s.cause × Honest got more
