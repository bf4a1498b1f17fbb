-- The signals of an event in words. Assumes nothing.
use Rattle.std.specs.Prelude.{ℕ, Bool, true, false, ◌||◌, cond, List, [], ◌∷◌, ◌++◌}
use Rattle.lines.specs.Lines.{ascii, number_text}
use Rattle.signal.specs.declared.CauseCode.{CauseCode}
use Rattle.signal.specs.declared.CauseCode.TheVariants.{Section66, CallRejected}
use Rattle.signal.specs.declared.Kind.{Kind}
use Rattle.signal.specs.declared.Kind.TheVariants.{NoSignal, TimerStart, TimerStop, Switch, CallingRelease, IncumbentRelease}
use Rattle.signal.specs.declared.Kind.TheVariants.{ReroutingRelease, SetupRequest, ConnectRequest, Rejection, CalledRelease}
use Rattle.signal.specs.declared.SentCause.{SentCause}
use Rattle.signal.specs.declared.SentCause.TheVariants.{Absent, Numbered, AsReceived}
use Rattle.signal.specs.declared.Signal.{Signal}

abbrev pub is_sent : Kind → Bool
is_sent NoSignal = false
is_sent TimerStart = true
is_sent TimerStop = true
is_sent Switch = true
is_sent CallingRelease = true
is_sent IncumbentRelease = true
is_sent ReroutingRelease = true
is_sent SetupRequest = true
is_sent ConnectRequest = true
is_sent Rejection = true
is_sent CalledRelease = true

-- what is sent, and on which connection
abbrev pub kind_text : Kind → ℕ → List ℕ
kind_text NoSignal n = []
kind_text TimerStart n = ascii "timer start"
kind_text TimerStop n = ascii "timer stop"
kind_text Switch n = ascii "switch " ++ number_text n
kind_text CallingRelease n = ascii "release calling"
kind_text IncumbentRelease n = ascii "release incumbent " ++ number_text n
kind_text ReroutingRelease n = ascii "release rerouting " ++ number_text n
kind_text SetupRequest n = ascii "setup " ++ number_text n
kind_text ConnectRequest n = ascii "connect " ++ number_text n
kind_text Rejection n = ascii "reject"
kind_text CalledRelease n = ascii "release called"

-- the Rerouting cause: `#` by number, `=` as received
abbrev pub sent_cause_text : SentCause → List ℕ
sent_cause_text Absent = []
sent_cause_text (Numbered c) = ascii " #" ++ number_text c.number
sent_cause_text (AsReceived c) = ascii " =" ++ number_text c.number

-- the Cause code, where it is #21
abbrev pub cause_code_text : CauseCode → List ℕ
cause_code_text Section66 = []
cause_code_text CallRejected = ascii " cause 21"

abbrev pub signal_text : Signal → List ℕ
signal_text s = kind_text s.kind s.connection ++ (sent_cause_text s.cause ++ cause_code_text s.code)

-- a signal that is sent, parted by a comma from one that stands before it
abbrev pub next_text : Bool → Signal → List ℕ
next_text before s = cond (is_sent s.kind) (cond before (ascii ", " ++ signal_text s) (signal_text s)) []

abbrev pub any_sent : Bool → List Signal → Bool
any_sent before [] = before
any_sent before (s ∷ ss) = any_sent (before || is_sent s.kind) ss

abbrev pub list_text : Bool → List Signal → List ℕ
list_text before [] = []
list_text before (s ∷ ss) = next_text before s ++ list_text (before || is_sent s.kind) ss

-- those that are sent in their order, and `-` where none is
abbrev pub signals_text : List Signal → List ℕ
signals_text ss = cond (any_sent false ss) (list_text false ss) (ascii "-")
