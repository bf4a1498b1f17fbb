-- The Rerouting cause element to send (01, "The cause element sent on"; decisions 20 and 21). Assumes nothing.
use Rattle.std.specs.Prelude.{ℕ, ◌+◌, ◌*◌, cond, List, ltb, length, get_or, take}
use Rattle.signal.specs.declared.Kind.{Kind}
use Rattle.signal.specs.declared.Kind.TheVariants.{NoSignal, TimerStart, TimerStop, Switch, CallingRelease, IncumbentRelease}
use Rattle.signal.specs.declared.Kind.TheVariants.{ReroutingRelease, SetupRequest, ConnectRequest, Rejection, CalledRelease}
use Rattle.signal.specs.declared.SentCause.{SentCause}
use Rattle.signal.specs.declared.SentCause.TheVariants.{Absent, Numbered, AsReceived}
use Rattle.signal.specs.declared.Signal.{Signal}
use Rattle.cause_element.specs.declared.Names.{Names}
use Rattle.cause_element.specs.declared.Names.TheVariants.{TheReceived, TheOwn, Neither}

-- a release names the received string for a cause as received, and the node's own for one by number
abbrev pub named_by_cause : SentCause → Names
named_by_cause Absent = Neither
named_by_cause (Numbered c) = TheOwn
named_by_cause (AsReceived c) = TheReceived

-- a signal that is no release names none; a reject is none here
abbrev pub named_by_kind : Kind → SentCause → Names
named_by_kind NoSignal cause = Neither
named_by_kind TimerStart cause = Neither
named_by_kind TimerStop cause = Neither
named_by_kind Switch cause = Neither
named_by_kind CallingRelease cause = named_by_cause cause
named_by_kind IncumbentRelease cause = named_by_cause cause
named_by_kind ReroutingRelease cause = named_by_cause cause
named_by_kind SetupRequest cause = Neither
named_by_kind ConnectRequest cause = Neither
named_by_kind Rejection cause = Neither
named_by_kind CalledRelease cause = named_by_cause cause

abbrev pub named_by : Signal → Names
named_by s = named_by_kind s.kind s.cause

-- four octets of header, and as many more as the third and fourth say, big-endian
abbrev pub whole_of : ℕ → ℕ → ℕ
whole_of high low = 4 + high * 256 + low

abbrev pub whole_length : List ℕ → ℕ
whole_length octets = whole_of (get_or octets 2 0) (get_or octets 3 0)

-- how much of a string is its element: nothing where it is under four octets, or too short for its length
abbrev pub element_length : List ℕ → ℕ
element_length octets = cond (ltb (length octets) 4) 0 (cond (ltb (length octets) (whole_length octets)) 0 (whole_length octets))

-- the string that a part is of: the node's own where the signal names none
abbrev pub picked_by : {A : Type 0} → Names → A → A → A
picked_by TheReceived received own = received
picked_by TheOwn received own = own
picked_by Neither received own = own

abbrev pub string_of : {A : Type 0} → A → A → Signal → A
string_of received own s = picked_by (named_by s) received own

-- and how much of it
abbrev pub count_by : Names → List ℕ → List ℕ → ℕ
count_by TheReceived received own = element_length received
count_by TheOwn received own = element_length own
count_by Neither received own = 0

abbrev pub element_of : List ℕ → List ℕ → Signal → List ℕ
element_of received own s = take (count_by (named_by s) received own) (string_of received own s)
