-- What each event reports, brings and stores, at either end of a call (01, "Events and rows"). Assumes nothing.
use Rattle.std.specs.Prelude.{ℕ, Bool, true, false, List, [], ◌∷◌, Option, None}
use Rattle.signal.specs.declared.ReroutingCause.{ReroutingCause}
use Rattle.events.specs.declared.Event.{Event}
use Rattle.events.specs.declared.Event.TheVariants.{Trigger, PathFound, NoPath, Connect, Setup, FromParty, FromDomain, Ready, Expiry}

-- the connections whose release an event reports
abbrev pub reported : Event → List ℕ
reported Trigger = []
reported PathFound = []
reported NoPath = []
reported (Connect c agreed) = []
reported (Setup code number) = []
reported (FromParty cause) = []
reported (FromDomain c cause tried) = c ∷ []
reported Ready = []
reported Expiry = []

-- the Rerouting cause that an event brings
abbrev pub received_in : Event → Option ReroutingCause
received_in Trigger = None
received_in PathFound = None
received_in NoPath = None
received_in (Connect c agreed) = None
received_in (Setup code number) = None
received_in (FromParty cause) = cause
received_in (FromDomain c cause tried) = cause
received_in Ready = None
received_in Expiry = None

-- the incarnation number that an event brings: a setup's
abbrev pub setup_number : Event → List ℕ
setup_number Trigger = []
setup_number PathFound = []
setup_number NoPath = []
setup_number (Connect c agreed) = []
setup_number (Setup code number) = number ∷ []
setup_number (FromParty cause) = []
setup_number (FromDomain c cause tried) = []
setup_number Ready = []
setup_number Expiry = []

-- what is stored, where an event stores it: that number
abbrev pub number_brought : Event → ℕ
number_brought Trigger = 0
number_brought PathFound = 0
number_brought NoPath = 0
number_brought (Connect c agreed) = 0
number_brought (Setup code number) = number
number_brought (FromParty cause) = 0
number_brought (FromDomain c cause tried) = 0
number_brought Ready = 0
number_brought Expiry = 0

abbrev pub is_expiry : Event → Bool
is_expiry Trigger = false
is_expiry PathFound = false
is_expiry NoPath = false
is_expiry (Connect c agreed) = false
is_expiry (Setup code number) = false
is_expiry (FromParty cause) = false
is_expiry (FromDomain c cause tried) = false
is_expiry Ready = false
is_expiry Expiry = true

abbrev pub is_from_party : Event → Bool
is_from_party Trigger = false
is_from_party PathFound = false
is_from_party NoPath = false
is_from_party (Connect c agreed) = false
is_from_party (Setup code number) = false
is_from_party (FromParty cause) = true
is_from_party (FromDomain c cause tried) = false
is_from_party Ready = false
is_from_party Expiry = false
