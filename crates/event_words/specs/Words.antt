-- An event in words, with its key, as a line of `script` has them (docs/BENCH.md), or without: the event's name, and every other word
-- behind a blank. Assumes nothing.
use Rattle.std.specs.Prelude.{ℕ, Bool, true, false, cond, List, [], ◌++◌, eqb, Option, None, Some}
use Rattle.lines.specs.Lines.{ascii, number_text}
use Rattle.signal.specs.declared.Crankback.{Crankback}
use Rattle.signal.specs.declared.Crankback.TheVariants.{NoCrankback, AlternateFound, NoAlternate}
use Rattle.signal.specs.declared.ReroutingCause.{ReroutingCause}
use Rattle.signal.specs.declared.Services.{Services}
use Rattle.signal.specs.declared.Soft.{Soft}
use Rattle.signal.specs.declared.Soft.TheVariants.{NoSoft, Asymmetric, Symmetric}
use Rattle.events.specs.declared.Event.{Event}
use Rattle.events.specs.declared.Event.TheVariants.{Trigger, PathFound, NoPath, Connect, Setup, FromParty, FromDomain, Ready, Expiry}
use Rattle.events.specs.declared.Act.{Act}
use Rattle.events.specs.declared.Node.{Node}
use Rattle.events.specs.declared.Node.TheVariants.{Source, Destination}
use Rattle.events.specs.declared.Act.TheVariants.{Opens, Meets}

-- a number behind a blank
abbrev pub then_number : ℕ → List ℕ
then_number n = ascii " " ++ number_text n

-- the services of an opening, where it names them
abbrev pub hard_text : Bool → List ℕ
hard_text true = ascii " hard"
hard_text false = ascii " nohard"

abbrev pub soft_text : Soft → List ℕ
soft_text NoSoft = ascii " none"
soft_text Asymmetric = ascii " asymmetric"
soft_text Symmetric = ascii " symmetric"

abbrev pub wanted_text : Option Services → List ℕ
wanted_text None = []
wanted_text (Some s) = hard_text s.hard ++ soft_text s.soft

-- local policy
abbrev pub policy_text : Bool → List ℕ
policy_text true = ascii " yes"
policy_text false = ascii " no"

-- the switchover code: 0 and 1 have a name
abbrev pub switchover_text : ℕ → List ℕ
switchover_text n = cond (eqb n 0) (ascii " immediate") (cond (eqb n 1) (ascii " clearing") (then_number n))

abbrev pub received_cause_text : Option ReroutingCause → List ℕ
received_cause_text None = []
received_cause_text (Some c) = ascii " cause" ++ then_number c.number

abbrev pub crankback_text : Crankback → List ℕ
crankback_text NoCrankback = []
crankback_text AlternateFound = ascii " alternate"
crankback_text NoAlternate = ascii " noalternate"

-- a release is named by its side: the node's own party is the calling one at the source, and the called one at the destination
abbrev pub party_text : Node → List ℕ
party_text Source = ascii "calling"
party_text Destination = ascii "called"

-- and what comes from across the domain is the other side's
abbrev pub domain_text : Node → List ℕ
domain_text Source = ascii "called"
domain_text Destination = ascii "calling"

abbrev pub event_name : Node → Event → List ℕ
event_name node Trigger = ascii "trigger"
event_name node PathFound = ascii "path"
event_name node NoPath = ascii "nopath"
event_name node (Connect c policy) = ascii "connect"
event_name node (Setup s n) = ascii "setup"
event_name node (FromParty cause) = party_text node
event_name node (FromDomain c cause back) = domain_text node
event_name node Ready = ascii "ready"
event_name node Expiry = ascii "expiry"

abbrev pub name_text : Node → Act → List ℕ
name_text node (Opens w) = ascii "open"
name_text node (Meets e) = event_name node e

-- what an event brings besides its key
abbrev pub values_text : Event → List ℕ
values_text Trigger = []
values_text PathFound = []
values_text NoPath = []
values_text (Connect c policy) = then_number c ++ policy_text policy
values_text (Setup s n) = switchover_text s.code ++ then_number n
values_text (FromParty cause) = received_cause_text cause
values_text (FromDomain c cause back) = then_number c ++ (received_cause_text cause ++ crankback_text back)
values_text Ready = []
values_text Expiry = []

-- an event of a call that is known (docs/CELLS.md, "A cell")
abbrev pub keyless_text : Node → Event → List ℕ
keyless_text node e = event_name node e ++ values_text e

abbrev pub brought_text : Act → List ℕ
brought_text (Opens w) = wanted_text w
brought_text (Meets e) = values_text e

abbrev pub event_text : Node → ℕ → Act → List ℕ
event_text node key act = name_text node act ++ (then_number key ++ brought_text act)

-- the name of a program: at the destination node that node's stands before it
abbrev pub program_text : Node → List ℕ → List ℕ
program_text Source name = name
program_text Destination name = ascii "destination_" ++ name
