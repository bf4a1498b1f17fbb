-- An event record of the trace, written: the octets that a kind does not use are 0 (01, "The trace"; docs/BENCH.md, "script"). Assumes
-- nothing.
use Rattle.std.specs.Prelude.{ℕ, ◌/◌, ◌%◌, Bool, true, false, List, [], ◌∷◌, ◌++◌, Option, None, Some}
use Rattle.signal.specs.Numbers.{soft_number, crankback_number}
use Rattle.signal.specs.declared.ReroutingCause.{ReroutingCause}
use Rattle.signal.specs.declared.Services.{Services}
use Rattle.events.specs.declared.Event.{Event}
use Rattle.events.specs.declared.Event.TheVariants.{Trigger, PathFound, NoPath, Connect, Setup, FromParty, FromDomain, Ready, Expiry}
use Rattle.events.specs.declared.Act.{Act}
use Rattle.events.specs.declared.Act.TheVariants.{Opens, Meets}
use Rattle.events.specs.declared.Node.{Node}
use Rattle.events.specs.declared.Node.TheVariants.{Source}
use Rattle.event_record.specs.Record.{kind_at}
use Rattle.event_record.specs.declared.Values.{Values}

-- four octets, big-endian
abbrev pub four_octets : ℕ → List ℕ
four_octets n = n / 16777216 % 256 ∷ n / 65536 % 256 ∷ n / 256 % 256 ∷ n % 256 ∷ []

-- yes and no, on and off
abbrev pub flag_number : Bool → ℕ
flag_number true = 1
flag_number false = 0

-- whether a cause is there, and its number
abbrev pub present_number : Option ReroutingCause → ℕ
present_number None = 0
present_number (Some c) = 1

abbrev pub cause_number : Option ReroutingCause → ℕ
cause_number None = 0
cause_number (Some c) = c.number

-- bytes 0 to 3, and the number of bytes 8 to 11
abbrev pub brought : ℕ → ℕ → ℕ → ℕ → ℕ → Values
brought kind first second third number = record { kind = kind; first = first; second = second; third = third; number = number }

abbrev pub open_values : Option Services → Values
open_values None = brought 0 0 0 0 0
open_values (Some s) = brought 0 1 (flag_number s.hard) (soft_number s.soft) 0

abbrev pub event_values : Event → Values
event_values Trigger = brought 1 0 0 0 0
event_values PathFound = brought 2 0 0 0 0
event_values NoPath = brought 3 0 0 0 0
event_values (Connect c policy) = brought 4 (flag_number policy) 0 0 c
event_values (Setup s n) = brought 5 s.code 0 0 n
event_values (FromParty cause) = brought 6 (present_number cause) (cause_number cause) 0 0
event_values (FromDomain c cause back) = brought 7 (present_number cause) (cause_number cause) (crankback_number back) c
event_values Ready = brought 8 0 0 0 0
event_values Expiry = brought 9 0 0 0 0

abbrev pub act_values : Act → Values
act_values (Opens w) = open_values w
act_values (Meets e) = event_values e

-- the key in bytes 4 to 7; bytes 12 to 15 are of no kind
abbrev pub laid_out : ℕ → Values → List ℕ
laid_out key v = v.kind ∷ v.first ∷ v.second ∷ v.third ∷ (four_octets key ++ (four_octets v.number ++ (0 ∷ 0 ∷ 0 ∷ 0 ∷ [])))

-- the same, with the kind that it has at an end
abbrev pub values_at : Node → Values → Values
values_at node v = brought (kind_at node v.kind) v.first v.second v.third v.number

abbrev pub written_at : Node → ℕ → Act → List ℕ
written_at node key act = laid_out key (values_at node (act_values act))

-- at the source
abbrev pub octets_written : ℕ → Act → List ℕ
octets_written key act = written_at Source key act
