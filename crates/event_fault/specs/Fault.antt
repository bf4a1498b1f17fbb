-- What is wrong with an event record: its first byte that is not named, in the order of bytes (docs/BENCH.md, "list"; 01, "The trace").
-- Assumes nothing.
use Rattle.std.specs.Prelude.{ℕ, cond, List, eqb, ltb, Option, Some, None}
use Rattle.events.specs.declared.Node.{Node}
use Rattle.event_record.specs.Record.{kind_at, octet}
use Rattle.event_fault.specs.declared.Expected.{Expected}
use Rattle.event_fault.specs.declared.Expected.TheVariants.{SomeEvent, NamedOrNot, HardFlag, SoftService, PolicyFlag, CausePresent}
use Rattle.event_fault.specs.declared.Expected.TheVariants.{CrankbackFound, SmallConnection}
use Rattle.event_fault.specs.declared.Fault.{Fault}

-- a byte that is not named, its value, and what was expected there
abbrev pub misses : ℕ → ℕ → Expected → Option Fault
misses byte value expected = Some (record { octet = byte; value = value; expected = expected })

-- open: byte 1 is 0 for default services, and bytes 2 and 3 are then not read
abbrev pub open_fault : ℕ → ℕ → ℕ → Option Fault
open_fault named hard soft =
    cond (eqb named 0) None
    (cond (ltb 1 named) (misses 1 named NamedOrNot)
    (cond (ltb 1 hard) (misses 2 hard HardFlag)
    (cond (ltb 2 soft) (misses 3 soft SoftService) None)))

-- bytes 8 and 9 of a connection are 0, since it is at most 65,535
abbrev pub connection_fault : ℕ → ℕ → Option Fault
connection_fault highest high =
    cond (ltb 0 highest) (misses 8 highest SmallConnection) (cond (ltb 0 high) (misses 9 high SmallConnection) None)

abbrev pub connect_fault : ℕ → ℕ → ℕ → Option Fault
connect_fault policy highest high = cond (ltb 1 policy) (misses 1 policy PolicyFlag) (connection_fault highest high)

abbrev pub calling_fault : ℕ → ℕ → Option Fault
calling_fault present back = cond (ltb 1 present) (misses 1 present CausePresent) (cond (ltb 2 back) (misses 3 back CrankbackFound) None)

abbrev pub called_fault : ℕ → ℕ → ℕ → ℕ → Option Fault
called_fault present back highest high =
    cond (ltb 1 present) (misses 1 present CausePresent)
    (cond (ltb 2 back) (misses 3 back CrankbackFound) (connection_fault highest high))

-- by the kind; the kinds that are not named here read nothing that could be wrong
abbrev pub kind_fault : ℕ → ℕ → ℕ → ℕ → ℕ → ℕ → Option Fault
kind_fault kind first second third highest high =
    cond (ltb 9 kind) (misses 0 kind SomeEvent)
    (cond (eqb kind 0) (open_fault first second third)
    (cond (eqb kind 4) (connect_fault first highest high)
    (cond (eqb kind 6) (calling_fault first third)
    (cond (eqb kind 7) (called_fault first third highest high) None))))

abbrev pub fault_at : Node → List ℕ → Option Fault
fault_at node os = kind_fault (kind_at node (octet os 0)) (octet os 1) (octet os 2) (octet os 3) (octet os 8) (octet os 9)
