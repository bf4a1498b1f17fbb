-- What is claimed of a fault: that it is found exactly in a bad record, and that the byte told is the first that is not named. Proofs:
-- proofs/Claims.antt. Assumes nothing.
use Rattle.std.specs.Prelude.{ℕ, ◌≤◌, ◌<◌, Bool, ◌||◌, cond, ◌↔◌, ◌≡◌, List, eqb, Some, None}
use Rattle.events.specs.declared.Node.{Node}
use Rattle.event_record.specs.Record.{octet, kind_at, decoded_at}
use Rattle.event_fault.specs.Fault.{fault_at}
use Rattle.event_fault.specs.declared.Fault.{Fault}

abbrev pub Octets : List ℕ → Type 0
Octets os = (i : ℕ) → octet os i < 256

-- A fault is found exactly where the record is bad.
abbrev pub ExactlyTheBad : Type 0
ExactlyTheBad = (node : Node) (os : List ℕ) → Octets os → ((decoded_at node os).request ≡ None) ↔ (fault_at node os ≡ None → ⊥)

-- The highest value that is named for each byte (01, "The trace"); 255 where the byte is not read, or may have any value. Of a record: its
-- kind is byte 0, and byte 1 of an opening tells whether bytes 2 and 3 are read
abbrev pub is_release_record : ℕ → Bool
is_release_record kind = eqb kind 6 || eqb kind 7

abbrev pub has_connection : ℕ → Bool
has_connection kind = eqb kind 4 || eqb kind 7

abbrev pub highest_first : ℕ → ℕ
highest_first kind = cond (eqb kind 0 || (eqb kind 4 || is_release_record kind)) 1 255

abbrev pub highest_second : ℕ → ℕ → ℕ
highest_second kind first = cond (eqb kind 0) (cond (eqb first 0) 255 1) 255

abbrev pub highest_third : ℕ → ℕ → ℕ
highest_third kind first = cond (eqb kind 0) (cond (eqb first 0) 255 2) (cond (is_release_record kind) 2 255)

abbrev pub highest : ℕ → ℕ → ℕ → ℕ
highest kind first byte =
    cond (eqb byte 0) 9
    (cond (eqb byte 1) (highest_first kind)
    (cond (eqb byte 2) (highest_second kind first)
    (cond (eqb byte 3) (highest_third kind first)
    (cond (eqb byte 8 || eqb byte 9) (cond (has_connection kind) 0 255) 255))))

abbrev pub Named : Node → List ℕ → ℕ → Type 0
Named node os i = octet os i ≤ highest (kind_at node (octet os 0)) (octet os 1) i

-- Where no fault is found, every byte is named.
abbrev pub AllAreNamed : Type 0
AllAreNamed = (node : Node) (os : List ℕ) → Octets os → fault_at node os ≡ None → (i : ℕ) → Named node os i

-- The byte that a fault tells has the value told, which is not named, and every byte before it is named.
abbrev pub TheFirst : Type 0
TheFirst =
    (node : Node) (os : List ℕ) → Octets os → (f : Fault) → fault_at node os ≡ Some f →
    (octet os f.octet ≡ f.value) × ((Named node os f.octet → ⊥) × ((i : ℕ) → i < f.octet → Named node os i))
