-- What is claimed of an admission, for a reader who does not want to follow its tests. Proofs: proofs/Claims.antt. Assumes nothing.
use Rattle.std.specs.Prelude.{ℕ, Bool, false, true, ◌↔◌, ◌≡◌, Result, Ok, Option}
use Rattle.signal.specs.Numbers.{answer_number}
use Rattle.signal.specs.declared.Answer.{Answer}
use Rattle.signal.specs.declared.Services.{Services}
use Rattle.events.specs.declared.Act.{Act}
use Rattle.events.specs.declared.Act.TheVariants.{Meets, Opens}
use Rattle.events.specs.declared.Event.{Event}
use Rattle.admission.specs.Admission.{admission_of, refusal_in}

-- the number of the refusal, and 0 where there is none
abbrev pub refusal_number : Result Act Answer → ℕ
refusal_number a = answer_number (refusal_in a)

-- 01, 102: exactly for the key 0, whatever the table holds.
abbrev pub Refused102 : Type 0
Refused102 = (key : ℕ) (act : Act) (missing full : Bool) → (refusal_number (admission_of key act missing full) ≡ 102) ↔ (key ≡ 0)

-- 01, 103: an opening, exactly where its key is on record.
abbrev pub Refused103 : Type 0
Refused103 =
    (key : ℕ) (wanted : Option Services) (missing full : Bool) → (key ≡ 0 → ⊥) →
    (refusal_number (admission_of key (Opens wanted) missing full) ≡ 103) ↔ (missing ≡ false)

-- 01, 104: an opening, exactly where its key is not on record and no record is empty.
abbrev pub Refused104 : Type 0
Refused104 =
    (key : ℕ) (wanted : Option Services) (missing full : Bool) → (key ≡ 0 → ⊥) →
    (refusal_number (admission_of key (Opens wanted) missing full) ≡ 104) ↔ ((missing ≡ true) × (full ≡ true))

-- 01, 105: an event, exactly where its key is not on record.
abbrev pub Refused105 : Type 0
Refused105 =
    (key : ℕ) (e : Event) (missing full : Bool) → (key ≡ 0 → ⊥) →
    (refusal_number (admission_of key (Meets e) missing full) ≡ 105) ↔ (missing ≡ true)

-- 01, "The table and its records": what is not refused goes on as it came, an opening to an empty record and an event to the record of its
-- key.
abbrev pub OpeningGoesOn : Type 0
OpeningGoesOn = (key : ℕ) (wanted : Option Services) → (key ≡ 0 → ⊥) → admission_of key (Opens wanted) true false ≡ Ok (Opens wanted)

abbrev pub EventGoesOn : Type 0
EventGoesOn = (key : ℕ) (e : Event) (full : Bool) → (key ≡ 0 → ⊥) → admission_of key (Meets e) false full ≡ Ok (Meets e)

-- Whether a record is empty matters only to an opening whose key is not on record: nobody else needs to search for one.
abbrev pub FullIsReadLast : Type 0
FullIsReadLast =
    ((key : ℕ) (act : Act) (full : Bool) → admission_of key act false full ≡ admission_of key act false true)
    × ((key : ℕ) (e : Event) (missing full : Bool) → admission_of key (Meets e) missing full ≡ admission_of key (Meets e) missing true)
