-- What the keys of a table say of an opening or event (01, "Numbers of refusal", 102 to 105), of plain values: the key, whether it is
-- missing from the table, and whether the table is full, so that no record is empty. Assumes nothing.
use Rattle.std.specs.Prelude.{ℕ, Bool, cond, eqb, Result, Ok, Err, Option}
use Rattle.signal.specs.declared.Answer.{Answer}
use Rattle.signal.specs.declared.Answer.TheVariants.{Done, KeyNotOnRecord, KeyOnRecord, KeyZero, NoEmptyRecord}
use Rattle.signal.specs.declared.Services.{Services}
use Rattle.events.specs.declared.Act.{Act}
use Rattle.events.specs.declared.Act.TheVariants.{Meets, Opens}
use Rattle.events.specs.declared.Event.{Event}

-- the answer of a refusal, and 0 where nothing is refused yet
abbrev pub refusal_in : Result Act Answer → Answer
refusal_in (Err a) = a
refusal_in (Ok act) = Done

-- 103 where the key is on record, before 104 (decision 14)
abbrev pub opening_admitted : Option Services → Bool → Bool → Result Act Answer
opening_admitted wanted missing full = cond missing (cond full (Err NoEmptyRecord) (Ok (Opens wanted))) (Err KeyOnRecord)

-- 105 where the key is not on record
abbrev pub event_admitted : Event → Bool → Result Act Answer
event_admitted e missing = cond missing (Err KeyNotOnRecord) (Ok (Meets e))

abbrev pub act_admitted : Act → Bool → Bool → Result Act Answer
act_admitted (Opens wanted) missing full = opening_admitted wanted missing full
act_admitted (Meets e) missing full = event_admitted e missing

-- 102, key 0, before the key is looked for
abbrev pub admission_of : ℕ → Act → Bool → Bool → Result Act Answer
admission_of key act missing full = cond (eqb key 0) (Err KeyZero) (act_admitted act missing full)
