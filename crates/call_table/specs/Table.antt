-- One opening or event by key, over a row of records, at either end: the answer and signals, and the whole new row (01, "The table and its
-- records", "Numbers of refusal"). Assumes nothing.
use Rattle.std.specs.Prelude.{ℕ, Bool, ◌&&◌, cond, true, List, [], eqb, is_none, length, set, Option, Some, None, Result, Ok, Err}
use Rattle.lent.specs.Search.{keys_from, read_from}
use Rattle.signal.specs.Signals.{places}
use Rattle.signal.specs.declared.Answer.{Answer}
use Rattle.signal.specs.declared.Answer.TheVariants.{TableUnfit}
use Rattle.events.specs.declared.Act.{Act}
use Rattle.events.specs.declared.Act.TheVariants.{Meets, Opens}
use Rattle.admission.specs.Admission.{admission_of}
use Rattle.call.specs.Events.{Half, handled_at}
use Rattle.call.specs.Record.{emptied, opened_for}
use Rattle.call.specs.declared.Call.{Call}
use Rattle.call.specs.declared.Outcome.{Outcome}
use Rattle.call_table.specs.Fit.{fit_keys, fit_record}
use Rattle.call_table.specs.declared.Ran.{Ran}
use Rattle.call_table.specs.declared.Seen.{Seen}
use Rattle.call_table.specs.declared.Sought.{Sought}

-- where what was found stands, or past the end of a row of n records; and the record, or an empty one
abbrev pub place_in : ℕ → Option (ℕ × Call) → ℕ
place_in n (Some (j, d)) = j
place_in n None = n

abbrev pub call_in : Option (ℕ × Call) → Call
call_in (Some (j, d)) = d
call_in None = emptied

-- what is found stays; else what is at hand is it, where its key k is the one
abbrev pub later_of : {T : Type 0} → Option T → ℕ → ℕ → T → Option T
later_of (Some x) key k at = Some x
later_of None key k at = cond (eqb k key) (Some at) None

-- what is found of the record with the key, and of the lowest empty one, so far
abbrev pub sought_at_start : {T : Type 0} → ℕ → Sought T
sought_at_start key = record { found = None; free = None }

abbrev pub sought_of : {T : Type 0} → Sought T → ℕ → ℕ → T → Sought T
sought_of s key k at = record { found = later_of s.found key k at; free = later_of s.free 0 k at }

-- in the whole row
abbrev pub sought_in : List Call → ℕ → Sought (ℕ × Call)
sought_in ys key = read_from (λ s i c. sought_of s key c.key (i, c)) 0 (sought_at_start key) ys

-- the same, with whether every record so far is fit by itself
abbrev pub start_of : ℕ → Seen
start_of key = record { sound = true; sought = sought_at_start key }

abbrev pub step_of : Seen → ℕ → ℕ → Call → Seen
step_of s key i c = record { sound = s.sound && fit_record c; sought = sought_of s.sought key c.key (i, c) }

abbrev pub seen_of : List Call → ℕ → Seen
seen_of ys key = read_from (λ s i c. step_of s key i c) 0 (start_of key) ys

-- the keys of a row, each at its place in a list of numbers
abbrev pub keys_of : List ℕ → List Call → List ℕ
keys_of ks ys = keys_from (λ c. c.key) 0 ks ys

-- a refusal stores past the end, which is nowhere, and sends nothing
abbrev pub refused_at : ℕ → Answer → Ran
refused_at n a = record { done = record { answer = a; signals = places [] }; at = n; call = emptied }

-- an outcome, stored at i
abbrev pub placed_at : ℕ → Outcome → Ran
placed_at i o = record { done = record { answer = o.answer; signals = o.signals }; at = i; call = o.call }

module _ (half : Half) where
  -- an admission, carried out: an opening takes the lowest empty record, and an event follows the row of the record with its key
  abbrev pub ran_by : ℕ → Sought (ℕ × Call) → ℕ → Result Act Answer → Ran
  ran_by n s key (Err a) = refused_at n a
  ran_by n s key (Ok (Opens wanted)) = placed_at (place_in n s.free) (opened_for key wanted)
  ran_by n s key (Ok (Meets e)) = placed_at (place_in n s.found) (handled_at half (call_in s.found) e)

  -- 102 to 105 come before anything of a record
  abbrev pub decide_fit_of : ℕ → Sought (ℕ × Call) → ℕ → Act → Ran
  decide_fit_of n s key act = ran_by n s key (admission_of key act (is_none s.found) (is_none s.free))

  -- 101 first of all
  abbrev pub decide_of : ℕ → Seen → Bool → ℕ → Act → Ran
  decide_of n s ok key act = cond (ok && s.sound) (decide_fit_of n s.sought key act) (refused_at n TableUnfit)

  -- one opening or event over any row, and the row after it
  abbrev pub ran_of : List Call → ℕ → Act → Ran
  ran_of ys key act = decide_of (length ys) (seen_of ys key) (fit_keys ys) key act

  abbrev pub table_of : List Call → ℕ → Act → List Call
  table_of ys key act = set ys (ran_of ys key act).at (ran_of ys key act).call

  -- the same without 101
  abbrev pub ran_fit_of : List Call → ℕ → Act → Ran
  ran_fit_of ys key act = decide_fit_of (length ys) (sought_in ys key) key act

  abbrev pub table_fit_of : List Call → ℕ → Act → List Call
  table_fit_of ys key act = set ys (ran_fit_of ys key act).at (ran_fit_of ys key act).call
