-- What is read of a row that is known to be fit, and what is decided of it (02, Ask 4): the keys, and no further than need be; then the
-- record of an event. That it comes to the same as the whole row, and what has no say in it: Claims.antt. Assumes nothing.
use Rattle.std.specs.Prelude.{ℕ, Bool, ◌||◌, List, eqb, is_some, option_map, unwrap_or, Option, Some, None}
use Rattle.std.specs.Option.{option_or}
use Rattle.lent.specs.Search.{element_at, read_until}
use Rattle.events.specs.declared.Act.{Act}
use Rattle.events.specs.declared.Act.TheVariants.{Meets, Opens}
use Rattle.call.specs.Events.{Half}
use Rattle.call.specs.Record.{emptied}
use Rattle.call.specs.declared.Call.{Call}
use Rattle.call_table.specs.Table.{decide_fit_of, sought_at_start, sought_of}
use Rattle.call_table.specs.declared.Ran.{Ran}
use Rattle.call_table.specs.declared.Sought.{Sought}

-- no more of the row is needed: key 0 is refused whatever it holds, and once the key is found nothing is asked of an empty record
abbrev pub is_enough : Sought ℕ → ℕ → Bool
is_enough s key = eqb key 0 || is_some s.found

-- in a whole row
abbrev pub places_in : List Call → ℕ → Sought ℕ
places_in ys key = read_until (λ s. is_enough s key) (λ s i c. sought_of s key c.key i) 0 (sought_at_start key) ys

-- the record that is needed: an event's is that of its key, and an opening needs none; past the end there is none
abbrev pub needed_by : ℕ → Sought ℕ → Act → ℕ
needed_by n s (Opens wanted) = n
needed_by n s (Meets e) = unwrap_or s.found n

abbrev pub fetched_from : List Call → ℕ → Option (ℕ × Call)
fetched_from ys i = element_at (λ j c. Some (j, c)) None emptied ys i

-- a place without its record
abbrev pub unread_at : Option ℕ → Option (ℕ × Call)
unread_at place = option_map (λ i. (i, emptied)) place

-- what is decided of that, and of what was fetched, as it is decided of the whole row
abbrev pub decide_at_of : Half → ℕ → Sought ℕ → Option (ℕ × Call) → ℕ → Act → Ran
decide_at_of half n s fetched key act =
    decide_fit_of half n (record { found = option_or fetched (unread_at s.found); free = unread_at s.free }) key act
