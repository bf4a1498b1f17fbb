-- The record that an opening or event goes to, found among the keys of the table, and what comes of it. 102 to 105 are decided by
-- admission, as over a lent row; proofs/Placed.antt says that all of it is what `ran_of` and `table_of` say of a fit table.
-- Assumes nothing.
use Rattle.std.specs.Prelude.{ℕ, ◌+◌, ◌≤◌, Bool, false, true, List, [], map, ◌≡◌, eqb, Option, Some, None, Result, Ok, Err}
use Rattle.std.specs.List.{position}
use Rattle.lines.specs.Lines.{page, put_text}
use Rattle.signal.specs.declared.Answer.{Answer}
use Rattle.signal.specs.Signals.{places}
use Rattle.call.specs.declared.Call.{Call}
use Rattle.call.specs.declared.Outcome.{Outcome}
use Rattle.call.specs.Record.{emptied, opened_for}
use Rattle.call.specs.Events.{half_of, handled_at}
use Rattle.events.specs.declared.Act.{Act}
use Rattle.events.specs.declared.Act.TheVariants.{Opens, Meets}
use Rattle.events.specs.declared.Node.{Node}
use Rattle.admission.specs.Admission.{admission_of, refusal_in}
use Rattle.call_table.specs.Fit.{fit_table}
use Rattle.trace_run.specs.Run.{Past}
use Rattle.trace_run.specs.declared.Stop.{Stop}

abbrev pub keys_in : List Call → List ℕ
keys_in ys = map (λ c. c.key) ys

-- the first place of a key, where one has it
abbrev pub index_of : ℕ → List ℕ → Option ℕ
index_of k ks = position (λ x. eqb x k) ks

-- the place of an empty record, for what may need one: the lowest
abbrev pub empty_for : List ℕ → Act → Option ℕ
empty_for ks (Opens wanted) = index_of 0 ks
empty_for ks (Meets e) = None

-- the place of the record that is worked on: where the key was found, or else the empty one
abbrev pub place_for : List ℕ → Option ℕ → Act → Option ℕ
place_for ks (Some i) act = Some i
place_for ks None act = empty_for ks act

-- a refusal, with the call that is shown
abbrev pub refused_with : Answer → Call → Outcome
refused_with a c = record { answer = a; call = c; signals = places [] }

-- what comes of an admission, at its record
abbrev pub carried_on : Node → Call → ℕ → Result Act Answer → Outcome
carried_on node c key (Err a) = refused_with a c
carried_on node c key (Ok (Opens wanted)) = opened_for key wanted
carried_on node c key (Ok (Meets e)) = handled_at (half_of node) c e

-- what comes of an opening or event at the record that it goes to, which is empty or has its key
abbrev pub worked_on : Node → Call → ℕ → Act → Bool → Outcome
worked_on node c key act missing = carried_on node c key (admission_of key act missing false)

-- and where it goes to none: its key is missing, and for an opening the table is full
abbrev pub unplaced_for : ℕ → Act → Outcome
unplaced_for key act = refused_with (refusal_in (admission_of key act true true)) emptied

-- what is answered of a run: its table, the end of its lines in the buffer, the count, and whether no bad record ended it
abbrev pub stopped_at : List Call → ℕ → ℕ → Bool → Stop
stopped_at ys at n good = record { table = ys; at = at; count = n; good = good }

-- what is left of a run over a chunk: its table, the count of records and whether none was bad; the lines at the start of the
-- buffer; and that the table is fit again, and no more than 4,096 records were counted
abbrev pub Stops : Past → Stop → List ℕ → List ℕ → ℕ → Type 0
Stops p r before after start =
    (r.table ≡ p.table)
    × ((r.count ≡ p.count)
    × ((r.good ≡ p.good)
    × ((page after r.at ≡ put_text (page before 0) p.text) × ((fit_table r.table ≡ true) × (r.count ≤ start + 4096)))))
