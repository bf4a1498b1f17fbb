-- What makes a table fit (01, 101), record by record and as a whole, as the code tests it. Assumes nothing.
use Rattle.std.specs.Prelude.{ℕ, Bool, ◌&&◌, cond, false, not, true, List, [], ◌∷◌, map, eqb, leb, ltb, length}
use Rattle.distinct.specs.Distinct.{distinct_of}
use Rattle.signal.specs.Numbers.{soft_number}
use Rattle.rows.specs.States.{is_null}
use Rattle.rows.specs.declared.State.{State}
use Rattle.rows.specs.declared.State.TheVariants.{Awaiting, HardUnderway, HardWaiting, Idle, Null, SoftInitiated, SoftProceeding}
use Rattle.rows.specs.declared.State.TheVariants.{SoftTriggered}
use Rattle.call.specs.declared.Call.{Call}

-- an empty record is all empty: hard off, soft none, state Null, every number 0
abbrev pub is_emptied : Call → Bool
is_emptied c =
    not c.hard && (eqb (soft_number c.soft) 0 && (is_null c.state && (eqb c.last 0 && eqb c.remote 0)))

-- a held number is not 0, and not above the last
abbrev pub is_within : ℕ → ℕ → Bool
is_within last x = not (eqb x 0) && leb x last

-- two held numbers differ, and both are within
abbrev pub are_within : ℕ → ℕ → ℕ → Bool
are_within last i r = not (eqb i r) && (is_within last i && is_within last r)

-- a non-empty record is not in Null, and what its state holds is within
abbrev pub fit_held : ℕ → State → Bool
fit_held last Null = false
fit_held last (Idle i) = is_within last i
fit_held last HardWaiting = true
fit_held last (HardUnderway r) = is_within last r
fit_held last (SoftTriggered i) = is_within last i
fit_held last (SoftProceeding i r) = are_within last i r
fit_held last (SoftInitiated i r) = are_within last i r
fit_held last (Awaiting i r) = are_within last i r

-- a record by itself: empty, or with a last number of at least 1 and fit connections
abbrev pub fit_record : Call → Bool
fit_record c = cond (eqb c.key 0) (is_emptied c) (not (eqb c.last 0) && fit_held c.last c.state)

-- every record of a list
abbrev pub every_fit : List Call → Bool
every_fit [] = true
every_fit (c ∷ cs) = fit_record c && every_fit cs

-- at most 1,024 records, and no key but 0 twice
abbrev pub fit_keys : List Call → Bool
fit_keys ys = not (ltb 1024 (length ys)) && distinct_of (map (λ c. c.key) ys)

-- the whole table
abbrev pub fit_table : List Call → Bool
fit_table ys = fit_keys ys && every_fit ys
