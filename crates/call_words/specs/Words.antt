-- A call's record as a line of numbers. Assumes nothing.
use Rattle.std.specs.Prelude.{ℕ, Bool, cond, List, ◌++◌}
use Rattle.lines.specs.Lines.{ascii, number_text}
use Rattle.signal.specs.declared.Soft.{Soft}
use Rattle.signal.specs.Numbers.{soft_number}
use Rattle.rows.specs.declared.State.{State}
use Rattle.rows.specs.States.{state_number, incumbent_of, rerouting_of}
use Rattle.call.specs.declared.Call.{Call}

-- a number behind another
abbrev pub further_text : ℕ → List ℕ
further_text n = ascii " " ++ number_text n

abbrev pub services_text : Bool → Soft → List ℕ
services_text hard soft = further_text (cond hard 1 0) ++ further_text (soft_number soft)

-- the state, and what it holds: 0 for a connection that it does not hold
abbrev pub connections_text : State → List ℕ
connections_text s = further_text (state_number s) ++ (further_text (incumbent_of s) ++ further_text (rerouting_of s))

abbrev pub call_text : Call → List ℕ
call_text c =
    number_text c.key
    ++ (services_text c.hard c.soft ++ (connections_text c.state ++ (further_text c.last ++ further_text c.remote)))
