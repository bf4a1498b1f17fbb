-- A wrong cell of an end's page, whichever end it is of: a rule that does not keep the laws, or does not say what the papers say elsewhere,
-- at a case that is written out. Assumes nothing.
use mathlib.Core.Bool.{Bool, true}
use mathlib.Core.Path.{◌≡◌}
use Rattle.signal.specs.declared.Soft.{Soft}
use Rattle.rows.specs.Cases.{Case, Happening}
use Rattle.rows.specs.Every.{conj}
use Rattle.rows.specs.Papers.{Papers, fixes}
use Rattle.rows.specs.Rules.{Rule}
use Rattle.rows.specs.States.{Phase}

-- a rule that is not the row of a case, by the laws and the papers
abbrev pub NotTheRow : Papers → Case → Rule → Type 0
NotTheRow papers c rule = conj (fixes papers c rule) ≡ true → ⊥

-- a case: the state, the services, whether there is a next number, and what happens
abbrev pub at : Phase → Bool → Soft → Bool → Happening → Case
at phase hard soft room happening = record { phase = phase; hard = hard; soft = soft; room = room; happening = happening }
