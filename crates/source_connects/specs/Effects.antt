-- The rows of a connect, carried out: what the functions of this crate return. Assumes nothing.
use Rattle.std.specs.Prelude.{ℕ, Bool, None}
use Rattle.rows.specs.Cases.{role_of}
use Rattle.rows.specs.States.{phase_of}
use Rattle.rows.specs.declared.Effect.{Effect}
use Rattle.rows.specs.declared.State.{State}
use Rattle.source_rows.specs.Rows.{at_source, connect_row}

abbrev pub connect_effect : ℕ → Bool → State → Effect
connect_effect c agreed s = at_source s None None (connect_row (phase_of s) (role_of s c) agreed)
