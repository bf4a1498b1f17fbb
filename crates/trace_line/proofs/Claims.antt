-- The claims on a line (specs/Claims), proved. Assumes nothing.
use mathlib.Core.Path.{refl}
use Rattle.lines.specs.Lines.{number_text, spelled}
use Rattle.trace_line.specs.Line.{first_line, numbers_text, rest_text, line_text}
use Rattle.trace_line.specs.Claims as claim

pub first_lines : claim.FirstLines
unfolding first_line
first_lines = (refl, refl)

pub columns_in_order : claim.ColumnsInOrder
unfolding line_text numbers_text rest_text number_text spelled
columns_in_order = (refl, refl)

pub lines_of_b13 : claim.LinesOfB13
unfolding line_text numbers_text rest_text number_text spelled
lines_of_b13 = (refl, refl)
