-- In which states Appendix C-1 prints a next state for an event of the source. What is claimed of the page stands in rows, specs/Page, for
-- either end; its proofs for the source: proofs/Only.antt. Assumes nothing.
use Rattle.std.specs.Prelude.{Bool, ◌&&◌, false, [], ◌∷◌}
use Rattle.rows.specs.Cases.{Connected, DomainReleased, Expired, FoundNone, FoundPath, Happening, NamesIncumbent, NamesOther}
use Rattle.rows.specs.Cases.{NamesRerouting, PartyReleased, Role, SaidReady, SetUp, Triggered}
use Rattle.rows.specs.Laws.{same_role}
use Rattle.rows.specs.Page.{in_columns}
use Rattle.rows.specs.States.{Phase}

abbrev pub release_printed : Role → Phase → Bool
release_printed NamesIncumbent phase = in_columns (1 ∷ 4 ∷ 5 ∷ 6 ∷ 7 ∷ []) phase
release_printed NamesRerouting phase = in_columns (3 ∷ 5 ∷ 6 ∷ 7 ∷ []) phase
release_printed NamesOther phase = false

abbrev pub is_printed : Phase → Happening → Bool
is_printed phase Triggered = in_columns (1 ∷ 2 ∷ 3 ∷ 4 ∷ 5 ∷ 6 ∷ 7 ∷ []) phase
is_printed phase FoundPath = in_columns (2 ∷ 4 ∷ []) phase
is_printed phase FoundNone = in_columns (2 ∷ 4 ∷ []) phase
is_printed phase (Connected role agreed) = same_role role NamesRerouting && in_columns (3 ∷ 5 ∷ []) phase
is_printed phase (SetUp asked late) = in_columns (1 ∷ 2 ∷ 3 ∷ 4 ∷ 5 ∷ 6 ∷ 7 ∷ []) phase
is_printed phase (PartyReleased class) = in_columns (1 ∷ 2 ∷ 3 ∷ 4 ∷ 5 ∷ 6 ∷ 7 ∷ []) phase
is_printed phase (DomainReleased role class tried) = release_printed role phase
is_printed phase SaidReady = in_columns (6 ∷ []) phase
is_printed phase Expired = in_columns (2 ∷ 3 ∷ []) phase
