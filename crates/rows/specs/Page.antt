-- An end's page of rows: what an event does by it, and what is claimed of it, whichever end it is of. Proofs, once for any page:
-- proofs/Page.antt. Assumes nothing.
use Rattle.std.specs.Prelude.{◌+◌, ℕ, Bool, ◌&&◌, ◌||◌, false, not, true, List, ◌++◌, ◌∷◌, ◌≡◌}
use Rattle.signal.specs.Numbers.{has_symmetric}
use Rattle.signal.specs.declared.Soft.TheVariants.{Symmetric}
use Rattle.events.specs.Events.{received_in}
use Rattle.events.specs.declared.Event.{Event}
use Rattle.events.specs.declared.Node.{Node}
use Rattle.rows.specs.Cases.{Case, Happening, Standing, case_of, happening_of}
use Rattle.rows.specs.Checks.{among}
use Rattle.rows.specs.Effects.{effect}
use Rattle.rows.specs.Every.{conj}
use Rattle.rows.specs.Laws.{same_bool}
use Rattle.rows.specs.Papers.{Item, Papers, fixes, item_holds}
use Rattle.rows.specs.Rules.{Rule, is_done}
use Rattle.rows.specs.States.{Phase, phase_number, phase_of}
use Rattle.rows.specs.declared.Effect.{Effect}

-- what an event does to a call at a node: the row of its case, carried out
abbrev pub done_by : Node → (Case → Rule) → Standing → Event → Effect
done_by node page x e = effect node x.state (x.last + 1) (received_in e) (page (case_of x e))

-- the case of a call and an event, told whether there is a next number, as the code is
abbrev pub case_with : Standing → Bool → Event → Case
case_with x room e =
    record {
      phase = phase_of x.state;
      hard = x.hard;
      soft = x.soft;
      room = room;
      happening = happening_of x.state x.remote e;
    }

-- Demand 2: at every case, any rule that keeps the laws and says what the papers say elsewhere (Annex D, Appendix C, 01's general
-- sentences) is the row of the page: over every service, cause and crankback, and at 65,535.
abbrev pub TheOnlyRow : Papers → (Case → Rule) → Type 0
TheOnlyRow papers page = (c : Case) (rule : Rule) → conj (fixes papers c rule) ≡ true → rule ≡ page c

-- And the row of the page is such a rule, at every case.
abbrev pub PapersAreMet : Papers → (Case → Rule) → Type 0
PapersAreMet papers page = (c : Case) → conj (fixes papers c (page c)) ≡ true

-- Of an item in the papers' list for a case, wherever it stands there, and of an event that is done: where it speaks, it holds; one that is
-- departed from does not.
pub record HoldsAt (papers : Papers) (page : Case → Rule) (c : Case) (before after : List Item) (item : Item) : Type 0 where
  pub held : papers.items c ≡ before ++ (item ∷ after) → is_done (page c).answer ≡ true → item.speaks c ≡ true →
      item_holds item (page c) ≡ true
  pub departed : papers.departed c ≡ before ++ (item ∷ after) → is_done (page c).answer ≡ true → item.speaks c ≡ true →
      item_holds item (page c) ≡ false

-- Every item of the papers holds wherever it speaks, but for those that 01, a section or a decision departs from, which hold nowhere where
-- they speak.
abbrev pub EveryItemHolds : Papers → (Case → Rule) → Type 0
EveryItemHolds papers page = (c : Case) (before after : List Item) (item : Item) → HoldsAt papers page c before after item

-- a table of Appendix C, column by column: the states by number in which an event has a next state; in the others FSM-ERR is printed
abbrev pub in_columns : List ℕ → Phase → Bool
in_columns columns phase = among (phase_number phase) columns

-- a case of the table: it is for a call with both services, and 108 is not its matter
abbrev pub tabled : Phase → Happening → Case
tabled phase happening = record { phase = phase; hard = true; soft = Symmetric; room = true; happening = happening }

abbrev pub is_as_printed : (Phase → Happening → Bool) → Case → Rule → Bool
is_as_printed printed c rule =
    not (c.hard && (has_symmetric c.soft && c.room)) || same_bool (is_done rule.answer) (printed c.phase c.happening)

-- Appendix C: an event is done exactly where a next state is printed, and refused where FSM-ERR is.
abbrev pub DoneWherePrinted : (Phase → Happening → Bool) → (Case → Rule) → Type 0
DoneWherePrinted printed page =
    (phase : Phase) (happening : Happening) → is_done (page (tabled phase happening)).answer ≡ printed phase happening
