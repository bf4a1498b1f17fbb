-- What the tests of an end's page give, whichever end it is of: every row keeps the laws of all rows and does what the documents ask of the
-- end; it is the only one that the papers leave; and what the laws mean of every call and event. Assumes nothing.
use Prim.Native.Nat.{◌+◌}
use mathlib.Core.Bool.{Bool, ◌||◌, false, not, true}
use mathlib.Core.List.{List, [], ◌∷◌}
use mathlib.Core.Path.{◌∙◌, ◌≡◌, ap, refl}
use Rattle.std.specs.Prelude.{None}
use Rattle.signal.specs.Numbers.{fresh_after}
use Rattle.events.specs.Events.{received_in}
use Rattle.events.specs.declared.Event.{Event}
use Rattle.rows.proofs.Every.{Each, case_in, each}
use Rattle.rows.proofs.Items.{items_hold}
use Rattle.rows.proofs.Lift.{row_kept}
use Rattle.rows.proofs.Same.{bool_same, not_so}
use Rattle.rows.proofs.Sent.{or_right}
use Rattle.rows.proofs.Unneeded.{either, fresh_either, room_is}
use Rattle.rows.proofs.Wanted.{obeys}
use Rattle.rows.specs.Cases.{Case, Happening, Standing, case_of, happening_of}
use Rattle.rows.specs.Checks.{Demands}
use Rattle.rows.specs.Effects.{carried_at, gives_new, is_next}
use Rattle.rows.specs.Every.{Occasion, conj, every_in, occasion_of}
use Rattle.rows.specs.Laws.{Wants, is_lawful, is_wanted, laws, may_give}
use Rattle.rows.specs.Meaning.{Agrees, Kept, Obeys}
use Rattle.rows.specs.Page.{DoneWherePrinted, EveryItemHolds, PapersAreMet, TheOnlyRow, case_with, done_by, is_as_printed, tabled}
use Rattle.rows.specs.Papers.{Papers, fixes}
use Rattle.rows.specs.Rules.{Rule, is_done}
use Rattle.rows.specs.States.{Phase}
use Rattle.rows.proofs.Items as items
use Rattle.rows.proofs.Unique as unique

-- the tests of a row: the laws of all rows; what the documents ask of the end; that a number is given only on a path found, by a setup, or
-- over an alternate path; that it says what the papers say elsewhere, and every item that speaks of the case holds there, or is departed
-- from; that it is done where Appendix C prints a state; and a test of the end's own
abbrev pub page_tests : Wants → Papers → (Phase → Happening → Bool) → (Rule → Bool) → Case → Rule → List Bool
page_tests w papers printed own c rule =
    is_lawful c rule
    ∷ is_wanted w c rule
    ∷ (may_give c.happening || not (gives_new rule))
    ∷ conj (fixes papers c rule)
    ∷ items_hold papers c rule
    ∷ is_as_printed printed c rule
    ∷ own rule
    ∷ []

-- an end's page, with what its documents ask for and what passes at every cell: a clause for each state and event, so that a refusal names
-- its cell
pub record Page : Type 0 where
  pub wants : Wants
  pub demands : Demands
  pub agrees : Agrees wants demands
  pub papers : Papers
  pub printed : Phase → Happening → Bool
  pub own : Rule → Bool
  pub page : Case → Rule
  pub cells : (phase : Phase) (on : Occasion) → every_in phase on (λ c. conj (page_tests wants papers printed own c (page c))) ≡ true

module _ (p : Page) where
  -- each test, at the case of a call and an event
  tests : (c : Case) → Each (page_tests p.wants p.papers p.printed p.own c (p.page c))
  tests c =
      each (page_tests p.wants p.papers p.printed p.own c (p.page c))
      (case_in (λ x. conj (page_tests p.wants p.papers p.printed p.own x (p.page x))) c (p.cells c.phase (occasion_of c.happening)))

  pub lawful : (c : Case) → is_lawful c (p.page c) ≡ true
  lawful c = (tests c).0

  pub gives_only_by : (c : Case) → may_give c.happening || not (gives_new (p.page c)) ≡ true
  gives_only_by c = (tests c).1.1.0

  pub owns : (c : Case) → p.own (p.page c) ≡ true
  owns c = (tests c).1.1.1.1.1.1.0

  pub kept : (x : Standing) (e : Event) → Kept p.demands.node x e (done_by p.demands.node p.page x e)
  kept x e = row_kept p.demands.node x e (p.page (case_of x e)) (lawful (case_of x e))

  pub obeyed : (x : Standing) (e : Event) → Obeys p.demands x e (done_by p.demands.node p.page x e)
  obeyed x e = obeys p.wants p.demands p.agrees x e (p.page (case_of x e)) (lawful (case_of x e)) (tests (case_of x e)).1.0

  pub papers_are_met : PapersAreMet p.papers p.page
  papers_are_met c = (tests c).1.1.1.0

  pub only : TheOnlyRow p.papers p.page
  only c rule said = unique.only p.papers c rule (p.page c) said (papers_are_met c)

  pub every_item_holds : EveryItemHolds p.papers p.page
  every_item_holds c before after item =
      record {
        held = λ stands done speaks. items.held p.papers c (p.page c) (tests c).1.1.1.1.0 done before after item stands speaks;
        departed = λ stands done speaks. items.departed p.papers c (p.page c) (tests c).1.1.1.1.0 done before after item stands speaks;
      }

  pub done_where_printed : DoneWherePrinted p.printed p.page
  done_where_printed phase happening =
      bool_same (is_done (p.page (tabled phase happening)).answer) (p.printed phase happening) (tests (tabled phase happening)).1.1.1.1.1.0

  -- ---- the next number, as the code has it
  module _ (x : Standing) (e : Event) where
    abbrev row : Rule
    row = p.page (case_of x e)

    abbrev by_law : Each (laws (case_of x e) row)
    by_law = each (laws (case_of x e) row) (lawful (case_of x e))

    -- an event that gives no number does the same whatever the next number is
    pub none_is : may_give (happening_of x.state x.remote e) ≡ false →
        carried_at p.demands.node x.state None (received_in e) row ≡ done_by p.demands.node p.page x e
    none_is never =
        either p.demands.node x.state 0 (x.last + 1) (received_in e) row
        (not_so (gives_new row)
        (or_right (may_give (happening_of x.state x.remote e)) (not (gives_new row)) never
        (gives_only_by (case_of x e))))
        by_law.1.1.1.1.0 by_law.1.1.1.1.1.0

    -- and one that may give one does so from the next number and whether there is one
    pub next_is : carried_at p.demands.node x.state (fresh_after x.last) (received_in e) (p.page (case_with x (is_next (fresh_after x.last)) e)) ≡ done_by p.demands.node p.page x e
    next_is =
        ap (λ room. carried_at p.demands.node x.state (fresh_after x.last) (received_in e) (p.page (case_with x room e))) (room_is x.last)
        ∙ fresh_either p.demands.node x.state x.last (received_in e) (case_of x e) row refl
        (lawful (case_of x e))
