-- The claims on a page (rows, specs/Page), of the destination's. Assumes nothing.
use Rattle.rows.specs.Page.{DoneWherePrinted, EveryItemHolds, PapersAreMet, TheOnlyRow}
use Rattle.destination_rows.proofs.Lawful.{destination}
use Rattle.destination_rows.specs.Elsewhere.{destination_papers, is_printed_at_destination}
use Rattle.destination_rows.specs.Rows.{destination_row}
use Rattle.rows.proofs.Page as any

pub only : TheOnlyRow destination_papers destination_row
only = any.only destination

pub papers_are_met : PapersAreMet destination_papers destination_row
papers_are_met = any.papers_are_met destination

pub every_item_holds : EveryItemHolds destination_papers destination_row
every_item_holds = any.every_item_holds destination

pub done_where_printed : DoneWherePrinted is_printed_at_destination destination_row
done_where_printed = any.done_where_printed destination
