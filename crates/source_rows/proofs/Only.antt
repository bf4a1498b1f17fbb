-- The claims on a page (rows, specs/Page), of the source's. Assumes nothing.
use Rattle.rows.specs.Page.{DoneWherePrinted, EveryItemHolds, PapersAreMet, TheOnlyRow}
use Rattle.source_rows.proofs.Lawful.{source}
use Rattle.source_rows.specs.Claims.{is_printed}
use Rattle.source_rows.specs.Elsewhere.{source_papers}
use Rattle.source_rows.specs.Rows.{source_row}
use Rattle.rows.proofs.Page as any

pub only : TheOnlyRow source_papers source_row
only = any.only source

pub papers_are_met : PapersAreMet source_papers source_row
papers_are_met = any.papers_are_met source

pub every_item_holds : EveryItemHolds source_papers source_row
every_item_holds = any.every_item_holds source

pub done_where_printed : DoneWherePrinted is_printed source_row
done_where_printed = any.done_where_printed source
