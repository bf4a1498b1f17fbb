-- What the code of a row returns, carried out on a record, is what the event does there (specs/Events): of an end's page, once for all
-- events of both ends. Assumes nothing.
use mathlib.Core.Bool.{false}
use mathlib.Core.Path.{◌≡◌, ap}
use Rattle.std.specs.Prelude.{None}
use Rattle.signal.specs.Numbers.{fresh_after}
use Rattle.events.specs.Events.{number_brought, received_in}
use Rattle.events.specs.declared.Event.{Event}
use Rattle.rows.proofs.Page.{Page, next_is, none_is}
use Rattle.rows.specs.Cases.{case_of, happening_of}
use Rattle.rows.specs.Effects.{carried_at, is_next}
use Rattle.rows.specs.Laws.{may_give}
use Rattle.rows.specs.Page.{case_with, done_by}
use Rattle.call.specs.Events.{Half, handled_at}
use Rattle.call.specs.Record.{carried_out, standing}
use Rattle.call.specs.declared.Call.{Call}

abbrev half_by : Page → Half
half_by p = record { demands = p.demands; does = done_by p.demands.node p.page }

module _ (p : Page) (c : Call) (e : Event) where
  -- an event that gives no number
  pub quiet_is : may_give (happening_of c.state c.remote e) ≡ false →
      carried_out c (number_brought e) (carried_at p.demands.node c.state None (received_in e) (p.page (case_of (standing c) e))) ≡ handled_at (half_by p) c e
  quiet_is never = ap (carried_out c (number_brought e)) (none_is p (standing c) e never)

  -- and one that may give the next
  pub fresh_is : carried_out c (number_brought e) (carried_at p.demands.node c.state (fresh_after c.last) (received_in e) (p.page (case_with (standing c) (is_next (fresh_after c.last)) e))) ≡ handled_at (half_by p) c e
  fresh_is = ap (carried_out c (number_brought e)) (next_is p (standing c) e)
