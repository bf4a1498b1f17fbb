-- The theorem for any end: a row that passes the tests at the case of a call and an event keeps the laws on that call and event. Assumes nothing.
use Prim.Native.Nat.{◌+◌}
use mathlib.Core.Bool.{true}
use mathlib.Core.Path.{◌≡◌}
use Rattle.events.specs.Events.{received_in}
use Rattle.events.specs.declared.Event.{Event}
use Rattle.rows.proofs.Every.{Each, each}
use Rattle.events.specs.declared.Node.{Node}
use Rattle.rows.specs.Cases.{Standing, case_of}
use Rattle.rows.specs.Effects.{effect}
use Rattle.rows.specs.Laws.{is_lawful, laws}
use Rattle.rows.specs.Meaning.{Kept}
use Rattle.rows.specs.Rules.{Rule}
use Rattle.rows.proofs.Balance as balance
use Rattle.rows.proofs.Signals as signals

pub row_kept : (node : Node) (x : Standing) (e : Event) (rule : Rule) → is_lawful (case_of x e) rule ≡ true →
    Kept node x e (effect node x.state (x.last + 1) (received_in e) rule)
row_kept node x e rule p =
    let t : Each (laws (case_of x e) rule) = each (laws (case_of x e) rule) p in
    let fit = t.0 in
    let still = t.1.0 in
    let names = t.1.1.1.1.1.0 in
    record {
      quiet = balance.quiet node x e rule still;
      balanced = balance.balanced node x e rule fit still t.1.1.1.0;
      starts = signals.starts node x e rule fit t.1.1.0;
      stops = signals.stops node x e rule fit t.1.1.0;
      switched = signals.switched node x e rule fit t.1.1.1.1.0;
      incumbents = signals.incumbents node x e rule fit;
      reroutings = signals.reroutings node x e rule fit;
      connects = signals.connects node x e rule fit names;
      setups = signals.setups node x e rule fit names;
      four = signals.all_four node x e rule fit;
      ordered = signals.ordered node x e rule fit;
      blank = signals.blank node x e rule fit;
      honest = signals.honest node x e rule fit;
      told = signals.tells node x e rule fit still t.1.1.1.1.1.1.1.0;
      lives = signals.lives node x e rule fit;
      roomy = signals.roomy node x e rule fit t.1.1.1.1.1.1.0;
      given = signals.given node x e rule fit t.1.1.1.1.1.1.1.1.0 t.1.1.1.1.1.1.1.1.1.0;
    }
