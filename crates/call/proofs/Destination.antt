-- The claims on one event, at the destination. Assumes nothing.
use native.Mathlib.Omega.{arith}
use mathlib.Core.Bool.{◌&&◌, not}
use mathlib.Core.List.{[], ◌∷◌}
use mathlib.Core.Path.{◌∙◌, ap, sym}
use Rattle.signal.specs.Numbers.{is_late}
use Rattle.rows.proofs.Page.{kept, obeyed}
use Rattle.rows.specs.States.{is_hard}
use Rattle.destination_rows.proofs.Lawful.{destination}
use Rattle.destination_rows.specs.Demands.{destination_demands, is_unrecognized}
use Rattle.call.specs.Events.{destination_half}
use Rattle.call.specs.Record.{standing}
use Rattle.call.proofs.Setups.{never_in_progress, newer_by, not_in_progress, once_by}
use Rattle.call.specs.Claims as claim
use Rattle.call.proofs.Claims as any

pub lawful : claim.Lawful destination_half
lawful =
    record {
      kept = kept destination;
      obeyed = obeyed destination;
      once = λ x code number. once_by x.remote number (is_unrecognized code && not (is_hard x.state)) [] (omega arith);
      newer = λ x code number. newer_by x.remote number (is_unrecognized code && not (is_hard x.state)) [];
    }

pub claims : claim.EventClaims destination_half
claims = any.claims destination_half lawful

pub none_rejected_with_6 : claim.NoneRejectedWith6
none_rejected_with_6 c e o r rejected =
    never_in_progress destination_demands (standing c) (λ code number. not_in_progress (is_unrecognized code && not (is_hard c.state)) (is_late number c.remote)) e
    (sym (claims.rejected_by_first_row c e o r) ∙ rejected)

pub every_rejected_leaves_record : claim.EveryRejectedLeavesRecord
every_rejected_leaves_record c e o r s wanted =
    claims.rejected_setup_leaves_record c e o r s wanted
    (λ six. none_rejected_with_6 c e o r (claims.rejected_by_first_row c e o r ∙ (wanted ∙ ap (λ t. t ∷ []) six)))

pub three_at_most : claim.ThreeAtMost
three_at_most c e o r = omega (arith, claims.few_signals c e o r)
