-- The claims on one event, at the source. Assumes nothing.
use Prim.Native.Nat.{◌≤◌}
use native.Mathlib.Omega.{arith}
use mathlib.Core.Bool.{Bool, cond, false, not, true}
use mathlib.Core.List.{List, [], ◌∷◌}
use lib.ListN.{length}
use Rattle.signal.specs.Causes.{in_progress}
use Rattle.signal.specs.Numbers.{is_clearing}
use Rattle.signal.specs.declared.ReroutingCause.{ReroutingCause}
use Rattle.rows.specs.declared.State.{State}
use Rattle.rows.proofs.Page.{kept, obeyed}
use Rattle.source_rows.proofs.Lawful.{connected, source}
use Rattle.source_rows.specs.Demands.{is_busy}
use Rattle.call.specs.Events.{source_half}
use Rattle.call.specs.Record.{standing}
use Rattle.call.proofs.Setups.{newer_by, once_by}
use Rattle.call.specs.Claims as claim
use Rattle.call.proofs.Claims as any

-- rows 1 and 2, and then row 3 of a busy call
abbrev busy : State → List ReroutingCause
busy s = cond (is_busy s) (in_progress ∷ []) []

one_long : (b : Bool) → length (cond b (in_progress ∷ []) []) ≤ 1
one_long true = omega arith
one_long false = omega arith

pub lawful : claim.Lawful source_half
lawful =
    record {
      kept = kept source;
      obeyed = obeyed source;
      once = λ x code number. once_by x.remote number (not (is_clearing code)) (busy x.state) (one_long (is_busy x.state));
      newer = λ x code number. newer_by x.remote number (not (is_clearing code)) (busy x.state);
    }

pub claims : claim.EventClaims source_half
claims = any.claims source_half lawful

pub two_at_most : claim.TwoAtMost
two_at_most c e o r = omega (arith, claims.few_signals c e o r)

pub connect_stays_rerouting : claim.ConnectStaysRerouting
connect_stays_rerouting c e o r = rw (r, any.state_same source_half lawful c e) (connected (standing c) e)
