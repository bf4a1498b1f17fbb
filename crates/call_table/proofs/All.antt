-- The claims on the table (specs/Claims), of any half that keeps the laws. Assumes nothing.
use Rattle.call.specs.Claims.{Lawful}
use Rattle.call.specs.Events.{Half}
use Rattle.call_table.specs.Claims.{TableClaims}
use Rattle.call_table.proofs.Stored as stored
use Rattle.call_table.proofs.Claims as answers
use Rattle.call_table.proofs.Given as goal
use Rattle.call_table.proofs.Stopped as stopped
use Rattle.call_table.proofs.Kept as kept

pub claims : (half : Half) → Lawful half → TableClaims half
claims half lawful =
    record {
      refusals_change_nothing = answers.refusals_change_nothing half lawful;
      unfit_is_refused = answers.unfit_is_refused half lawful;
      fit_needs_no_check = answers.fit_needs_no_check half lawful;
      answers_in_order = answers.answers_in_order half lawful;
      given_exactly = goal.given_exactly half lawful;
      event_changes_its_call = stored.event_changes_its_call half;
      opening_takes_its_record = stored.opening_takes_its_record half;
      takes_lowest_empty = stored.takes_lowest_empty half;
      others_stay = answers.others_stay half lawful;
      enough_is_read = stopped.enough_is_read half;
      stays_fit = kept.stays_fit half lawful;
    }
