-- Every row of the destination passes the tests of a page (rows, proofs/Page): it keeps the laws of all rows, does what the documents ask of
-- the destination, and says what the papers say elsewhere (specs/Elsewhere), which leave no other row. A clause for each state and event,
-- so that a refusal names its cell. Assumes nothing.
use mathlib.Core.Bool.{true}
use mathlib.Core.Path.{◌≡◌, refl}
use Rattle.rows.proofs.Page.{Page, page_tests}
use Rattle.rows.specs.Every.{Occasion, OnConnect, OnDomainRelease, OnExpiry, OnNoPath, OnPartyRelease, OnPathFound, OnReady, OnSetup}
use Rattle.rows.specs.Every.{OnTrigger, conj, every_in}
use Rattle.rows.specs.States.{AtAwaiting, AtHardUnderway, AtHardWaiting, AtIdle, AtNull, AtSoftInitiated, AtSoftProceeding}
use Rattle.rows.specs.States.{AtSoftTriggered, Phase}
use Rattle.destination_rows.proofs.Agree.{agrees}
use Rattle.destination_rows.specs.Demands.{destination_demands, destination_wants}
use Rattle.destination_rows.specs.Elsewhere.{destination_papers, is_printed_at_destination}
use Rattle.destination_rows.specs.Rows.{destination_row}

pub cells : (phase : Phase) (on : Occasion) →
    every_in phase on (λ c. conj (page_tests destination_wants destination_papers is_printed_at_destination (λ rule. true) c (destination_row c))) ≡ true
cells AtNull OnTrigger = refl
cells AtNull OnPathFound = refl
cells AtNull OnNoPath = refl
cells AtNull OnConnect = refl
cells AtNull OnSetup = refl
cells AtNull OnPartyRelease = refl
cells AtNull OnDomainRelease = refl
cells AtNull OnReady = refl
cells AtNull OnExpiry = refl
cells AtIdle OnTrigger = refl
cells AtIdle OnPathFound = refl
cells AtIdle OnNoPath = refl
cells AtIdle OnConnect = refl
cells AtIdle OnSetup = refl
cells AtIdle OnPartyRelease = refl
cells AtIdle OnDomainRelease = refl
cells AtIdle OnReady = refl
cells AtIdle OnExpiry = refl
cells AtHardWaiting OnTrigger = refl
cells AtHardWaiting OnPathFound = refl
cells AtHardWaiting OnNoPath = refl
cells AtHardWaiting OnConnect = refl
cells AtHardWaiting OnSetup = refl
cells AtHardWaiting OnPartyRelease = refl
cells AtHardWaiting OnDomainRelease = refl
cells AtHardWaiting OnReady = refl
cells AtHardWaiting OnExpiry = refl
cells AtHardUnderway OnTrigger = refl
cells AtHardUnderway OnPathFound = refl
cells AtHardUnderway OnNoPath = refl
cells AtHardUnderway OnConnect = refl
cells AtHardUnderway OnSetup = refl
cells AtHardUnderway OnPartyRelease = refl
cells AtHardUnderway OnDomainRelease = refl
cells AtHardUnderway OnReady = refl
cells AtHardUnderway OnExpiry = refl
cells AtSoftTriggered OnTrigger = refl
cells AtSoftTriggered OnPathFound = refl
cells AtSoftTriggered OnNoPath = refl
cells AtSoftTriggered OnConnect = refl
cells AtSoftTriggered OnSetup = refl
cells AtSoftTriggered OnPartyRelease = refl
cells AtSoftTriggered OnDomainRelease = refl
cells AtSoftTriggered OnReady = refl
cells AtSoftTriggered OnExpiry = refl
cells AtSoftProceeding OnTrigger = refl
cells AtSoftProceeding OnPathFound = refl
cells AtSoftProceeding OnNoPath = refl
cells AtSoftProceeding OnConnect = refl
cells AtSoftProceeding OnSetup = refl
cells AtSoftProceeding OnPartyRelease = refl
cells AtSoftProceeding OnDomainRelease = refl
cells AtSoftProceeding OnReady = refl
cells AtSoftProceeding OnExpiry = refl
cells AtSoftInitiated OnTrigger = refl
cells AtSoftInitiated OnPathFound = refl
cells AtSoftInitiated OnNoPath = refl
cells AtSoftInitiated OnConnect = refl
cells AtSoftInitiated OnSetup = refl
cells AtSoftInitiated OnPartyRelease = refl
cells AtSoftInitiated OnDomainRelease = refl
cells AtSoftInitiated OnReady = refl
cells AtSoftInitiated OnExpiry = refl
cells AtAwaiting OnTrigger = refl
cells AtAwaiting OnPathFound = refl
cells AtAwaiting OnNoPath = refl
cells AtAwaiting OnConnect = refl
cells AtAwaiting OnSetup = refl
cells AtAwaiting OnPartyRelease = refl
cells AtAwaiting OnDomainRelease = refl
cells AtAwaiting OnReady = refl
cells AtAwaiting OnExpiry = refl

-- the destination's page
abbrev pub destination : Page
destination =
    record {
      wants = destination_wants;
      demands = destination_demands;
      agrees = agrees;
      papers = destination_papers;
      printed = is_printed_at_destination;
      own = λ rule. true;
      page = destination_row;
      cells = cells;
    }
