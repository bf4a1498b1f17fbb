-- Every row of the source passes the tests of a page (rows, proofs/Page): it keeps the laws of all rows, does what the documents ask of the source, and
-- says what the papers say elsewhere (specs/Elsewhere), which leave no other row; and a connect leaves its connection the rerouting one. A
-- clause for each state and event, so that a refusal names its cell. Assumes nothing.
use Prim.Native.Nat.{◌+◌, ℕ}
use mathlib.Core.Bool.{Bool, ◌&&◌, false, false≢true, not, true, true≢false}
use mathlib.Core.List.{[]}
use mathlib.Core.Path.{◌∙◌, ◌≡◌, ap, refl}
use Rattle.signal.specs.Counting.{named, of_kind}
use Rattle.signal.specs.declared.Kind.TheVariants.{ConnectRequest}
use Rattle.events.specs.Events.{received_in}
use Rattle.events.specs.declared.Event.{Event}
use Rattle.events.specs.declared.Node.TheVariants.{Source}
use Rattle.rows.proofs.Every.{Each, each, left, right}
use Rattle.rows.proofs.Same.{slot_same}
use Rattle.rows.proofs.Sent.{or_right}
use Rattle.rows.proofs.Signals.{connects_in}
use Rattle.rows.specs.Cases.{Standing, case_of}
use Rattle.rows.specs.Checks.{AllAre}
use Rattle.rows.specs.Effects.{closing_sent, value}
use Rattle.rows.specs.Every.{Occasion, OnConnect, OnDomainRelease, OnExpiry, OnNoPath, OnPartyRelease, OnPathFound, OnReady, OnSetup}
use Rattle.rows.specs.Every.{OnTrigger, conj, every_in}
use Rattle.rows.specs.Laws.{laws, same_slot}
use Rattle.rows.specs.Rules.{Closing, NoClosing, OldRerouting, Rejects, Rule, SendsConnect, SendsSetup}
use Rattle.rows.specs.States.{AtAwaiting, AtHardUnderway, AtHardWaiting, AtIdle, AtNull, AtSoftInitiated, AtSoftProceeding}
use Rattle.rows.specs.States.{AtSoftTriggered, Phase, built, holds_rerouting, rerouting_of}
use Rattle.rows.proofs.Page.{Page, page_tests}
use Rattle.rows.proofs.Page as any
use Rattle.source_rows.specs.Claims.{is_printed}
use Rattle.source_rows.specs.Elsewhere.{source_papers}
use Rattle.source_rows.proofs.Agree.{agrees}
use Rattle.source_rows.specs.Demands.{sends_connect, source_demands, source_wants, stays_rerouting}
use Rattle.source_rows.specs.Rows.{source_effect, source_row}

pub cells : (phase : Phase) (on : Occasion) → every_in phase on (λ c. conj (page_tests source_wants source_papers is_printed stays_rerouting c (source_row c))) ≡ true
cells AtNull OnTrigger = refl
cells AtNull OnPathFound = refl
cells AtNull OnNoPath = refl
cells AtNull OnConnect = refl
cells AtNull OnSetup = refl
cells AtNull OnPartyRelease = refl
cells AtNull OnDomainRelease = refl
cells AtNull OnReady = refl
cells AtNull OnExpiry = refl
cells AtIdle OnTrigger = refl
cells AtIdle OnPathFound = refl
cells AtIdle OnNoPath = refl
cells AtIdle OnConnect = refl
cells AtIdle OnSetup = refl
cells AtIdle OnPartyRelease = refl
cells AtIdle OnDomainRelease = refl
cells AtIdle OnReady = refl
cells AtIdle OnExpiry = refl
cells AtHardWaiting OnTrigger = refl
cells AtHardWaiting OnPathFound = refl
cells AtHardWaiting OnNoPath = refl
cells AtHardWaiting OnConnect = refl
cells AtHardWaiting OnSetup = refl
cells AtHardWaiting OnPartyRelease = refl
cells AtHardWaiting OnDomainRelease = refl
cells AtHardWaiting OnReady = refl
cells AtHardWaiting OnExpiry = refl
cells AtHardUnderway OnTrigger = refl
cells AtHardUnderway OnPathFound = refl
cells AtHardUnderway OnNoPath = refl
cells AtHardUnderway OnConnect = refl
cells AtHardUnderway OnSetup = refl
cells AtHardUnderway OnPartyRelease = refl
cells AtHardUnderway OnDomainRelease = refl
cells AtHardUnderway OnReady = refl
cells AtHardUnderway OnExpiry = refl
cells AtSoftTriggered OnTrigger = refl
cells AtSoftTriggered OnPathFound = refl
cells AtSoftTriggered OnNoPath = refl
cells AtSoftTriggered OnConnect = refl
cells AtSoftTriggered OnSetup = refl
cells AtSoftTriggered OnPartyRelease = refl
cells AtSoftTriggered OnDomainRelease = refl
cells AtSoftTriggered OnReady = refl
cells AtSoftTriggered OnExpiry = refl
cells AtSoftProceeding OnTrigger = refl
cells AtSoftProceeding OnPathFound = refl
cells AtSoftProceeding OnNoPath = refl
cells AtSoftProceeding OnConnect = refl
cells AtSoftProceeding OnSetup = refl
cells AtSoftProceeding OnPartyRelease = refl
cells AtSoftProceeding OnDomainRelease = refl
cells AtSoftProceeding OnReady = refl
cells AtSoftProceeding OnExpiry = refl
cells AtSoftInitiated OnTrigger = refl
cells AtSoftInitiated OnPathFound = refl
cells AtSoftInitiated OnNoPath = refl
cells AtSoftInitiated OnConnect = refl
cells AtSoftInitiated OnSetup = refl
cells AtSoftInitiated OnPartyRelease = refl
cells AtSoftInitiated OnDomainRelease = refl
cells AtSoftInitiated OnReady = refl
cells AtSoftInitiated OnExpiry = refl
cells AtAwaiting OnTrigger = refl
cells AtAwaiting OnPathFound = refl
cells AtAwaiting OnNoPath = refl
cells AtAwaiting OnConnect = refl
cells AtAwaiting OnSetup = refl
cells AtAwaiting OnPartyRelease = refl
cells AtAwaiting OnDomainRelease = refl
cells AtAwaiting OnReady = refl
cells AtAwaiting OnExpiry = refl

-- the source's page
abbrev pub source : Page
source =
    record {
      wants = source_wants;
      demands = source_demands;
      agrees = agrees;
      papers = source_papers;
      printed = is_printed;
      own = stays_rerouting;
      page = source_row;
      cells = cells;
    }

-- a connect names the rerouting connection as held after, too
rerouting_built : (phase : Phase) (i r : ℕ) → holds_rerouting phase ≡ true → rerouting_of (built phase i r) ≡ r
rerouting_built AtNull i r h = absurd (false≢true h)
rerouting_built AtIdle i r h = absurd (false≢true h)
rerouting_built AtHardWaiting i r h = absurd (false≢true h)
rerouting_built AtHardUnderway i r h = refl
rerouting_built AtSoftTriggered i r h = absurd (false≢true h)
rerouting_built AtSoftProceeding i r h = refl
rerouting_built AtSoftInitiated i r h = refl
rerouting_built AtAwaiting i r h = refl

pub connected : (x : Standing) (e : Event) →
    AllAre (rerouting_of (source_effect x e).state) (named (of_kind ConnectRequest (source_effect x e).signals))
connected x e = by (sends_connect row.closing) refl
  where
    row : Rule
    row = source_row (case_of x e)

    lawful_row : Each (laws (case_of x e) row)
    lawful_row = each (laws (case_of x e) row) (any.lawful source (case_of x e))

    own : stays_rerouting row ≡ true
    own = any.owns source (case_of x e)

    none_sent : (y : Closing) → sends_connect y ≡ false → of_kind ConnectRequest (closing_sent x.state (x.last + 1) (received_in e) y) ≡ []
    none_sent NoClosing p = refl
    none_sent (SendsSetup slot) p = refl
    none_sent (SendsConnect slot) p = absurd (true≢false p)
    none_sent (Rejects say code) p = refl

    by : (b : Bool) → sends_connect row.closing ≡ b →
        AllAre (rerouting_of (source_effect x e).state) (named (of_kind ConnectRequest (source_effect x e).signals))
    by true p =
        let q : holds_rerouting row.phase && same_slot row.rerouting OldRerouting ≡ true = or_right (not (sends_connect row.closing)) _ (simp p) own in
        let same : rerouting_of (source_effect x e).state ≡ rerouting_of x.state =
        rerouting_built row.phase (value x.state (x.last + 1) row.incumbent) (value x.state (x.last + 1) row.rerouting) (left (holds_rerouting row.phase) _ q)
        ∙ ap (value x.state (x.last + 1)) (slot_same row.rerouting OldRerouting (right (holds_rerouting row.phase) _ q)) in
        rw same (any.kept source x e).connects
    by false p =
        rw (connects_in Source x e row lawful_row.0, none_sent row.closing p) tt
