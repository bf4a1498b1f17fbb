-- Two wrong answers of each public function of call. Each theorem speaks of the function's contract as the
-- prover makes it from the source: that its `ensures` holds of the wrong answer, with any value where a variable stands,
-- is false. Assumes nothing.
use Prim.Native.Nat.{ℕ}
use native.Mathlib.Omega.{arith}
use mathlib.Core.Bool.{Bool, false, true}
use mathlib.Core.Path.{◌≡◌, ◌∙◌, ap, sym}
use lib.ListN.{get_or}
use seplogic.Ra.Ura.{Ura}
use base.Logic.{SProp, ent}
use contract.Monad.{Fun, fact, fact_mono}
use types.Logic.{Logic}
use prog.Memory.{Memory}
use prog.Routine.{Routine}
use Rattle.std.specs.Prelude.{Option, None}
use Rattle.call.specs.declared.Call.{Call}
use Rattle.call.specs.declared.Outcome.{Outcome}
use Rattle.events.specs.declared.Event.TheVariants.{Connect, FromParty, PathFound, Setup}
use Rattle.events.specs.declared.Event.{Event}
use Rattle.events.specs.declared.Node.TheVariants.{Destination, Source}
use Rattle.events.specs.declared.Node.{Node}
use Rattle.rows.specs.States.{incumbent_of, rerouting_of, state_number}
use Rattle.rows.specs.declared.State.TheVariants.{Awaiting, HardUnderway, HardWaiting, Idle, SoftInitiated, SoftProceeding, SoftTriggered}
use Rattle.rows.specs.declared.State.{State}
use Rattle.signal.specs.Causes.{cause}
use Rattle.signal.specs.Counting.{kind_number}
use Rattle.signal.specs.Numbers.{answer_number}
use Rattle.signal.specs.Signals.{none}
use Rattle.signal.specs.declared.Crankback.TheVariants.{AlternateFound, NoCrankback}
use Rattle.signal.specs.declared.Crankback.{Crankback}
use Rattle.signal.specs.declared.ReroutingCause.{ReroutingCause}
use Rattle.signal.specs.declared.Services.{Services}
use Rattle.signal.specs.declared.SentCause.TheVariants.{Numbered}
use Rattle.signal.specs.declared.SentCause.{SentCause}
use Rattle.signal.specs.declared.Soft.TheVariants.{Symmetric}
use Rattle.signal.specs.declared.Switchover.{Switchover}
use Rattle.call.specs.contracts.Call.opened as Call-opened
use Rattle.call.specs.contracts.Call.trigger as Call-trigger
use Rattle.call.specs.contracts.Call.path_found as Call-path_found
use Rattle.call.specs.contracts.Call.no_path as Call-no_path
use Rattle.call.specs.contracts.Call.connect as Call-connect
use Rattle.call.specs.contracts.Call.setup as Call-setup
use Rattle.call.specs.contracts.Call.ready as Call-ready
use Rattle.call.specs.contracts.Call.expiry as Call-expiry
use Rattle.call.specs.contracts.Call.calling_release as Call-calling_release
use Rattle.call.specs.contracts.Call.called_release as Call-called_release
use Rattle.call.specs.contracts.Call.at_source as Call-at_source
use Rattle.call.specs.contracts.Call.destination_trigger as Call-destination_trigger
use Rattle.call.specs.contracts.Call.destination_path_found as Call-destination_path_found
use Rattle.call.specs.contracts.Call.destination_no_path as Call-destination_no_path
use Rattle.call.specs.contracts.Call.destination_connect as Call-destination_connect
use Rattle.call.specs.contracts.Call.destination_setup as Call-destination_setup
use Rattle.call.specs.contracts.Call.destination_ready as Call-destination_ready
use Rattle.call.specs.contracts.Call.destination_expiry as Call-destination_expiry
use Rattle.call.specs.contracts.Call.destination_called_release as Call-destination_called_release
use Rattle.call.specs.contracts.Call.destination_calling_release as Call-destination_calling_release
use Rattle.call.specs.contracts.Call.at_destination as Call-at_destination
use Rattle.call.specs.contracts.Call.handle as Call-handle

-- a call by key 7 in a state, with last number 5 and number 3 on record
abbrev standing : State → Call
standing s = record { key = 7; hard = true; soft = Symmetric; state = s; last = 5; remote = 3 }

module _ {M : Type 1} {𝓤 : Ura M} (𝓛 : Logic 𝓤) (memory : Memory → SProp 𝓤) (run : Routine → Fun 𝓤) where
  -- it is false: the logic proves falsity from it
  abbrev NeverHolds : SProp 𝓤 → Type 1
  NeverHolds says = ent 𝓤 says (fact 𝓤 ⊥)

  -- opened: of a key and the services, what comes of an opening
  abbrev opened_shuts_out : ℕ → Option Services → Outcome → Type 1
  opened_shuts_out key wanted r =
      NeverHolds ((Call-opened.clauses 𝓛 memory run tt (key, (wanted, tt))).ensures tt r (key, (wanted, tt)))

  -- the incumbent takes number 1, and 1 is the last (01, "The table and its records"; B1)
  pub opening_gives_two_numbers : (r : Outcome) → r.call.last ≡ 2 → opened_shuts_out 7 None r
  opening_gives_two_numbers r w =
      fact_mono 𝓤 _ _ (λ h. let z : ◌≡◌ {A = ℕ} _ 2 = sym (ap (λ (r : Outcome). r.call.last) h) ∙ w in omega arith)

  pub opening_forgets_the_key : (r : Outcome) → r.call.key ≡ 0 → opened_shuts_out 7 None r
  opening_forgets_the_key r w =
      fact_mono 𝓤 _ _ (λ h. let z : ◌≡◌ {A = ℕ} _ 0 = sym (ap (λ (r : Outcome). r.call.key) h) ∙ w in omega arith)

  -- trigger: of a call, what comes of a soft trigger
  abbrev trigger_shuts_out : Call → Outcome → Type 1
  trigger_shuts_out c r = NeverHolds ((Call-trigger.clauses 𝓛 memory run tt (c, tt)).ensures tt r (c, tt))

  -- Idle moves to Soft Triggered (01, "Soft trigger")
  pub trigger_leaves_idle : (r : Outcome) → state_number r.call.state ≡ 1 → trigger_shuts_out (standing (Idle 3)) r
  trigger_leaves_idle r w =
      fact_mono 𝓤 _ _ (λ h. let z : ◌≡◌ {A = ℕ} _ 1 = sym (ap (λ (r : Outcome). state_number r.call.state) h) ∙ w in omega arith)

  -- in Awaiting a trigger is disregarded
  pub trigger_ends_awaiting : (r : Outcome) → state_number r.call.state ≡ 0 → trigger_shuts_out (standing (Awaiting 3 5)) r
  trigger_ends_awaiting r w =
      fact_mono 𝓤 _ _ (λ h. let z : ◌≡◌ {A = ℕ} _ 0 = sym (ap (λ (r : Outcome). state_number r.call.state) h) ∙ w in omega arith)

  -- path_found: of a call, what comes of a path
  abbrev path_found_shuts_out : Call → Outcome → Type 1
  path_found_shuts_out c r = NeverHolds ((Call-path_found.clauses 𝓛 memory run tt (c, tt)).ensures tt r (c, tt))

  -- a later connection takes the last number plus 1
  pub path_numbers_from_the_start : (r : Outcome) → rerouting_of r.call.state ≡ 1 → path_found_shuts_out (standing HardWaiting) r
  path_numbers_from_the_start r w =
      fact_mono 𝓤 _ _ (λ h. let z : ◌≡◌ {A = ℕ} _ 1 = sym (ap (λ (r : Outcome). rerouting_of r.call.state) h) ∙ w in omega arith)

  -- which is the last then
  pub path_forgets_the_last_number : (r : Outcome) → r.call.last ≡ 5 → path_found_shuts_out (standing HardWaiting) r
  path_forgets_the_last_number r w =
      fact_mono 𝓤 _ _ (λ h. let z : ◌≡◌ {A = ℕ} _ 5 = sym (ap (λ (r : Outcome). r.call.last) h) ∙ w in omega arith)

  -- no_path: of a call, what comes of no path
  abbrev no_path_shuts_out : Call → Outcome → Type 1
  no_path_shuts_out c r = NeverHolds ((Call-no_path.clauses 𝓛 memory run tt (c, tt)).ensures tt r (c, tt))

  -- the call's own state decides, not Null
  pub no_path_looks_at_null : (r : Outcome) → answer_number r.answer ≡ 106 → no_path_shuts_out (standing (SoftTriggered 3)) r
  no_path_looks_at_null r w =
      fact_mono 𝓤 _ _ (λ h. let z : ◌≡◌ {A = ℕ} _ 106 = sym (ap (λ (r : Outcome). answer_number r.answer) h) ∙ w in omega arith)

  -- Soft Triggered goes back to Idle (01, "No path")
  pub no_path_stays : (r : Outcome) → state_number r.call.state ≡ 4 → no_path_shuts_out (standing (SoftTriggered 3)) r
  no_path_stays r w =
      fact_mono 𝓤 _ _ (λ h. let z : ◌≡◌ {A = ℕ} _ 4 = sym (ap (λ (r : Outcome). state_number r.call.state) h) ∙ w in omega arith)

  -- connect: of a call, a connection and the policy, what comes of a connect
  abbrev connect_shuts_out : Call → ℕ → Bool → Outcome → Type 1
  connect_shuts_out c connection agreed r =
      NeverHolds ((Call-connect.clauses 𝓛 memory run tt (c, (connection, (agreed, tt)))).ensures tt r (c, (connection, (agreed, tt))))

  -- where policy says no the incumbent stays (01, "Connect"; 6.2.6.2)
  pub policy_not_read : (r : Outcome) → incumbent_of r.call.state ≡ 5 → connect_shuts_out (standing (SoftProceeding 3 5)) 5 false r
  policy_not_read r w =
      fact_mono 𝓤 _ _ (λ h. let z : ◌≡◌ {A = ℕ} _ 5 = sym (ap (λ (r : Outcome). incumbent_of r.call.state) h) ∙ w in omega arith)

  -- a connection that is not the rerouting one is 107
  pub connect_for_any_connection :
      (r : Outcome) → answer_number r.answer ≡ 0 →
      connect_shuts_out (standing (SoftProceeding 3 5)) 4 true r
  connect_for_any_connection r w =
      fact_mono 𝓤 _ _ (λ h. let z : ◌≡◌ {A = ℕ} _ 0 = sym (ap (λ (r : Outcome). answer_number r.answer) h) ∙ w in omega arith)

  -- setup: of a call, a switchover code and a number, what comes of a setup
  abbrev setup_shuts_out : Call → Switchover → ℕ → Outcome → Type 1
  setup_shuts_out c code number r =
      NeverHolds ((Call-setup.clauses 𝓛 memory run tt (c, (code, (number, tt)))).ensures tt r (c, (code, (number, tt))))

  -- the number on record again is old, and rejected, which is done (01, "Faults seen on shelves"; B4)
  pub late_setup_is_refused :
      (r : Outcome) → answer_number r.answer ≡ 108 →
      setup_shuts_out (standing (Idle 3)) (record { code = 1 }) 3 r
  late_setup_is_refused r w =
      fact_mono 𝓤 _ _ (λ h. let z : ◌≡◌ {A = ℕ} _ 108 = sym (ap (λ (r : Outcome). answer_number r.answer) h) ∙ w in omega arith)

  -- and is not taken, as it would be if it were measured against 0
  pub setup_measured_against_0 :
      (r : Outcome) → state_number r.call.state ≡ 6 →
      setup_shuts_out (standing (Idle 3)) (record { code = 1 }) 3 r
  setup_measured_against_0 r w =
      fact_mono 𝓤 _ _ (λ h. let z : ◌≡◌ {A = ℕ} _ 6 = sym (ap (λ (r : Outcome). state_number r.call.state) h) ∙ w in omega arith)

  -- a setup rejected for its code leaves the record as it was, its number too (01, "Faults seen on shelves"; B5)
  pub rejected_setup_is_stored : (r : Outcome) → r.call.remote ≡ 9 → setup_shuts_out (standing (Idle 3)) (record { code = 0 }) 9 r
  rejected_setup_is_stored r w =
      fact_mono 𝓤 _ _ (λ h. let z : ◌≡◌ {A = ℕ} _ 9 = sym (ap (λ (r : Outcome). r.call.remote) h) ∙ w in omega arith)

  -- one rejected for work in progress stores its number all the same (02, Ask 3; B12)
  pub setup_in_progress_is_forgotten :
      (r : Outcome) → r.call.remote ≡ 3 →
      setup_shuts_out (standing (SoftProceeding 3 5)) (record { code = 1 }) 9 r
  setup_in_progress_is_forgotten r w =
      fact_mono 𝓤 _ _ (λ h. let z : ◌≡◌ {A = ℕ} _ 3 = sym (ap (λ (r : Outcome). r.call.remote) h) ∙ w in omega arith)

  -- ready: of a call, what comes of "ready"
  abbrev ready_shuts_out : Call → Outcome → Type 1
  ready_shuts_out c r = NeverHolds ((Call-ready.clauses 𝓛 memory run tt (c, tt)).ensures tt r (c, tt))

  -- the call's own state decides, not Null
  pub ready_looks_at_null : (r : Outcome) → answer_number r.answer ≡ 106 → ready_shuts_out (standing (SoftInitiated 3 5)) r
  ready_looks_at_null r w =
      fact_mono 𝓤 _ _ (λ h. let z : ◌≡◌ {A = ℕ} _ 106 = sym (ap (λ (r : Outcome). answer_number r.answer) h) ∙ w in omega arith)

  -- the call awaits switchover (01, "Ready"; B3)
  pub ready_stays : (r : Outcome) → state_number r.call.state ≡ 6 → ready_shuts_out (standing (SoftInitiated 3 5)) r
  ready_stays r w =
      fact_mono 𝓤 _ _ (λ h. let z : ◌≡◌ {A = ℕ} _ 6 = sym (ap (λ (r : Outcome). state_number r.call.state) h) ∙ w in omega arith)

  -- expiry: of a call, what comes of expiry
  abbrev expiry_shuts_out : Call → Outcome → Type 1
  expiry_shuts_out c r = NeverHolds ((Call-expiry.clauses 𝓛 memory run tt (c, tt)).ensures tt r (c, tt))

  -- the call's own state decides, not Null
  pub expiry_looks_at_null : (r : Outcome) → answer_number r.answer ≡ 106 → expiry_shuts_out (standing HardWaiting) r
  expiry_looks_at_null r w =
      fact_mono 𝓤 _ _ (λ h. let z : ◌≡◌ {A = ℕ} _ 106 = sym (ap (λ (r : Outcome). answer_number r.answer) h) ∙ w in omega arith)

  -- a call that ends is emptied
  pub expiry_keeps_the_record : (r : Outcome) → r.call.key ≡ 7 → expiry_shuts_out (standing HardWaiting) r
  expiry_keeps_the_record r w =
      fact_mono 𝓤 _ _ (λ h. let z : ◌≡◌ {A = ℕ} _ 7 = sym (ap (λ (r : Outcome). r.call.key) h) ∙ w in omega arith)

  -- calling_release: of a call and a cause, what comes of a release from the calling side
  abbrev calling_release_shuts_out : Call → Option ReroutingCause → Outcome → Type 1
  calling_release_shuts_out c cause r =
      NeverHolds ((Call-calling_release.clauses 𝓛 memory run tt (c, (cause, tt))).ensures tt r (c, (cause, tt)))

  -- a call that ends is emptied
  pub calling_release_keeps_the_record : (r : Outcome) → r.call.key ≡ 7 → calling_release_shuts_out (standing (Idle 3)) None r
  calling_release_keeps_the_record r w =
      fact_mono 𝓤 _ _ (λ h. let z : ◌≡◌ {A = ℕ} _ 7 = sym (ap (λ (r : Outcome). r.call.key) h) ∙ w in omega arith)

  -- the release goes on (01, "Release from the calling side")
  pub calling_release_sends_nothing :
      (r : Outcome) → kind_number (get_or r.signals 0 none).kind ≡ 0 →
      calling_release_shuts_out (standing (Idle 3)) None r
  calling_release_sends_nothing r w =
      fact_mono 𝓤 _ _ (λ h.
      let z : ◌≡◌ {A = ℕ} _ 0 = sym (ap (λ (r : Outcome). kind_number (get_or r.signals 0 none).kind) h) ∙ w in
      omega arith)

  -- called_release: of a call, a connection, a cause and a crankback, what comes of a release from the called side
  abbrev called_release_shuts_out : Call → ℕ → Option ReroutingCause → Crankback → Outcome → Type 1
  called_release_shuts_out c connection cause back r =
      NeverHolds ((Call-called_release.clauses 𝓛 memory run tt (c, (connection, (cause, (back, tt))))
      ).ensures tt r (c, (connection, (cause, (back, tt)))))

  -- an alternate that was found takes a number (01, Soft Proceeding, rerouting)
  pub called_release_forgets_crankback :
      (r : Outcome) → r.call.last ≡ 5 →
      called_release_shuts_out (standing (SoftProceeding 3 5)) 5 None AlternateFound r
  called_release_forgets_crankback r w =
      fact_mono 𝓤 _ _ (λ h. let z : ◌≡◌ {A = ℕ} _ 5 = sym (ap (λ (r : Outcome). r.call.last) h) ∙ w in omega arith)

  -- with hard on the call is rerouted (01, D17)
  pub called_release_takes_hard_for_off :
      (r : Outcome) → state_number r.call.state ≡ 0 →
      called_release_shuts_out (standing (Idle 3)) 3 None NoCrankback r
  called_release_takes_hard_for_off r w =
      fact_mono 𝓤 _ _ (λ h. let z : ◌≡◌ {A = ℕ} _ 0 = sym (ap (λ (r : Outcome). state_number r.call.state) h) ∙ w in omega arith)

  -- at_source: of a call and an event, what comes of it at the source
  abbrev at_source_shuts_out : Call → Event → Outcome → Type 1
  at_source_shuts_out c event r = NeverHolds ((Call-at_source.clauses 𝓛 memory run tt (c, (event, tt))).ensures tt r (c, (event, tt)))

  -- another switchover than "clearing" is rejected (01, "Setup" row 1)
  pub source_takes_a_hard_setup :
      (r : Outcome) → state_number r.call.state ≡ 3 →
      at_source_shuts_out (standing (Idle 3)) (Setup (record { code = 0 }) 4) r
  source_takes_a_hard_setup r w =
      fact_mono 𝓤 _ _ (λ h. let z : ◌≡◌ {A = ℕ} _ 3 = sym (ap (λ (r : Outcome). state_number r.call.state) h) ∙ w in omega arith)

  -- a setup goes out (01, "Path found")
  pub path_found_taken_for_no_path :
      (r : Outcome) → state_number r.call.state ≡ 2 →
      at_source_shuts_out (standing HardWaiting) PathFound r
  path_found_taken_for_no_path r w =
      fact_mono 𝓤 _ _ (λ h. let z : ◌≡◌ {A = ℕ} _ 2 = sym (ap (λ (r : Outcome). state_number r.call.state) h) ∙ w in omega arith)

  -- destination_trigger: of a call, what comes of a soft trigger at the destination
  abbrev destination_trigger_shuts_out : Call → Outcome → Type 1
  destination_trigger_shuts_out c r = NeverHolds ((Call-destination_trigger.clauses 𝓛 memory run tt (c, tt)).ensures tt r (c, tt))

  -- Idle moves to Soft Triggered (6.3.6.1 case 1; decision 59)
  pub destination_trigger_leaves_idle :
      (r : Outcome) → state_number r.call.state ≡ 1 →
      destination_trigger_shuts_out (standing (Idle 3)) r
  destination_trigger_leaves_idle r w =
      fact_mono 𝓤 _ _ (λ h. let z : ◌≡◌ {A = ℕ} _ 1 = sym (ap (λ (r : Outcome). state_number r.call.state) h) ∙ w in omega arith)

  -- in Awaiting a trigger is disregarded (6.3.6.1 case 2)
  pub destination_trigger_ends_awaiting :
      (r : Outcome) → state_number r.call.state ≡ 0 →
      destination_trigger_shuts_out (standing (Awaiting 3 5)) r
  destination_trigger_ends_awaiting r w =
      fact_mono 𝓤 _ _ (λ h. let z : ◌≡◌ {A = ℕ} _ 0 = sym (ap (λ (r : Outcome). state_number r.call.state) h) ∙ w in omega arith)

  -- destination_path_found: of a call, what comes of a path
  abbrev destination_path_found_shuts_out : Call → Outcome → Type 1
  destination_path_found_shuts_out c r = NeverHolds ((Call-destination_path_found.clauses 𝓛 memory run tt (c, tt)).ensures tt r (c, tt))

  -- a later connection takes the last number plus 1 (01, "The table and its records"; 6.3.6.1 case 1)
  pub destination_path_numbers_from_the_start :
      (r : Outcome) → rerouting_of r.call.state ≡ 1 →
      destination_path_found_shuts_out (standing (SoftTriggered 3)) r
  destination_path_numbers_from_the_start r w =
      fact_mono 𝓤 _ _ (λ h. let z : ◌≡◌ {A = ℕ} _ 1 = sym (ap (λ (r : Outcome). rerouting_of r.call.state) h) ∙ w in omega arith)

  -- which is the last then
  pub destination_path_forgets_the_last_number :
      (r : Outcome) → r.call.last ≡ 5 →
      destination_path_found_shuts_out (standing (SoftTriggered 3)) r
  destination_path_forgets_the_last_number r w =
      fact_mono 𝓤 _ _ (λ h. let z : ◌≡◌ {A = ℕ} _ 5 = sym (ap (λ (r : Outcome). r.call.last) h) ∙ w in omega arith)

  -- destination_no_path: of a call, what comes of no path
  abbrev destination_no_path_shuts_out : Call → Outcome → Type 1
  destination_no_path_shuts_out c r = NeverHolds ((Call-destination_no_path.clauses 𝓛 memory run tt (c, tt)).ensures tt r (c, tt))

  -- the call's own state decides, not Null
  pub destination_no_path_looks_at_null :
      (r : Outcome) → answer_number r.answer ≡ 106 →
      destination_no_path_shuts_out (standing (SoftTriggered 3)) r
  destination_no_path_looks_at_null r w =
      fact_mono 𝓤 _ _ (λ h. let z : ◌≡◌ {A = ℕ} _ 106 = sym (ap (λ (r : Outcome). answer_number r.answer) h) ∙ w in omega arith)

  -- the trigger is disregarded, and the call goes on (6.3.6.1 case 1)
  pub destination_no_path_empties_the_record :
      (r : Outcome) → r.call.key ≡ 0 →
      destination_no_path_shuts_out (standing (SoftTriggered 3)) r
  destination_no_path_empties_the_record r w =
      fact_mono 𝓤 _ _ (λ h. let z : ◌≡◌ {A = ℕ} _ 0 = sym (ap (λ (r : Outcome). r.call.key) h) ∙ w in omega arith)

  -- destination_connect: of a call, a connection and the policy, what comes of a connect
  abbrev destination_connect_shuts_out : Call → ℕ → Bool → Outcome → Type 1
  destination_connect_shuts_out c connection agreed r =
      NeverHolds ((Call-destination_connect.clauses 𝓛 memory run tt (c, (connection, (agreed, tt)))
      ).ensures tt r (c, (connection, (agreed, tt))))

  -- where policy says no the incumbent stays (6.3.7.1)
  pub destination_policy_not_read :
      (r : Outcome) → incumbent_of r.call.state ≡ 5 →
      destination_connect_shuts_out (standing (SoftProceeding 3 5)) 5 false r
  destination_policy_not_read r w =
      fact_mono 𝓤 _ _ (λ h. let z : ◌≡◌ {A = ℕ} _ 5 = sym (ap (λ (r : Outcome). incumbent_of r.call.state) h) ∙ w in omega arith)

  -- a connection that is not the rerouting one is 107 (decision 60)
  pub destination_connect_for_any_connection :
      (r : Outcome) → answer_number r.answer ≡ 0 →
      destination_connect_shuts_out (standing (SoftProceeding 3 5)) 4 true r
  destination_connect_for_any_connection r w =
      fact_mono 𝓤 _ _ (λ h. let z : ◌≡◌ {A = ℕ} _ 0 = sym (ap (λ (r : Outcome). answer_number r.answer) h) ∙ w in omega arith)

  -- destination_setup: of a call, a switchover code and a number, what comes of a setup
  abbrev destination_setup_shuts_out : Call → Switchover → ℕ → Outcome → Type 1
  destination_setup_shuts_out c code number r =
      NeverHolds ((Call-destination_setup.clauses 𝓛 memory run tt (c, (code, (number, tt)))).ensures tt r (c, (code, (number, tt))))

  -- the number on record again is old, and not taken, as it would be if it were measured against 0 (6.3.5)
  pub destination_setup_measured_against_0 :
      (r : Outcome) → state_number r.call.state ≡ 6 →
      destination_setup_shuts_out (standing (Idle 3)) (record { code = 1 }) 3 r
  destination_setup_measured_against_0 r w =
      fact_mono 𝓤 _ _ (λ h. let z : ◌≡◌ {A = ℕ} _ 6 = sym (ap (λ (r : Outcome). state_number r.call.state) h) ∙ w in omega arith)

  -- a rejected setup leaves the record as it was, its number too (6.3.5)
  pub destination_rejected_setup_is_stored :
      (r : Outcome) → r.call.remote ≡ 9 →
      destination_setup_shuts_out (standing (Idle 3)) (record { code = 2 }) 9 r
  destination_rejected_setup_is_stored r w =
      fact_mono 𝓤 _ _ (λ h. let z : ◌≡◌ {A = ℕ} _ 9 = sym (ap (λ (r : Outcome). r.call.remote) h) ∙ w in omega arith)

  -- an accepted one stores it, a hard one too
  pub hard_setup_leaves_the_number_on_record :
      (r : Outcome) → r.call.remote ≡ 3 →
      destination_setup_shuts_out (standing (Idle 3)) (record { code = 0 }) 9 r
  hard_setup_leaves_the_number_on_record r w =
      fact_mono 𝓤 _ _ (λ h. let z : ◌≡◌ {A = ℕ} _ 3 = sym (ap (λ (r : Outcome). r.call.remote) h) ∙ w in omega arith)

  -- destination_ready: of a call, what comes of "ready"
  abbrev destination_ready_shuts_out : Call → Outcome → Type 1
  destination_ready_shuts_out c r = NeverHolds ((Call-destination_ready.clauses 𝓛 memory run tt (c, tt)).ensures tt r (c, tt))

  -- Hard Initiated: the rerouting connection becomes the incumbent (6.3.5.8; decision 62)
  pub destination_ready_forgets_the_connection :
      (r : Outcome) → incumbent_of r.call.state ≡ 0 →
      destination_ready_shuts_out (standing (HardUnderway 5)) r
  destination_ready_forgets_the_connection r w =
      fact_mono 𝓤 _ _ (λ h. let z : ◌≡◌ {A = ℕ} _ 0 = sym (ap (λ (r : Outcome). incumbent_of r.call.state) h) ∙ w in omega arith)

  -- Soft Initiated: it does not yet (6.3.5.9)
  pub destination_ready_switches_at_once :
      (r : Outcome) → incumbent_of r.call.state ≡ 5 →
      destination_ready_shuts_out (standing (SoftInitiated 3 5)) r
  destination_ready_switches_at_once r w =
      fact_mono 𝓤 _ _ (λ h. let z : ◌≡◌ {A = ℕ} _ 5 = sym (ap (λ (r : Outcome). incumbent_of r.call.state) h) ∙ w in omega arith)

  -- destination_expiry: of a call, what comes of expiry
  abbrev destination_expiry_shuts_out : Call → Outcome → Type 1
  destination_expiry_shuts_out c r = NeverHolds ((Call-destination_expiry.clauses 𝓛 memory run tt (c, tt)).ensures tt r (c, tt))

  -- a call that ends is emptied
  pub destination_expiry_keeps_the_record : (r : Outcome) → r.call.key ≡ 7 → destination_expiry_shuts_out (standing HardWaiting) r
  destination_expiry_keeps_the_record r w =
      fact_mono 𝓤 _ _ (λ h. let z : ◌≡◌ {A = ℕ} _ 7 = sym (ap (λ (r : Outcome). r.call.key) h) ∙ w in omega arith)

  -- the called side is told (6.3.5.10; decision 63)
  pub destination_expiry_tells_the_calling_side :
      (r : Outcome) → kind_number (get_or r.signals 0 none).kind ≡ 4 →
      destination_expiry_shuts_out (standing HardWaiting) r
  destination_expiry_tells_the_calling_side r w =
      fact_mono 𝓤 _ _ (λ h.
      let z : ◌≡◌ {A = ℕ} _ 4 = sym (ap (λ (r : Outcome). kind_number (get_or r.signals 0 none).kind) h) ∙ w in
      omega arith)

  -- destination_called_release: of a call and a cause, what comes of a release from the called side
  abbrev destination_called_release_shuts_out : Call → Option ReroutingCause → Outcome → Type 1
  destination_called_release_shuts_out c came r =
      NeverHolds ((Call-destination_called_release.clauses 𝓛 memory run tt (c, (came, tt))).ensures tt r (c, (came, tt)))

  -- a call that ends is emptied
  pub destination_called_release_keeps_the_record :
      (r : Outcome) → r.call.key ≡ 7 →
      destination_called_release_shuts_out (standing (Idle 3)) None r
  destination_called_release_keeps_the_record r w =
      fact_mono 𝓤 _ _ (λ h. let z : ◌≡◌ {A = ℕ} _ 7 = sym (ap (λ (r : Outcome). r.call.key) h) ∙ w in omega arith)

  -- in Soft Triggered no Rerouting cause goes on, where the source's would be #1 (6.3.4.7; decision 65)
  pub destination_sends_1_in_soft_triggered :
      (r : Outcome) → (get_or r.signals 0 none).cause ≡ Numbered (cause 1) →
      destination_called_release_shuts_out (standing (SoftTriggered 3)) None r
  destination_sends_1_in_soft_triggered r w =
      fact_mono 𝓤 _ _ (λ h.
      let y : ◌≡◌ {A = SentCause} _ (Numbered (cause 1)) = sym (ap (λ (r : Outcome). (get_or r.signals 0 none).cause) h) ∙ w in
      let z : ◌≡◌ {A = ℕ} 0 1 = cc in
      omega arith)

  -- destination_calling_release: of a call, a connection, a cause and a crankback, what comes of a release from the calling side
  abbrev destination_calling_release_shuts_out : Call → ℕ → Option ReroutingCause → Crankback → Outcome → Type 1
  destination_calling_release_shuts_out c connection came back r =
      NeverHolds ((Call-destination_calling_release.clauses 𝓛 memory run tt (c, (connection, (came, (back, tt))))
      ).ensures tt r (c, (connection, (came, (back, tt)))))

  -- with hard on the call waits for a hard setup (6.3.4.2 case 4)
  pub destination_takes_hard_for_off :
      (r : Outcome) → state_number r.call.state ≡ 0 →
      destination_calling_release_shuts_out (standing (Idle 3)) 3 None NoCrankback r
  destination_takes_hard_for_off r w =
      fact_mono 𝓤 _ _ (λ h. let z : ◌≡◌ {A = ℕ} _ 0 = sym (ap (λ (r : Outcome). state_number r.call.state) h) ∙ w in omega arith)

  -- an alternate that was found takes a number (6.3.4.8 case 5; decision 69)
  pub destination_forgets_crankback :
      (r : Outcome) → r.call.last ≡ 5 →
      destination_calling_release_shuts_out (standing (SoftProceeding 3 5)) 5 None AlternateFound r
  destination_forgets_crankback r w =
      fact_mono 𝓤 _ _ (λ h. let z : ◌≡◌ {A = ℕ} _ 5 = sym (ap (λ (r : Outcome). r.call.last) h) ∙ w in omega arith)

  -- at_destination: of a call and an event, what comes of it at the destination
  abbrev at_destination_shuts_out : Call → Event → Outcome → Type 1
  at_destination_shuts_out c event r =
      NeverHolds ((Call-at_destination.clauses 𝓛 memory run tt (c, (event, tt))).ensures tt r (c, (event, tt)))

  -- a hard setup is taken (6.3.5.1 case 1; decision 71)
  pub destination_rejects_a_hard_setup :
      (r : Outcome) → kind_number (get_or r.signals 0 none).kind ≡ 9 →
      at_destination_shuts_out (standing (Idle 3)) (Setup (record { code = 0 }) 4) r
  destination_rejects_a_hard_setup r w =
      fact_mono 𝓤 _ _ (λ h.
      let z : ◌≡◌ {A = ℕ} _ 9 = sym (ap (λ (r : Outcome). kind_number (get_or r.signals 0 none).kind) h) ∙ w in
      omega arith)

  -- the party is the called one, by whose release the call ends (6.3.4.2 case 2)
  pub destination_waits_where_its_party_released :
      (r : Outcome) → state_number r.call.state ≡ 2 →
      at_destination_shuts_out (standing (Idle 3)) (FromParty None) r
  destination_waits_where_its_party_released r w =
      fact_mono 𝓤 _ _ (λ h. let z : ◌≡◌ {A = ℕ} _ 2 = sym (ap (λ (r : Outcome). state_number r.call.state) h) ∙ w in omega arith)

  -- handle: of a call, the end and an event, what comes of it
  abbrev handle_shuts_out : Call → Node → Event → Outcome → Type 1
  handle_shuts_out c node event r =
      NeverHolds ((Call-handle.clauses 𝓛 memory run tt (c, (node, (event, tt)))).ensures tt r (c, (node, (event, tt))))

  -- a setup with a greater number is taken (01, "Setup" row 4)
  pub handle_takes_no_setup :
      (r : Outcome) → state_number r.call.state ≡ 1 →
      handle_shuts_out (standing (Idle 3)) Source (Setup (record { code = 1 }) 4) r
  handle_takes_no_setup r w =
      fact_mono 𝓤 _ _ (λ h. let z : ◌≡◌ {A = ℕ} _ 1 = sym (ap (λ (r : Outcome). state_number r.call.state) h) ∙ w in omega arith)

  -- where policy says no nothing is switched (01, "Connect")
  pub handle_takes_policy_for_yes :
      (r : Outcome) → kind_number (get_or r.signals 0 none).kind ≡ 3 →
      handle_shuts_out (standing (SoftProceeding 3 5)) Source (Connect 5 false) r
  handle_takes_policy_for_yes r w =
      fact_mono 𝓤 _ _ (λ h.
      let z : ◌≡◌ {A = ℕ} _ 3 = sym (ap (λ (r : Outcome). kind_number (get_or r.signals 0 none).kind) h) ∙ w in
      omega arith)

  -- each end has rows of its own: what the source rejects with #8 the destination takes (01, "Setup" row 1; 6.3.5.1 case 1)
  pub destination_handled_as_the_source :
      (r : Outcome) → kind_number (get_or r.signals 0 none).kind ≡ 9 →
      handle_shuts_out (standing (Idle 3)) Destination (Setup (record { code = 0 }) 4) r
  destination_handled_as_the_source r w =
      fact_mono 𝓤 _ _ (λ h.
      let z : ◌≡◌ {A = ℕ} _ 9 = sym (ap (λ (r : Outcome). kind_number (get_or r.signals 0 none).kind) h) ∙ w in
      omega arith)
