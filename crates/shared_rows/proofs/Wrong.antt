-- Two wrong answers of each public function of shared_rows. Each theorem speaks of the function's contract as the
-- prover makes it from the source: that its `ensures` holds of the wrong answer, with any value where a variable stands,
-- is false. Assumes nothing.
use Prim.Native.Nat.{ℕ}
use native.Mathlib.Omega.{arith}
use mathlib.Core.Bool.{Bool, false, true}
use mathlib.Core.Path.{◌≡◌, ◌∙◌, ap, sym}
use lib.ListN.{get_or}
use seplogic.Ra.Ura.{Ura}
use base.Logic.{SProp, ent}
use contract.Monad.{Fun, fact, fact_mono}
use types.Logic.{Logic}
use prog.Memory.{Memory}
use prog.Routine.{Routine}
use Rattle.std.specs.Prelude.{Option, None, Some}
use Rattle.signal.specs.Causes.{cause}
use Rattle.signal.specs.Counting.{is_call_rejected, kind_number}
use Rattle.signal.specs.Numbers.{answer_number}
use Rattle.signal.specs.Signals.{none}
use Rattle.signal.specs.declared.Kind.{Kind}
use Rattle.signal.specs.declared.Kind.TheVariants.{IncumbentRelease, ReroutingRelease}
use Rattle.signal.specs.declared.Signal.{Signal}
use Rattle.signal.specs.declared.Crankback.TheVariants.{AlternateFound, NoAlternate}
use Rattle.signal.specs.declared.Crankback.{Crankback}
use Rattle.signal.specs.declared.ReroutingCause.{ReroutingCause}
use Rattle.signal.specs.declared.SentCause.TheVariants.{Absent, AsReceived, Numbered}
use Rattle.signal.specs.declared.SentCause.{SentCause}
use Rattle.events.specs.declared.Node.TheVariants.{Destination, Source}
use Rattle.events.specs.declared.Node.{Node}
use Rattle.rows.specs.States.{state_number}
use Rattle.rows.specs.declared.Effect.{Effect}
use Rattle.rows.specs.declared.State.TheVariants.{HardUnderway, HardWaiting, Idle, SoftTriggered}
use Rattle.rows.specs.declared.State.{State}
use Rattle.shared_rows.specs.contracts.started.trigger_in as trigger-in
use Rattle.shared_rows.specs.contracts.started.soft_path as soft_path
use Rattle.shared_rows.specs.contracts.started.soft_connect as soft_connect
use Rattle.shared_rows.specs.contracts.started.soft_crankback as soft_crankback
use Rattle.shared_rows.specs.contracts.ended.idle_lost as idle_lost
use Rattle.shared_rows.specs.contracts.ended.party_row as party_row
use Rattle.shared_rows.specs.contracts.ended.expiry_row as expiry_row
use Rattle.shared_rows.specs.contracts.releases.released as released
use Rattle.shared_rows.specs.contracts.releases.turned_away as turned_away

module _ {M : Type 1} {𝓤 : Ura M} (𝓛 : Logic 𝓤) (memory : Memory → SProp 𝓤) (run : Routine → Fun 𝓤) where
  -- it is false: the logic proves falsity from it
  abbrev NeverHolds : SProp 𝓤 → Type 1
  NeverHolds says = ent 𝓤 says (fact 𝓤 ⊥)

  -- trigger_in: of an end and the state, what comes of a soft trigger
  abbrev trigger_in_shuts_out : Node → State → Effect → Type 1
  trigger_in_shuts_out node state r =
      NeverHolds ((trigger-in.clauses 𝓛 memory run tt (node, (state, tt))).ensures tt r (node, (state, tt)))

  -- Idle moves to Soft Triggered (01, "Soft trigger"; 6.2.5.3, 6.3.6.1 case 1; decision 59)
  pub trigger_in_idle_is_disregarded : (r : Effect) → state_number r.state ≡ 1 → trigger_in_shuts_out Source (Idle 3) r
  trigger_in_idle_is_disregarded r w =
      fact_mono 𝓤 _ _ (λ h. let z : ◌≡◌ {A = ℕ} _ 1 = sym (ap (λ (r : Effect). state_number r.state) h) ∙ w in omega arith)

  -- any other state disregards it, answer 0 (6.3.6.1 case 2; decision 59)
  pub trigger_in_a_hard_state_is_refused : (r : Effect) → answer_number r.answer ≡ 106 → trigger_in_shuts_out Destination HardWaiting r
  trigger_in_a_hard_state_is_refused r w =
      fact_mono 𝓤 _ _ (λ h. let z : ◌≡◌ {A = ℕ} _ 106 = sym (ap (λ (r : Effect). answer_number r.answer) h) ∙ w in omega arith)

  -- soft_path: of an end, the next number and the incumbent, what comes of a path that was found in Soft Triggered
  abbrev soft_path_shuts_out : Node → Option ℕ → ℕ → Effect → Type 1
  soft_path_shuts_out node next incumbent r =
      NeverHolds ((soft_path.clauses 𝓛 memory run tt (node, (next, (incumbent, tt)))).ensures tt r (node, (next, (incumbent, tt))))

  -- the setup goes out on a new number, which is given (01, "Path found"; 6.3.6.1 case 1)
  pub soft_path_gives_no_number : (r : Effect) → r.gives ≡ false → soft_path_shuts_out Source (Some 6) 3 r
  soft_path_gives_no_number r w =
      fact_mono 𝓤 _ _ (λ h.
      let y : ◌≡◌ {A = Bool} _ false = sym (ap (λ (r : Effect). r.gives) h) ∙ w in
      let z : ◌≡◌ {A = ℕ} 0 1 = cc in
      omega arith)

  -- without a number for it the answer is 108 (01, "Numbers of refusal"; decision 60)
  pub soft_path_at_65535_is_done : (r : Effect) → answer_number r.answer ≡ 0 → soft_path_shuts_out Destination None 3 r
  soft_path_at_65535_is_done r w =
      fact_mono 𝓤 _ _ (λ h. let z : ◌≡◌ {A = ℕ} _ 0 = sym (ap (λ (r : Effect). answer_number r.answer) h) ∙ w in omega arith)

  -- soft_connect: of an end, the connection, the policy, and the two that are held, what comes of a connect in Soft Proceeding
  abbrev soft_connect_shuts_out : Node → ℕ → Bool → ℕ → ℕ → Effect → Type 1
  soft_connect_shuts_out node connection agreed incumbent rerouting r =
      NeverHolds ((soft_connect.clauses 𝓛 memory run tt (node, (connection, (agreed, (incumbent, (rerouting, tt)))))
      ).ensures tt r (node, (connection, (agreed, (incumbent, (rerouting, tt))))))

  -- where policy says no the release carries Cause code #21 (6.2.6.2, 6.3.7.1; decision 74)
  pub policy_no_without_code_21 :
      (r : Effect) → is_call_rejected (get_or r.signals 0 none).code ≡ false →
      soft_connect_shuts_out Destination 5 false 3 5 r
  policy_no_without_code_21 r w =
      fact_mono 𝓤 _ _ (λ h.
      let y : ◌≡◌ {A = Bool} _ false = sym (ap (λ (r : Effect). is_call_rejected (get_or r.signals 0 none).code) h) ∙ w in
      let z : ◌≡◌ {A = ℕ} 0 1 = cc in
      omega arith)

  -- where it says yes it is the incumbent that is released (01, "Connect"; 6.3.7.1; B13)
  pub connect_releases_the_new_connection :
      (r : Effect) → (get_or r.signals 1 none).connection ≡ 5 →
      soft_connect_shuts_out Source 5 true 3 5 r
  connect_releases_the_new_connection r w =
      fact_mono 𝓤 _ _ (λ h. let z : ◌≡◌ {A = ℕ} _ 5 = sym (ap (λ (r : Effect). (get_or r.signals 1 none).connection) h) ∙ w in omega arith)

  -- soft_crankback: of an end, the cause, the crankback, the next number and the two that are held, what comes of the rerouting one's
  -- release
  abbrev soft_crankback_shuts_out : Node → Option ReroutingCause → Crankback → Option ℕ → ℕ → ℕ → Effect → Type 1
  soft_crankback_shuts_out node came back next incumbent rerouting r =
      NeverHolds ((soft_crankback.clauses 𝓛 memory run tt (node, (came, (back, (next, (incumbent, (rerouting, tt))))))
      ).ensures tt r (node, (came, (back, (next, (incumbent, (rerouting, tt)))))))

  -- crankback alone decides, whatever the cause (6.2.4.6 case 5, 6.3.4.8 case 5; decisions 8 and 69)
  pub cause_comes_before_crankback :
      (r : Effect) → state_number r.state ≡ 1 →
      soft_crankback_shuts_out Destination (Some (cause 2)) AlternateFound (Some 6) 3 5 r
  cause_comes_before_crankback r w =
      fact_mono 𝓤 _ _ (λ h. let z : ◌≡◌ {A = ℕ} _ 1 = sym (ap (λ (r : Effect). state_number r.state) h) ∙ w in omega arith)

  -- without an alternate path the call is Idle again (6.2.4.6 case 6, 6.3.4.8 case 6; decision 75)
  pub no_alternate_stays_proceeding :
      (r : Effect) → state_number r.state ≡ 5 →
      soft_crankback_shuts_out Destination None NoAlternate (Some 6) 3 5 r
  no_alternate_stays_proceeding r w =
      fact_mono 𝓤 _ _ (λ h. let z : ◌≡◌ {A = ℕ} _ 5 = sym (ap (λ (r : Effect). state_number r.state) h) ∙ w in omega arith)

  -- idle_lost: of an end, the hard service, the cause, the incumbent and the next number, what comes of the incumbent's release in Idle
  abbrev idle_lost_shuts_out : Node → Bool → Option ReroutingCause → ℕ → Option ℕ → Effect → Type 1
  idle_lost_shuts_out node hard came incumbent next r =
      NeverHolds ((idle_lost.clauses 𝓛 memory run tt (node, (hard, (came, (incumbent, (next, tt)))))
      ).ensures tt r (node, (hard, (came, (incumbent, (next, tt))))))

  -- with hard off the call ends (6.2.4.2 case 3, 6.3.4.2 case 3; decisions 6 and 68)
  pub hard_off_waits_for_a_reroute : (r : Effect) → state_number r.state ≡ 2 → idle_lost_shuts_out Destination false None 3 (Some 6) r
  hard_off_waits_for_a_reroute r w =
      fact_mono 𝓤 _ _ (λ h. let z : ◌≡◌ {A = ℕ} _ 2 = sym (ap (λ (r : Effect). state_number r.state) h) ∙ w in omega arith)

  -- #1 goes on without modification, so as received (6.2.4.2 case 3, 6.3.4.2 case 3; decisions 5 and 67)
  pub lost_in_idle_with_1_as_a_number :
      (r : Effect) → (get_or r.signals 0 none).cause ≡ Numbered (cause 1) →
      idle_lost_shuts_out Destination true (Some (cause 1)) 3 (Some 6) r
  lost_in_idle_with_1_as_a_number r w =
      fact_mono 𝓤 _ _ (λ h.
      let y : ◌≡◌ {A = SentCause} _ (Numbered (cause 1)) = sym (ap (λ (r : Effect). (get_or r.signals 0 none).cause) h) ∙ w in
      let z : ◌≡◌ {A = ℕ} 0 1 = cc in
      omega arith)

  -- party_row: of the hard service, the cause, the one that Soft Triggered sends on and the state, what comes of the party's release
  abbrev party_row_shuts_out : Bool → Option ReroutingCause → SentCause → State → Effect → Type 1
  party_row_shuts_out hard came triggered state r =
      NeverHolds ((party_row.clauses 𝓛 memory run tt (hard, (came, (triggered, (state, tt))))
      ).ensures tt r (hard, (came, (triggered, (state, tt)))))

  -- in HardUnderway a release without a cause goes on with #1, also with hard off (6.2.4.4 case 2, 6.3.4.4 case 2; decisions 6 and 66)
  pub hard_state_reads_the_hard_service :
      (r : Effect) → (get_or r.signals 1 none).cause ≡ Absent →
      party_row_shuts_out false None Absent (HardUnderway 5) r
  hard_state_reads_the_hard_service r w =
      fact_mono 𝓤 _ _ (λ h.
      let y : ◌≡◌ {A = SentCause} _ Absent = sym (ap (λ (r : Effect). (get_or r.signals 1 none).cause) h) ∙ w in
      let z : ◌≡◌ {A = ℕ} 0 1 = cc in
      omega arith)

  -- Soft Triggered's release carries what its end says, and not the cause that came (decisions 1 and 65)
  pub soft_triggered_passes_the_cause_on :
      (r : Effect) → (get_or r.signals 0 none).cause ≡ AsReceived (cause 1) →
      party_row_shuts_out true (Some (cause 1)) Absent (SoftTriggered 3) r
  soft_triggered_passes_the_cause_on r w =
      fact_mono 𝓤 _ _ (λ h.
      let y : ◌≡◌ {A = SentCause} _ (AsReceived (cause 1)) = sym (ap (λ (r : Effect). (get_or r.signals 0 none).cause) h) ∙ w in
      let z : ◌≡◌ {A = ℕ} 0 1 = cc in
      omega arith)

  -- expiry_row: of an end and the state, what comes of expiry
  abbrev expiry_row_shuts_out : Node → State → Effect → Type 1
  expiry_row_shuts_out node state r =
      NeverHolds ((expiry_row.clauses 𝓛 memory run tt (node, (state, tt))).ensures tt r (node, (state, tt)))

  -- a timer that expired is not stopped (01, "Signals"; decision 70)
  pub expiry_stops_the_timer : (r : Effect) → kind_number (get_or r.signals 0 none).kind ≡ 2 → expiry_row_shuts_out Source HardWaiting r
  expiry_stops_the_timer r w =
      fact_mono 𝓤 _ _ (λ h.
      let z : ◌≡◌ {A = ℕ} _ 2 = sym (ap (λ (r : Effect). kind_number (get_or r.signals 0 none).kind) h) ∙ w in
      omega arith)

  -- the rerouting connection is released too (01, "Timer expiry"; 6.2.5.2, 6.3.5.10)
  pub expiry_leaves_the_rerouting_connection :
      (r : Effect) → kind_number (get_or r.signals 1 none).kind ≡ 0 →
      expiry_row_shuts_out Source (HardUnderway 5) r
  expiry_leaves_the_rerouting_connection r w =
      fact_mono 𝓤 _ _ (λ h.
      let z : ◌≡◌ {A = ℕ} _ 0 = sym (ap (λ (r : Effect). kind_number (get_or r.signals 1 none).kind) h) ∙ w in
      omega arith)

  -- at the destination the called side is told (6.3.5.10; decision 63)
  pub expiry_releases_the_calling_side_at_either_end :
      (r : Effect) → kind_number (get_or r.signals 0 none).kind ≡ 4 →
      expiry_row_shuts_out Destination HardWaiting r
  expiry_releases_the_calling_side_at_either_end r w =
      fact_mono 𝓤 _ _ (λ h.
      let z : ◌≡◌ {A = ℕ} _ 4 = sym (ap (λ (r : Effect). kind_number (get_or r.signals 0 none).kind) h) ∙ w in
      omega arith)

  -- released: of what is released, its connection and the Rerouting cause, the signal
  abbrev released_shuts_out : Kind → ℕ → SentCause → Signal → Type 1
  released_shuts_out kind connection cause r =
      NeverHolds ((released.clauses 𝓛 memory run tt (kind, (connection, (cause, tt)))).ensures tt r (kind, (connection, (cause, tt))))

  -- a release names its connection
  pub released_names_no_connection : (r : Signal) → r.connection ≡ 0 → released_shuts_out IncumbentRelease 3 Absent r
  released_names_no_connection r w =
      fact_mono 𝓤 _ _ (λ h. let z : ◌≡◌ {A = ℕ} 3 0 = sym (ap (λ (r : Signal). r.connection) h) ∙ w in omega arith)

  -- Cause code #21 is for a connection that gives way (01, "Signals")
  pub released_with_code_21 : (r : Signal) → is_call_rejected r.code ≡ true → released_shuts_out IncumbentRelease 3 Absent r
  released_with_code_21 r w =
      fact_mono 𝓤 _ _ (λ h.
      let y : ◌≡◌ {A = Bool} false true = sym (ap (λ (r : Signal). is_call_rejected r.code) h) ∙ w in
      let z : ◌≡◌ {A = ℕ} 0 1 = cc in
      omega arith)

  -- turned_away: of what is released and its connection, the signal
  abbrev turned_away_shuts_out : Kind → ℕ → Signal → Type 1
  turned_away_shuts_out kind connection r =
      NeverHolds ((turned_away.clauses 𝓛 memory run tt (kind, (connection, tt))).ensures tt r (kind, (connection, tt)))

  -- it names its connection
  pub turned_away_names_no_connection : (r : Signal) → r.connection ≡ 0 → turned_away_shuts_out ReroutingRelease 5 r
  turned_away_names_no_connection r w =
      fact_mono 𝓤 _ _ (λ h. let z : ◌≡◌ {A = ℕ} 5 0 = sym (ap (λ (r : Signal). r.connection) h) ∙ w in omega arith)

  -- and has Cause code #21 (01, "Signals")
  pub turned_away_without_code_21 : (r : Signal) → is_call_rejected r.code ≡ false → turned_away_shuts_out ReroutingRelease 5 r
  turned_away_without_code_21 r w =
      fact_mono 𝓤 _ _ (λ h.
      let y : ◌≡◌ {A = Bool} true false = sym (ap (λ (r : Signal). is_call_rejected r.code) h) ∙ w in
      let z : ◌≡◌ {A = ℕ} 0 1 = cc in
      omega arith)
