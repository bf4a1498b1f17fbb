-- Two wrong answers of each public function of signal. Each theorem speaks of the function's contract as the
-- prover makes it from the source: that its `ensures` holds of the wrong answer, with any value where a variable stands,
-- is false. Assumes nothing.
use Prim.Native.Nat.{ℕ}
use native.Mathlib.Omega.{arith}
use mathlib.Core.Bool.{Bool, cond, true, false}
use mathlib.Core.Path.{◌≡◌, ap}
use seplogic.Ra.Ura.{Ura}
use base.Logic.{SProp, ent}
use contract.Monad.{Fun, fact, fact_mono}
use types.Logic.{Logic}
use prog.Memory.{Memory}
use prog.Routine.{Routine}
use Rattle.std.specs.Prelude.{Option, None, Some}
use Rattle.signal.specs.Causes.{cause}
use Rattle.signal.specs.Counting.{is_call_rejected}
use Rattle.signal.specs.Numbers.{soft_number}
use Rattle.signal.specs.declared.Answer.TheVariants.{NotHeld, NumbersSpent}
use Rattle.signal.specs.declared.Answer.{Answer}
use Rattle.signal.specs.declared.CauseCode.TheVariants.{Section66, CallRejected}
use Rattle.signal.specs.declared.CauseCode.{CauseCode}
use Rattle.signal.specs.declared.Kind.TheVariants.{Switch, IncumbentRelease}
use Rattle.signal.specs.declared.Kind.{Kind}
use Rattle.signal.specs.declared.ReroutingCause.{ReroutingCause}
use Rattle.signal.specs.declared.SentCause.TheVariants.{Absent, Numbered, AsReceived}
use Rattle.signal.specs.declared.SentCause.{SentCause}
use Rattle.signal.specs.declared.Services.{Services}
use Rattle.signal.specs.declared.Signal.{Signal}
use Rattle.signal.specs.declared.Soft.TheVariants.{Asymmetric, NoSoft, Symmetric}
use Rattle.signal.specs.declared.Soft.{Soft}
use Rattle.signal.specs.declared.Switchover.{Switchover}
use Rattle.signal.specs.contracts.SentCause.as_received as SentCause-as_received
use Rattle.signal.specs.contracts.SentCause.passed as SentCause-passed
use Rattle.signal.specs.contracts.Switchover.clearing as Switchover-clearing
use Rattle.signal.specs.contracts.Soft.number as Soft-number
use Rattle.signal.specs.contracts.Services.wanted as Services-wanted
use Rattle.signal.specs.contracts.Signal.naming as Signal-naming
use Rattle.signal.specs.contracts.Signal.release as Signal-release
use Rattle.signal.specs.contracts.Signal.rejection as Signal-rejection
use Rattle.signal.specs.contracts.Answer.number as Answer-number
use Rattle.signal.specs.contracts.fresh_after as fresh_after
use Rattle.signal.specs.contracts.late as late

module _ {M : Type 1} {𝓤 : Ura M} (𝓛 : Logic 𝓤) (memory : Memory → SProp 𝓤) (run : Routine → Fun 𝓤) where
  -- it is false: the logic proves falsity from it
  abbrev NeverHolds : SProp 𝓤 → Type 1
  NeverHolds says = ent 𝓤 says (fact 𝓤 ⊥)

  -- as_received: of a cause that came, what is sent
  abbrev as_received_shuts_out : Option ReroutingCause → SentCause → Type 1
  as_received_shuts_out c r = NeverHolds ((SentCause-as_received.clauses 𝓛 memory run tt (c, tt)).ensures tt r (c, tt))

  -- a cause goes on without modification (01, "Signals"; decision 5)
  pub received_cause_is_dropped : as_received_shuts_out (Some (cause 1)) Absent
  received_cause_is_dropped = fact_mono 𝓤 _ _ (λ h. let z : ◌≡◌ {A = ℕ} 0 1 = cc in omega arith)

  pub received_cause_goes_on_as_a_number : as_received_shuts_out (Some (cause 1)) (Numbered (cause 1))
  received_cause_goes_on_as_a_number = fact_mono 𝓤 _ _ (λ h. let z : ◌≡◌ {A = ℕ} 0 1 = cc in omega arith)

  -- passed: of a cause from the calling side and the hard service, what is sent
  abbrev passed_shuts_out : Option ReroutingCause → Bool → SentCause → Type 1
  passed_shuts_out c hard r = NeverHolds ((SentCause-passed.clauses 𝓛 memory run tt (c, (hard, tt))).ensures tt r (c, (hard, tt)))

  -- without a cause, hard on sends #1 (01, "Release from the calling side")
  pub no_cause_with_hard_on_stays_absent : passed_shuts_out None true Absent
  no_cause_with_hard_on_stays_absent = fact_mono 𝓤 _ _ (λ h. let z : ◌≡◌ {A = ℕ} 0 1 = cc in omega arith)

  -- a cause is passed unmodified
  pub passed_cause_as_a_number : passed_shuts_out (Some (cause 4)) true (Numbered (cause 4))
  passed_cause_as_a_number = fact_mono 𝓤 _ _ (λ h. let z : ◌≡◌ {A = ℕ} 0 1 = cc in omega arith)

  -- clearing: of a switchover code, whether it is the clearing behaviour
  abbrev clearing_shuts_out : Switchover → Bool → Type 1
  clearing_shuts_out s r = NeverHolds ((Switchover-clearing.clauses 𝓛 memory run tt (s, tt)).ensures tt r (s, tt))

  -- code 0 is switchover immediately (01, "Setup" row 1; 5.2)
  pub immediate_counts_as_clearing : clearing_shuts_out (record { code = 0 }) true
  immediate_counts_as_clearing = fact_mono 𝓤 _ _ (λ h. let z : ◌≡◌ {A = ℕ} 0 1 = cc in omega arith)

  -- an unknown code is not the clearing behaviour
  pub code_2_counts_as_clearing : clearing_shuts_out (record { code = 2 }) true
  code_2_counts_as_clearing = fact_mono 𝓤 _ _ (λ h. let z : ◌≡◌ {A = ℕ} 0 1 = cc in omega arith)

  -- Soft::number: of a soft service, its number (01, "The trace")
  abbrev soft_number_shuts_out : Soft → ℕ → Type 1
  soft_number_shuts_out s r = NeverHolds ((Soft-number.clauses 𝓛 memory run tt (s, tt)).ensures tt r (s, tt))

  pub asymmetric_is_2 : soft_number_shuts_out Asymmetric 2
  asymmetric_is_2 = fact_mono 𝓤 _ _ (λ h. omega arith)

  pub symmetric_is_1 : soft_number_shuts_out Symmetric 1
  symmetric_is_1 = fact_mono 𝓤 _ _ (λ h. omega arith)

  -- wanted: of what an opening says, the services that it takes
  abbrev wanted_shuts_out : Option Services → Services → Type 1
  wanted_shuts_out w r = NeverHolds ((Services-wanted.clauses 𝓛 memory run tt (w, tt)).ensures tt r (w, tt))

  -- an opening that names none takes hard on (02, Ask 1)
  pub default_without_hard : (soft : Soft) → wanted_shuts_out None (record { hard = false; soft = soft })
  default_without_hard soft = fact_mono 𝓤 _ _ (λ h. let z : ◌≡◌ {A = ℕ} 0 _ = ap (λ (s : Services). cond s.hard 1 0) h in omega arith)

  -- and soft asymmetric: not none, and not symmetric
  pub default_with_soft_none : (hard : Bool) → wanted_shuts_out None (record { hard = hard; soft = NoSoft })
  default_with_soft_none hard =
      fact_mono 𝓤 _ _ (λ h. let z : ◌≡◌ {A = ℕ} 0 _ = ap (λ (s : Services). soft_number s.soft) h in omega arith)

  pub default_with_symmetric_soft : (hard : Bool) → wanted_shuts_out None (record { hard = hard; soft = Symmetric })
  default_with_symmetric_soft hard =
      fact_mono 𝓤 _ _ (λ h. let z : ◌≡◌ {A = ℕ} 2 _ = ap (λ (s : Services). soft_number s.soft) h in omega arith)

  -- naming: of a kind and a connection, the signal
  abbrev naming_shuts_out : Kind → ℕ → Signal → Type 1
  naming_shuts_out k n r = NeverHolds ((Signal-naming.clauses 𝓛 memory run tt (k, (n, tt))).ensures tt r (k, (n, tt)))

  -- a switch, setup or connect names its connection (01, "Signals")
  pub named_signal_without_connection :
      (k : Kind) (c : SentCause) (code : CauseCode) →
      naming_shuts_out Switch 4 (record { kind = k; connection = 0; cause = c; code = code })
  named_signal_without_connection k c code =
      fact_mono 𝓤 _ _ (λ h. let z : ◌≡◌ {A = ℕ} 0 _ = ap (λ (s : Signal). s.connection) h in omega arith)

  -- the Cause code is section 6.6's unless a row says #21
  pub named_signal_with_code_21 :
      (k : Kind) (n : ℕ) (c : SentCause) →
      naming_shuts_out Switch 4 (record { kind = k; connection = n; cause = c; code = CallRejected })
  named_signal_with_code_21 k n c =
      fact_mono 𝓤 _ _ (λ h. let z : ◌≡◌ {A = ℕ} 1 _ = ap (λ (s : Signal). cond (is_call_rejected s.code) 1 0) h in omega arith)

  -- release: of a kind, a connection, a Rerouting cause and a Cause code, the signal
  abbrev release_shuts_out : Kind → ℕ → SentCause → CauseCode → Signal → Type 1
  release_shuts_out k n c code r =
      NeverHolds ((Signal-release.clauses 𝓛 memory run tt (k, (n, (c, (code, tt))))).ensures tt r (k, (n, (c, (code, tt)))))

  -- the row gives the Rerouting cause (01, "Signals")
  pub release_forgets_its_cause :
      (k : Kind) (n : ℕ) (code : CauseCode) →
      release_shuts_out IncumbentRelease 3 (Numbered (cause 4)) CallRejected
      (record { kind = k; connection = n; cause = Absent; code = code })
  release_forgets_its_cause k n code =
      fact_mono 𝓤 _ _ (λ h.
      let y : ◌≡◌ {A = SentCause} Absent (Numbered (cause 4)) = ap (λ (s : Signal). s.cause) h in
      let z : ◌≡◌ {A = ℕ} 0 1 = cc in
      omega arith)

  -- and the Cause code
  pub release_forgets_its_code :
      (k : Kind) (n : ℕ) (c : SentCause) →
      release_shuts_out IncumbentRelease 3 (Numbered (cause 4)) CallRejected
      (record { kind = k; connection = n; cause = c; code = Section66 })
  release_forgets_its_code k n c =
      fact_mono 𝓤 _ _ (λ h. let z : ◌≡◌ {A = ℕ} 0 _ = ap (λ (s : Signal). cond (is_call_rejected s.code) 1 0) h in omega arith)

  -- rejection: of a cause, the signal
  abbrev rejection_shuts_out : ReroutingCause → Signal → Type 1
  rejection_shuts_out c r = NeverHolds ((Signal-rejection.clauses 𝓛 memory run tt (c, tt)).ensures tt r (c, tt))

  -- #5, #6 and #8 are the node's own numbers (6.2.7)
  pub rejection_as_received :
      (k : Kind) (n : ℕ) (code : CauseCode) →
      rejection_shuts_out (cause 8) (record { kind = k; connection = n; cause = AsReceived (cause 8); code = code })
  rejection_as_received k n code =
      fact_mono 𝓤 _ _ (λ h.
      let y : ◌≡◌ {A = SentCause} (AsReceived (cause 8)) (Numbered (cause 8)) = ap (λ (s : Signal). s.cause) h in
      let z : ◌≡◌ {A = ℕ} 0 1 = cc in
      omega arith)

  -- a rejected setup has connection 0 (01, "Signals")
  pub rejection_names_a_connection :
      (k : Kind) (c : SentCause) (code : CauseCode) →
      rejection_shuts_out (cause 8) (record { kind = k; connection = 1; cause = c; code = code })
  rejection_names_a_connection k c code =
      fact_mono 𝓤 _ _ (λ h. let z : ◌≡◌ {A = ℕ} 1 _ = ap (λ (s : Signal). s.connection) h in omega arith)

  -- Answer::number: of an answer, its number (01, "Numbers of refusal")
  abbrev answer_number_shuts_out : Answer → ℕ → Type 1
  answer_number_shuts_out a r = NeverHolds ((Answer-number.clauses 𝓛 memory run tt (a, tt)).ensures tt r (a, tt))

  pub not_held_is_106 : answer_number_shuts_out NotHeld 106
  not_held_is_106 = fact_mono 𝓤 _ _ (λ h. omega arith)

  pub numbers_spent_is_107 : answer_number_shuts_out NumbersSpent 107
  numbers_spent_is_107 = fact_mono 𝓤 _ _ (λ h. omega arith)

  -- fresh_after: of the last number given, the next one
  abbrev fresh_after_shuts_out : ℕ → Option ℕ → Type 1
  fresh_after_shuts_out last r = NeverHolds ((fresh_after.clauses 𝓛 memory run tt (last, tt)).ensures tt r (last, tt))

  -- at 65,535 there is no next number (01, 108)
  pub number_behind_65535 : fresh_after_shuts_out 65535 (Some 65536)
  number_behind_65535 = fact_mono 𝓤 _ _ (λ h. let z : ◌≡◌ {A = ℕ} 0 1 = cc in omega arith)

  -- a later connection takes the last number plus 1 (01, "The table and its records")
  pub the_same_number_again : fresh_after_shuts_out 3 (Some 3)
  the_same_number_again = fact_mono 𝓤 _ _ (λ h. let z : ◌≡◌ {A = ℕ} 3 4 = cc in omega arith)

  -- late: of a setup's number and the one on record, whether it is late (01, "Setup" row 2)
  abbrev late_shuts_out : ℕ → ℕ → Bool → Type 1
  late_shuts_out number remote r =
      NeverHolds ((late.clauses 𝓛 memory run tt (number, (remote, tt))).ensures tt r (number, (remote, tt)))

  -- a greater number is not late
  pub greater_number_is_late : late_shuts_out 4 3 true
  greater_number_is_late = fact_mono 𝓤 _ _ (λ h. let z : ◌≡◌ {A = ℕ} 0 1 = cc in omega arith)

  -- it is the setup's number that must be greater
  pub late_the_other_way_round : late_shuts_out 2 3 false
  late_the_other_way_round = fact_mono 𝓤 _ _ (λ h. let z : ◌≡◌ {A = ℕ} 0 1 = cc in omega arith)
