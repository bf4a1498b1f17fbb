-- Two wrong answers of each public function of rows. Each theorem speaks of the function's contract as the
-- prover makes it from the source: that its `ensures` holds of the wrong answer, with any value where a variable stands,
-- is false. Assumes nothing.
use Prim.Native.Nat.{ℕ}
use native.Mathlib.Omega.{arith}
use mathlib.Core.Bool.{Bool, false, true}
use mathlib.Core.Path.{◌≡◌, ◌∙◌, ap, sym}
use lib.ListN.{get_or}
use seplogic.Ra.Ura.{Ura}
use base.Logic.{SProp, ent}
use contract.Monad.{Fun, fact, fact_mono}
use types.Logic.{Logic}
use prog.Memory.{Memory}
use prog.Routine.{Routine}
use Rattle.std.specs.Prelude.{Option, Some}
use Rattle.rows.specs.Cases.{class_number}
use Rattle.events.specs.declared.Node.TheVariants.{Destination, Source}
use Rattle.events.specs.declared.Node.{Node}
use Rattle.rows.specs.States.{rerouting_of, state_number}
use Rattle.rows.specs.declared.Class.{Class}
use Rattle.rows.specs.declared.Effect.{Effect}
use Rattle.rows.specs.declared.State.TheVariants.{Awaiting, HardUnderway, HardWaiting, Idle, SoftInitiated, SoftTriggered}
use Rattle.rows.specs.declared.State.{State}
use Rattle.signal.specs.Causes.{cause, not_recovered, unsupported}
use Rattle.signal.specs.Counting.{kind_number}
use Rattle.signal.specs.Numbers.{answer_number}
use Rattle.signal.specs.Signals.{none, release_of, setup_on, switch_to, timer_stop}
use Rattle.signal.specs.declared.Answer.TheVariants.{NoMeaning, NotHeld}
use Rattle.signal.specs.declared.Answer.{Answer}
use Rattle.signal.specs.declared.Kind.TheVariants.{ReroutingRelease}
use Rattle.signal.specs.declared.Kind.{Kind}
use Rattle.signal.specs.declared.ReroutingCause.{ReroutingCause}
use Rattle.signal.specs.declared.SentCause.TheVariants.{Numbered}
use Rattle.signal.specs.declared.SentCause.{SentCause}
use Rattle.signal.specs.declared.Signal.{Signal}
use Rattle.rows.specs.contracts.State.number as State-number
use Rattle.rows.specs.contracts.State.incumbent as State-incumbent
use Rattle.rows.specs.contracts.State.rerouting as State-rerouting
use Rattle.rows.specs.contracts.class_of as class_of
use Rattle.rows.specs.contracts.Effect.refused as Effect-refused
use Rattle.rows.specs.contracts.Effect.done as Effect-done
use Rattle.rows.specs.contracts.party_kind as party_kind
use Rattle.rows.specs.contracts.Effect.moved as Effect-moved
use Rattle.rows.specs.contracts.Effect.rejected as Effect-rejected
use Rattle.rows.specs.contracts.Effect.told as Effect-told
use Rattle.rows.specs.contracts.Effect.told_stopping as Effect-told_stopping
use Rattle.rows.specs.contracts.Effect.given as Effect-given

module _ {M : Type 1} {𝓤 : Ura M} (𝓛 : Logic 𝓤) (memory : Memory → SProp 𝓤) (run : Routine → Fun 𝓤) where
  -- it is false: the logic proves falsity from it
  abbrev NeverHolds : SProp 𝓤 → Type 1
  NeverHolds says = ent 𝓤 says (fact 𝓤 ⊥)

  -- State::number: of a state, its number (01, "The trace")
  abbrev number_shuts_out : State → ℕ → Type 1
  number_shuts_out s r = NeverHolds ((State-number.clauses 𝓛 memory run tt (s, tt)).ensures tt r (s, tt))

  pub initiated_is_7 : number_shuts_out (SoftInitiated 3 5) 7
  initiated_is_7 = fact_mono 𝓤 _ _ (λ h. omega arith)

  pub hard_waiting_is_3 : number_shuts_out HardWaiting 3
  hard_waiting_is_3 = fact_mono 𝓤 _ _ (λ h. omega arith)

  -- State::incumbent: of a state, the incumbent that it holds, or 0
  abbrev incumbent_shuts_out : State → ℕ → Type 1
  incumbent_shuts_out s r = NeverHolds ((State-incumbent.clauses 𝓛 memory run tt (s, tt)).ensures tt r (s, tt))

  pub soft_triggered_holds_no_incumbent : incumbent_shuts_out (SoftTriggered 3) 0
  soft_triggered_holds_no_incumbent = fact_mono 𝓤 _ _ (λ h. omega arith)

  pub incumbent_is_the_rerouting_one : incumbent_shuts_out (Awaiting 3 5) 5
  incumbent_is_the_rerouting_one = fact_mono 𝓤 _ _ (λ h. omega arith)

  -- State::rerouting: of a state, the rerouting connection that it holds, or 0
  abbrev rerouting_shuts_out : State → ℕ → Type 1
  rerouting_shuts_out s r = NeverHolds ((State-rerouting.clauses 𝓛 memory run tt (s, tt)).ensures tt r (s, tt))

  pub hard_underway_holds_nothing : rerouting_shuts_out (HardUnderway 5) 0
  hard_underway_holds_nothing = fact_mono 𝓤 _ _ (λ h. omega arith)

  pub rerouting_is_the_incumbent : rerouting_shuts_out (Awaiting 3 5) 3
  rerouting_is_the_incumbent = fact_mono 𝓤 _ _ (λ h. omega arith)

  -- class_of: of a cause, its class (01, "Release from the called side")
  abbrev class_of_shuts_out : Option ReroutingCause → Class → Type 1
  class_of_shuts_out came r = NeverHolds ((class_of.clauses 𝓛 memory run tt (came, tt)).ensures tt r (came, tt))

  -- #4 is rerouting operation complete
  pub cause_4_is_outside : (r : Class) → class_number r ≡ 1 → class_of_shuts_out (Some (cause 4)) r
  cause_4_is_outside r w = fact_mono 𝓤 _ _ (λ h. let z : ◌≡◌ {A = ℕ} _ 1 = ap (λ (r : Class). class_number r) h ∙ w in omega arith)

  -- #1 alone is release received from outside
  pub cause_2_is_outside : (r : Class) → class_number r ≡ 1 → class_of_shuts_out (Some (cause 2)) r
  cause_2_is_outside r w = fact_mono 𝓤 _ _ (λ h. let z : ◌≡◌ {A = ℕ} _ 1 = ap (λ (r : Class). class_number r) h ∙ w in omega arith)

  -- refused: of an answer and the state, what comes of a refusal
  abbrev refused_shuts_out : Answer → State → Effect → Type 1
  refused_shuts_out a s r = NeverHolds ((Effect-refused.clauses 𝓛 memory run tt (a, (s, tt))).ensures tt r (a, (s, tt)))

  -- a refusal sends nothing (01, "Numbers of refusal")
  pub refusal_starts_the_timer : (r : Effect) → kind_number (get_or r.signals 0 none).kind ≡ 1 → refused_shuts_out NoMeaning (Idle 3) r
  refusal_starts_the_timer r w =
      fact_mono 𝓤 _ _ (λ h.
      let z : ◌≡◌ {A = ℕ} _ 1 = sym (ap (λ (r : Effect). kind_number (get_or r.signals 0 none).kind) h) ∙ w in
      omega arith)

  pub refusal_with_another_answer : (r : Effect) → answer_number r.answer ≡ 106 → refused_shuts_out NotHeld (Idle 3) r
  refusal_with_another_answer r w =
      fact_mono 𝓤 _ _ (λ h. let z : ◌≡◌ {A = ℕ} _ 106 = sym (ap (λ (r : Effect). answer_number r.answer) h) ∙ w in omega arith)

  -- done: of the state after it and three signals, what comes of an event that gives no number
  abbrev done_shuts_out : State → Signal → Signal → Signal → Effect → Type 1
  done_shuts_out s x y z r =
      NeverHolds ((Effect-done.clauses 𝓛 memory run tt (s, (x, (y, (z, tt))))).ensures tt r (s, (x, (y, (z, tt)))))

  pub done_signals_exchanged :
      (r : Effect) → kind_number (get_or r.signals 0 none).kind ≡ 3 →
      done_shuts_out (Idle 3) timer_stop (switch_to 3) none r
  done_signals_exchanged r w =
      fact_mono 𝓤 _ _ (λ h.
      let z : ◌≡◌ {A = ℕ} _ 3 = sym (ap (λ (r : Effect). kind_number (get_or r.signals 0 none).kind) h) ∙ w in
      omega arith)

  pub first_signal_twice :
      (r : Effect) → kind_number (get_or r.signals 1 none).kind ≡ 2 →
      done_shuts_out (Idle 3) timer_stop (switch_to 3) none r
  first_signal_twice r w =
      fact_mono 𝓤 _ _ (λ h.
      let z : ◌≡◌ {A = ℕ} _ 2 = sym (ap (λ (r : Effect). kind_number (get_or r.signals 1 none).kind) h) ∙ w in
      omega arith)

  -- party_kind: of an end, the release of its own party (02, Ask 2; decision 63)
  abbrev party_kind_shuts_out : Node → Kind → Type 1
  party_kind_shuts_out node r = NeverHolds ((party_kind.clauses 𝓛 memory run tt (node, tt)).ensures tt r (node, tt))

  -- the destination's own party is the called one
  pub destination_releases_the_calling_side : (r : Kind) → kind_number r ≡ 4 → party_kind_shuts_out Destination r
  destination_releases_the_calling_side r w =
      fact_mono 𝓤 _ _ (λ h. let z : ◌≡◌ {A = ℕ} _ 4 = sym (ap (λ (r : Kind). kind_number r) h) ∙ w in omega arith)

  -- and the source's the calling one (01, "Signals")
  pub source_releases_the_called_side : (r : Kind) → kind_number r ≡ 10 → party_kind_shuts_out Source r
  source_releases_the_called_side r w =
      fact_mono 𝓤 _ _ (λ h. let z : ◌≡◌ {A = ℕ} _ 10 = sym (ap (λ (r : Kind). kind_number r) h) ∙ w in omega arith)

  -- moved: of the state after it, what comes of an event that sends nothing
  abbrev moved_shuts_out : State → Effect → Type 1
  moved_shuts_out s r = NeverHolds ((Effect-moved.clauses 𝓛 memory run tt (s, tt)).ensures tt r (s, tt))

  -- what is disregarded is done, answer 0 (01, "Soft trigger"; 6.3.6.1 case 2)
  pub disregarded_event_is_refused : (r : Effect) → answer_number r.answer ≡ 106 → moved_shuts_out (SoftTriggered 3) r
  disregarded_event_is_refused r w =
      fact_mono 𝓤 _ _ (λ h. let z : ◌≡◌ {A = ℕ} _ 106 = sym (ap (λ (r : Effect). answer_number r.answer) h) ∙ w in omega arith)

  -- a number is given exactly with a setup that is sent or accepted (01, "The table and its records")
  pub moving_gives_a_number : (r : Effect) → r.gives ≡ true → moved_shuts_out (Idle 3) r
  moving_gives_a_number r w =
      fact_mono 𝓤 _ _ (λ h.
      let y : ◌≡◌ {A = Bool} _ true = sym (ap (λ (r : Effect). r.gives) h) ∙ w in
      let z : ◌≡◌ {A = ℕ} 0 1 = cc in
      omega arith)

  -- rejected: of a cause and the state, what comes of a setup that is rejected
  abbrev rejected_shuts_out : ReroutingCause → State → Effect → Type 1
  rejected_shuts_out k s r = NeverHolds ((Effect-rejected.clauses 𝓛 memory run tt (k, (s, tt))).ensures tt r (k, (s, tt)))

  -- a setup rejected with #8 or #5 leaves the record as it was, its number too (01, "Faults seen on shelves"; B5; 6.3.5)
  pub rejection_stores_the_number : (r : Effect) → r.stores ≡ true → rejected_shuts_out unsupported (Idle 3) r
  rejection_stores_the_number r w =
      fact_mono 𝓤 _ _ (λ h.
      let y : ◌≡◌ {A = Bool} _ true = sym (ap (λ (r : Effect). r.stores) h) ∙ w in
      let z : ◌≡◌ {A = ℕ} 0 1 = cc in
      omega arith)

  -- and the state
  pub rejection_ends_the_call : (r : Effect) → state_number r.state ≡ 0 → rejected_shuts_out unsupported (Idle 3) r
  rejection_ends_the_call r w =
      fact_mono 𝓤 _ _ (λ h. let z : ◌≡◌ {A = ℕ} _ 0 = sym (ap (λ (r : Effect). state_number r.state) h) ∙ w in omega arith)

  -- told: of an end, a cause and another signal, what comes of an event that ends the call
  abbrev told_shuts_out : Node → SentCause → Signal → Effect → Type 1
  told_shuts_out node sent other r =
      NeverHolds ((Effect-told.clauses 𝓛 memory run tt (node, (sent, (other, tt)))).ensures tt r (node, (sent, (other, tt))))

  -- at the destination the called side is told (02, Ask 2; decision 63)
  pub destination_tells_the_calling_side :
      (r : Effect) → kind_number (get_or r.signals 0 none).kind ≡ 4 →
      told_shuts_out Destination (Numbered not_recovered) none r
  destination_tells_the_calling_side r w =
      fact_mono 𝓤 _ _ (λ h.
      let z : ◌≡◌ {A = ℕ} _ 4 = sym (ap (λ (r : Effect). kind_number (get_or r.signals 0 none).kind) h) ∙ w in
      omega arith)

  -- the other signal stands behind it (6.3.5.10 case 2; 01, "Signals")
  pub told_forgets_the_other_signal :
      (r : Effect) → kind_number (get_or r.signals 1 none).kind ≡ 0 →
      told_shuts_out Destination (Numbered not_recovered) (release_of ReroutingRelease 5 (Numbered not_recovered)) r
  told_forgets_the_other_signal r w =
      fact_mono 𝓤 _ _ (λ h.
      let z : ◌≡◌ {A = ℕ} _ 0 = sym (ap (λ (r : Effect). kind_number (get_or r.signals 1 none).kind) h) ∙ w in
      omega arith)

  -- told_stopping: of an end and a cause, what comes of an event that ends the call out of a Hard state
  abbrev told_stopping_shuts_out : Node → SentCause → Effect → Type 1
  told_stopping_shuts_out node sent r =
      NeverHolds ((Effect-told_stopping.clauses 𝓛 memory run tt (node, (sent, tt))).ensures tt r (node, (sent, tt)))

  -- the timer is stopped, and before all else (01, "Signals"; 6.3.4.4 case 3)
  pub told_stopping_leaves_the_timer_running :
      (r : Effect) → kind_number (get_or r.signals 0 none).kind ≡ 10 →
      told_stopping_shuts_out Destination (Numbered not_recovered) r
  told_stopping_leaves_the_timer_running r w =
      fact_mono 𝓤 _ _ (λ h.
      let z : ◌≡◌ {A = ℕ} _ 10 = sym (ap (λ (r : Effect). kind_number (get_or r.signals 0 none).kind) h) ∙ w in
      omega arith)

  -- and the party is told
  pub told_stopping_tells_nobody :
      (r : Effect) → kind_number (get_or r.signals 1 none).kind ≡ 0 →
      told_stopping_shuts_out Destination (Numbered not_recovered) r
  told_stopping_tells_nobody r w =
      fact_mono 𝓤 _ _ (λ h.
      let z : ◌≡◌ {A = ℕ} _ 0 = sym (ap (λ (r : Effect). kind_number (get_or r.signals 1 none).kind) h) ∙ w in
      omega arith)

  -- given: of the state after it, whether the setup's number is stored, and three signals, what comes of an event that gives one
  abbrev given_shuts_out : State → Bool → Signal → Signal → Signal → Effect → Type 1
  given_shuts_out s stores x y z r =
      NeverHolds ((Effect-given.clauses 𝓛 memory run tt (s, (stores, (x, (y, (z, tt)))))
      ).ensures tt r (s, (stores, (x, (y, (z, tt))))))

  pub given_state_forgets_its_number :
      (r : Effect) → rerouting_of r.state ≡ 0 →
      given_shuts_out (HardUnderway 6) false (setup_on 6) none none r
  given_state_forgets_its_number r w =
      fact_mono 𝓤 _ _ (λ h. let z : ◌≡◌ {A = ℕ} _ 0 = sym (ap (λ (r : Effect). rerouting_of r.state) h) ∙ w in omega arith)

  pub given_is_refused : (r : Effect) → answer_number r.answer ≡ 108 → given_shuts_out (HardUnderway 6) false (setup_on 6) none none r
  given_is_refused r w =
      fact_mono 𝓤 _ _ (λ h. let z : ◌≡◌ {A = ℕ} _ 108 = sym (ap (λ (r : Effect). answer_number r.answer) h) ∙ w in omega arith)
