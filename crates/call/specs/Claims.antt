-- The claims on one event at one call, at either end. "01" is the scope document, "02" the follow-up requests, a demand one of the three in
-- README.md, "decision N" a point of docs/DECISIONS.md. Each stands under the requirement that it answers, cited by place and said again in
-- our words; none mentions a row or a case. They speak of every record, fit or not, and of every event, and of whatever a method returns
-- that does what its half of the control does: `Returned` is the contract of `Call::handle`, and of the event's own method at the end.
-- Proofs, once for any half that keeps the laws: proofs/Claims.antt; for the ends: proofs/Source.antt, proofs/Destination.antt. Assumes
-- nothing.
use Rattle.std.specs.Prelude.{◌+◌, ◌<◌, ◌≤◌, ℕ, Bool, cond, false, not, true, List, [], ◌++◌, ◌∷◌, ◌↔◌, ◌⊎◌, ◌≡◌, ltb, length, Option}
use Rattle.signal.specs.Causes.{in_progress}
use Rattle.signal.specs.Claims.{TakesServices}
use Rattle.signal.specs.Counting.{Honest, count, ended_sent, in_order, named, of_kind, with_code21}
use Rattle.signal.specs.Numbers.{answer_number}
use Rattle.signal.specs.Signals.{places, rejection}
use Rattle.signal.specs.declared.Kind.TheVariants.{ConnectRequest, IncumbentRelease, NoSignal, Rejection, ReroutingRelease, SetupRequest}
use Rattle.signal.specs.declared.Kind.TheVariants.{Switch, TimerStart, TimerStop}
use Rattle.signal.specs.declared.Signal.{Signal}
use Rattle.signal.specs.declared.Switchover.{Switchover}
use Rattle.signal.specs.declared.Services.{Services}
use Rattle.events.specs.Events.{is_expiry, received_in, reported, setup_number}
use Rattle.events.specs.declared.Event.{Event}
use Rattle.events.specs.declared.Node.{Node}
use Rattle.rows.specs.Cases.{Standing}
use Rattle.rows.specs.Checks.{AllAre, AllIncumbent, Nones, accepted_wanted, asks_number, code21_wanted, names_not_held, number_stored}
use Rattle.rows.specs.Checks.{party_wanted, rejection_wanted, starts_wanted, stops_wanted, stored_wanted}
use Rattle.rows.specs.Effects.{party_kind}
use Rattle.rows.specs.Meaning.{Kept, Obeys}
use Rattle.rows.specs.States.{held_in, incumbent_of, is_hard, is_null, rerouting_of}
use Rattle.rows.specs.declared.State.TheVariants.{Idle}
use Rattle.call.specs.Events.{Half, destination_half, half_of, handled_at, source_half}
use Rattle.call.specs.Record.{emptied, opened_for, standing}
use Rattle.call.specs.declared.Call.{Call}
use Rattle.call.specs.declared.Outcome.{Outcome}

-- what the laws give of a half: what every event keeps, what the documents of its end ask for, that a setup is rejected with one cause at
-- most, and that one which stores its number brings a number above the one on record
pub record Lawful (half : Half) : Type 0 where
  pub kept : (x : Standing) (e : Event) → Kept half.demands.node x e (half.does x e)
  pub obeyed : (x : Standing) (e : Event) → Obeys half.demands x e (half.does x e)
  pub once : (x : Standing) (code : Switchover) (number : ℕ) → length (half.demands.rejected x code number) ≤ 1
  pub newer : (x : Standing) (code : Switchover) (number : ℕ) (room : Bool) →
      number_stored (half.demands.rejected x code number) room ≡ true → x.remote < number

abbrev pub answer_given : Outcome → ℕ
answer_given o = answer_number o.answer

-- A setup is heard, as its answer and what is sent tell: it is answered 0, and nothing is rejected, so that it is accepted; or it is
-- rejected with #6, a rerouting operation already in progress.
abbrev pub Heard : ℕ → List Signal → Type 0
Heard answer sent = (answer ≡ 0) × ((of_kind Rejection sent ≡ []) ⊎ (of_kind Rejection sent ≡ rejection in_progress ∷ []))

-- A rejection, as a setup is told of it: it is answered 0, that one signal alone is sent, and this is the record that is left.
abbrev pub RejectedLeaving : Call → Outcome → Signal → Type 0
RejectedLeaving left o r = (answer_given o ≡ 0) × ((o.call ≡ left) × (o.signals ≡ places (r ∷ [])))

-- 01, "The table and its records": an opening gives number 1 to the incumbent, in Rerouting Idle, with remote number 0, and sends nothing.
abbrev pub OpensWithOne : Type 0
OpensWithOne =
    (key : ℕ) (wanted : Option Services) (o : Outcome) → o ≡ opened_for key wanted →
    (answer_given o ≡ 0)
    × ((o.signals ≡ places [])
    × ((o.call.key ≡ key) × ((o.call.state ≡ Idle 1) × ((o.call.last ≡ 1) × (o.call.remote ≡ 0)))))

-- 01, "The table and its records"; 02, Ask 1: an opening's record has the services that it names, or the default.
abbrev pub OpensWithServices : Type 0
OpensWithServices =
    (key : ℕ) (wanted : Option Services) (o : Outcome) → o ≡ opened_for key wanted →
    TakesServices wanted o.call.hard o.call.soft

-- a number, or the one number of a list
abbrev pub number_else : ℕ → List ℕ → ℕ
number_else n [] = n
number_else n (m ∷ more) = m

-- the number that an event gives: the new last number, where it grew
abbrev pub given : Call → Outcome → List ℕ
given c o = cond (ltb c.last o.call.last) (o.call.last ∷ []) []

-- the connections whose release an event reports, where it was not refused
abbrev pub ended_received : ℕ → List ℕ → List ℕ
ended_received answer got = cond (ltb 0 answer) [] got

-- the connections that an event ends, by a release received and by releases sent; read off the event, its answer and its signals alone
abbrev pub ended : Event → Outcome → List ℕ
ended e o = ended_received (answer_given o) (reported e) ++ ended_sent o.signals

-- the part of 01's 101 that speaks of held numbers: they lie between 1 and the last, and two held ones differ
pub record Sound (c : Call) : Type 0 where
  pub within : (x : ℕ) → 1 ≤ count x (held_in c.state) → (1 ≤ x) × (x ≤ c.last)
  pub differ : (x : ℕ) → count x (held_in c.state) ≤ 1

module _ (half : Half) where
  -- what the contract says of a result
  abbrev pub Returned : Call → Event → Outcome → Type 0
  Returned c e o = o ≡ handled_at half c e

  -- of whatever is returned, at every record and event
  abbrev pub Always : (Call → Event → Outcome → Type 0) → Type 0
  Always P = (c : Call) (e : Event) (o : Outcome) → Returned c e o → P c e o

  -- Demand 1 and 01, "Numbers of refusal": a refusal leaves the record as it was, and all four places are "none".
  abbrev pub RefusalLeavesRecord : Type 0
  RefusalLeavesRecord = Always (λ c e o. (answer_given o ≡ 0 → ⊥) → (o.call ≡ c) × (o.signals ≡ places []))

  -- 01, "Numbers of refusal": 106, 107 and 108, each in the document's words, with decision 26 for Null (rows, specs/Checks; of the source
  -- source_rows, specs/Demands). 108 is "path found", or a setup that would otherwise be accepted, when the last number is 65,535.
  abbrev pub IsMeaningless : Call → Event → Type 0
  IsMeaningless c e = half.demands.meaningless (standing c) e ≡ true

  abbrev pub NamesNotHeld : Call → Event → Type 0
  NamesNotHeld c e = names_not_held c.state e ≡ true

  abbrev pub HasNoNumber : Call → Event → Type 0
  HasNoNumber c e = (asks_number half.demands (standing c) e ≡ true) × (65535 ≤ c.last)

  -- 01, "Numbers of refusal": each number is given exactly when its check applies and no earlier one does, and 0 exactly when none applies.
  abbrev pub Given106 : Type 0
  Given106 = Always (λ c e o. (answer_given o ≡ 106) ↔ IsMeaningless c e)

  abbrev pub Given107 : Type 0
  Given107 = Always (λ c e o. (answer_given o ≡ 107) ↔ ((IsMeaningless c e → ⊥) × NamesNotHeld c e))

  abbrev pub Given108 : Type 0
  Given108 = Always (λ c e o. (answer_given o ≡ 108) ↔ ((IsMeaningless c e → ⊥) × ((NamesNotHeld c e → ⊥) × HasNoNumber c e)))

  abbrev pub Given0 : Type 0
  Given0 =
      Always (λ c e o. (answer_given o ≡ 0) ↔ ((IsMeaningless c e → ⊥) × ((NamesNotHeld c e → ⊥) × (HasNoNumber c e → ⊥))))

  -- 01, "Signals": four places, filled from the front in the printed order; unused places stand behind, and each is "none" in all its parts
  -- (decision 17).
  abbrev pub SignalsInOrder : Type 0
  SignalsInOrder =
      Always (λ c e o. (length o.signals ≡ 4) × ((in_order o.signals ≡ true) × Nones (of_kind NoSignal o.signals)))

  -- Decision 18: no event fills more of the four places than its end allows; at the source two.
  abbrev pub FewSignals : Type 0
  FewSignals = Always (λ c e o. 4 ≤ length (of_kind NoSignal o.signals) + half.demands.most)

  -- 01, "Signals": timer start is sent, once, exactly on entering the Hard states from outside them.
  abbrev pub TimerStarts : Type 0
  TimerStarts = Always (λ c e o. of_kind TimerStart o.signals ≡ starts_wanted (is_hard c.state) (is_hard o.call.state))

  -- 01, "Signals": timer stop is sent, once, exactly on leaving them other than by expiry.
  abbrev pub TimerStops : Type 0
  TimerStops = Always (λ c e o. of_kind TimerStop o.signals ≡ stops_wanted (is_expiry e) (is_hard c.state) (is_hard o.call.state))

  -- 01, "Signals": a switch names the connection switched in: the incumbent after the event.
  abbrev pub SwitchNamesIncumbent : Type 0
  SwitchNamesIncumbent = Always (λ c e o. AllIncumbent o.call.state (named (of_kind Switch o.signals)))

  -- 01, "Signals" and decision 17: a release names its own connection, and a connect the rerouting connection, as held before; a setup
  -- names the new last number.
  abbrev pub SignalsNameTheirOwn : Type 0
  SignalsNameTheirOwn =
      Always
      (λ c e o.
      AllAre (incumbent_of c.state) (named (of_kind IncumbentRelease o.signals))
      × (AllAre (rerouting_of c.state) (named (of_kind ReroutingRelease o.signals))
      × (AllAre (rerouting_of c.state) (named (of_kind ConnectRequest o.signals))
      × AllAre o.call.last (named (of_kind SetupRequest o.signals)))))

  -- 01, "Timer expiry" and the release rows: the node's own party is released, once, exactly when the call ends otherwise than by a release
  -- from that side.
  abbrev pub PartyTold : Type 0
  PartyTold =
      Always
      (λ c e o.
      named (of_kind (party_kind half.demands.node) o.signals)
      ≡ party_wanted (not (is_null c.state)) (not (is_null o.call.state)) e)

  -- 01, "Signals": a Rerouting cause goes out "as received" only where that very cause came.
  abbrev pub CausesAsReceived : Type 0
  CausesAsReceived = Always (λ c e o. Honest (received_in e) o.signals)

  -- 01, "Setup": a setup is rejected exactly by the first row that it breaks, at the source with #8, #5 or #6, and nothing else is ever
  -- rejected.
  abbrev pub RejectedByFirstRow : Type 0
  RejectedByFirstRow = Always (λ c e o. of_kind Rejection o.signals ≡ rejection_wanted half.demands (standing c) e)

  -- 01, "Setup" and "Numbers of refusal": a setup rejected with #8 or #5, or with whatever else but #6, is answered 0, sends that one
  -- rejection alone, and leaves the whole record as it was.
  abbrev pub RejectedSetupLeavesRecord : Type 0
  RejectedSetupLeavesRecord =
      Always
      (λ c e o.
      (r : Signal) → rejection_wanted half.demands (standing c) e ≡ r ∷ [] → (r ≡ rejection in_progress → ⊥) → RejectedLeaving c o r)

  -- 02, Ask 3, in place of 01's sentence for #6; 6.2.7: one rejected with #6 is answered 0, sends that one rejection alone, and leaves all
  -- of the record but the remote number, which is the setup's; the last number is not touched.
  abbrev pub RejectedInProgressStores : Type 0
  RejectedInProgressStores =
      Always
      (λ c e o.
      (number : ℕ) → setup_number e ≡ number ∷ [] → rejection_wanted half.demands (standing c) e ≡ rejection in_progress ∷ [] →
      RejectedLeaving (record { key = c.key; hard = c.hard; soft = c.soft; state = c.state; last = c.last; remote = number }) o
      (rejection in_progress))

  -- 01, "Signals": Cause code #21 stands on the releases that the documents of the end say, with no Rerouting cause, and nowhere else; at
  -- the source on the rerouting release of a connect answered no, and on that of D18's last line; at the destination on those of decisions
  -- 68, 72 and 74.
  abbrev pub Code21Exactly : Type 0
  Code21Exactly = Always (λ c e o. with_code21 o.signals ≡ code21_wanted half.demands (standing c) e)

  -- 01, "The table and its records": a call that reaches Null has its record emptied.
  abbrev pub EndedIsEmptied : Type 0
  EndedIsEmptied = Always (λ c e o. is_null c.state ≡ false → is_null o.call.state ≡ true → o.call ≡ emptied)

  -- 01, "The table and its records": while the call lives, its key and its services stay.
  abbrev pub KeyAndServicesStay : Type 0
  KeyAndServicesStay =
      Always
      (λ c e o. is_null o.call.state ≡ false → (o.call.key ≡ c.key) × ((o.call.hard ≡ c.hard) × (o.call.soft ≡ c.soft)))

  -- 01, "Setup", and 02, Ask 3: while the call lives, the remote number changes only by a setup that is accepted or rejected with #6, and
  -- to its number (`stored_wanted`; rows, specs/Checks).
  abbrev pub RemoteByStoredNumber : Type 0
  RemoteByStoredNumber =
      Always
      (λ c e o.
      is_null o.call.state ≡ false → o.call.remote ≡ number_else c.remote (stored_wanted half.demands (standing c) e))

  -- 01, "Setup" row 2 and Demand 3: while the call lives, the remote number never falls.
  abbrev pub RemoteGrows : Type 0
  RemoteGrows =
      Always
      (λ c e o. is_null o.call.state ≡ false → (o.call.remote ≡ c.remote) ⊎ (c.remote < o.call.remote))

  -- 01, "Setup", and 02, Ask 3: it grows exactly by a setup that is heard, which is accepted or rejected with #6; and to the setup's
  -- number.
  abbrev pub RemoteGrowsExactly : Type 0
  RemoteGrowsExactly =
      Always
      (λ c e o.
      ((c.remote < o.call.remote) ↔ ((length (setup_number e) ≡ 1) × Heard (answer_given o) o.signals))
      × (c.remote < o.call.remote → setup_number e ≡ o.call.remote ∷ []))

  -- how many setups an event sends and accepts
  abbrev pub setups_made : Call → Event → Outcome → ℕ
  setups_made c e o = length (of_kind SetupRequest o.signals) + length (accepted_wanted half.demands (standing c) e)

  -- 01, "The table and its records": while the call lives, the last number stays or grows by one, and grows exactly when a setup is sent or
  -- accepted.
  abbrev pub LastByOne : Type 0
  LastByOne =
      Always
      (λ c e o. is_null o.call.state ≡ false → (o.call.last ≡ c.last + setups_made c e o) × (setups_made c e o ≤ 1))

  -- Demand 3, for one event: what is held before, with the number given, is what is held after and what has ended, each number counted.
  abbrev pub Balances : Type 0
  Balances =
      Always
      (λ c e o.
      (x : ℕ) → count x (held_in c.state) + count x (given c o) ≡ count x (held_in o.call.state) + count x (ended e o))

  -- Demand 3, for one event at a sound record: a number that was held or is given is then held or has ended, exactly once; any other number
  -- is neither.
  abbrev pub HeldOrEndedOnce : Type 0
  HeldOrEndedOnce =
      Always
      (λ c e o.
      Sound c → (x : ℕ) →
      (1 ≤ count x (held_in c.state) + count x (given c o) → count x (held_in o.call.state) + count x (ended e o) ≡ 1)
      × (count x (held_in c.state) + count x (given c o) ≡ 0 → count x (held_in o.call.state) + count x (ended e o) ≡ 0))

  -- 01, "Release from the called side": the connection whose release was received is ended, and is not released again.
  abbrev pub ReceivedNotReleased : Type 0
  ReceivedNotReleased =
      Always
      (λ c e o.
      Sound c → (x : ℕ) → 1 ≤ count x (ended_received (answer_given o) (reported e)) →
      (count x (ended_sent o.signals) ≡ 0) × (count x (held_in o.call.state) ≡ 0))

  -- Demand 3, for one event: a sound record stays sound (an emptied one holds nothing, and is sound).
  abbrev pub StaysSound : Type 0
  StaysSound = Always (λ c e o. Sound c → Sound o.call)

-- all of them, of one half
pub record EventClaims (half : Half) : Type 0 where
  pub refusal_leaves_record : RefusalLeavesRecord half
  pub given106 : Given106 half
  pub given107 : Given107 half
  pub given108 : Given108 half
  pub given0 : Given0 half
  pub signals_in_order : SignalsInOrder half
  pub few_signals : FewSignals half
  pub timer_starts : TimerStarts half
  pub timer_stops : TimerStops half
  pub switch_names_incumbent : SwitchNamesIncumbent half
  pub signals_name_their_own : SignalsNameTheirOwn half
  pub party_told : PartyTold half
  pub causes_as_received : CausesAsReceived half
  pub rejected_by_first_row : RejectedByFirstRow half
  pub rejected_setup_leaves_record : RejectedSetupLeavesRecord half
  pub rejected_in_progress_stores : RejectedInProgressStores half
  pub code21_exactly : Code21Exactly half
  pub ended_is_emptied : EndedIsEmptied half
  pub key_and_services_stay : KeyAndServicesStay half
  pub remote_by_stored_number : RemoteByStoredNumber half
  pub remote_grows : RemoteGrows half
  pub remote_grows_exactly : RemoteGrowsExactly half
  pub last_by_one : LastByOne half
  pub balances : Balances half
  pub held_or_ended_once : HeldOrEndedOnce half
  pub received_not_released : ReceivedNotReleased half
  pub stays_sound : StaysSound half

-- What `Call::handle` returns by its contract, at every record and event, is what the claims speak of.
abbrev pub HandleIsReturned : Type 0
HandleIsReturned = (node : Node) (c : Call) (e : Event) → Returned (half_of node) c e (handled_at (half_of node) c e)

-- ---- at one end alone
-- Decision 18: at the source no event fills more than two of the four places.
abbrev pub TwoAtMost : Type 0
TwoAtMost = Always source_half (λ c e o. 2 ≤ length (of_kind NoSignal o.signals))

-- Decision 17: at the source a connect names the rerouting connection as held after, too.
abbrev pub ConnectStaysRerouting : Type 0
ConnectStaysRerouting = Always source_half (λ c e o. AllAre (rerouting_of o.call.state) (named (of_kind ConnectRequest o.signals)))

-- Decisions 71 and 79: at the destination no setup is rejected with #6,
abbrev pub NoneRejectedWith6 : Type 0
NoneRejectedWith6 = Always destination_half (λ c e o. of_kind Rejection o.signals ≡ rejection in_progress ∷ [] → ⊥)

-- so that every rejected one leaves the whole record there (6.3.5).
abbrev pub EveryRejectedLeavesRecord : Type 0
EveryRejectedLeavesRecord =
    Always destination_half
    (λ c e o. (r : Signal) → rejection_wanted destination_half.demands (standing c) e ≡ r ∷ [] → RejectedLeaving c o r)

-- Decision 63: at the destination no event fills more than three.
abbrev pub ThreeAtMost : Type 0
ThreeAtMost = Always destination_half (λ c e o. 1 ≤ length (of_kind NoSignal o.signals))
