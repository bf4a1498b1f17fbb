-- What the laws mean of a call and an event, at either end, in terms that mention no case and no rule: `x` is how the call stands, `f` what
-- the event does. Assumes nothing.
use Rattle.std.specs.Prelude.{◌+◌, ◌≤◌, ℕ, cond, false, not, true, List, [], ◌∷◌, ◌≡◌, length}
use Rattle.signal.specs.Counting.{Honest, count, ended_sent, in_order, named, of_kind, with_code21}
use Rattle.signal.specs.Numbers.{answer_number, is_late}
use Rattle.signal.specs.Signals.{places}
use Rattle.signal.specs.declared.Kind.TheVariants.{ConnectRequest, IncumbentRelease, NoSignal, Rejection, ReroutingRelease, SetupRequest}
use Rattle.signal.specs.declared.Kind.TheVariants.{Switch, TimerStart, TimerStop}
use Rattle.signal.specs.declared.Signal.{Signal}
use Rattle.signal.specs.declared.Switchover.{Switchover}
use Rattle.events.specs.Events.{is_expiry, number_brought, received_in, reported}
use Rattle.events.specs.declared.Event.{Event}
use Rattle.events.specs.declared.Node.{Node}
use Rattle.rows.specs.Cases.{Standing, asking_of, case_of, has_room}
use Rattle.rows.specs.Checks.{AllAre, AllIncumbent, Demands, Nones, answer_number_wanted, code21_wanted, party_wanted, rejection_wanted}
use Rattle.rows.specs.Checks.{starts_wanted, stops_wanted, stored_wanted, unrejected}
use Rattle.rows.specs.Effects.{causes_of, party_kind}
use Rattle.rows.specs.Laws.{Wants}
use Rattle.rows.specs.Rules.{is_done}
use Rattle.rows.specs.States.{held_in, incumbent_of, is_hard, is_null, phase_of, rerouting_of}
use Rattle.rows.specs.declared.Effect.{Effect}

-- the number that an event gives: the last one plus 1
abbrev pub given_by : Standing → Effect → List ℕ
given_by x f = cond f.gives ((x.last + 1) ∷ []) []

-- the incarnation number that it stores
abbrev pub stored_by : Event → Effect → List ℕ
stored_by e f = cond f.stores (number_brought e ∷ []) []

-- the same of a setup that is accepted: nothing is rejected
abbrev pub accepted_by : Event → Effect → List ℕ
accepted_by e f = unrejected (of_kind Rejection f.signals) (stored_by e f)

-- the connections whose release was received and not refused
abbrev pub ended_got : Event → Effect → List ℕ
ended_got e f = cond (is_done f.answer) (reported e) []

-- a refusal changes nothing and sends nothing
pub record Still (x : Standing) (f : Effect) : Type 0 where
  pub state : f.state ≡ x.state
  pub gives : f.gives ≡ false
  pub stores : f.stores ≡ false
  pub signals : f.signals ≡ places []

-- what every event keeps, at either end
pub record Kept (node : Node) (x : Standing) (e : Event) (f : Effect) : Type 0 where
  pub quiet : is_done f.answer ≡ false → Still x f
  -- every connection number is accounted for: what is held before, with the number given, is what is held after and what has ended, each
  -- counted
  pub balanced : (n : ℕ) →
      count n (held_in x.state) + count n (given_by x f)
      ≡ count n (held_in f.state) + (count n (ended_got e f) + count n (ended_sent f.signals))
  pub starts : of_kind TimerStart f.signals ≡ starts_wanted (is_hard x.state) (is_hard f.state)
  pub stops : of_kind TimerStop f.signals ≡ stops_wanted (is_expiry e) (is_hard x.state) (is_hard f.state)
  -- a switch names the incumbent after; a release its own connection, as held before; a connect the rerouting connection, as held before; a
  -- setup the next number
  pub switched : AllIncumbent f.state (named (of_kind Switch f.signals))
  pub incumbents : AllAre (incumbent_of x.state) (named (of_kind IncumbentRelease f.signals))
  pub reroutings : AllAre (rerouting_of x.state) (named (of_kind ReroutingRelease f.signals))
  pub connects : AllAre (rerouting_of x.state) (named (of_kind ConnectRequest f.signals))
  pub setups : AllAre (x.last + 1) (named (of_kind SetupRequest f.signals))
  -- four places, filled from the front in the printed order; an unused one is none
  pub four : length f.signals ≡ 4
  pub ordered : in_order f.signals ≡ true
  pub blank : Nones (of_kind NoSignal f.signals)
  -- a cause "as received" came
  pub honest : Honest (received_in e) f.signals
  pub told : named (of_kind (party_kind node) f.signals) ≡ party_wanted (not (is_null x.state)) (not (is_null f.state)) e
  -- a number is given only where there is one, to a call that goes on, and exactly with a setup sent or accepted
  pub lives : f.gives ≡ true → is_null f.state ≡ false
  pub roomy : f.gives ≡ true → has_room x.last ≡ true
  pub given : length (of_kind SetupRequest f.signals) + length (accepted_by e f) ≡ length (given_by x f)

-- what a rejection leaves: it is done, there is a call, which stays in its state with what it holds, and it is all that is sent. Whether
-- the setup's number is stored is said by `stored` of `Obeys`
pub record Left (x : Standing) (f : Effect) (r : Signal) : Type 0 where
  pub done : answer_number f.answer ≡ 0
  pub live : is_null x.state ≡ false
  pub state : f.state ≡ x.state
  pub gives : f.gives ≡ false
  pub signals : f.signals ≡ places (r ∷ [])

-- what an event does that the documents of an end ask for
pub record Obeys (d : Demands) (x : Standing) (e : Event) (f : Effect) : Type 0 where
  pub answered : answer_number f.answer ≡ answer_number_wanted d x e
  pub stored : stored_by e f ≡ stored_wanted d x e
  pub rejected : of_kind Rejection f.signals ≡ rejection_wanted d x e
  pub rejects : (r : Signal) → rejection_wanted d x e ≡ r ∷ [] → Left x f r
  pub code21 : with_code21 f.signals ≡ code21_wanted d x e
  pub few : 4 ≤ length (of_kind NoSignal f.signals) + d.most

-- what the documents of an end ask for by case, and of a call and an event, is one thing
pub record Agrees (w : Wants) (d : Demands) : Type 0 where
  pub meaningless : (x : Standing) (e : Event) → w.meaningless (case_of x e) ≡ d.meaningless x e
  pub rejected : (x : Standing) (code : Switchover) (number : ℕ) →
      causes_of (w.rejected (phase_of x.state) (asking_of code) (is_late number x.remote)) ≡ d.rejected x code number
  pub retired21 : (x : Standing) (e : Event) → w.retired21 (case_of x e) ≡ d.retired21 x e
  pub dropped21 : (x : Standing) (e : Event) → w.dropped21 (case_of x e) ≡ d.dropped21 x e
  pub most : w.most ≡ d.most
