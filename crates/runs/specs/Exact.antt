-- Demands 1 and 2 (README.md) as statements about a control of any end of a call: it answers, stores and sends exactly what a document
-- asks, and one control does. Assumes nothing.
use Rattle.std.specs.Prelude.{ℕ, ◌≡◌}
use Rattle.lent.specs.Keyed.{replaced_for}
use Rattle.runs.specs.Run.{End, Does, opens, meets, Table, KeyedRequest, Control, call_by_key, RefusalsAreSilent}

-- What a document asks of an end: that a number is the answer to a request over a table; the call that an opening makes, and what it sends;
-- what an event makes of a call, and what it sends
pub record Document (E : End) : Type 1 where
  pub Answers : Table E → KeyedRequest E → ℕ → Type 0
  pub new_call : ℕ → E.Wanted → E.Record
  pub new_sent : ℕ → E.Wanted → E.Signals
  pub met_call : E.Record → E.Event → E.Record
  pub met_sent : E.Record → E.Event → E.Signals

module _ (E : End) (D : Document E) where
  -- the answer to a request over a table is the document's
  abbrev pub AnswersAt : Control E → Table E → KeyedRequest E → Type 0
  AnswersAt C ys a = D.Answers ys a (C ys a).answer

  -- what a request that is done must store and send: an opening the new call, in the first empty record; an event what it makes of the call
  -- of its key, in that record
  abbrev pub stored_for : Table E → ℕ → Does E.Wanted E.Event → Table E
  stored_for ys k (opens w) = replaced_for E.key 0 (D.new_call k w) ys
  stored_for ys k (meets e) = replaced_for E.key k (D.met_call (call_by_key E k ys) e) ys

  abbrev pub sent_for : Table E → ℕ → Does E.Wanted E.Event → E.Signals
  sent_for ys k (opens w) = D.new_sent k w
  sent_for ys k (meets e) = D.met_sent (call_by_key E k ys) e

  abbrev pub DoesAt : Control E → Table E → KeyedRequest E → Type 0
  DoesAt C ys a =
      (C ys a).answer ≡ 0 → ((C ys a).table ≡ stored_for ys a.key a.does) × ((C ys a).signals ≡ sent_for ys a.key a.does)

  -- Demands 1 and 2: over any table every request is answered so, and what is done does exactly that.
  abbrev pub AnswersEverywhere : Control E → Type 0
  AnswersEverywhere C = (ys : Table E) (a : KeyedRequest E) → AnswersAt C ys a

  abbrev pub DoesEverywhere : Control E → Type 0
  DoesEverywhere C = (ys : Table E) (a : KeyedRequest E) → DoesAt C ys a

  -- the document leaves one answer
  abbrev pub OneNumber : Type 0
  OneNumber = (ys : Table E) (a : KeyedRequest E) (m n : ℕ) → D.Answers ys a m → D.Answers ys a n → m ≡ n

  -- 01, "What the contracts settle": these two, and that refusals are silent, leave one control. Two that keep them reply alike to every
  -- request over every table: the same answer, signals and table.
  abbrev pub LeavesOneControl : Type 0
  LeavesOneControl =
      (B C : Control E) → AnswersEverywhere B → DoesEverywhere B → RefusalsAreSilent E B →
      AnswersEverywhere C → DoesEverywhere C → RefusalsAreSilent E C →
      (ys : Table E) (a : KeyedRequest E) → B ys a ≡ C ys a

  abbrev pub OneNumberLeavesOneControl : Type 0
  OneNumberLeavesOneControl = OneNumber → LeavesOneControl
