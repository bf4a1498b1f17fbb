-- Controls that do not do the work, at any end of a call (01, "What the contracts settle"), and where each breaks what a document asks.
-- Assumes nothing.
use Rattle.std.specs.Prelude.{ℕ, ◌≡◌, Bool, true, not, ◌&&◌, cond, map, eqb}
use Rattle.lent.specs.Keyed.{on_record, replaced_for}
use Rattle.runs.specs.Run.{End, KeyedRequest, Reply, Table, Control, call_by_key}
use Rattle.runs.specs.Exact.{Document, AnswersAt, DoesAt, OneNumber, stored_for, sent_for}

module _ (E : End) where
  -- it refuses everything, by whatever number
  abbrev pub refusing : (Table E → KeyedRequest E → ℕ) → Control E
  refusing number ys a = record { answer = number ys a; signals = E.silent; table = ys }

  -- it always returns the same, whatever that is
  abbrev pub constant : Reply E → Control E
  constant r ys a = r

  -- it answers and signals as C does, and leaves the table untouched
  abbrev pub untouching : Control E → Control E
  untouching C ys a = record { answer = (C ys a).answer; signals = (C ys a).signals; table = ys }

  -- it does what C does to a call that is new, and to any other, where C would do something, it merely moves numbers in the record and
  -- sends nothing
  abbrev pub moves : Control E → (E.Record → Bool) → Table E → KeyedRequest E → Bool
  moves C new ys a = on_record E.key a.key ys && (not (new (call_by_key E a.key ys)) && eqb (C ys a).answer 0)

  abbrev pub moving : Control E → (E.Record → Bool) → (E.Record → E.Record) → Control E
  moving C new moved ys a =
      let d = moved (call_by_key E a.key ys) in
      cond (moves C new ys a) (record { answer = 0; signals = E.silent; table = replaced_for E.key a.key d ys }) (C ys a)

  -- it does what C does, and stores or sends something else
  abbrev pub altering_records : (E.Record → E.Record) → Control E → Control E
  altering_records f C ys a = record { answer = (C ys a).answer; signals = (C ys a).signals; table = map f (C ys a).table }

  abbrev pub altering_signals : (E.Signals → E.Signals) → Control E → Control E
  altering_signals f C ys a = record { answer = (C ys a).answer; signals = f (C ys a).signals; table = (C ys a).table }

  module _ (D : Document E) where
    -- One that refuses everything is shut out by any request that is to be done,
    abbrev pub RefusingBreaks : Type 0
    RefusingBreaks =
        OneNumber E D → (number : Table E → KeyedRequest E → ℕ) → ((ys : Table E) (a : KeyedRequest E) → number ys a ≡ 0 → ⊥) →
        (ys : Table E) (a : KeyedRequest E) → D.Answers ys a 0 → AnswersAt E D (refusing number) ys a → ⊥

    -- one that always returns the same by any two that are to be answered differently,
    abbrev pub ConstantBreaks : Type 0
    ConstantBreaks =
        OneNumber E D → (r : Reply E) (ys zs : Table E) (a b : KeyedRequest E) (m n : ℕ) →
        D.Answers ys a m → D.Answers zs b n → (m ≡ n → ⊥) →
        AnswersAt E D (constant r) ys a × AnswersAt E D (constant r) zs b → ⊥

    -- one that leaves the table by any request that is done and is to change it,
    abbrev pub UntouchingBreaks : Type 0
    UntouchingBreaks =
        (C : Control E) (ys : Table E) (a : KeyedRequest E) → (C ys a).answer ≡ 0 → (ys ≡ stored_for E D ys a.key a.does → ⊥) →
        DoesAt E D (untouching C) ys a → ⊥

    -- and one that merely moves numbers by any that it so meets and that is to send something.
    abbrev pub MovingBreaks : Type 0
    MovingBreaks =
        (C : Control E) (new : E.Record → Bool) (moved : E.Record → E.Record) (ys : Table E) (a : KeyedRequest E) →
        moves C new ys a ≡ true → (E.silent ≡ sent_for E D ys a.key a.does → ⊥) → DoesAt E D (moving C new moved) ys a → ⊥
