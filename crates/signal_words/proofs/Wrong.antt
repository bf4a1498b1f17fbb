-- Two wrong answers of each public function of signal_words. Each theorem speaks of the function's contract as the
-- prover makes it from the source: that its `ensures` holds of the wrong answer, with any value where a variable stands,
-- is false. Assumes nothing.
use Prim.Native.Nat.{ℕ}
use native.Mathlib.Omega.{arith}
use mathlib.Core.List.{List}
use mathlib.Core.List.{[], ◌∷◌}
use mathlib.Core.Path.{◌≡◌, ap}
use lib.ListN.{get_or, replicate}
use seplogic.Ra.Ura.{Ura}
use base.Logic.{SProp, ent}
use contract.Lifetimes.{Lfts}
use contract.Monad.{Fun, fact, fact_mono}
use denote.MutBor.{MutBor}
use types.Logic.{Logic}
use prog.Memory.{Memory}
use prog.Routine.{Routine}
use Rattle.lines.specs.Line.{with_text}
use Rattle.lines.specs.declared.Line.{Line}
use Rattle.lines.proofs.Lines.{line_of}
use Rattle.lines.specs.Lines.{ascii, put_byte, put_text, spelled, number_text}
use Rattle.signal.specs.Causes.{cause}
use Rattle.signal.specs.Signals.{places, timer_start, release_of}
use Rattle.signal.specs.declared.Kind.TheVariants.{IncumbentRelease}
use Rattle.signal.specs.declared.SentCause.TheVariants.{AsReceived}
use Rattle.signal.specs.declared.Signal.{Signal}
use Rattle.signal_words.specs.contracts.put_signals as put_signals

-- something that is lent to be changed; where it stands says nothing here
abbrev lent_mut : {X : Type 0} → X → MutBor X
lent_mut xs = record { ref_ptr = (0, 0); ghost_name = 0; now = xs }

module _ {M : Type 1} {𝓤 : Ura M} (𝓛 : Logic 𝓤) (memory : Memory → SProp 𝓤) (run : Routine → Fun 𝓤) where
  -- it is false: the logic proves falsity from it
  abbrev NeverHolds : SProp 𝓤 → Type 1
  NeverHolds says = ent 𝓤 says (fact 𝓤 ⊥)

  -- put_signals: of a line, by its buffer and its place and four signals, the place where the line goes on, and what is left in its buffer
  abbrev put_signals_shuts_out : List ℕ → ℕ → List Signal → ℕ → List ℕ → Type 1
  put_signals_shuts_out out at signals r left =
      (κs : Lfts 2) → NeverHolds ((put_signals.clauses 𝓛 memory run κs (lent_mut (line_of out at), (signals, tt))
      ).ensures tt tt (lent_mut (line_of left r), (signals, tt)))

  -- no comma stands before the first signal
  pub comma_before_the_first : (r : ℕ) → put_signals_shuts_out (replicate 13 0) 0 (places (timer_start ∷ [])) r (ascii ", timer start")
  unfolding with_text put_byte put_text spelled number_text
  comma_before_the_first r κs = fact_mono 𝓤 _ _ (λ h. let z : ◌≡◌ {A = ℕ} 44 _ = ap (λ (l : Line). get_or l.buffer.now 0 0) h in omega arith)

  -- where none is sent a dash stands
  pub none_told_by_a_dot : (r : ℕ) → put_signals_shuts_out (replicate 1 0) 0 (places []) r (ascii ".")
  unfolding with_text put_byte put_text spelled number_text
  none_told_by_a_dot r κs = fact_mono 𝓤 _ _ (λ h. let z : ◌≡◌ {A = ℕ} 46 _ = ap (λ (l : Line). get_or l.buffer.now 0 0) h in omega arith)

  -- a cause as received has another mark than one by number (docs/CELLS.md)
  pub as_received_told_as_numbered :
      (r : ℕ) →
      put_signals_shuts_out (replicate 22 0) 0 (places (release_of IncumbentRelease 1 (AsReceived (cause 4)) ∷ [])) r
      (ascii "release incumbent 1 #4")
  unfolding with_text put_byte put_text spelled number_text
  as_received_told_as_numbered r κs =
      fact_mono 𝓤 _ _ (λ h. let z : ◌≡◌ {A = ℕ} 35 _ = ap (λ (l : Line). get_or l.buffer.now 20 0) h in omega arith)
