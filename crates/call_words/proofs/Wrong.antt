-- Two wrong answers of each public function of call_words. Each theorem speaks of the function's contract as the
-- prover makes it from the source: that its `ensures` holds of the wrong answer, with any value where a variable stands,
-- is false. Assumes nothing.
use Prim.Native.Nat.{ℕ}
use native.Mathlib.Omega.{arith}
use mathlib.Core.Bool.{true}
use mathlib.Core.List.{List}
use mathlib.Core.Path.{◌≡◌, ap}
use lib.ListN.{get_or, replicate}
use seplogic.Ra.Ura.{Ura}
use base.Logic.{SProp, ent}
use contract.Lifetimes.{Lfts}
use contract.Monad.{Fun, fact, fact_mono}
use denote.MutBor.{MutBor}
use types.Logic.{Logic}
use prog.Memory.{Memory}
use prog.Routine.{Routine}
use Rattle.call.specs.declared.Call.{Call}
use Rattle.lines.specs.Line.{with_text}
use Rattle.lines.specs.declared.Line.{Line}
use Rattle.lines.proofs.Lines.{line_of}
use Rattle.lines.specs.Lines.{ascii, put_byte, put_text, spelled, number_text}
use Rattle.rows.specs.declared.State.TheVariants.{Awaiting}
use Rattle.signal.specs.declared.Soft.TheVariants.{Symmetric}
use Rattle.call_words.specs.contracts.put_call as put_call

-- something that is lent to be changed; where it stands says nothing here
abbrev lent_mut : {X : Type 0} → X → MutBor X
lent_mut xs = record { ref_ptr = (0, 0); ghost_name = 0; now = xs }

-- key 7, hard on, soft 2, state 7, incumbent 3, rerouting 5, last 6, remote 4
abbrev held : Call
held = record { key = 7; hard = true; soft = Symmetric; state = Awaiting 3 5; last = 6; remote = 4 }

module _ {M : Type 1} {𝓤 : Ura M} (𝓛 : Logic 𝓤) (memory : Memory → SProp 𝓤) (run : Routine → Fun 𝓤) where
  -- it is false: the logic proves falsity from it
  abbrev NeverHolds : SProp 𝓤 → Type 1
  NeverHolds says = ent 𝓤 says (fact 𝓤 ⊥)

  -- put_call: of a line, by its buffer and its place and a record, the place where the line goes on, and what is left in its buffer
  abbrev put_call_shuts_out : List ℕ → ℕ → Call → ℕ → List ℕ → Type 1
  put_call_shuts_out out at call r left =
      (κs : Lfts 2) → NeverHolds ((put_call.clauses 𝓛 memory run κs (lent_mut (line_of out at), (call, tt))
      ).ensures tt tt (lent_mut (line_of left r), (call, tt)))

  -- the incumbent stands before the rerouting connection
  pub connections_exchanged : (r : ℕ) → put_call_shuts_out (replicate 15 0) 0 held r (ascii "7 1 2 7 5 3 6 4")
  unfolding with_text put_byte put_text spelled number_text
  connections_exchanged r κs = fact_mono 𝓤 _ _ (λ h. let z : ◌≡◌ {A = ℕ} 53 _ = ap (λ (l : Line). get_or l.buffer.now 8 0) h in omega arith)

  -- the last number is the one that the call has given
  pub remote_told_for_last : (r : ℕ) → put_call_shuts_out (replicate 15 0) 0 held r (ascii "7 1 2 7 3 5 4 4")
  unfolding with_text put_byte put_text spelled number_text
  remote_told_for_last r κs = fact_mono 𝓤 _ _ (λ h. let z : ◌≡◌ {A = ℕ} 52 _ = ap (λ (l : Line). get_or l.buffer.now 12 0) h in omega arith)
