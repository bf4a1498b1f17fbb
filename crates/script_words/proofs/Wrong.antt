-- Two wrong answers of each public function of script_words. Each theorem speaks of the function's contract as the
-- prover makes it from the source: that its `ensures` holds of the wrong answer, with any value where a variable stands,
-- is false. Assumes nothing.
use Prim.Native.Nat.{ℕ}
use native.Mathlib.Omega.{arith}
use mathlib.Core.List.{List}
use mathlib.Core.Path.{◌≡◌, ap}
use lib.ListN.{get_or, replicate}
use seplogic.Ra.Ura.{Ura}
use base.Logic.{SProp, ent}
use contract.Lifetimes.{Lfts}
use contract.Monad.{Fun, fact, fact_mono}
use denote.MutBor.{MutBor}
use types.Logic.{Logic}
use prog.Memory.{Memory}
use prog.Routine.{Routine}
use Rattle.lines.specs.Line.{with_text}
use Rattle.lines.specs.declared.Line.{Line}
use Rattle.lines.proofs.Lines.{line_of}
use Rattle.lines.specs.Lines.{ascii, put_byte, put_text}
use Rattle.script_words.specs.declared.What.TheVariants.{AKey, HardOrEnd}
use Rattle.script_words.specs.declared.What.{What}
use Rattle.script_words.specs.contracts.put_what as put_what

-- something that is lent to be changed; where it stands says nothing here
abbrev lent_mut : {X : Type 0} → X → MutBor X
lent_mut xs = record { ref_ptr = (0, 0); ghost_name = 0; now = xs }

module _ {M : Type 1} {𝓤 : Ura M} (𝓛 : Logic 𝓤) (memory : Memory → SProp 𝓤) (run : Routine → Fun 𝓤) where
  -- it is false: the logic proves falsity from it
  abbrev NeverHolds : SProp 𝓤 → Type 1
  NeverHolds says = ent 𝓤 says (fact 𝓤 ⊥)

  -- put_what: of a line, by its buffer and its place and what was expected, the place where the line goes on, and what is left in its buffer
  abbrev put_what_shuts_out : List ℕ → ℕ → What → ℕ → List ℕ → Type 1
  put_what_shuts_out out at what r left =
      (κs : Lfts 2) → NeverHolds ((put_what.clauses 𝓛 memory run κs (lent_mut (line_of out at), (what, tt))
      ).ensures tt tt (lent_mut (line_of left r), (what, tt)))

  -- a key is told as 0 to 4294967295 (docs/BENCH.md, "script")
  pub key_told_up_to_65535 : (r : ℕ) → put_what_shuts_out (replicate 17 0) 0 AKey r (ascii "a key, 0 to 65535")
  unfolding with_text put_byte put_text
  key_told_up_to_65535 r κs = fact_mono 𝓤 _ _ (λ h. let z : ◌≡◌ {A = ℕ} 54 _ = ap (λ (l : Line). get_or l.buffer.now 12 0) h in omega arith)

  -- behind `open KEY` the line may end
  pub end_not_told_behind_open : (r : ℕ) → put_what_shuts_out (replicate 14 0) 0 HardOrEnd r (ascii "hard or nohard")
  unfolding with_text put_byte put_text
  end_not_told_behind_open r κs =
      fact_mono 𝓤 _ _ (λ h. let z : ◌≡◌ {A = ℕ} 32 _ = ap (λ (l : Line). get_or l.buffer.now 4 0) h in omega arith)
