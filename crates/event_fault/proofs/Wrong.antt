-- Two wrong answers of each public function of event_fault. Each theorem speaks of the function's contract as the
-- prover makes it from the source: that its `ensures` holds of the wrong answer, with any value where a variable stands,
-- is false. Assumes nothing.
use Prim.Native.Nat.{ℕ}
use native.Mathlib.Omega.{arith}
use mathlib.Core.List.{List, [], ◌∷◌}
use mathlib.Core.Path.{◌≡◌, ap}
use lib.ListN.{get_or, replicate}
use seplogic.Ra.Ura.{Ura}
use base.Logic.{SProp, ent}
use contract.Lifetimes.{Lfts}
use contract.Monad.{Fun, fact, fact_mono}
use denote.MutBor.{MutBor}
use types.Logic.{Logic}
use prog.Memory.{Memory}
use prog.Routine.{Routine}
use Rattle.events.specs.declared.Node.TheVariants.{Source}
use Rattle.event_fault.specs.declared.Expected.TheVariants.{PolicyFlag}
use Rattle.event_fault.specs.declared.Expected.{Expected}
use Rattle.std.specs.Prelude.{Option, Some, None}
use Rattle.event_fault.specs.Fault.{misses}
use Rattle.event_fault.specs.declared.Fault.{Fault}
use Rattle.lines.specs.Line.{with_text}
use Rattle.lines.specs.declared.Line.{Line}
use Rattle.lines.proofs.Lines.{line_of}
use Rattle.lines.specs.Lines.{ascii, put_byte, put_text, spelled, number_text}
use Rattle.event_fault.specs.contracts.find as find
use Rattle.event_fault.specs.contracts.put_fault as put_fault

-- something that is lent to be changed; where it stands says nothing here
abbrev lent_mut : {X : Type 0} → X → MutBor X
lent_mut xs = record { ref_ptr = (0, 0); ghost_name = 0; now = xs }

-- the octet that a fault tells; 0 where there is none
abbrev octet_told : Option Fault → ℕ
octet_told None = 0
octet_told (Some f) = f.octet

module _ {M : Type 1} {𝓤 : Ura M} (𝓛 : Logic 𝓤) (memory : Memory → SProp 𝓤) (run : Routine → Fun 𝓤) where
  -- it is false: the logic proves falsity from it
  abbrev NeverHolds : SProp 𝓤 → Type 1
  NeverHolds says = ent 𝓤 says (fact 𝓤 ⊥)

  -- find: of 16 octets at the source, their fault
  abbrev find_shuts_out : List ℕ → Option Fault → Type 1
  find_shuts_out octets r = NeverHolds ((find.clauses 𝓛 memory run tt (Source, (octets, tt))).ensures tt r (Source, (octets, tt)))

  -- a connection above 65,535 shows in bytes 8 and 9 (docs/BENCH.md, "list"): a connect with 65,536
  pub byte_9_told_as_10 :
      (value : ℕ) (what : Expected) →
      find_shuts_out (4 ∷ 0 ∷ 0 ∷ 0 ∷ 0 ∷ 0 ∷ 0 ∷ 7 ∷ 0 ∷ 1 ∷ 0 ∷ 0 ∷ 0 ∷ 0 ∷ 0 ∷ 0 ∷ []) (misses 10 value what)
  byte_9_told_as_10 value what = fact_mono 𝓤 _ _ (λ h. let z : ◌≡◌ {A = ℕ} 10 _ = ap octet_told h in omega arith)

  -- hard is 0 or 1 (01, "The trace"): an opening that names hard 2
  pub hard_2_let_through : find_shuts_out (0 ∷ 1 ∷ 2 ∷ 0 ∷ 0 ∷ 0 ∷ 0 ∷ 7 ∷ 0 ∷ 0 ∷ 0 ∷ 0 ∷ 0 ∷ 0 ∷ 0 ∷ 0 ∷ []) None
  hard_2_let_through = fact_mono 𝓤 _ _ (λ h. let z : ◌≡◌ {A = ℕ} 0 1 = cc in omega arith)

  -- put_fault: of a line, by its buffer and its place and a fault, the place where the line goes on, and what is left in its buffer
  abbrev put_fault_shuts_out : List ℕ → ℕ → Option Fault → ℕ → List ℕ → Type 1
  put_fault_shuts_out out at fault r left =
      (κs : Lfts 2) → NeverHolds ((put_fault.clauses 𝓛 memory run κs (lent_mut (line_of out at), (fault, tt))
      ).ensures tt tt (lent_mut (line_of left r), (fault, tt)))

  -- the byte stands before its value (docs/BENCH.md, "list")
  pub byte_told_as_its_value : (r : ℕ) → put_fault_shuts_out (replicate 21 0) 0 (misses 1 2 PolicyFlag) r (ascii "byte 1 is 1, expected")
  unfolding with_text put_byte put_text spelled number_text
  byte_told_as_its_value r κs = fact_mono 𝓤 _ _ (λ h. let z : ◌≡◌ {A = ℕ} 49 _ = ap (λ (l : Line). get_or l.buffer.now 10 0) h in omega arith)

  -- policy 1 is yes (01, "The trace")
  pub policy_told_the_wrong_way_round :
      (r : ℕ) →
      put_fault_shuts_out (replicate 43 0) 0 (misses 1 2 PolicyFlag) r (ascii "byte 1 is 2, expected policy, 0 yes or 1 no")
  unfolding with_text put_byte put_text spelled number_text
  policy_told_the_wrong_way_round r κs =
      fact_mono 𝓤 _ _ (λ h. let z : ◌≡◌ {A = ℕ} 48 _ = ap (λ (l : Line). get_or l.buffer.now 30 0) h in omega arith)
