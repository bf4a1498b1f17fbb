-- Two wrong answers of each public function of event_words. Each theorem speaks of the function's contract as the
-- prover makes it from the source: that its `ensures` holds of the wrong answer, with any value where a variable stands,
-- is false. Assumes nothing.
use Prim.Native.Nat.{ℕ}
use native.Mathlib.Omega.{arith}
use mathlib.Core.Bool.{true}
use mathlib.Core.List.{List}
use mathlib.Core.Path.{◌≡◌, ap}
use lib.ListN.{get_or, replicate}
use seplogic.Ra.Ura.{Ura}
use base.Logic.{SProp, ent}
use contract.Lifetimes.{Lfts}
use contract.Monad.{Fun, fact, fact_mono}
use denote.MutBor.{MutBor}
use denote.Ref.{Bor}
use types.Logic.{Logic}
use prog.Memory.{Memory}
use prog.Routine.{Routine}
use Rattle.events.specs.declared.Act.TheVariants.{Meets}
use Rattle.events.specs.declared.Act.{Act}
use Rattle.events.specs.declared.Node.{Node}
use Rattle.events.specs.declared.Node.TheVariants.{Source, Destination}
use Rattle.events.specs.declared.Event.{Event}
use Rattle.events.specs.declared.Event.TheVariants.{Connect, Setup}
use Rattle.lines.specs.Line.{with_text}
use Rattle.lines.specs.declared.Line.{Line}
use Rattle.lines.proofs.Lines.{line_of}
use Rattle.lines.specs.Lines.{ascii, put_byte, put_text, spelled, number_text}
use Rattle.event_words.specs.contracts.put_event as put_event
use Rattle.event_words.specs.contracts.put_keyless as put_keyless
use Rattle.event_words.specs.contracts.put_program as put_program

-- something that is lent to be changed; where it stands says nothing here
abbrev lent_mut : {X : Type 0} → X → MutBor X
lent_mut xs = record { ref_ptr = (0, 0); ghost_name = 0; now = xs }

abbrev lent : {X : Type 0} → X → Bor X
lent xs = record { ref_ptr = (0, 0); now = xs }

module _ {M : Type 1} {𝓤 : Ura M} (𝓛 : Logic 𝓤) (memory : Memory → SProp 𝓤) (run : Routine → Fun 𝓤) where
  -- it is false: the logic proves falsity from it
  abbrev NeverHolds : SProp 𝓤 → Type 1
  NeverHolds says = ent 𝓤 says (fact 𝓤 ⊥)

  -- put_event: of a line, by its buffer and its place, a key and what is done with it, the place where the line goes on, and what is left in its buffer
  abbrev put_event_shuts_out : List ℕ → ℕ → ℕ → Act → ℕ → List ℕ → Type 1
  put_event_shuts_out out at key act r left =
      (κs : Lfts 2) → NeverHolds ((put_event.clauses 𝓛 memory run κs (lent_mut (line_of out at), (Source, (key, (act, tt))))
      ).ensures tt tt (lent_mut (line_of left r), (Source, (key, (act, tt)))))

  -- the switchover code 0 is immediate, and 1 clearing (docs/BENCH.md, "script")
  pub code_0_told_as_clearing :
      (r : ℕ) →
      put_event_shuts_out (replicate 18 0) 0 7 (Meets (Setup (record { code = 0 }) 3)) r (ascii "setup 7 clearing 3")
  unfolding with_text put_byte put_text spelled number_text
  code_0_told_as_clearing r κs = fact_mono 𝓤 _ _ (λ h. let z : ◌≡◌ {A = ℕ} 99 _ = ap (λ (l : Line). get_or l.buffer.now 8 0) h in omega arith)

  -- policy 1 is yes (01, "The trace")
  pub policy_yes_told_as_no : (r : ℕ) → put_event_shuts_out (replicate 14 0) 0 7 (Meets (Connect 5 true)) r (ascii "connect 7 5 no")
  unfolding with_text put_byte put_text spelled number_text
  policy_yes_told_as_no r κs = fact_mono 𝓤 _ _ (λ h. let z : ◌≡◌ {A = ℕ} 110 _ = ap (λ (l : Line). get_or l.buffer.now 12 0) h in omega arith)

  -- put_keyless: of a line, by its buffer and its place and an event, the place where the line goes on, and what is left in its buffer
  abbrev put_keyless_shuts_out : List ℕ → ℕ → Event → ℕ → List ℕ → Type 1
  put_keyless_shuts_out out at event r left =
      (κs : Lfts 2) → NeverHolds ((put_keyless.clauses 𝓛 memory run κs (lent_mut (line_of out at), (Source, (event, tt)))
      ).ensures tt tt (lent_mut (line_of left r), (Source, (event, tt))))

  -- no key is told
  pub key_0_told_of_none : (r : ℕ) → put_keyless_shuts_out (replicate 17 0) 0 (Connect 5 true) r (ascii "connect 0 5 yes")
  unfolding with_text put_byte put_text spelled number_text
  key_0_told_of_none r κs = fact_mono 𝓤 _ _ (λ h. let z : ◌≡◌ {A = ℕ} 48 _ = ap (λ (l : Line). get_or l.buffer.now 8 0) h in omega arith)

  -- the connection stands before the policy (docs/CELLS.md)
  pub policy_told_before_the_connection : (r : ℕ) → put_keyless_shuts_out (replicate 13 0) 0 (Connect 5 true) r (ascii "connect yes 5")
  unfolding with_text put_byte put_text spelled number_text
  policy_told_before_the_connection r κs =
      fact_mono 𝓤 _ _ (λ h. let z : ◌≡◌ {A = ℕ} 121 _ = ap (λ (l : Line). get_or l.buffer.now 8 0) h in omega arith)

  -- put_program: of a line, by its buffer and its place, an end and a name, the place where the line goes on, and what is left in its buffer
  abbrev put_program_shuts_out : List ℕ → ℕ → Node → List ℕ → ℕ → List ℕ → Type 1
  put_program_shuts_out out at node name r left =
      (κs : Lfts 3) → NeverHolds ((put_program.clauses 𝓛 memory run κs (lent_mut (line_of out at), (node, (lent name, tt)))
      ).ensures tt tt (lent_mut (line_of left r), (node, (lent name, tt))))

  -- the destination's programs are named after it
  pub destinations_program_named_as_the_sources : (r : ℕ) → put_program_shuts_out (replicate 4 0) 0 Destination (ascii "list") r (ascii "list")
  unfolding with_text put_byte put_text
  destinations_program_named_as_the_sources r κs =
      fact_mono 𝓤 _ _ (λ h. let z : ◌≡◌ {A = ℕ} 108 _ = ap (λ (l : Line). get_or l.buffer.now 0 0) h in omega arith)

  -- the source's are not
  pub sources_program_named_as_the_destinations : (r : ℕ) →
      put_program_shuts_out (replicate 16 0) 0 Source (ascii "list") r (ascii "destination_list")
  unfolding with_text put_byte put_text
  sources_program_named_as_the_destinations r κs =
      fact_mono 𝓤 _ _ (λ h. let z : ◌≡◌ {A = ℕ} 100 _ = ap (λ (l : Line). get_or l.buffer.now 0 0) h in omega arith)
