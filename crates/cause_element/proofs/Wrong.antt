-- Two wrong answers of each public function of cause_element. Each theorem speaks of the function's contract as the
-- prover makes it from the source: that its `ensures` holds of the wrong answer, with any value where a variable stands,
-- is false. Assumes nothing.
use Prim.Native.Nat.{ℕ}
use native.Mathlib.Omega.{arith}
use mathlib.Core.List.{List, [], ◌∷◌}
use mathlib.Core.Path.{◌≡◌, ap}
use lib.ListN.{length}
use seplogic.Ra.Ura.{Ura}
use base.Logic.{SProp, ent}
use contract.Lifetimes.{Lfts}
use contract.Monad.{Fun, fact, fact_mono}
use denote.Ref.{Bor}
use types.Logic.{Logic}
use prog.Memory.{Memory}
use prog.Routine.{Routine}
use Rattle.cause_element.specs.declared.Names.TheVariants.{TheReceived, TheOwn}
use Rattle.cause_element.specs.declared.Names.{Names}
use Rattle.signal.specs.Causes.{cause}
use Rattle.signal.specs.declared.CauseCode.{CauseCode}
use Rattle.signal.specs.declared.Kind.TheVariants.{CallingRelease, SetupRequest}
use Rattle.signal.specs.declared.SentCause.TheVariants.{Numbered}
use Rattle.signal.specs.declared.Signal.{Signal}
use Rattle.cause_element.specs.contracts.named as named
use Rattle.cause_element.specs.contracts.element as element

-- something that is lent; where it stands says nothing here
abbrev lent : {X : Type 0} → X → Bor X
lent xs = record { ref_ptr = (0, 0); now = xs }

module _ {M : Type 1} {𝓤 : Ura M} (𝓛 : Logic 𝓤) (memory : Memory → SProp 𝓤) (run : Routine → Fun 𝓤) where
  -- it is false: the logic proves falsity from it
  abbrev NeverHolds : SProp 𝓤 → Type 1
  NeverHolds says = ent 𝓤 says (fact 𝓤 ⊥)

  -- named: of a signal, which string it names
  abbrev named_shuts_out : Signal → Names → Type 1
  named_shuts_out s r = NeverHolds ((named.clauses 𝓛 memory run tt (s, tt)).ensures tt r (s, tt))

  -- a cause by number names the node's own string (01, "The cause element sent on")
  pub own_taken_for_received :
      (n : ℕ) (code : CauseCode) →
      named_shuts_out (record { kind = CallingRelease; connection = n; cause = Numbered (cause 4); code = code }) TheReceived
  own_taken_for_received n code = fact_mono 𝓤 _ _ (λ h. let z : ◌≡◌ {A = ℕ} 0 1 = cc in omega arith)

  -- a setup is no release
  pub setup_taken_as_a_release :
      (n : ℕ) (code : CauseCode) →
      named_shuts_out (record { kind = SetupRequest; connection = n; cause = Numbered (cause 8); code = code }) TheOwn
  setup_taken_as_a_release n code = fact_mono 𝓤 _ _ (λ h. let z : ◌≡◌ {A = ℕ} 0 1 = cc in omega arith)

  -- element: of the received string, the node's own and a signal, the part that is sent on; here its own is 1, 2, 0, 1, 9, 8, of which
  -- the last is behind the element
  abbrev element_shuts_out : List ℕ → List ℕ → Signal → Bor (List ℕ) → Type 1
  element_shuts_out received own s r =
      (κs : Lfts 1) → NeverHolds ((element.clauses 𝓛 memory run κs (lent received, (lent own, (s, tt)))
      ).ensures tt r (lent received, (lent own, (s, tt))))

  -- the length is big-endian (01, "The cause element sent on"): 1, and not 256, which the string is too short for
  pub length_read_little_endian :
      (received : List ℕ) (p : ℕ × ℕ) (n : ℕ) (code : CauseCode) →
      element_shuts_out received (1 ∷ 2 ∷ 0 ∷ 1 ∷ 9 ∷ 8 ∷ [])
      (record { kind = CallingRelease; connection = n; cause = Numbered (cause 4); code = code })
      (record { ref_ptr = p; now = [] })
  length_read_little_endian received p n code κs =
      fact_mono 𝓤 _ _ (λ h. let z : ◌≡◌ {A = ℕ} 0 _ = ap (λ (xs : List ℕ). length xs) h.0 in omega arith)

  -- the four octets of header are sent too
  pub header_not_counted :
      (received : List ℕ) (p : ℕ × ℕ) (n : ℕ) (code : CauseCode) →
      element_shuts_out received (1 ∷ 2 ∷ 0 ∷ 1 ∷ 9 ∷ 8 ∷ [])
      (record { kind = CallingRelease; connection = n; cause = Numbered (cause 4); code = code })
      (record { ref_ptr = p; now = 1 ∷ [] })
  header_not_counted received p n code κs =
      fact_mono 𝓤 _ _ (λ h. let z : ◌≡◌ {A = ℕ} 1 _ = ap (λ (xs : List ℕ). length xs) h.0 in omega arith)
