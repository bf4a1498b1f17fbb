-- Chains of the places whose numbers fall into one slot: what the loops of `distinct` keep. A place p is written p + 1, and 0 is the end of
-- a chain. No contract of a public function cites this file. Assumes nothing.
use Rattle.std.specs.Prelude.{◌≡◌, List, ℕ, ◌+◌, ◌*◌, ◌/◌, ◌%◌, ◌≤◌, ◌<◌, length, get_or}

-- the slot of x
unfoldable pub slot_of : ℕ → ℕ
slot_of x = x * 2654435761 / 4194304 % 1024

-- the place before a is one of slot b
abbrev pub Own : List ℕ → ℕ → ℕ → Type 0
Own xs b a = (p : ℕ) → a ≡ p + 1 → slot_of (get_or xs p 0) ≡ b

-- a is the last place below i of slot b: it is one, and none is later
pub record Last (xs : List ℕ) (i b a : ℕ) : Type 0 where
  pub low : a ≤ i
  pub all : (j : ℕ) → j < i → (get_or xs j 0 ≡ 0 → ⊥) → slot_of (get_or xs j 0) ≡ b → j < a
  pub own : Own xs b a

-- each place below i that is not empty leads to the last one before it in its slot
abbrev pub Links : List ℕ → List ℕ → ℕ → Type 0
Links xs nexts i = (k : ℕ) → k < i → Last xs k (slot_of (get_or xs k 0)) (get_or nexts k 0)

-- on the way along the chain of x: each place below i that has x is before a
pub record Walk (xs nexts : List ℕ) (i x a : ℕ) : Type 0 where
  pub within : i ≤ length xs
  pub small : i ≤ 1024
  pub solid : x ≡ 0 → ⊥
  pub links : Links xs nexts i
  pub low : a ≤ i
  pub rest : (j : ℕ) → j < i → get_or xs j 0 ≡ x → j < a
  pub own : Own xs (slot_of x) a
