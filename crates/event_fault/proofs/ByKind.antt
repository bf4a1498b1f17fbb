-- What holds of each kind, and of every number above, holds of every number. Assumes nothing.
use Prim.Native.Nat.{ℕ, zero, suc, ◌<◌}
use native.Mathlib.Omega.{arith}

pub by_kind : (P : ℕ → Type 0) → P 0 → P 1 → P 2 → P 3 → P 4 → P 5 → P 6 → P 7 → P 8 → P 9 → ((k : ℕ) → 9 < k → P k) → (k : ℕ) → P k
by_kind P none one two three four five six seven eight nine more zero = none
by_kind P none one two three four five six seven eight nine more (suc zero) = one
by_kind P none one two three four five six seven eight nine more (suc (suc zero)) = two
by_kind P none one two three four five six seven eight nine more (suc (suc (suc zero))) = three
by_kind P none one two three four five six seven eight nine more (suc (suc (suc (suc zero)))) = four
by_kind P none one two three four five six seven eight nine more (suc (suc (suc (suc (suc zero))))) = five
by_kind P none one two three four five six seven eight nine more (suc (suc (suc (suc (suc (suc zero)))))) = six
by_kind P none one two three four five six seven eight nine more (suc (suc (suc (suc (suc (suc (suc zero))))))) = seven
by_kind P none one two three four five six seven eight nine more (suc (suc (suc (suc (suc (suc (suc (suc zero)))))))) = eight
by_kind P none one two three four five six seven eight nine more (suc (suc (suc (suc (suc (suc (suc (suc (suc zero))))))))) = nine
by_kind P none one two three four five six seven eight nine more (suc (suc (suc (suc (suc (suc (suc (suc (suc (suc k)))))))))) =
    more (suc (suc (suc (suc (suc (suc (suc (suc (suc (suc k)))))))))) (omega arith)
