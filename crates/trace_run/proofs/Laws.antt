-- The laws of the keys of a table. Assumes nothing.
use Prim.Native.Nat.{ℕ, zero, suc}
use mathlib.Core.Path.{◌≡◌, refl, ap}
use mathlib.Core.List.{List, [], ◌∷◌}
use lib.ListN.{length, set}
use Rattle.call.specs.declared.Call.{Call}
use Rattle.trace_run.specs.Placed.{keys_in}

pub length_keys : (ys : List Call) → length (keys_in ys) ≡ length ys
length_keys [] = refl
length_keys (c ∷ ys) = ap suc (length_keys ys)

pub keys_set : (ys : List Call) (i : ℕ) (d : Call) → keys_in (set ys i d) ≡ set (keys_in ys) i d.key
keys_set [] i d = refl
keys_set (c ∷ ys) zero d = refl
keys_set (c ∷ ys) (suc i) d = ap (λ (l : List ℕ). c.key ∷ l) (keys_set ys i d)
