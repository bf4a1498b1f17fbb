-- What `distinct::unique` says of the keys of a row, set in 1,024 zeros, is whether the row's keys are fit. Assumes nothing.
use Prim.Native.Nat.{ℕ, ◌≤◌}
use mathlib.Core.Path.{◌≡◌, refl, sym, ◌∙◌, ap, subst}
use mathlib.Core.Bool.{Bool, true, false, not, ◌&&◌}
use mathlib.Core.List.{List, map}
use lib.Dec.{ltb}
use lib.ListN.{length, take, replicate, length-replicate}
use borrow.Author.Tests.{ltb-false}
use Rattle.lent.specs.Search.{keys_from}
use Rattle.lent.proofs.Keys.{keys_length, keys_are}
use Rattle.distinct.specs.Distinct.{distinct_of, unique_of}
use Rattle.call.specs.declared.Call.{Call}
use Rattle.call_table.specs.Fit.{fit_keys}

either : (m n : ℕ) (t : Bool) (a b : Bool) → ltb m n ≡ t → (n ≤ m → a ≡ b) → (not t && a) ≡ (not t && b)
either m n true a b e f = refl
either m n false a b e f = f (ltb-false m n e)

set_in : (zs : List ℕ) (n : ℕ) → length zs ≡ n → (ys : List Call) → unique_of (keys_from (λ c. c.key) 0 zs ys) (length ys) ≡ (not (ltb n (length ys)) && distinct_of (map (λ c. c.key) ys))
set_in zs n e ys =
    ap (λ (m : ℕ). not (ltb m (length ys)) && distinct_of (take (length ys) (keys_from (λ (c : Call). c.key) 0 zs ys))) (keys_length (λ c. c.key) zs ys ∙ e)
    ∙ either n (length ys) (ltb n (length ys)) _ _ refl
    (λ l. ap distinct_of (keys_are (λ c. c.key) zs ys (subst (λ (m : ℕ). length ys ≤ m) (sym e) l)))

pub keys_fit : (ys : List Call) → unique_of (keys_from (λ c. c.key) 0 (replicate 1024 0) ys) (length ys) ≡ fit_keys ys
keys_fit ys = set_in (replicate 1024 0) 1024 (length-replicate {A = ℕ} 1024 0) ys
