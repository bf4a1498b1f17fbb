-- A table of empty records is fit. Assumes nothing.
use Prim.Native.Nat.{ℕ, zero, suc, ◌≤◌}
use mathlib.Core.Path.{◌≡◌, refl, sym, ap, subst}
use mathlib.Core.Bool.{true}
use lib.ListN.{get_or, replicate, length-replicate}
use Rattle.call.specs.declared.Call.{Call}
use Rattle.call.specs.Record.{emptied}
use Rattle.call_table.specs.Fit.{fit_table}
use Rattle.call_table.specs.Claims.{FitRecord, FitTable}
use Rattle.call_table.proofs.Fit.{fit_exactly}

every_empty : (n i : ℕ) → get_or (replicate n emptied) i emptied ≡ emptied
every_empty zero i = refl
every_empty (suc n) zero = refl
every_empty (suc n) (suc i) = every_empty n i

pub empty_is_fit : (n : ℕ) → n ≤ 1024 → FitTable (replicate n emptied)
empty_is_fit n few =
    record {
      few = subst (λ m. m ≤ 1024) (sym (length-replicate n emptied)) few;
      keys = λ j k l m e. ap (λ (c : Call). c.key) (every_empty n j);
      each = λ i l. subst FitRecord (sym (every_empty n i)) record { empty = λ e. refl; used = λ used. absurd (used refl) };
    }

pub empty_tests_fit : (n : ℕ) → n ≤ 1024 → fit_table (replicate n emptied) ≡ true
empty_tests_fit n few = (fit_exactly (replicate n emptied)).1 (empty_is_fit n few)
