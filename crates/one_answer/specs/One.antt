-- What it means that a contract leaves one possible answer: two results that meet it are equal, what the lent memory holds at exit included
-- (01, "What the contracts settle"). It is said of the contract itself, as the prover makes it from the function's source, and not of a
-- copy. Assumes nothing.
use seplogic.Ra.Ura.{Ura}
use Rattle.std.specs.Prelude.{◌≡◌}
use base.Logic.{SProp, ent}
use contract.Lifetimes.{Lfts}
use contract.Monad.{Fun, conj, fact}
use denote.Triple.Clauses.{Ended, Clauses, Lasts, at_exit, closing}
use denote.Triple.Entry.{Args, Res}
use denote.Triple.Spec.{Spec}
use types.Logic.{Logic}
use prog.Memory.{Memory}
use prog.Routine.{Routine}

-- what the prover makes of a contract stands at any model of the logic
abbrev pub AtAnyModel : (M : Type 1) → (Ura M → Type 2) → Type 2
AtAnyModel M Made = (𝓤 : Ura M) → (𝓛 : Logic 𝓤) → (Memory → SProp 𝓤) → (Routine → Fun 𝓤) → Made 𝓤

-- T has a function's parameters and its result, `clauses` its `requires` and `ensures`, and `spec` is what its theorem says that it meets.
-- First, `spec` is these clauses and nothing else. Then, whatever the arguments: where the `ensures` holds of an answer r with `left` in
-- the lent memory at exit, and also of an answer s with `other` there, r is s and `left` is `other`; that is a fact of the logic, as each
-- plain clause of a contract is. `Lasts` holds the contents at exit of each `&mut` parameter, so that none is left out
abbrev pub OneAnswer : (M : Type 1) (T : Ended) → AtAnyModel M (λ 𝓤. Clauses 𝓤 T) → AtAnyModel M (λ 𝓤. Spec 𝓤 T.signature) → Type 2
OneAnswer M T clauses spec = (𝓤 : Ura M) (𝓛 : Logic 𝓤) (memory : Memory → SProp 𝓤) (run : Routine → Fun 𝓤) →
    (spec 𝓤 𝓛 memory run ≡ closing 𝓛 T (clauses 𝓤 𝓛 memory run)) ×
    ((κs : Lfts T.signature.lifetimes) (a : Args T.signature κs) (g h : (clauses 𝓤 𝓛 memory run κs a).ghost)
    (r s : Res T.signature κs) (left other : Lasts T κs a) →
    ent 𝓤
    (conj 𝓤 ((clauses 𝓤 𝓛 memory run κs a).ensures g r (at_exit T κs a left))
    ((clauses 𝓤 𝓛 memory run κs a).ensures h s (at_exit T κs a other)))
    (fact 𝓤 ((r ≡ s) × (left ≡ other))))
