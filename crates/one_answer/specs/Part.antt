-- One possible answer, of a function that hands back a part of what it was lent (specs/One). Assumes nothing.
use seplogic.Ra.Ura.{Ura}
use Rattle.std.specs.Prelude.{ℕ, ◌≡◌, List}
use base.Logic.{SProp, ent}
use contract.Lifetimes.{Lfts}
use contract.Monad.{Fun, conj, fact}
use Rattle.std.specs.Borrow.{Bor}
use denote.Triple.Clauses.{Ended, Clauses, Lasts, at_exit, closing}
use denote.Triple.Entry.{Args, Res}
use denote.Triple.Spec.{Spec}
use types.Logic.{Logic}
use prog.Memory.{Memory}
use prog.Routine.{Routine}
use Rattle.one_answer.specs.One.{AtAnyModel}

-- The same of a function that hands back a part of what it was lent: a reference has a name besides, which is the logic's own and no part
-- of what runs; so two answers are alike where they stand at one place and hold the same
abbrev pub OnePart : (M : Type 1) (T : Ended) → AtAnyModel M (λ 𝓤. Clauses 𝓤 T) → AtAnyModel M (λ 𝓤. Spec 𝓤 T.signature) →
    ((κs : Lfts T.signature.lifetimes) → Res T.signature κs → Bor (List ℕ)) → Type 2
OnePart M T clauses spec part = (𝓤 : Ura M) (𝓛 : Logic 𝓤) (memory : Memory → SProp 𝓤) (run : Routine → Fun 𝓤) →
    (spec 𝓤 𝓛 memory run ≡ closing 𝓛 T (clauses 𝓤 𝓛 memory run)) ×
    ((κs : Lfts T.signature.lifetimes) (a : Args T.signature κs) (g h : (clauses 𝓤 𝓛 memory run κs a).ghost)
    (r s : Res T.signature κs) (left other : Lasts T κs a) →
    ent 𝓤
    (conj 𝓤 ((clauses 𝓤 𝓛 memory run κs a).ensures g r (at_exit T κs a left))
    ((clauses 𝓤 𝓛 memory run κs a).ensures h s (at_exit T κs a other)))
    (fact 𝓤 ((((part κs r).ref_ptr ≡ (part κs s).ref_ptr) × ((part κs r).now ≡ (part κs s).now)) × (left ≡ other))))
