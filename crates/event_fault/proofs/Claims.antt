-- The claims of specs/Claims.antt hold. Assumes nothing.
use Prim.Native.Nat.{ℕ, ◌≤◌}
use native.Mathlib.Omega.{arith}
use mathlib.Core.Bool.{Bool, true, false, cond}
use mathlib.Core.List.{List}
use mathlib.Core.Logic.{◌⊎◌, inl, inr, ⊎_elim}
use mathlib.Core.Path.{◌≡◌, refl, subst}
use lib.Dec.{eqb}
use borrow.Author.Tests.{eqb-true}
use Rattle.events.specs.declared.Node.{Node}
use Rattle.events.specs.declared.Node.TheVariants.{Source, Destination}
use Rattle.event_record.specs.Record.{octet, kind_at}
use Rattle.events.specs.declared.Act.{Act}
use Rattle.event_fault.specs.Claims as claim
use Rattle.event_fault.specs.Fault.{fault_at}
use Rattle.event_fault.specs.declared.Fault.{Fault}
use Rattle.std.specs.Prelude.{Option, Some, None}
use Rattle.event_fault.proofs.Exactly.{Alike, both_bad, both_sound, kind_alike}
use Rattle.event_fault.proofs.First.{Names, Tells, below, kind_tells}

exactly : (r : Option Act) (f : Option Fault) → Alike r f → (r ≡ None → f ≡ None → ⊥) × ((f ≡ None → ⊥) → r ≡ None)
exactly r f both_bad = (λ e none. let z : ◌≡◌ {A = ℕ} 0 1 = cc in omega arith, λ h. refl)
exactly r f both_sound = (λ e none. let z : ◌≡◌ {A = ℕ} 0 1 = cc in omega arith, λ h. absurd (h refl))

pub exactly_the_bad : claim.ExactlyTheBad
exactly_the_bad node os octets =
    exactly _ _ (kind_alike (octet os 1) (octet os 2) (octet os 3) (octet os 8) (octet os 9) (octet os 10) (octet os 11) (octets 10)
    (octets 11) (kind_at node (octet os 0)))

-- a kind stays, or is that of a release before and after
kept : (node : Node) (kind : ℕ) → (kind ≡ kind_at node kind) ⊎ ((kind ≤ 7) × (kind_at node kind ≤ 7))
kept Source kind = inl refl
kept Destination kind = by_tests (eqb kind 6) (eqb kind 7) refl refl
  where
    by_tests : (six seven : Bool) → eqb kind 6 ≡ six → eqb kind 7 ≡ seven →
        (kind ≡ cond six 7 (cond seven 6 kind)) ⊎ ((kind ≤ 7) × (cond six 7 (cond seven 6 kind) ≤ 7))
    by_tests true seven p q = let e = eqb-true kind 6 p in inr (omega arith, omega arith)
    by_tests false true p q = let e = eqb-true kind 7 q in inr (omega arith, omega arith)
    by_tests false false p q = inl refl

names : (node : Node) (os : List ℕ) (octets : claim.Octets os) → Names (octet os) octets (kind_at node (octet os 0))
names node os octets =
    ⊎_elim (λ e. (λ h. omega arith, λ h. e)) (λ w. (λ h. omega (arith, w.0), λ h. absurd (omega (arith, w.1)))) (kept node (octet os 0))

tells : (node : Node) (os : List ℕ) (octets : claim.Octets os) → Tells (octet os) (kind_at node (octet os 0)) (fault_at node os)
tells node os octets = kind_tells (octet os) octets (kind_at node (octet os 0)) (names node os octets)

pub all_are_named : claim.AllAreNamed
all_are_named node os octets e = subst (Tells (octet os) (kind_at node (octet os 0))) e (tells node os octets)

pub the_first : claim.TheFirst
the_first node os octets f e =
    let told : Tells (octet os) (kind_at node (octet os 0)) (Some f) =
    subst (Tells (octet os) (kind_at node (octet os 0))) e (tells node os octets) in
    (told.0, (told.1.0, below _ f.octet told.1.1))
