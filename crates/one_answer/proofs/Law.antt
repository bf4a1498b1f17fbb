-- The law of one possible answer, and the shapes that it takes: one for each form that a contract has. Assumes nothing.
use seplogic.Ra.Ura.{Ura}
use mathlib.Core.Path.{◌≡◌, sym, ◌∙◌, refl}
use base.Logic.{ent, sep, via, snd∗}
use contract.Monad.{conj, conj_l, conj_r, conj_mono, fact, fact_use, fact_i}

-- the law
pub same : {A : Type 0} {a b x : A} → a ≡ x → b ≡ x → a ≡ b
same p q = p ∙ sym q

-- two facts of the logic give a third where they do so outside it
pub facts : {M : Type 1} (𝓤 : Ura M) {P Q R : Type 0} → (P → Q → R) → ent 𝓤 (conj 𝓤 (fact 𝓤 P) (fact 𝓤 Q)) (fact 𝓤 R)
facts 𝓤 {P} {Q} {R} f =
    fact_use 𝓤 P (conj_l 𝓤 (fact 𝓤 P) (fact 𝓤 Q)) (λ p. fact_use 𝓤 Q (conj_r 𝓤 (fact 𝓤 P) (fact 𝓤 Q)) (λ q. fact_i 𝓤 R (conj 𝓤 (fact 𝓤 P) (fact 𝓤 Q)) (f p q)))

-- the same of the last of two clauses
pub facts_behind : {M : Type 1} (𝓤 : Ura M) {P' P Q' Q R : Type 0} → (P → Q → R) →
    ent 𝓤 (conj 𝓤 (sep 𝓤 (fact 𝓤 P') (fact 𝓤 P)) (sep 𝓤 (fact 𝓤 Q') (fact 𝓤 Q))) (fact 𝓤 R)
facts_behind 𝓤 {P'} {P} {Q'} {Q} f =
    via 𝓤 (conj 𝓤 (fact 𝓤 P) (fact 𝓤 Q)) (conj_mono 𝓤 (snd∗ 𝓤 (fact 𝓤 P') (fact 𝓤 P)) (snd∗ 𝓤 (fact 𝓤 Q') (fact 𝓤 Q))) (facts 𝓤 f)

pub pairs : {A B : Type 0} {p q : A × B} → p.0 ≡ q.0 → p.1 ≡ q.1 → p ≡ q
pairs e f i = (e i, f i)

-- an equation for the result; nothing is lent to be written
pub result : {A L : Type 0} {r s x : A} {left : L} → r ≡ x → s ≡ x → (r ≡ s) × (left ≡ left)
result p q = (same p q, refl)

-- the same, written the other way round
pub told : {A L : Type 0} {r s x : A} {left : L} → x ≡ r → x ≡ s → (r ≡ s) × (left ≡ left)
told p q = (sym p ∙ q, refl)

-- an equation for the result, and one for what the first parameter holds at exit; no other is lent to be written
pub result_and_lent : {A B L : Type 0} {r s x : A} {y : B} {left other : B × L} → left.1 ≡ other.1 → (r ≡ x) × (left.0 ≡ y) →
    (s ≡ x) × (other.0 ≡ y) → (r ≡ s) × (left ≡ other)
result_and_lent e p q = (same p.0 q.0, pairs (same p.1 q.1) e)

-- one equation for what the first parameter holds at exit; no other is lent to be written, and nothing is answered
pub lent : {A L : Type 0} {r s : Unit {0}} {x : A} {left other : A × L} → left.1 ≡ other.1 → left.0 ≡ x → other.0 ≡ x →
    (r ≡ s) × (left ≡ other)
lent e p q = (refl, pairs (same p q) e)

-- one equation for what a part holds and one for where it stands; nothing is lent to be written
pub part : {A P L : Type 0} {r s x : A} {p q y : P} {left : L} → (r ≡ x) × (p ≡ y) → (s ≡ x) × (q ≡ y) → ((p ≡ q) × (r ≡ s)) × (left ≡ left)
part a b = ((same a.1 b.1, same a.0 b.0), refl)
