-- The claims on the element that is sent on (specs/Claims), proved. Assumes nothing.
use Prim.Native.Nat.{ℕ, suc, ◌+◌, ◌*◌, ◌≤◌, zero-le}
use native.Mathlib.Omega.{arith}
use mathlib.Core.Path.{◌≡◌, refl, sym, ◌∙◌, ap}
use mathlib.Core.Bool.{true, false, true≢false, false≢true}
use mathlib.Core.List.{List, ◌∷◌, ◌++◌}
use mathlib.Core.Logic.{◌⊎◌, inl, inr}
use lib.ListN.{length, take, length-append}
use lib.Seq.{take-append_seam}
use Rattle.signal.specs.declared.Kind.{Kind}
use Rattle.signal.specs.declared.Kind.TheVariants.{NoSignal, TimerStart, TimerStop, Switch, CallingRelease, IncumbentRelease}
use Rattle.signal.specs.declared.Kind.TheVariants.{ReroutingRelease, SetupRequest, ConnectRequest, Rejection, CalledRelease}
use Rattle.signal.specs.declared.SentCause.{SentCause}
use Rattle.signal.specs.declared.SentCause.TheVariants.{Absent}
use Rattle.cause_element.specs.declared.Names.{Names}
use Rattle.cause_element.specs.declared.Names.TheVariants.{TheReceived, TheOwn, Neither}
use Rattle.cause_element.specs.Element.{named_by_cause, named_by_kind, named_by, picked_by, count_by}
use Rattle.cause_element.specs.Claims as claim
use Rattle.cause_element.proofs.Laws.{cut, enough, never_past as element_never_past}

by_name : (string : Names) (received own : List ℕ) → count_by string received own ≤ length (picked_by string received own)
by_name TheReceived received own = element_never_past received
by_name TheOwn received own = element_never_past own
by_name Neither received own = zero-le

pub never_past : claim.NeverPast
never_past received own s = by_name (named_by s) received own

pub exactly_the_element : claim.ExactlyTheElement
exactly_the_element a b high low content rest e =
    let octets : List ℕ = a ∷ b ∷ high ∷ low ∷ (content ++ rest) in
    let long : length (content ++ rest) ≡ length content + length rest = length-append content rest in
    let whole : 4 + high * 256 + low ≡ suc (suc (suc (suc (length content)))) = omega arith in
    ap (λ n. take n octets) (sym (enough octets (4 + high * 256 + low) (omega arith) refl (omega arith)) ∙ whole)
    ∙ ap (λ t. a ∷ b ∷ high ∷ low ∷ t) (take-append_seam content rest)

pub too_short_is_nothing : claim.TooShortIsNothing
too_short_is_nothing a b high low content h =
    sym (cut (a ∷ b ∷ high ∷ low ∷ content) _ (omega arith) refl (omega arith))

-- what a signal names, by its kind
named_release : (k : Kind) (cause : SentCause) → claim.is_release_kind k ≡ true → named_by_kind k cause ≡ named_by_cause cause
named_release NoSignal cause h = absurd (false≢true h)
named_release TimerStart cause h = absurd (false≢true h)
named_release TimerStop cause h = absurd (false≢true h)
named_release Switch cause h = absurd (false≢true h)
named_release CallingRelease cause h = refl
named_release IncumbentRelease cause h = refl
named_release ReroutingRelease cause h = refl
named_release SetupRequest cause h = absurd (false≢true h)
named_release ConnectRequest cause h = absurd (false≢true h)
named_release Rejection cause h = absurd (false≢true h)
named_release CalledRelease cause h = refl

named_other : (k : Kind) (cause : SentCause) → (claim.is_release_kind k ≡ false) ⊎ (cause ≡ Absent) → named_by_kind k cause ≡ Neither
named_other k cause (inl other) = by_kind k other
  where
    by_kind : (k : Kind) → claim.is_release_kind k ≡ false → named_by_kind k cause ≡ Neither
    by_kind NoSignal h = refl
    by_kind TimerStart h = refl
    by_kind TimerStop h = refl
    by_kind Switch h = refl
    by_kind CallingRelease h = absurd (true≢false h)
    by_kind IncumbentRelease h = absurd (true≢false h)
    by_kind ReroutingRelease h = absurd (true≢false h)
    by_kind SetupRequest h = refl
    by_kind ConnectRequest h = refl
    by_kind Rejection h = refl
    by_kind CalledRelease h = absurd (true≢false h)
named_other k cause (inr absent) = by_kind k
  where
    by_kind : (k : Kind) → named_by_kind k cause ≡ Neither
    by_kind NoSignal = refl
    by_kind TimerStart = refl
    by_kind TimerStop = refl
    by_kind Switch = refl
    by_kind CallingRelease = ap named_by_cause absent
    by_kind IncumbentRelease = ap named_by_cause absent
    by_kind ReroutingRelease = ap named_by_cause absent
    by_kind SetupRequest = refl
    by_kind ConnectRequest = refl
    by_kind Rejection = refl
    by_kind CalledRelease = ap named_by_cause absent

pub sends_the_named : claim.SendsTheNamed
sends_the_named received own s release c = (
  λ e. ap part (named_release s.kind s.cause release ∙ ap named_by_cause e),
  λ e. ap part (named_release s.kind s.cause release ∙ ap named_by_cause e),
)
  where
    part : Names → List ℕ
    part string = take (count_by string received own) (picked_by string received own)

pub else_nothing : claim.ElseNothing
else_nothing received own s other =
    ap (λ (string : Names). take (count_by string received own) (picked_by string received own)) (named_other s.kind s.cause other)
