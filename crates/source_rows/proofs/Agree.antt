-- What the documents ask of the source by case, and of a call and an event, is one thing (specs/Demands). Assumes nothing.
use Prim.Native.Nat.{ℕ}
use mathlib.Core.Bool.{Bool, ◌&&◌, ◌||◌, cond, false, not, true}
use mathlib.Core.List.{[], ◌∷◌}
use mathlib.Core.Path.{◌∙◌, ◌≡◌, ap, refl}
use lib.Dec.{eqb}
use Rattle.signal.specs.Causes.{in_progress, old_number, unsupported}
use Rattle.signal.specs.Numbers.{has_soft, has_symmetric, is_clearing, is_late}
use Rattle.signal.specs.declared.Soft.{Soft}
use Rattle.signal.specs.declared.Switchover.{Switchover}
use Rattle.events.specs.declared.Event.{Event}
use Rattle.events.specs.declared.Event.TheVariants.{Connect, Expiry, FromDomain, FromParty, NoPath, PathFound, Ready, Setup, Trigger}
use Rattle.rows.proofs.Read.{clearing_is, missing_is, number_is}
use Rattle.rows.proofs.Signals.{hard_is}
use Rattle.rows.proofs.Wanted.{is_first, its_incumbent, names_unheld_lem}
use Rattle.rows.specs.Cases.{asking_of, happening_of, is_incumbent}
use Rattle.rows.specs.Cases.{is_rerouting}
use Rattle.rows.specs.Effects.{causes_of}
use Rattle.rows.specs.Meaning.{Agrees}
use Rattle.rows.specs.Rules.{Says5, Says6, Says8}
use Rattle.rows.specs.States.{phase_of}
use Rattle.rows.specs.declared.State.{State}
use Rattle.source_rows.specs.Demands.{is_busy, meaningless, meaningless_in, rejected_for, setup_rejection, source_demands}
use Rattle.source_rows.specs.Demands.{source_wants, turns_away, turns_away_in}

meaningless_is : (soft : Soft) (s : State) (remote : ℕ) (e : Event) →
    meaningless_in (phase_of s) soft (happening_of s remote e) ≡ meaningless soft s e
meaningless_is soft s remote Trigger = ap (λ n. eqb n 0 || not (has_soft soft)) (number_is s)
meaningless_is soft s remote PathFound = ap (λ (n : ℕ). not (eqb n 2 || eqb n 4)) (number_is s)
meaningless_is soft s remote NoPath = ap (λ (n : ℕ). not (eqb n 2 || eqb n 4)) (number_is s)
meaningless_is soft s remote (Connect c agreed) = ap (λ (n : ℕ). not (eqb n 3 || eqb n 5)) (number_is s)
meaningless_is soft s remote (Setup code number) = ap (λ n. eqb n 0 || not (has_symmetric soft)) (number_is s)
meaningless_is soft s remote (FromParty cause) = ap (λ (n : ℕ). eqb n 0) (number_is s)
meaningless_is soft s remote (FromDomain c cause tried) = ap (λ (n : ℕ). eqb n 0) (number_is s)
meaningless_is soft s remote Ready = ap (λ (n : ℕ). not (eqb n 6)) (number_is s)
meaningless_is soft s remote Expiry = ap not (hard_is s)

rejected_is : (remote : ℕ) (s : State) (code : Switchover) (number : ℕ) →
    causes_of (rejected_for (phase_of s) (asking_of code) (is_late number remote)) ≡ setup_rejection remote s code number
rejected_is remote s code number =
    (λ i.
    causes_of
    (cond (not (clearing_is code i)) (Says8 ∷ [])
    (cond (is_late number remote) (Says5 ∷ []) (cond ((eqb (number_is s i) 2 || eqb (number_is s i) 4) || (eqb (number_is s i) 3 || eqb (number_is s i) 5)) (Says6 ∷ []) []))))
    ∙ by (is_clearing code) (is_late number remote) (is_busy s)
  where
    by : (a b c : Bool) →
        causes_of (cond (not a) (Says8 ∷ []) (cond b (Says5 ∷ []) (cond c (Says6 ∷ []) []))) ≡ cond (not a) (unsupported ∷ []) (cond b (old_number ∷ []) (cond c (in_progress ∷ []) []))
    by true true c = refl
    by true false true = refl
    by true false false = refl
    by false b c = refl

turned_is : (hard : Bool) (s : State) (remote : ℕ) (e : Event) → turns_away_in (phase_of s) hard (happening_of s remote e) ≡ turns_away hard s e
turned_is hard s remote Trigger = refl
turned_is hard s remote PathFound = refl
turned_is hard s remote NoPath = refl
turned_is hard s remote (Connect c agreed) = λ i. eqb (number_is s i) 5 && (not (names_unheld_lem s remote (Connect c agreed) i) && not agreed)
turned_is hard s remote (Setup code number) = refl
turned_is hard s remote (FromParty cause) = refl
turned_is hard s remote (FromDomain c cause tried) =
    λ i.
    eqb (number_is s i) 6
    && ((is_first (is_incumbent s c) (is_rerouting s c) ∙ its_incumbent s c) i && (hard && missing_is cause i))
turned_is hard s remote Ready = refl
turned_is hard s remote Expiry = refl

pub agrees : Agrees source_wants source_demands
agrees =
    record {
      meaningless = λ x e. meaningless_is x.soft x.state x.remote e;
      rejected = λ x code number. rejected_is x.remote x.state code number;
      retired21 = λ x e. refl;
      dropped21 = λ x e. turned_is x.hard x.state x.remote e;
      most = refl;
    }
