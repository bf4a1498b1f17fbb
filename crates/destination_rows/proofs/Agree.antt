-- What the documents ask of the destination by case, and of a call and an event, is one thing (specs/Demands). Assumes nothing.
use Prim.Native.Nat.{ℕ}
use mathlib.Core.Bool.{Bool, ◌&&◌, ◌||◌, cond, false, not, true}
use mathlib.Core.List.{[], ◌∷◌}
use mathlib.Core.Path.{◌∙◌, ◌≡◌, ap, refl}
use lib.Dec.{eqb}
use Rattle.signal.specs.Causes.{old_number, unsupported}
use Rattle.signal.specs.Numbers.{has_symmetric, is_late}
use Rattle.signal.specs.declared.Soft.{Soft}
use Rattle.signal.specs.declared.Switchover.{Switchover}
use Rattle.events.specs.declared.Event.{Event}
use Rattle.events.specs.declared.Event.TheVariants.{Connect, Expiry, FromDomain, FromParty, NoPath, PathFound, Ready, Setup, Trigger}
use Rattle.rows.proofs.Read.{at_is, missing_is}
use Rattle.rows.proofs.Signals.{hard_is}
use Rattle.rows.proofs.Wanted.{is_first, its_incumbent, names_unheld_lem}
use Rattle.rows.specs.Cases.{AsksClearing, AsksImmediate, AsksOther, Standing, asking_of, happening_of, has_room, is_incumbent, is_rerouting}
use Rattle.rows.specs.Checks.{is_none}
use Rattle.rows.specs.Effects.{causes_of}
use Rattle.rows.specs.Laws.{is_empty}
use Rattle.rows.specs.Meaning.{Agrees}
use Rattle.rows.specs.Rules.{Says5, Says8}
use Rattle.rows.specs.Situations.{asks_immediate, asks_unrecognized}
use Rattle.rows.specs.States.{holds_incumbent, holds_rerouting, is_hard, phase_of}
use Rattle.rows.specs.declared.State.{State}
use Rattle.destination_rows.specs.Demands.{destination_demands, destination_wants, dropped_away, dropped_away_in, has_service, is_immediate}
use Rattle.destination_rows.specs.Demands.{is_taken, is_taken_in, is_unrecognized, meaningless_case, meaningless_here, retired_away}
use Rattle.destination_rows.specs.Demands.{retired_away_in, setup_turned_away, turned_away_for}

meaningless_is : (hard : Bool) (soft : Soft) (s : State) (remote : ℕ) (e : Event) →
    meaningless_case (phase_of s) hard soft (happening_of s remote e) ≡ meaningless_here hard soft s e
meaningless_is hard soft s remote Trigger = ap (λ b. b || not (has_symmetric soft)) (at_is 0 s)
meaningless_is hard soft s remote PathFound = ap not (at_is 4 s)
meaningless_is hard soft s remote NoPath = ap not (at_is 4 s)
meaningless_is hard soft s remote (Connect c agreed) = ap not (at_is 5 s)
meaningless_is hard soft s remote (Setup code number) = ap (λ b. b || not (has_service hard soft)) (at_is 0 s)
meaningless_is hard soft s remote (FromParty cause) = at_is 0 s
meaningless_is hard soft s remote (FromDomain c cause tried) = at_is 0 s
meaningless_is hard soft s remote Ready = λ i. not (at_is 3 s i || at_is 6 s i)
meaningless_is hard soft s remote Expiry = ap not (hard_is s)

immediate_is : (code : Switchover) → asks_immediate (asking_of code) ≡ is_immediate code
immediate_is code = by (eqb code.code 0) (eqb code.code 1)
  where
    by : (a b : Bool) → asks_immediate (cond a AsksImmediate (cond b AsksClearing AsksOther)) ≡ a
    by true b = refl
    by false true = refl
    by false false = refl

unrecognized_is : (code : Switchover) → asks_unrecognized (asking_of code) ≡ is_unrecognized code
unrecognized_is code = by (eqb code.code 0) (eqb code.code 1)
  where
    by : (a b : Bool) → asks_unrecognized (cond a AsksImmediate (cond b AsksClearing AsksOther)) ≡ (not a && not b)
    by true b = refl
    by false true = refl
    by false false = refl

rejected_is : (remote : ℕ) (s : State) (code : Switchover) (number : ℕ) →
    causes_of (turned_away_for (phase_of s) (asking_of code) (is_late number remote)) ≡ setup_turned_away remote s code number
rejected_is remote s code number =
    (λ i. causes_of (cond (unrecognized_is code i && not (hard_is s i)) (Says8 ∷ []) (cond (is_late number remote) (Says5 ∷ []) [])))
    ∙ by (is_unrecognized code && not (is_hard s)) (is_late number remote)
  where
    by : (a b : Bool) →
        causes_of (cond a (Says8 ∷ []) (cond b (Says5 ∷ []) [])) ≡ cond a (unsupported ∷ []) (cond b (old_number ∷ []) [])
    by true b = refl
    by false true = refl
    by false false = refl

empty_is : (remote : ℕ) (s : State) (code : Switchover) (number : ℕ) →
    is_empty (turned_away_for (phase_of s) (asking_of code) (is_late number remote)) ≡ is_none (setup_turned_away remote s code number)
empty_is remote s code number =
    (λ i. is_empty (cond (unrecognized_is code i && not (hard_is s i)) (Says8 ∷ []) (cond (is_late number remote) (Says5 ∷ []) [])))
    ∙ by (is_unrecognized code && not (is_hard s)) (is_late number remote)
  where
    by : (a b : Bool) →
        is_empty (cond a (Says8 ∷ []) (cond b (Says5 ∷ []) [])) ≡ is_none (cond a (unsupported ∷ []) (cond b (old_number ∷ []) []))
    by true b = refl
    by false true = refl
    by false false = refl

taken_is : (x : Standing) (code : Switchover) (number : ℕ) →
    is_taken_in (phase_of x.state) x.hard x.soft (has_room x.last) (asking_of code) (is_late number x.remote) ≡ is_taken x code number
taken_is x code number =
    λ i.
    not (meaningless_is x.hard x.soft x.state x.remote (Setup code number) i)
    && (empty_is x.remote x.state code number i && has_room x.last)

retired_is : (x : Standing) (e : Event) →
    retired_away_in (phase_of x.state) x.hard x.soft (has_room x.last) (happening_of x.state x.remote e) ≡ retired_away x e
retired_is x Trigger = refl
retired_is x PathFound = refl
retired_is x NoPath = refl
retired_is x (Connect c agreed) = refl
retired_is x (Setup code number) =
    λ i. taken_is x code number i && (immediate_is code i && (holds_incumbent (phase_of x.state) && holds_rerouting (phase_of x.state)))
retired_is x (FromParty cause) = refl
retired_is x (FromDomain c cause tried) = refl
retired_is x Ready = refl
retired_is x Expiry = refl

dropped_is : (x : Standing) (e : Event) →
    dropped_away_in (phase_of x.state) x.hard x.soft (has_room x.last) (happening_of x.state x.remote e) ≡ dropped_away x e
dropped_is x Trigger = refl
dropped_is x PathFound = refl
dropped_is x NoPath = refl
dropped_is x (Connect c agreed) =
    λ i. at_is 5 x.state i && (not (names_unheld_lem x.state x.remote (Connect c agreed) i) && not agreed)
dropped_is x (Setup code number) = λ i. taken_is x code number i && holds_rerouting (phase_of x.state)
dropped_is x (FromParty cause) = refl
dropped_is x (FromDomain c cause tried) =
    λ i.
    at_is 5 x.state i
    && ((is_first (is_incumbent x.state c) (is_rerouting x.state c) ∙ its_incumbent x.state c) i && (x.hard && missing_is cause i))
dropped_is x Ready = refl
dropped_is x Expiry = refl

pub agrees : Agrees destination_wants destination_demands
agrees =
    record {
      meaningless = λ x e. meaningless_is x.hard x.soft x.state x.remote e;
      rejected = λ x code number. rejected_is x.remote x.state code number;
      retired21 = retired_is;
      dropped21 = dropped_is;
      most = refl;
    }
