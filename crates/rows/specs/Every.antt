-- Every value of the finite types, tested one after the other. Assumes nothing.
use Rattle.std.specs.Prelude.{Bool, ◌&&◌, false, true, List, [], ◌∷◌}
use Rattle.signal.specs.declared.Crankback.{Crankback}
use Rattle.signal.specs.declared.Crankback.TheVariants.{AlternateFound, NoAlternate, NoCrankback}
use Rattle.signal.specs.declared.Soft.{Soft}
use Rattle.signal.specs.declared.Soft.TheVariants.{Asymmetric, NoSoft, Symmetric}
use Rattle.rows.specs.Cases.{Asking, AsksClearing, AsksImmediate, AsksOther, Case, Connected, DomainReleased, Expired, FoundNone}
use Rattle.rows.specs.Cases.{FoundPath, Happening, NamesIncumbent, NamesOther, NamesRerouting, PartyReleased, Role, SaidReady}
use Rattle.rows.specs.Cases.{SetUp, Triggered}
use Rattle.rows.specs.States.{Phase}
use Rattle.rows.specs.declared.Class.{Class}
use Rattle.rows.specs.declared.Class.TheVariants.{CameComplete, CameNone, CameOther, CameOutside}

-- all of the tests pass
abbrev pub conj : List Bool → Bool
conj [] = true
conj (b ∷ more) = b && conj more

abbrev pub over_bool : (Bool → Bool) → List Bool
over_bool f = f true ∷ f false ∷ []

abbrev pub every_bool : (Bool → Bool) → Bool
every_bool f = conj (over_bool f)

abbrev pub over_role : (Role → Bool) → List Bool
over_role f = f NamesIncumbent ∷ f NamesRerouting ∷ f NamesOther ∷ []

abbrev pub every_role : (Role → Bool) → Bool
every_role f = conj (over_role f)

abbrev pub over_class : (Class → Bool) → List Bool
over_class f = f CameNone ∷ f CameOutside ∷ f CameComplete ∷ f CameOther ∷ []

abbrev pub every_class : (Class → Bool) → Bool
every_class f = conj (over_class f)

abbrev pub over_asking : (Asking → Bool) → List Bool
over_asking f = f AsksImmediate ∷ f AsksClearing ∷ f AsksOther ∷ []

abbrev pub every_asking : (Asking → Bool) → Bool
every_asking f = conj (over_asking f)

abbrev pub over_soft : (Soft → Bool) → List Bool
over_soft f = f NoSoft ∷ f Asymmetric ∷ f Symmetric ∷ []

abbrev pub every_soft : (Soft → Bool) → Bool
every_soft f = conj (over_soft f)

abbrev pub over_crankback : (Crankback → Bool) → List Bool
over_crankback f = f NoCrankback ∷ f AlternateFound ∷ f NoAlternate ∷ []

abbrev pub every_crankback : (Crankback → Bool) → Bool
every_crankback f = conj (over_crankback f)

-- what may happen, without what comes with it: with the phase, the cell that a refused test names
pub data Occasion : Type 0 where
  OnTrigger : Occasion
  OnPathFound : Occasion
  OnNoPath : Occasion
  OnConnect : Occasion
  OnSetup : Occasion
  OnPartyRelease : Occasion
  OnDomainRelease : Occasion
  OnReady : Occasion
  OnExpiry : Occasion

abbrev pub occasion_of : Happening → Occasion
occasion_of Triggered = OnTrigger
occasion_of FoundPath = OnPathFound
occasion_of FoundNone = OnNoPath
occasion_of (Connected role agreed) = OnConnect
occasion_of (SetUp asked late) = OnSetup
occasion_of (PartyReleased class) = OnPartyRelease
occasion_of (DomainReleased role class tried) = OnDomainRelease
occasion_of SaidReady = OnReady
occasion_of Expired = OnExpiry

abbrev pub every_happening : Occasion → (Happening → Bool) → Bool
every_happening OnTrigger f = f Triggered
every_happening OnPathFound f = f FoundPath
every_happening OnNoPath f = f FoundNone
every_happening OnConnect f = every_role (λ role. every_bool (λ agreed. f (Connected role agreed)))
every_happening OnSetup f = every_asking (λ asked. every_bool (λ late. f (SetUp asked late)))
every_happening OnPartyRelease f = every_class (λ class. f (PartyReleased class))
every_happening OnDomainRelease f =
    every_role (λ role. every_class (λ class. every_crankback (λ tried. f (DomainReleased role class tried))))
every_happening OnReady f = f SaidReady
every_happening OnExpiry f = f Expired

-- every case of a phase and an occasion: 684 a phase, 5,472 in all
abbrev pub every_in : Phase → Occasion → (Case → Bool) → Bool
every_in phase occasion f =
    every_bool
    (λ hard. every_soft
    (λ soft. every_bool
    (λ room.
    every_happening occasion
    (λ happening. f (record { phase = phase; hard = hard; soft = soft; room = room; happening = happening })))))
