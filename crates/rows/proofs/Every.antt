-- What passes at every value holds of each. Assumes nothing.
use mathlib.Core.Bool.{Bool, ◌&&◌, false, false≢true, true}
use mathlib.Core.List.{List, [], ◌∷◌}
use mathlib.Core.Path.{◌≡◌, refl}
use Rattle.signal.specs.declared.Crankback.{Crankback}
use Rattle.signal.specs.declared.Crankback.TheVariants.{AlternateFound, NoAlternate, NoCrankback}
use Rattle.signal.specs.declared.Soft.{Soft}
use Rattle.signal.specs.declared.Soft.TheVariants.{Asymmetric, NoSoft, Symmetric}
use Rattle.rows.specs.Cases.{Asking, AsksClearing, AsksImmediate, AsksOther, Case, Connected, DomainReleased, Expired, FoundNone}
use Rattle.rows.specs.Cases.{FoundPath, Happening, NamesIncumbent, NamesOther, NamesRerouting, PartyReleased, Role, SaidReady}
use Rattle.rows.specs.Cases.{SetUp, Triggered}
use Rattle.rows.specs.Every.{conj, every_asking, every_bool, every_class, every_crankback, every_happening, every_in, every_role, every_soft}
use Rattle.rows.specs.Every.{occasion_of, over_asking, over_bool, over_class, over_crankback, over_role, over_soft}
use Rattle.rows.specs.declared.Class.{Class}
use Rattle.rows.specs.declared.Class.TheVariants.{CameComplete, CameNone, CameOther, CameOutside}

pub left : (a b : Bool) → a && b ≡ true → a ≡ true
left true b p = refl
left false b p = p

pub right : (a b : Bool) → a && b ≡ true → b ≡ true
right true b p = p
right false b p = absurd (false≢true p)

-- each of the tests passes
abbrev pub Each : List Bool → Type 0
Each [] = Unit
Each (b ∷ more) = (b ≡ true) × Each more

pub each : (l : List Bool) → conj l ≡ true → Each l
each [] p = tt
each (b ∷ more) p = (left b (conj more) p, each more (right b (conj more) p))

pub bool_at : (f : Bool → Bool) → every_bool f ≡ true → (b : Bool) → f b ≡ true
bool_at f p true = (each (over_bool f) p).0
bool_at f p false = (each (over_bool f) p).1.0

pub role_at : (f : Role → Bool) → every_role f ≡ true → (x : Role) → f x ≡ true
role_at f p NamesIncumbent = (each (over_role f) p).0
role_at f p NamesRerouting = (each (over_role f) p).1.0
role_at f p NamesOther = (each (over_role f) p).1.1.0

pub class_at : (f : Class → Bool) → every_class f ≡ true → (x : Class) → f x ≡ true
class_at f p CameNone = (each (over_class f) p).0
class_at f p CameOutside = (each (over_class f) p).1.0
class_at f p CameComplete = (each (over_class f) p).1.1.0
class_at f p CameOther = (each (over_class f) p).1.1.1.0

pub asking_at : (f : Asking → Bool) → every_asking f ≡ true → (x : Asking) → f x ≡ true
asking_at f p AsksImmediate = (each (over_asking f) p).0
asking_at f p AsksClearing = (each (over_asking f) p).1.0
asking_at f p AsksOther = (each (over_asking f) p).1.1.0

pub soft_at : (f : Soft → Bool) → every_soft f ≡ true → (x : Soft) → f x ≡ true
soft_at f p NoSoft = (each (over_soft f) p).0
soft_at f p Asymmetric = (each (over_soft f) p).1.0
soft_at f p Symmetric = (each (over_soft f) p).1.1.0

pub crankback_at : (f : Crankback → Bool) → every_crankback f ≡ true → (x : Crankback) → f x ≡ true
crankback_at f p NoCrankback = (each (over_crankback f) p).0
crankback_at f p AlternateFound = (each (over_crankback f) p).1.0
crankback_at f p NoAlternate = (each (over_crankback f) p).1.1.0

pub happening_at : (f : Happening → Bool) (x : Happening) → every_happening (occasion_of x) f ≡ true → f x ≡ true
happening_at f Triggered p = p
happening_at f FoundPath p = p
happening_at f FoundNone p = p
happening_at f (Connected role agreed) p = bool_at (λ a. f (Connected role a)) (role_at (λ r. every_bool (λ a. f (Connected r a))) p role) agreed
happening_at f (SetUp asked late) p = bool_at (λ l. f (SetUp asked l)) (asking_at (λ a. every_bool (λ l. f (SetUp a l))) p asked) late
happening_at f (PartyReleased class) p = class_at (λ c. f (PartyReleased c)) p class
happening_at f (DomainReleased role class tried) p =
    crankback_at (λ k. f (DomainReleased role class k))
    (class_at (λ c. every_crankback (λ k. f (DomainReleased role c k)))
    (role_at (λ r. every_class (λ c. every_crankback (λ k. f (DomainReleased r c k)))) p role)
    class)
    tried
happening_at f SaidReady p = p
happening_at f Expired p = p

pub case_in : (f : Case → Bool) (c : Case) → every_in c.phase (occasion_of c.happening) f ≡ true → f c ≡ true
case_in f c p =
    let at : Bool → Soft → Bool → Happening → Bool =
    λ hard soft room happening. f (record { phase = c.phase; hard = hard; soft = soft; room = room; happening = happening }) in
    let on = occasion_of c.happening in
    happening_at (at c.hard c.soft c.room) c.happening
    (bool_at (λ room. every_happening on (at c.hard c.soft room))
    (soft_at (λ soft. every_bool (λ room. every_happening on (at c.hard soft room)))
    (bool_at (λ hard. every_soft (λ soft. every_bool (λ room. every_happening on (at hard soft room)))) p c.hard)
    c.soft)
    c.room)
