-- The claims of specs/Claims.antt hold. Assumes nothing.
use Prim.Native.Nat.{ℕ, ◌+◌, ◌*◌, ◌/◌, ◌%◌, ◌<◌}
use native.Mathlib.Nat.{div-div-eq-div-mul}
use native.Mathlib.Omega.{arith}
use mathlib.Core.Path.{◌≡◌, refl, sym, ◌∙◌, ap}
use mathlib.Core.List.{List, ◌∷◌}
use mathlib.Core.Bool.{Bool, true, false, cond}
use mathlib.Core.Logic.{inl, inr}
use lib.Dec.{eqb, ltb}
use borrow.Author.Tests.{lt-ltb, le-ltb, eqb-true, ne_eqb}
use Rattle.std.specs.Prelude.{Option, None, Some}
use Rattle.signal.specs.Numbers.{soft_number, crankback_number}
use Rattle.signal.specs.declared.Crankback.{Crankback}
use Rattle.signal.specs.declared.Crankback.TheVariants.{NoCrankback, AlternateFound, NoAlternate}
use Rattle.signal.specs.declared.ReroutingCause.{ReroutingCause}
use Rattle.signal.specs.declared.Services.{Services}
use Rattle.signal.specs.declared.Soft.{Soft}
use Rattle.signal.specs.declared.Soft.TheVariants.{NoSoft, Asymmetric, Symmetric}
use Rattle.events.specs.declared.Event.{Event}
use Rattle.events.specs.declared.Event.TheVariants.{Trigger, PathFound, NoPath, Connect, Setup, FromParty, FromDomain, Ready, Expiry}
use Rattle.events.specs.declared.Act.{Act}
use Rattle.events.specs.declared.Act.TheVariants.{Opens, Meets}
use Rattle.events.specs.declared.Node.{Node}
use Rattle.events.specs.declared.Node.TheVariants.{Source, Destination}
use Rattle.event_record.specs.Record.{octet, number_of, kind_at, request_of, open_of, connect_of, calling_of, called_of}
use Rattle.event_record.specs.Encoded.{flag_number, present_number, cause_number, open_values, event_values, act_values}
use Rattle.event_record.specs.Claims.{big_endian, EventFits, ActFits}
use Rattle.event_record.specs.Claims as claim
use Rattle.event_record.specs.declared.Decoded.{Decoded}

-- a connection number above 65,535 is bad, whatever stands in the other octets
bad_either_way : (t : Bool) → ◌≡◌ {A = Option Act} (cond t None None) None
bad_either_way true = refl
bad_either_way false = refl

connect_above : (policy n : ℕ) → 65535 < n → connect_of policy n ≡ None
connect_above policy n h = rw (lt-ltb 65535 n h) (bad_either_way (ltb 1 policy))

called_above : (present number back n : ℕ) → 65535 < n → called_of present number back n ≡ None
called_above present number back n h = rw (lt-ltb 65535 n h, bad_either_way (ltb 2 back)) (bad_either_way (ltb 1 present))

pub above_is_bad : claim.AboveIsBad
above_is_bad os (inl kind) h = rw kind (connect_above (octet os 1) _ h)
above_is_bad os (inr kind) h = rw kind (called_above (octet os 1) (octet os 2) (octet os 3) _ h)

-- a number of four octets is read back: each octet is what the number without it leaves
by_octets : (n c d e : ℕ) → c ≡ n / 256 → d ≡ c / 256 → e ≡ d / 256 → e < 256 → number_of (e % 256) (d % 256) (c % 256) (n % 256) ≡ n
by_octets n c d e p q r h =
    let first : e % 256 ≡ e = omega arith in
    let second : e * 256 + d % 256 ≡ d = omega arith in
    let third : d * 256 + c % 256 ≡ c = omega arith in
    let fourth : c * 256 + n % 256 ≡ n = omega arith in
    joined (e % 256) (d % 256) (c % 256) (n % 256) first second third fourth
  where
    joined : (x y z w : ℕ) → x ≡ e → e * 256 + y ≡ d → d * 256 + z ≡ c → c * 256 + w ≡ n → number_of x y z w ≡ n
    joined x y z w first second third fourth = omega arith

read_back_number : (n : ℕ) → n < 4294967296 → number_of (n / 16777216 % 256) (n / 65536 % 256) (n / 256 % 256) (n % 256) ≡ n
read_back_number n h =
    by_octets n (n / 256) (n / 65536) (n / 16777216) refl (sym (div-div-eq-div-mul n 256 256)) (sym (div-div-eq-div-mul n 65536 256))
    (omega arith)

-- and so is what stands in the octets around the key
open_back : (hard : Bool) (soft : Soft) →
    open_of 1 (flag_number hard) (soft_number soft) ≡ Some (Opens (Some (record { hard = hard; soft = soft })))
open_back true NoSoft = refl
open_back true Asymmetric = refl
open_back true Symmetric = refl
open_back false NoSoft = refl
open_back false Asymmetric = refl
open_back false Symmetric = refl

connect_back : (policy : Bool) (c : ℕ) → c < 65536 → connect_of (flag_number policy) c ≡ Some (Meets (Connect c policy))
connect_back true c h = rw (le-ltb 65535 c (omega arith))
connect_back false c h = rw (le-ltb 65535 c (omega arith))

calling_back : (cause : Option ReroutingCause) → calling_of (present_number cause) (cause_number cause) 0 ≡ Some (Meets (FromParty cause))
calling_back None = refl
calling_back (Some c) = refl

called_back : (c : ℕ) (cause : Option ReroutingCause) (back : Crankback) → c < 65536 →
    called_of (present_number cause) (cause_number cause) (crankback_number back) c ≡ Some (Meets (FromDomain c cause back))
called_back c None NoCrankback h = rw (le-ltb 65535 c (omega arith))
called_back c None AlternateFound h = rw (le-ltb 65535 c (omega arith))
called_back c None NoAlternate h = rw (le-ltb 65535 c (omega arith))
called_back c (Some n) NoCrankback h = rw (le-ltb 65535 c (omega arith))
called_back c (Some n) AlternateFound h = rw (le-ltb 65535 c (omega arith))
called_back c (Some n) NoAlternate h = rw (le-ltb 65535 c (omega arith))

wanted_back : (w : Option Services) → request_of (open_values w).kind (open_values w).first (open_values w).second (open_values w).third
    (open_values w).number ≡ Some (Opens w)
wanted_back None = refl
wanted_back (Some s) = open_back s.hard s.soft

event_back : (e : Event) → EventFits e →
    request_of (event_values e).kind (event_values e).first (event_values e).second (event_values e).third (event_values e).number ≡ Some
    (Meets e)
event_back Trigger f = refl
event_back PathFound f = refl
event_back NoPath f = refl
event_back (Connect c policy) f = connect_back policy c f
event_back (Setup s n) f = refl
event_back (FromParty cause) f = calling_back cause
event_back (FromDomain c cause back) f = called_back c cause back f.0
event_back Ready f = refl
event_back Expiry f = refl

act_back : (act : Act) → ActFits act → request_of (act_values act).kind (act_values act).first (act_values act).second
    (act_values act).third (act_values act).number ≡ Some act
act_back (Opens w) f = wanted_back w
act_back (Meets e) f = event_back e f

-- the number of an event fits into four octets
number_fits : (act : Act) → ActFits act → (act_values act).number < 4294967296
number_fits (Opens None) f = omega arith
number_fits (Opens (Some s)) f = omega arith
number_fits (Meets Trigger) f = omega arith
number_fits (Meets PathFound) f = omega arith
number_fits (Meets NoPath) f = omega arith
number_fits (Meets (Connect c policy)) f = omega arith
number_fits (Meets (Setup s n)) f = f.1
number_fits (Meets (FromParty cause)) f = omega arith
number_fits (Meets (FromDomain c cause back)) f = let h : c < 65536 = f.0 in omega arith
number_fits (Meets Ready) f = omega arith
number_fits (Meets Expiry) f = omega arith

-- the releases change places twice
kind_twice : (node : Node) (kind : ℕ) → kind_at node (kind_at node kind) ≡ kind
kind_twice Source kind = refl
kind_twice Destination kind = by_tests (eqb kind 6) (eqb kind 7) refl refl
  where
    by_tests : (six seven : Bool) → eqb kind 6 ≡ six → eqb kind 7 ≡ seven → kind_at Destination (cond six 7 (cond seven 6 kind)) ≡ kind
    by_tests true seven p q = sym (eqb-true kind 6 p)
    by_tests false true p q = sym (eqb-true kind 7 q)
    by_tests false false p q = rw (p, q)

pub read_back : claim.ReadBack
read_back node key act fits =
    let v = act_values act in
    let request =
    ap (λ k. request_of k v.first v.second v.third
    (number_of (v.number / 16777216 % 256) (v.number / 65536 % 256) (v.number / 256 % 256) (v.number % 256))) (kind_twice node v.kind)
    ∙ (ap (λ n. request_of v.kind v.first v.second v.third n)
    (read_back_number v.number (number_fits act fits.1)) ∙ act_back act fits.1) in
    λ i. record { key = read_back_number key fits.0 i; request = request i }

-- what the octets mean: two octets are the connection that they spell
spelled_out : (a b c d : ℕ) → number_of a b c d ≡ big_endian a b c d
spelled_out a b c d = omega arith

in_two_octets : (a b : ℕ) → number_of 0 0 a b ≡ a * 256 + b
in_two_octets a b = omega arith

pub key_means : claim.KeyMeans
key_means kind p q r a b c d more = spelled_out a b c d

pub only_keys_mean : claim.OnlyKeysMean
only_keys_mean p q r more = (refl, (refl, (refl, (refl, refl))))

pub open_means : claim.OpenMeans
open_means q r more = (refl, (refl, (refl, (refl, (refl, (refl, refl))))))

-- a connection below 65,536, spelled by two octets
connection_is : (f : ℕ → Option Act) (a b : ℕ) (r : Option Act) → f (a * 256 + b) ≡ r → f (number_of 0 0 a b) ≡ r
connection_is f a b r e = ap f (in_two_octets a b) ∙ e

fits_two : (a b : ℕ) → a < 256 → b < 256 → ltb 65535 (a * 256 + b) ≡ false
fits_two a b low-a low-b = le-ltb 65535 (a * 256 + b) (omega arith)

pub connect_means : claim.ConnectMeans
connect_means q r s t u v a b more low-a low-b =
    let fits = fits_two a b low-a low-b in
    (connection_is (connect_of 0) a b _ (rw fits), connection_is (connect_of 1) a b _ (rw fits))

pub setup_means : claim.SetupMeans
setup_means code q r s t u v a b c d more = ap (λ (n : ℕ). Some (Meets (Setup (record { code = code }) n))) (spelled_out a b c d)

pub calling_means : claim.CallingMeans
calling_means cause more = (refl, (refl, (refl, (refl, (refl, refl)))))

pub called_means : claim.CalledMeans
called_means cause s t u v a b more low-a low-b =
    let fits = fits_two a b low-a low-b in (
      connection_is (called_of 0 cause 0) a b _ (rw fits),
      (
        connection_is (called_of 0 cause 1) a b _ (rw fits),
        (
          connection_is (called_of 0 cause 2) a b _ (rw fits),
          (
            connection_is (called_of 1 cause 0) a b _ (rw fits),
            (connection_is (called_of 1 cause 1) a b _ (rw fits), connection_is (called_of 1 cause 2) a b _ (rw fits)),
          ),
        ),
      ),
    )

-- a kind above 9 is none of those that are named
other : (n k : ℕ) → k < n → eqb n k ≡ false
other n k h = ne_eqb n k (omega arith)

kind_above : (n p q r m : ℕ) → 9 < n → request_of n p q r m ≡ None
kind_above n p q r m h =
    simp (
      other n 0 (omega arith),
      other n 1 (omega arith),
      other n 2 (omega arith),
      other n 3 (omega arith),
      other n 4 (omega arith),
      other n 5 (omega arith),
      other n 6 (omega arith),
      other n 7 (omega arith),
      other n 8 (omega arith),
      other n 9 (omega arith),
    )

pub not_named_is_bad : claim.NotNamedIsBad
not_named_is_bad n p q r more =
    let os = n ∷ p ∷ q ∷ r ∷ more in (
      kind_above n p q r (number_of (octet os 8) (octet os 9) (octet os 10) (octet os 11)),
      (
        λ h. simp (other n 0 (omega arith), lt-ltb 1 n h),
        (
          λ h. rw (lt-ltb 1 n h),
          (
            λ h. rw (lt-ltb 2 n h) (bad_either_way (ltb 1 q)),
            (
              λ h. rw (lt-ltb 1 n h),
              (
                λ h. rw (lt-ltb 1 n h),
                (
                  λ h. rw (lt-ltb 2 n h) (bad_either_way (ltb 1 p)),
                  (λ h. rw (lt-ltb 1 n h), λ h. rw (lt-ltb 2 n h) (bad_either_way (ltb 1 p))),
                ),
              ),
            ),
          ),
        ),
      ),
    )

pub octets_in_their_order : claim.OctetsInTheirOrder
octets_in_their_order = (refl, refl)

-- a record whose kind is told apart
abbrev with_kind : ℕ → List ℕ → Decoded
with_kind kind os =
    record {
      key = number_of (octet os 4) (octet os 5) (octet os 6) (octet os 7);
      request =
          request_of kind (octet os 1) (octet os 2) (octet os 3) (number_of (octet os 8) (octet os 9) (octet os 10) (octet os 11));
    }

pub ends_differ : claim.EndsDiffer
ends_differ more = (refl, (refl, λ kind six seven. ap (λ (k : ℕ). with_kind k (kind ∷ more)) (same kind six seven)))
  where
    same : (kind : ℕ) → (kind ≡ 6 → ⊥) → (kind ≡ 7 → ⊥) → kind_at Destination kind ≡ kind
    same kind six seven = rw (ne_eqb kind 6 six, ne_eqb kind 7 seven)
