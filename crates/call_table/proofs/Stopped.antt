-- A reading of the keys alone, which stops where it may, tells enough (specs/Claims): what is decided of it, and of the record of an event,
-- is what is decided of the whole row; and what is not read has no say in it. Assumes nothing.
use Prim.Native.Nat.{◌+◌, ℕ}
use native.Mathlib.Omega.{arith}
use mathlib.Core.Bool.{Bool, ◌||◌, cond, false, true}
use mathlib.Core.List.{List, [], ◌++◌, ◌∷◌, map}
use mathlib.Core.Path.{◌∙◌, ◌≡◌, ap, refl, sym}
use lib.Dec.{eqb}
use lib.ListN.{length}
use borrow.Author.Tests.{eq-eqb, le-ltb, lt-ltb}
use Rattle.std.specs.Prelude.{Option, Some, None, is_some, unwrap_or}
use Rattle.std.specs.Option.{option_or}
use Rattle.lent.specs.Search.{read_from, read_until}
use Rattle.signal.specs.declared.Answer.TheVariants.{KeyZero}
use Rattle.events.specs.declared.Act.{Act}
use Rattle.events.specs.declared.Act.TheVariants.{Meets, Opens}
use Rattle.call.specs.Events.{Half}
use Rattle.call.specs.declared.Call.{Call}
use Rattle.call_table.specs.Claims as claim
use Rattle.call_table.specs.Reading.{decide_at_of, fetched_from, is_enough, needed_by, places_in, unread_at}
use Rattle.call_table.specs.Table.{decide_fit_of, later_of, ran_fit_of, refused_at, sought_at_start, sought_in, sought_of}
use Rattle.call_table.specs.declared.Sought.{Sought}
use Rattle.call_table.proofs.Search.{Found, found_at, found_stays, place_of, sought_is}

or_true : (b : Bool) → (b || true) ≡ true
or_true true = refl
or_true false = refl

-- the reading of the whole row, with what is found before i
abbrev sought : ℕ → ℕ → Sought (ℕ × Call) → List Call → Sought (ℕ × Call)
sought key i s ys = read_from (λ s i c. sought_of s key c.key (i, c)) i s ys

-- the reading, with what is known at i
abbrev from : ℕ → ℕ → Sought ℕ → List Call → Sought ℕ
from key i s ys = read_until (λ s. is_enough s key) (λ s i c. sought_of s key c.key i) i s ys

-- where it is enough, nothing more is learnt
stays : (key i : ℕ) (s : Sought ℕ) (ys : List Call) → is_enough s key ≡ true → from key i s ys ≡ s
unfolding read_until
stays key i s [] e = refl
stays key i s (c ∷ cs) e = ap (λ (b : Bool). cond b s (from key (i + 1) (sought_of s key c.key i) cs)) e

-- ---- what has no say

-- the record with the key is enough, whatever was known before
enough_there : (s : Sought ℕ) (key i : ℕ) → is_enough (sought_of s key key i) key ≡ true
enough_there s key i = ap (λ (p : Option ℕ). eqb key 0 || is_some p) (there s.found) ∙ or_true (eqb key 0)
  where
    there : (p : Option ℕ) → later_of p key key i ≡ Some (unwrap_or p i)
    there (Some j) = refl
    there None = ap (λ (b : Bool). cond b (Some i) None) (eq-eqb key key refl)

behind : (key i : ℕ) (s : Sought ℕ) (xs ys zs : List Call) (c : Call) → c.key ≡ key → from key i s (xs ++ (c ∷ ys)) ≡ from key i s (xs ++ (c ∷ zs))
unfolding read_until
behind key i s [] ys zs c e =
    let k = ap (λ (k : ℕ). is_enough (sought_of s key k i) key) e ∙ enough_there s key i in
    ap (cond (is_enough s key) s) (stays key (i + 1) _ ys k ∙ sym (stays key (i + 1) _ zs k))
behind key i s (x ∷ xs) ys zs c e = ap (cond (is_enough s key) s) (behind key (i + 1) (sought_of s key x.key i) xs ys zs c e)

pub nothing_behind_is_read : claim.NothingBehindIsRead
nothing_behind_is_read xs ys zs c = behind c.key 0 (sought_at_start c.key) xs ys zs c refl

alone : (key i : ℕ) (s : Sought ℕ) (ys zs : List Call) → map (λ c. c.key) ys ≡ map (λ c. c.key) zs → from key i s ys ≡ from key i s zs
unfolding read_until
alone key i s [] [] e = refl
alone key i s [] (d ∷ ds) e = absurd (let z : ◌≡◌ {A = ℕ} 0 1 = cc in omega arith)
alone key i s (c ∷ cs) [] e = absurd (let z : ◌≡◌ {A = ℕ} 0 1 = cc in omega arith)
alone key i s (c ∷ cs) (d ∷ ds) e =
    let k : c.key ≡ d.key = cc in
    let more : map (λ c. c.key) cs ≡ map (λ c. c.key) ds = cc in
    ap (cond (is_enough s key) s)
    (ap (λ (k : ℕ). from key (i + 1) (sought_of s key k i) cs) k ∙ alone key (i + 1) (sought_of s key d.key i) cs ds more)

pub keys_alone_are_read : claim.KeysAloneAreRead
keys_alone_are_read ys zs key e = alone key 0 (sought_at_start key) ys zs e

-- ---- what was read is enough

-- the places of what is sought
abbrev places_at : Sought (ℕ × Call) → Sought ℕ
places_at s = record { found = place_of s.found; free = place_of s.free }

-- a step of the one reading is a step of the other, seen by the places alone
noted_is : (f : Found) (key i : ℕ) (c : Call) → later_of (place_of f) key c.key i ≡ place_of (later_of f key c.key (i, c))
noted_is (Some (j, d)) key i c = refl
noted_is None key i c = by_test (eqb c.key key)
  where
    by_test : (b : Bool) → cond b (Some i) None ≡ place_of (cond b (Some (i, c)) None)
    by_test true = refl
    by_test false = refl

step_is : (s : Sought (ℕ × Call)) (key i : ℕ) (c : Call) → sought_of (places_at s) key c.key i ≡ places_at (sought_of s key c.key (i, c))
step_is s key i c = λ j. record { found = noted_is s.found key i c j; free = noted_is s.free 0 i c j }

never : {i : ℕ} {c : Call} → ◌≡◌ {A = Found} (Some (i, c)) None → ⊥
never e = cc

-- what is known of a row: where its record with the key stands, and, if it has none, its lowest empty one
record Tells (whole : Sought (ℕ × Call)) (s : Sought ℕ) : Type 0 where
  found_is : s.found ≡ place_of whole.found
  free_is : whole.found ≡ None → s.free ≡ place_of whole.free

tells : (key i : ℕ) (s : Sought (ℕ × Call)) (ys : List Call) → eqb key 0 ≡ false → Tells (sought key i s ys) (from key i (places_at s) ys)
unfolding read_until read_from
tells key i s [] z = record { found_is = refl; free_is = λ _. refl }
tells key i s (c ∷ cs) z = by_found s.found refl (tells key (i + 1) (sought_of s key c.key (i, c)) cs z)
  where
    by_found : (f : Found) → s.found ≡ f
        → Tells (sought key (i + 1) (sought_of s key c.key (i, c)) cs) (from key (i + 1) (places_at (sought_of s key c.key (i, c))) cs)
        → Tells (sought key i s (c ∷ cs)) (from key i (places_at s) (c ∷ cs))
    by_found (Some (j, d)) e h =
        let enough : is_enough (places_at s) key ≡ true = rw (z, e) in
        let k = stays key i (places_at s) (c ∷ cs) enough in
        let found = found_stays key i s (c ∷ cs) e in
        record { found_is = ap (λ (t : Sought ℕ). t.found) k ∙ ap place_of (e ∙ sym found); free_is = λ q. absurd (never (sym found ∙ q)) }
    by_found None e h =
        let more : is_enough (places_at s) key ≡ false = rw (z, e) in
        let k = ap (λ (b : Bool). cond b (places_at s) (from key (i + 1) (sought_of (places_at s) key c.key i) cs)) more
        ∙ ap (λ (t : Sought ℕ). from key (i + 1) t cs) (step_is s key i c) in
        record { found_is = ap (λ (t : Sought ℕ). t.found) k ∙ h.found_is; free_is = λ q. ap (λ (t : Sought ℕ). t.free) k ∙ h.free_is q }

-- the record that is fetched: an event's is the one that is found, and for an opening none is
abbrev FetchedFor : Act → Found → Found → Type 0
FetchedFor (Opens wanted) f h = h ≡ None
FetchedFor (Meets e) f h = h ≡ f

past : (ys : List Call) → fetched_from ys (length ys) ≡ None
past ys = rw (le-ltb (length ys) (length ys) (omega arith))

fetched_for : (ys : List Call) (key : ℕ) (act : Act) (s : Sought ℕ) → s.found ≡ place_of (sought_in ys key).found
    → FetchedFor act (sought_in ys key).found (fetched_from ys (needed_by (length ys) s act))
fetched_for ys key (Opens wanted) s e = past ys
fetched_for ys key (Meets event) s e = by_found (sought_in ys key).found refl e
  where
    by_found : (f : Found) → (sought_in ys key).found ≡ f → s.found ≡ place_of f → fetched_from ys (needed_by (length ys) s (Meets event)) ≡ f
    by_found (Some (j, c)) q p =
        let r = found_at key 0 j c ys (sym (ap (λ (t : Sought (ℕ × Call)). t.found) (sought_is ys key)) ∙ q) in
        let at : j ≡ r.place = omega (arith, r.at) in
        rw (p, at, lt-ltb r.place (length ys) r.inside, r.there)
    by_found None q p = rw p (past ys)

module _ (half : Half) where
  -- key 0 is refused, whatever is known
  zero_refused : (n : ℕ) (s : Sought (ℕ × Call)) (key : ℕ) (act : Act) → eqb key 0 ≡ true → decide_fit_of half n s key act ≡ refused_at n KeyZero
  zero_refused n s key act z = rw z

  decided : (n key : ℕ) (act : Act) (f g : Found) (s : Sought ℕ) (h : Found) → eqb key 0 ≡ false → s.found ≡ place_of f
      → (f ≡ None → s.free ≡ place_of g) → FetchedFor act f h
      → decide_at_of half n s h key act ≡ decide_fit_of half n (record { found = f; free = g }) key act
  decided n key (Opens wanted) (Some (j, c)) g s h z p q e = rw (z, p, e)
  decided n key (Opens wanted) None (Some (j, c)) s h z p q e = rw (z, p, e, q refl)
  decided n key (Opens wanted) None None s h z p q e = rw (z, p, e, q refl)
  decided n key (Meets event) (Some (j, c)) g s h z p q e = rw (z, e)
  decided n key (Meets event) None g s h z p q e = rw (z, p, e)

  pub enough_is_read : claim.EnoughIsRead half
  enough_is_read ys key act = by_zero (eqb key 0) refl
    where
      fetched : Found
      fetched = fetched_from ys (needed_by (length ys) (places_in ys key) act)

      told : Sought (ℕ × Call)
      told = record { found = option_or fetched (unread_at (places_in ys key).found); free = unread_at (places_in ys key).free }

      by_zero : (b : Bool) → eqb key 0 ≡ b
          → decide_at_of half (length ys) (places_in ys key) (fetched_from ys (needed_by (length ys) (places_in ys key) act)) key act
          ≡ ran_fit_of half ys key act
      by_zero true z = zero_refused (length ys) told key act z ∙ sym (zero_refused (length ys) (sought_in ys key) key act z)
      by_zero false z =
          let r = tells key 0 (sought_at_start key) ys z in
          decided (length ys) key act (sought_in ys key).found (sought_in ys key).free (places_in ys key) _ z r.found_is r.free_is
          (fetched_for ys key act (places_in ys key) r.found_is)

pub opening_fetches_none : claim.OpeningFetchesNone
opening_fetches_none ys s wanted = past ys

pub nothing_is_read_for_key_zero : claim.NothingIsReadForKeyZero
nothing_is_read_for_key_zero ys act = (unread, fetches act)
  where
    unread : places_in ys 0 ≡ sought_at_start 0
    unread = stays 0 0 (sought_at_start 0) ys refl

    fetches : (act : Act) → fetched_from ys (needed_by (length ys) (places_in ys 0) act) ≡ None
    fetches (Opens wanted) = past ys
    fetches (Meets event) = ap (λ (s : Sought ℕ). fetched_from ys (needed_by (length ys) s (Meets event))) unread ∙ past ys
