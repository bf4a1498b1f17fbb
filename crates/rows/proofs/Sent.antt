-- The signals of a rule, part by part. Assumes nothing.
use Prim.Native.Nat.{◌≤◌, ℕ}
use native.Mathlib.Omega.{arith}
use mathlib.Core.Bool.{Bool, ◌||◌, cond, false, not, true, true≢false}
use mathlib.Core.List.{List, [], ◌++◌, ◌∷◌}
use mathlib.Core.Path.{◌≡◌, ap, refl}
use lib.Dec.{eqb}
use lib.ListN.{length, length-append}
use Rattle.std.specs.Prelude.{Option}
use Rattle.signal.specs.Counting.{ended_sent, ends_connection, kind_number, of_kind}
use Rattle.signal.specs.Signals.{none, places}
use Rattle.signal.specs.declared.Kind.{Kind}
use Rattle.signal.specs.declared.ReroutingCause.{ReroutingCause}
use Rattle.signal.specs.declared.Signal.{Signal}
use Rattle.events.specs.declared.Node.{Node}
use Rattle.rows.specs.Effects.{closing_sent, sent_by, switch_sent, timer_sent, told_sent}
use Rattle.rows.specs.Laws.{is_closed, is_told, once, same_slot, same_timer, sends}
use Rattle.rows.specs.Rules.{Closing, LeavesTimer, NewNumber, NoClosing, NoSlot, OldIncumbent, OldRerouting, Rejects, Rule}
use Rattle.rows.specs.Rules.{SendsConnect, SendsSetup, Slot, StartsTimer, StopsTimer, Tells, Timer, Told, Untold}
use Rattle.rows.specs.declared.State.{State}

timer_length : (t : Timer) → length (timer_sent t) ≡ once (not (same_timer t LeavesTimer))
timer_length LeavesTimer = refl
timer_length StartsTimer = refl
timer_length StopsTimer = refl

switch_length : (s : State) (n : ℕ) (x : Slot) → length (switch_sent s n x) ≡ once (not (same_slot x NoSlot))
switch_length s n NoSlot = refl
switch_length s n OldIncumbent = refl
switch_length s n OldRerouting = refl
switch_length s n NewNumber = refl

told_length : (k : Kind) (n : ℕ) (got : Option ReroutingCause) (t : Told) → length (told_sent k n got t) ≡ once (is_told t)
told_length k n got Untold = refl
told_length k n got (Tells say code) = refl

closing_length : (s : State) (n : ℕ) (got : Option ReroutingCause) (x : Closing) → length (closing_sent s n got x) ≡ once (is_closed x)
closing_length s n got NoClosing = refl
closing_length s n got (SendsSetup slot) = refl
closing_length s n got (SendsConnect slot) = refl
closing_length s n got (Rejects say code) = refl

-- a rule sends as many signals as it says
pub sent_length : (node : Node) (s : State) (n : ℕ) (got : Option ReroutingCause) (rule : Rule) → length (sent_by node s n got rule) ≡ sends rule
sent_length node s n got rule = simp (length-append, timer_length, switch_length, told_length, closing_length)

-- what fills the places up
abbrev pub pad : List Signal → List Signal
pad [] = none ∷ none ∷ none ∷ none ∷ []
pad (a ∷ []) = none ∷ none ∷ none ∷ []
pad (a ∷ (b ∷ [])) = none ∷ none ∷ []
pad (a ∷ (b ∷ (c ∷ []))) = none ∷ []
pad (a ∷ (b ∷ (c ∷ (d ∷ more)))) = []

-- four signals at most are all told
pub placed : (l : List Signal) → length l ≤ 4 → places l ≡ l ++ pad l
placed [] h = refl
placed (a ∷ []) h = refl
placed (a ∷ (b ∷ [])) h = refl
placed (a ∷ (b ∷ (c ∷ []))) h = refl
placed (a ∷ (b ∷ (c ∷ (d ∷ [])))) h = refl
placed (a ∷ (b ∷ (c ∷ (d ∷ (e ∷ more))))) h = absurd (omega arith)

pub empty_of : {A : Type 0} (l : List A) → length l ≡ 0 → l ≡ []
empty_of [] h = refl
empty_of (a ∷ l) h = absurd (omega arith)

pub cond_append : {A : Type 0} (t : Bool) (x : A) (a b : List A) → cond t (x ∷ (a ++ b)) (a ++ b) ≡ cond t (x ∷ a) a ++ b
cond_append true x a b = refl
cond_append false x a b = refl

pub ended_append : (a b : List Signal) → ended_sent (a ++ b) ≡ ended_sent a ++ ended_sent b
ended_append [] b = refl
ended_append (s ∷ a) b = rw (ended_append a b) (cond_append (ends_connection s) s.connection (ended_sent a) (ended_sent b))

pub kind_append : (k : Kind) (a b : List Signal) → of_kind k (a ++ b) ≡ of_kind k a ++ of_kind k b
kind_append k [] b = refl
kind_append k (s ∷ a) b = rw (kind_append k a b) (cond_append (eqb (kind_number s.kind) (kind_number k)) s (of_kind k a) (of_kind k b))

pub append_none : {A : Type 0} (l : List A) → l ++ [] ≡ l
append_none [] = refl
append_none (a ∷ l) = ap (λ m. a ∷ m) (append_none l)

pub or_right : (a b : Bool) → a ≡ false → a || b ≡ true → b ≡ true
or_right true b p q = absurd (true≢false p)
or_right false b p q = q
