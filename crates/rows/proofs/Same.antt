-- Values of the finite types that have one number are one. Assumes nothing.
use Prim.Native.Nat.{ℕ}
use mathlib.Core.Bool.{Bool, cond, false, false≢true, not, true}
use mathlib.Core.Path.{◌∙◌, ◌≡◌, ap, refl, sym}
use lib.Dec.{eqb}
use borrow.Author.Tests.{eq-eqb, eqb-true, ne_eqb}
use Rattle.signal.specs.Numbers.{answer_number}
use Rattle.signal.specs.declared.Answer.{Answer}
use Rattle.signal.specs.declared.Answer.TheVariants.{Done, KeyNotOnRecord, KeyOnRecord, KeyZero, NoEmptyRecord, NoMeaning, NotHeld}
use Rattle.signal.specs.declared.Answer.TheVariants.{NumbersSpent, TableUnfit}
use Rattle.signal.specs.declared.CauseCode.{CauseCode}
use Rattle.signal.specs.declared.CauseCode.TheVariants.{CallRejected, Section66}
use Rattle.rows.proofs.Every.{left, right}
use Rattle.rows.specs.Laws.{code_number, same_answer, same_bool, same_code, same_phase, same_saying, same_slot, same_timer, saying_number}
use Rattle.rows.specs.Laws.{slot_number, timer_number}
use Rattle.rows.specs.Papers.{same_closing, same_told}
use Rattle.rows.specs.Rules.{Closing, LeavesTimer, NewNumber, NoClosing, NoSlot, OldIncumbent, OldRerouting, Rejects, Saying, Says1}
use Rattle.rows.specs.Rules.{Says2, Says4, Says5, Says6, Says8, SaysAsCame, SaysNothing, SendsConnect, SendsSetup, Slot}
use Rattle.rows.specs.Rules.{StartsTimer, StopsTimer, Tells, Timer, Told, Untold}
use Rattle.rows.specs.States.{AtAwaiting, AtHardUnderway, AtHardWaiting, AtIdle, AtNull, AtSoftInitiated, AtSoftProceeding}
use Rattle.rows.specs.States.{AtSoftTriggered, Phase, phase_number}

-- a value that its number gives back is told by its number
by_number : {A : Type 0} (number : A → ℕ) (at : ℕ → A) → ((a : A) → at (number a) ≡ a) → (a b : A) → eqb (number a) (number b) ≡ true →
    a ≡ b
by_number number at back a b p = sym (back a) ∙ (ap at (eqb-true (number a) (number b) p) ∙ back b)

abbrev timer_at : ℕ → Timer
timer_at n = cond (eqb n 0) LeavesTimer (cond (eqb n 1) StartsTimer StopsTimer)

timer_back : (t : Timer) → timer_at (timer_number t) ≡ t
timer_back LeavesTimer = refl
timer_back StartsTimer = refl
timer_back StopsTimer = refl

pub timer_same : (a b : Timer) → same_timer a b ≡ true → a ≡ b
timer_same = by_number timer_number timer_at timer_back

abbrev slot_at : ℕ → Slot
slot_at n = cond (eqb n 0) NoSlot (cond (eqb n 1) OldIncumbent (cond (eqb n 2) OldRerouting NewNumber))

slot_back : (x : Slot) → slot_at (slot_number x) ≡ x
slot_back NoSlot = refl
slot_back OldIncumbent = refl
slot_back OldRerouting = refl
slot_back NewNumber = refl

pub slot_same : (a b : Slot) → same_slot a b ≡ true → a ≡ b
slot_same = by_number slot_number slot_at slot_back

pub bool_same : (a b : Bool) → same_bool a b ≡ true → a ≡ b
bool_same true true p = refl
bool_same true false p = cc
bool_same false true p = cc
bool_same false false p = refl

abbrev phase_at : ℕ → Phase
phase_at n =
    cond (eqb n 0) AtNull
    (cond (eqb n 1) AtIdle
    (cond (eqb n 2) AtHardWaiting
    (cond (eqb n 3) AtHardUnderway
    (cond (eqb n 4) AtSoftTriggered (cond (eqb n 5) AtSoftProceeding (cond (eqb n 6) AtSoftInitiated AtAwaiting))))))

phase_back : (x : Phase) → phase_at (phase_number x) ≡ x
phase_back AtNull = refl
phase_back AtIdle = refl
phase_back AtHardWaiting = refl
phase_back AtHardUnderway = refl
phase_back AtSoftTriggered = refl
phase_back AtSoftProceeding = refl
phase_back AtSoftInitiated = refl
phase_back AtAwaiting = refl

pub phase_same : (a b : Phase) → same_phase a b ≡ true → a ≡ b
phase_same = by_number phase_number phase_at phase_back

abbrev answer_at : ℕ → Answer
answer_at n =
    cond (eqb n 0) Done
    (cond (eqb n 101) TableUnfit
    (cond (eqb n 102) KeyZero
    (cond (eqb n 103) KeyOnRecord
    (cond (eqb n 104) NoEmptyRecord
    (cond (eqb n 105) KeyNotOnRecord (cond (eqb n 106) NoMeaning (cond (eqb n 107) NotHeld NumbersSpent)))))))

answer_back : (x : Answer) → answer_at (answer_number x) ≡ x
answer_back Done = refl
answer_back TableUnfit = refl
answer_back KeyZero = refl
answer_back KeyOnRecord = refl
answer_back NoEmptyRecord = refl
answer_back KeyNotOnRecord = refl
answer_back NoMeaning = refl
answer_back NotHeld = refl
answer_back NumbersSpent = refl

pub answer_same : (a b : Answer) → same_answer a b ≡ true → a ≡ b
answer_same = by_number answer_number answer_at answer_back

abbrev saying_at : ℕ → Saying
saying_at n =
    cond (eqb n 0) SaysNothing
    (cond (eqb n 1) Says1
    (cond (eqb n 2) Says2
    (cond (eqb n 4) Says4 (cond (eqb n 5) Says5 (cond (eqb n 6) Says6 (cond (eqb n 8) Says8 SaysAsCame))))))

saying_back : (x : Saying) → saying_at (saying_number x) ≡ x
saying_back SaysNothing = refl
saying_back Says1 = refl
saying_back Says2 = refl
saying_back Says4 = refl
saying_back Says5 = refl
saying_back Says6 = refl
saying_back Says8 = refl
saying_back SaysAsCame = refl

pub saying_same : (a b : Saying) → same_saying a b ≡ true → a ≡ b
saying_same = by_number saying_number saying_at saying_back

abbrev code_at : ℕ → CauseCode
code_at n = cond (eqb n 0) Section66 CallRejected

code_back : (x : CauseCode) → code_at (code_number x) ≡ x
code_back Section66 = refl
code_back CallRejected = refl

pub code_same : (a b : CauseCode) → same_code a b ≡ true → a ≡ b
code_same = by_number code_number code_at code_back

pub not_so : (a : Bool) → not a ≡ true → a ≡ false
not_so true p = cc
not_so false p = refl

pub told_same : (a b : Told) → same_told a b ≡ true → a ≡ b
told_same Untold Untold p = refl
told_same Untold (Tells say code) p = absurd (false≢true p)
told_same (Tells say code) Untold p = absurd (false≢true p)
told_same (Tells say code) (Tells other also) p =
    let q : say ≡ other = saying_same say other (left (same_saying say other) _ p) in
    let r : code ≡ also = code_same code also (right (same_saying say other) _ p) in
    cc

pub closing_same : (a b : Closing) → same_closing a b ≡ true → a ≡ b
closing_same NoClosing NoClosing p = refl
closing_same NoClosing (SendsSetup other) p = absurd (false≢true p)
closing_same NoClosing (SendsConnect other) p = absurd (false≢true p)
closing_same NoClosing (Rejects another also) p = absurd (false≢true p)
closing_same (SendsSetup slot) NoClosing p = absurd (false≢true p)
closing_same (SendsSetup slot) (SendsSetup other) p = ap SendsSetup (slot_same slot other p)
closing_same (SendsSetup slot) (SendsConnect other) p = absurd (false≢true p)
closing_same (SendsSetup slot) (Rejects another also) p = absurd (false≢true p)
closing_same (SendsConnect slot) NoClosing p = absurd (false≢true p)
closing_same (SendsConnect slot) (SendsSetup other) p = absurd (false≢true p)
closing_same (SendsConnect slot) (SendsConnect other) p = ap SendsConnect (slot_same slot other p)
closing_same (SendsConnect slot) (Rejects another also) p = absurd (false≢true p)
closing_same (Rejects say code) NoClosing p = absurd (false≢true p)
closing_same (Rejects say code) (SendsSetup other) p = absurd (false≢true p)
closing_same (Rejects say code) (SendsConnect other) p = absurd (false≢true p)
closing_same (Rejects say code) (Rejects another also) p =
    let q : say ≡ another = saying_same say another (left (same_saying say another) _ p) in
    let r : code ≡ also = code_same code also (right (same_saying say another) _ p) in
    cc

-- what a test of a call's result tells of what the call ensures
pub same : {r x n : ℕ} → r ≡ x → r ≡ n → eqb x n ≡ true
same e h = eq-eqb _ _ (sym e ∙ h)

pub other : {r x n : ℕ} → r ≡ x → (r ≡ n → ⊥) → eqb x n ≡ false
other e h = ne_eqb _ _ (λ p. h (e ∙ p))
