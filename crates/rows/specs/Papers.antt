-- The laws that leave one row. What the papers say of an end's events elsewhere than in its rows (the checks and general sentences of 01,
-- Appendix C, Annex D) is a list of items for each case; with the laws of every row it fixes each field of a rule. Whether a connection is
-- released follows from the balance, and what becomes the incumbent or the rerouting connection from the switch and the setup.
-- Assumes nothing.
use Rattle.std.specs.Prelude.{Bool, ◌&&◌, ◌||◌, cond, false, not, true, List, [], ◌∷◌}
use Rattle.signal.specs.declared.Answer.{Answer}
use Rattle.signal.specs.declared.CauseCode.TheVariants.{Section66}
use Rattle.rows.specs.Cases.{Case}
use Rattle.rows.specs.Laws.{accepts, is_balanced, is_quiet, is_timed, is_told, same_answer, same_bool, same_code, same_phase, same_saying}
use Rattle.rows.specs.Laws.{same_slot, sends_setup, tells_party}
use Rattle.rows.specs.Rules.{Closing, NewNumber, NoClosing, NoSlot, OldIncumbent, OldRerouting, Rejects, Rule, SaysNothing}
use Rattle.rows.specs.Rules.{SendsConnect, SendsSetup, Slot, Tells, Told, Untold, is_done}
use Rattle.rows.specs.States.{Phase, holds_incumbent, holds_rerouting}

abbrev pub same_told : Told → Told → Bool
same_told Untold Untold = true
same_told Untold (Tells say code) = false
same_told (Tells say code) Untold = false
same_told (Tells say code) (Tells other also) = same_saying say other && same_code code also

abbrev pub same_closing : Closing → Closing → Bool
same_closing NoClosing NoClosing = true
same_closing NoClosing (SendsSetup other) = false
same_closing NoClosing (SendsConnect other) = false
same_closing NoClosing (Rejects another also) = false
same_closing (SendsSetup slot) NoClosing = false
same_closing (SendsSetup slot) (SendsSetup other) = same_slot slot other
same_closing (SendsSetup slot) (SendsConnect other) = false
same_closing (SendsSetup slot) (Rejects another also) = false
same_closing (SendsConnect slot) NoClosing = false
same_closing (SendsConnect slot) (SendsSetup other) = false
same_closing (SendsConnect slot) (SendsConnect other) = same_slot slot other
same_closing (SendsConnect slot) (Rejects another also) = false
same_closing (Rejects say code) NoClosing = false
same_closing (Rejects say code) (SendsSetup other) = false
same_closing (Rejects say code) (SendsConnect other) = false
same_closing (Rejects say code) (Rejects another also) = same_saying say another && same_code code also

-- an item: the cases of which it speaks, and what it says there, a list of one, or the empty list where it is silent: the next state,
-- whether the rerouting connection is switched in, the setup, connect or reject that is sent, and what each release carries, where one is
-- sent
pub record Item : Type 0 where
  pub speaks : Case → Bool
  pub next : List Phase
  pub switches : List Bool
  pub closing : List Closing
  pub party : List Told
  pub retires : List Told
  pub drops : List Told

-- what the papers say of an end. The answer by the checks, whether the setup's number is stored, and the items that speak of a case, in the
-- order in which they are asked: 01 before the standard. An item that 01 departs from is kept apart, and must not hold in any case of which
-- it speaks
pub record Papers : Type 0 where
  pub answer : Case → Answer
  pub stores : Case → Bool
  pub items : Case → List Item
  pub departed : Case → List Item

abbrev pub or_else : {A : Type 0} → List A → A → A
or_else [] a = a
or_else (b ∷ more) a = b

-- what the first item says that speaks of the case and is not silent
abbrev pub first_said : {A : Type 0} → (Item → List A) → A → Case → List Item → A
first_said said a c [] = a
first_said said a c (item ∷ more) = cond (item.speaks c) (or_else (said item) (first_said said a c more)) (first_said said a c more)

-- Where no item speaks: the call stays in its state, nothing is switched, set up, connected or rejected; and 01, "Signals": a row silent on
-- the Rerouting cause means absent, and the Cause code is section 6.6 unless a row says #21.
abbrev pub silent_told : Told
silent_told = Tells SaysNothing Section66

abbrev pub next_by : Papers → Case → Phase
next_by papers c = first_said (λ i. i.next) c.phase c (papers.items c)

abbrev pub switch_by : Papers → Case → Slot
switch_by papers c = cond (first_said (λ i. i.switches) false c (papers.items c)) OldRerouting NoSlot

abbrev pub closing_by : Papers → Case → Closing
closing_by papers c = first_said (λ i. i.closing) NoClosing c (papers.items c)

abbrev pub party_by : Papers → Case → Told
party_by papers c = first_said (λ i. i.party) silent_told c (papers.items c)

abbrev pub retires_by : Papers → Case → Told
retires_by papers c = first_said (λ i. i.retires) silent_told c (papers.items c)

abbrev pub drops_by : Papers → Case → Told
drops_by papers c = first_said (λ i. i.drops) silent_told c (papers.items c)

-- the incumbent changes only by a switch
abbrev pub incumbent_wanted : Phase → Slot → Slot
incumbent_wanted phase switch = cond (holds_incumbent phase) (cond (same_slot switch NoSlot) OldIncumbent switch) NoSlot

-- the rerouting connection is a new one exactly where a setup is sent or accepted
abbrev pub rerouting_wanted : Phase → Closing → Bool → Slot
rerouting_wanted phase closing stores =
    cond (holds_rerouting phase) (cond (sends_setup closing || accepts closing stores) NewNumber OldRerouting) NoSlot

-- a release that is sent carries what it must
abbrev pub carries : Told → Told → Bool
carries t wanted = not (is_told t) || same_told t wanted

abbrev pub when_done : Rule → Bool → Bool
when_done rule b = not (is_done rule.answer) || b

-- the rule keeps the laws, and says what the papers say
abbrev pub fixes : Papers → Case → Rule → List Bool
fixes papers c rule =
    same_answer rule.answer (papers.answer c)
    ∷ is_quiet c rule
    ∷ is_timed c rule
    ∷ is_balanced c rule
    ∷ when_done rule (same_phase rule.phase (next_by papers c))
    ∷ when_done rule (same_bool rule.stores (papers.stores c))
    ∷ when_done rule (same_slot rule.switch (switch_by papers c))
    ∷ when_done rule (same_closing rule.closing (closing_by papers c))
    ∷ when_done rule (same_slot rule.incumbent (incumbent_wanted rule.phase rule.switch))
    ∷ when_done rule (same_slot rule.rerouting (rerouting_wanted rule.phase rule.closing rule.stores))
    ∷ tells_party c rule
    ∷ when_done rule (carries rule.party (party_by papers c))
    ∷ when_done rule (carries rule.retires (retires_by papers c))
    ∷ when_done rule (carries rule.drops (drops_by papers c))
    ∷ []

-- what an item says of a rule: each thing that it is not silent on
abbrev pub said_of : {A : Type 0} → (A → Bool) → List A → Bool
said_of test [] = true
said_of test (a ∷ more) = test a

abbrev pub item_holds : Item → Rule → Bool
item_holds item rule =
    is_done rule.answer
    && (said_of (same_phase rule.phase) item.next
    && (said_of (λ b. same_slot rule.switch (cond b OldRerouting NoSlot)) item.switches
    && (said_of (same_closing rule.closing) item.closing
    && (said_of (carries rule.party) item.party
    && (said_of (carries rule.retires) item.retires && said_of (carries rule.drops) item.drops)))))
