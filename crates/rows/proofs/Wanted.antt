-- The theorem for any end: a row that passes the tests of what the documents ask for by case does, of a call and an event, what they ask for.
-- Assumes nothing.
use Prim.Native.Nat.{◌+◌, ◌≤◌, ℕ}
use native.Mathlib.Omega.{arith}
use mathlib.Core.Bool.{Bool, ◌&&◌, ◌||◌, cond, false, false≢true, not, true}
use mathlib.Core.List.{List, [], ◌++◌, ◌∷◌}
use mathlib.Core.Path.{◌∙◌, ◌≡◌, ap, refl, sym}
use lib.Dec.{eqb, leb}
use lib.ListN.{length}
use borrow.Author.Tests.{eqb-true, leb-true}
use Rattle.std.specs.Prelude.{Option}
use Rattle.signal.specs.Counting.{is_call_rejected, kind_number, of_kind, with_code21}
use Rattle.signal.specs.Numbers.{answer_number, is_late}
use Rattle.signal.specs.Signals.{places, release_with}
use Rattle.signal.specs.declared.CauseCode.TheVariants.{CallRejected, Section66}
use Rattle.signal.specs.declared.Kind.{Kind}
use Rattle.signal.specs.declared.Kind.TheVariants.{IncumbentRelease, NoSignal, Rejection, ReroutingRelease}
use Rattle.signal.specs.declared.ReroutingCause.{ReroutingCause}
use Rattle.signal.specs.declared.SentCause.TheVariants.{Absent, Numbered}
use Rattle.signal.specs.declared.Signal.{Signal}
use Rattle.events.specs.Events.{number_brought, received_in}
use Rattle.events.specs.declared.Event.{Event}
use Rattle.events.specs.declared.Event.TheVariants.{Connect, Expiry, FromDomain, FromParty, NoPath, PathFound, Ready, Setup, Trigger}
use Rattle.rows.proofs.Every.{Each, each, left, right}
use Rattle.rows.proofs.Same.{bool_same, code_same, not_so, saying_same}
use Rattle.rows.proofs.Sent.{append_none, cond_append, pad, placed, sent_length}
use Rattle.rows.specs.Cases.{Case, NamesIncumbent, NamesOther, NamesRerouting, Standing, asking_of, case_of, happening_of, has_room}
use Rattle.rows.specs.Cases.{is_incumbent, is_rerouting, role_of}
use Rattle.rows.specs.Checks.{Demands, answer_number_wanted, asks_number, code21_wanted, first_of, holds, is_its_incumbent, is_none}
use Rattle.rows.specs.Checks.{names_not_held, number_stored, rejection_wanted, rejections, stored_wanted}
use Rattle.rows.specs.Effects.{cause_said, causes_of, closing_sent, party_kind, said, switch_sent, timer_sent, told_sent}
use Rattle.rows.specs.Laws.{Wants, answer_in, asks_for, bears21, first_answer, fits, holds_role, is_empty, is_lawful, says_number, is_wanted}
use Rattle.rows.specs.Laws.{laws, leaves_rejected, left_alone, names_unheld, rejected_in, rejects_with, same_answer, same_bool, same_code}
use Rattle.rows.specs.Laws.{same_role, same_saying, sends, stores_in, wants}
use Rattle.rows.specs.Meaning.{Agrees, Left, Obeys, stored_by}
use Rattle.rows.specs.Rules.{Closing, LeavesTimer, NewNumber, NoClosing, NoSlot, OldIncumbent, OldRerouting, Rejects, Rule, Saying}
use Rattle.rows.specs.Rules.{Says1, Says2, Says4, Says5, Says6, Says8, SaysAsCame, SaysNothing, SendsConnect, SendsSetup, Slot}
use Rattle.rows.specs.Rules.{StartsTimer, StopsTimer, Tells, Timer, Told, Untold}
use Rattle.rows.specs.States.{AtAwaiting, AtHardUnderway, AtIdle, AtSoftInitiated, AtSoftProceeding, AtSoftTriggered, Phase}
use Rattle.rows.specs.States.{holds_incumbent, holds_rerouting, incumbent_of, is_over, phase_of, rerouting_of}
use Rattle.rows.specs.declared.Effect.{Effect}
use Rattle.rows.specs.declared.State.{State}
use Rattle.rows.specs.declared.State.TheVariants.{Awaiting, HardUnderway, HardWaiting, Idle, Null, SoftInitiated, SoftProceeding}
use Rattle.rows.specs.declared.State.TheVariants.{SoftTriggered}
use Rattle.rows.proofs.Balance as balance
use Rattle.rows.proofs.Signals as signals

-- ---- the answer
first_number : (m h n : Bool) → answer_number (first_answer m h n) ≡ first_of m h n
first_number true h n = refl
first_number false true n = refl
first_number false false true = refl
first_number false false false = refl

-- a connection that a phase holds is one of the state's, by its role; b: it is the incumbent, d: the rerouting one
module _ (phase : Phase) where
  one_unheld : (b : Bool) → holds_incumbent phase ≡ true → not (holds_role phase (cond b NamesIncumbent NamesOther)) ≡ not (b || false)
  one_unheld true i = simp i
  one_unheld false i = refl

  new_unheld : (d : Bool) → holds_rerouting phase ≡ true → not (holds_role phase (cond d NamesRerouting NamesOther)) ≡ not (d || false)
  new_unheld true r = simp r
  new_unheld false r = refl

  two_unheld : (b d : Bool) → holds_incumbent phase ≡ true → holds_rerouting phase ≡ true →
      not (holds_role phase (cond b NamesIncumbent (cond d NamesRerouting NamesOther))) ≡ not (b || (d || false))
  two_unheld true d i r = simp i
  two_unheld false true i r = simp r
  two_unheld false false i r = refl

pub is_first : (b d : Bool) → same_role (cond b NamesIncumbent (cond d NamesRerouting NamesOther)) NamesIncumbent ≡ b
is_first true d = refl
is_first false true = refl
is_first false false = refl

unheld : (s : State) (c : ℕ) → not (holds_role (phase_of s) (role_of s c)) ≡ not (holds s c)
unheld Null c = refl
unheld (Idle i) c = one_unheld AtIdle (eqb c i) refl
unheld HardWaiting c = refl
unheld (HardUnderway r) c = new_unheld AtHardUnderway (eqb c r) refl
unheld (SoftTriggered i) c = one_unheld AtSoftTriggered (eqb c i) refl
unheld (SoftProceeding i r) c = two_unheld AtSoftProceeding (eqb c i) (eqb c r) refl refl
unheld (SoftInitiated i r) c = two_unheld AtSoftInitiated (eqb c i) (eqb c r) refl refl
unheld (Awaiting i r) c = two_unheld AtAwaiting (eqb c i) (eqb c r) refl refl

pub its_incumbent : (s : State) (c : ℕ) → is_incumbent s c ≡ is_its_incumbent s c
its_incumbent Null c = refl
its_incumbent (Idle i) c = refl
its_incumbent HardWaiting c = refl
its_incumbent (HardUnderway r) c = refl
its_incumbent (SoftTriggered i) c = refl
its_incumbent (SoftProceeding i r) c = refl
its_incumbent (SoftInitiated i r) c = refl
its_incumbent (Awaiting i r) c = refl

pub names_unheld_lem : (s : State) (remote : ℕ) (e : Event) → names_unheld (phase_of s) (happening_of s remote e) ≡ names_not_held s e
names_unheld_lem s remote Trigger = refl
names_unheld_lem s remote PathFound = refl
names_unheld_lem s remote NoPath = refl
names_unheld_lem s remote (Connect c agreed) =
    λ i. (is_first (is_incumbent s c) (is_rerouting s c) ∙ its_incumbent s c) i || unheld s c i
names_unheld_lem s remote (Setup code number) = refl
names_unheld_lem s remote (FromParty cause) = refl
names_unheld_lem s remote (FromDomain c cause tried) = unheld s c
names_unheld_lem s remote Ready = refl
names_unheld_lem s remote Expiry = refl

none_of : (l : List Saying) → is_empty l ≡ is_none (causes_of l)
none_of [] = refl
none_of (say ∷ more) = refl

-- ---- a rejection
numbered : (got : Option ReroutingCause) (say : Saying) → says_number say ≡ true → said got say ≡ Numbered (cause_said say)
numbered got SaysNothing p = absurd (false≢true p)
numbered got Says1 p = refl
numbered got Says2 p = refl
numbered got Says4 p = refl
numbered got Says5 p = refl
numbered got Says6 p = refl
numbered got Says8 p = refl
numbered got SaysAsCame p = absurd (false≢true p)

empty_is : (l : List Saying) → is_empty l ≡ true → l ≡ []
empty_is [] p = refl
empty_is (say ∷ more) p = absurd (false≢true p)

turned_away_lem : (s : State) (n : ℕ) (got : Option ReroutingCause) (l : List Saying) (x : Closing) → rejects_with l x ≡ true →
    of_kind Rejection (closing_sent s n got x) ≡ rejections (causes_of l)
turned_away_lem s n got [] NoClosing p = refl
turned_away_lem s n got [] (SendsSetup slot) p = refl
turned_away_lem s n got [] (SendsConnect slot) p = refl
turned_away_lem s n got [] (Rejects say code) p = absurd (false≢true p)
turned_away_lem s n got (wanted ∷ more) NoClosing p = absurd (false≢true p)
turned_away_lem s n got (wanted ∷ more) (SendsSetup slot) p = absurd (false≢true p)
turned_away_lem s n got (wanted ∷ more) (SendsConnect slot) p = absurd (false≢true p)
turned_away_lem s n got (wanted ∷ more) (Rejects say code) p =
    let a : say ≡ wanted = saying_same say wanted (left (same_saying say wanted) _ p) in
    let rest = right (same_saying say wanted) _ p in
    let b : code ≡ Section66 = code_same code Section66 (left (same_code code Section66) _ rest) in
    let last = right (same_code code Section66) _ rest in
    let none' : [] ≡ more = sym (empty_is more (left (is_empty more) _ last)) in
    let number : said got say ≡ Numbered (cause_said wanted) = ap (said got) a ∙ numbered got wanted (right (is_empty more) _ last) in
    λ i. release_with Rejection 0 (number i) (b i) ∷ rejections (causes_of (none' i))

-- one signal, of a kind that it is told by
one_signal : (k : Kind) (l : List Signal) (r : Signal) → length l ≡ 1 → of_kind k l ≡ r ∷ [] → l ≡ r ∷ []
one_signal k [] r p q = absurd (omega arith)
one_signal k (a ∷ []) r p q = by (eqb (kind_number a.kind) (kind_number k)) q
  where
    by : (b : Bool) → cond b (a ∷ []) [] ≡ r ∷ [] → a ∷ [] ≡ r ∷ []
    by true h = h
    by false h = absurd (let z : ◌≡◌ {A = ℕ} 0 1 = ap length h in omega arith)
one_signal k (a ∷ (b ∷ more)) r p q = absurd (omega arith)

-- ---- Cause code #21
with_append : (a b : List Signal) → with_code21 (a ++ b) ≡ with_code21 a ++ with_code21 b
with_append [] b = refl
with_append (s ∷ a) b = rw (with_append a b) (cond_append (is_call_rejected s.code) s (with_code21 a) (with_code21 b))

timer_without : (t : Timer) → with_code21 (timer_sent t) ≡ []
timer_without LeavesTimer = refl
timer_without StartsTimer = refl
timer_without StopsTimer = refl

switch_without : (s : State) (n : ℕ) (x : Slot) → with_code21 (switch_sent s n x) ≡ []
switch_without s n NoSlot = refl
switch_without s n OldIncumbent = refl
switch_without s n OldRerouting = refl
switch_without s n NewNumber = refl

pad_without : (l : List Signal) → with_code21 (pad l) ≡ []
pad_without [] = refl
pad_without (a ∷ []) = refl
pad_without (a ∷ (b ∷ [])) = refl
pad_without (a ∷ (b ∷ (c ∷ []))) = refl
pad_without (a ∷ (b ∷ (c ∷ (d ∷ more)))) = refl

told_with : (k : Kind) (n : ℕ) (got : Option ReroutingCause) (wanted : Bool) (t : Told) → bears21 wanted t ≡ true →
    with_code21 (told_sent k n got t) ≡ cond wanted (release_with k n Absent CallRejected ∷ []) []
told_with k n got true Untold p = absurd (false≢true p)
told_with k n got false Untold p = refl
told_with k n got true (Tells say Section66) p = absurd (false≢true p)
told_with k n got true (Tells say CallRejected) p = ap (λ y. release_with k n (said got y) CallRejected ∷ []) (saying_same say SaysNothing p)
told_with k n got false (Tells say Section66) p = refl
told_with k n got false (Tells say CallRejected) p = absurd (false≢true p)

closing_without : (s : State) (n : ℕ) (got : Option ReroutingCause) (l : List Saying) (x : Closing) → rejects_with l x ≡ true →
    with_code21 (closing_sent s n got x) ≡ []
closing_without s n got l NoClosing p = refl
closing_without s n got l (SendsSetup slot) p = refl
closing_without s n got l (SendsConnect slot) p = refl
closing_without s n got [] (Rejects say code) p = absurd (false≢true p)
closing_without s n got (wanted ∷ more) (Rejects say code) p =
    ap (λ y. with_code21 (release_with Rejection 0 (said got say) y ∷ []))
    (code_same code Section66 (left (same_code code Section66) _ (right (same_saying say wanted) _ p)))

module _ (w : Wants) (d : Demands) (agrees : Agrees w d) (x : Standing) (e : Event) (rule : Rule) where
  abbrev s : State
  s = x.state

  abbrev n : ℕ
  n = x.last + 1

  abbrev c : Case
  c = case_of x e

  abbrev all : List Signal
  all = balance.sent d.node x e rule

  abbrev made : Effect
  made = balance.done d.node x e rule

  asks : (e : Event) → asks_for w (phase_of s) (happening_of s x.remote e) ≡ asks_number d x e
  asks Trigger = refl
  asks PathFound = refl
  asks NoPath = refl
  asks (Connect y agreed) = refl
  asks (Setup code number) = none_of (w.rejected (phase_of s) (asking_of code) (is_late number x.remote)) ∙ ap is_none (agrees.rejected x code number)
  asks (FromParty cause) = refl
  asks (FromDomain y cause tried) = refl
  asks Ready = refl
  asks Expiry = refl

  pub answered : same_answer rule.answer (answer_in w c) ≡ true → answer_number rule.answer ≡ answer_number_wanted d x e
  answered p =
      eqb-true (answer_number rule.answer) (answer_number (answer_in w c)) p
      ∙ (first_number (w.meaningless c) (names_unheld c.phase c.happening) (asks_for w c.phase c.happening && not c.room)
      ∙ λ i. first_of (agrees.meaningless x e i) (names_unheld_lem s x.remote e i) (asks e i && not (has_room x.last)))

  stores_is : (e : Event) (b : Bool) → b ≡ stores_in w (case_of x e) (happening_of s x.remote e) →
      cond b (number_brought e ∷ []) [] ≡ stored_wanted d x e
  stores_is Trigger b p = ap (λ t. cond t (0 ∷ []) []) p
  stores_is PathFound b p = ap (λ t. cond t (0 ∷ []) []) p
  stores_is NoPath b p = ap (λ t. cond t (0 ∷ []) []) p
  stores_is (Connect y agreed) b p = ap (λ t. cond t (0 ∷ []) []) p
  stores_is (Setup code number) b p =
      ap (λ t. cond t (number ∷ []) []) p
      ∙ λ i.
      cond
      (not (agrees.meaningless x (Setup code number) i) && number_stored (agrees.rejected x code number i) (has_room x.last))
      (number ∷ []) []
  stores_is (FromParty cause) b p = ap (λ t. cond t (0 ∷ []) []) p
  stores_is (FromDomain y cause tried) b p = ap (λ t. cond t (0 ∷ []) []) p
  stores_is Ready b p = ap (λ t. cond t (0 ∷ []) []) p
  stores_is Expiry b p = ap (λ t. cond t (0 ∷ []) []) p

  pub stored : same_bool rule.stores (stores_in w c c.happening) ≡ true → stored_by e made ≡ stored_wanted d x e
  stored p = stores_is e rule.stores (bool_same rule.stores _ p)

  cond_rejections : (b : Bool) (l : List Saying) → rejections (causes_of (cond b [] l)) ≡ cond b [] (rejections (causes_of l))
  cond_rejections true l = refl
  cond_rejections false l = refl

  rejection_is : (e : Event) → rejections (causes_of (rejected_in w (case_of x e) (happening_of s x.remote e))) ≡ rejection_wanted d x e
  rejection_is Trigger = refl
  rejection_is PathFound = refl
  rejection_is NoPath = refl
  rejection_is (Connect y agreed) = refl
  rejection_is (Setup code number) =
      cond_rejections (w.meaningless (case_of x (Setup code number))) (w.rejected (phase_of s) (asking_of code) (is_late number x.remote))
      ∙ λ i. cond (agrees.meaningless x (Setup code number) i) [] (rejections (agrees.rejected x code number i))
  rejection_is (FromParty cause) = refl
  rejection_is (FromDomain y cause tried) = refl
  rejection_is Ready = refl
  rejection_is Expiry = refl

  module _ (fit : fits rule ≡ true) where
    pub rejected : rejects_with (rejected_in w c c.happening) rule.closing ≡ true →
        of_kind Rejection made.signals ≡ rejection_wanted d x e
    rejected p =
        signals.rejects_in d.node x e rule fit
        ∙ (turned_away_lem s n (received_in e) (rejected_in w c c.happening) rule.closing p ∙ rejection_is e)

    alone : (l : List Saying) → rejections (causes_of l) ≡ rejection_wanted d x e → leaves_rejected l c rule ≡ true →
        of_kind Rejection made.signals ≡ rejection_wanted d x e → (r : Signal) → rejection_wanted d x e ≡ r ∷ [] → Left x made r
    alone [] q p o r wanted = absurd (let z : ◌≡◌ {A = ℕ} 0 1 = ap length (q ∙ wanted) in omega arith)
    alone (say ∷ more) q p o r wanted =
        let t : Each (left_alone c rule) = each (left_alone c rule) p in
        let put = balance.stays_put s n rule t.1.1.0 t.1.1.1.0 t.1.1.1.1.0 in
        let one' : length all ≡ 1 = sent_length d.node s n (received_in e) rule ∙ eqb-true (sends rule) 1 t.1.1.1.1.1.0 in
        let own : of_kind Rejection all ≡ r ∷ [] = sym (signals.kind_placed Rejection refl all (balance.few d.node x e rule fit)) ∙ (o ∙ wanted) in
        record {
          done = eqb-true (answer_number rule.answer) 0 t.0;
          live = sym (signals.over_is s) ∙ not_so (is_over (phase_of s)) t.1.0;
          state = put.state;
          gives = put.gives;
          signals = ap places (one_signal Rejection all r one' own);
        }

    pub code21 : rejects_with (rejected_in w c c.happening) rule.closing ≡ true → bears21 false rule.party ≡ true →
        bears21 (w.retired21 c) rule.retires ≡ true → bears21 (w.dropped21 c) rule.drops ≡ true →
        with_code21 made.signals ≡ code21_wanted d x e
    code21 p q r t =
        ap with_code21 (placed all (balance.few d.node x e rule fit))
        ∙ (simp (
          with_append,
          timer_without,
          switch_without,
          told_with (party_kind d.node) 0 (received_in e) false rule.party q,
          told_with IncumbentRelease (incumbent_of s) (received_in e) (w.retired21 c) rule.retires r,
          told_with ReroutingRelease (rerouting_of s) (received_in e) (w.dropped21 c) rule.drops t,
          closing_without s n (received_in e) (rejected_in w c c.happening) rule.closing p,
          pad_without,
          append_none,
          agrees.retired21 x e,
          agrees.dropped21 x e,
        ))

    pub few_sent : leb (sends rule) w.most ≡ true → 4 ≤ length (of_kind NoSignal made.signals) + d.most
    few_sent p = omega (arith, signals.unused d.node x e rule fit, leb-true (sends rule) w.most p, agrees.most)

  pub obeys : is_lawful c rule ≡ true → is_wanted w c rule ≡ true → Obeys d x e made
  obeys lawful wanted =
      let fit : fits rule ≡ true = (each (laws c rule) lawful).0 in
      let t : Each (wants w c rule) = each (wants w c rule) wanted in
      let turned : of_kind Rejection made.signals ≡ rejection_wanted d x e = rejected fit t.1.1.0 in
      record {
        answered = answered t.0;
        stored = stored t.1.0;
        rejected = turned;
        rejects = alone fit (rejected_in w c c.happening) (rejection_is e) t.1.1.1.0 turned;
        code21 = code21 fit t.1.1.0 t.1.1.1.1.0 t.1.1.1.1.1.0 t.1.1.1.1.1.1.0;
        few = few_sent fit t.1.1.1.1.1.1.1.0;
      }
