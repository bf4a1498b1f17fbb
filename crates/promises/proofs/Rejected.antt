-- Setups that are turned away over any fit table, and that a run starts from one or is refused all along: what demand 3 asks to be shown of insertions, of our control of any
-- end whose half keeps the laws and whose number check is its own. Assumes nothing.
use Prim.Native.Nat.{◌<◌, ◌≤◌, suc, zero, zero-le, ℕ}
use native.Mathlib.Omega.{arith}
use mathlib.Core.Bool.{Bool, cond, false, false≢true, not, true, true≢false}
use mathlib.Core.List.{List, [], ◌∷◌}
use mathlib.Core.Logic.{◌⊎◌, inl, inr}
use mathlib.Core.Path.{◌∙◌, ◌≡◌, ap, refl, subst, sym}
use lib.Dec.{eqb, ltb}
use lib.ListN.{get_or, length, length-replicate}
use borrow.Author.Tests.{le-leb, ltb-false, ltb-true, ne_eqb}
use Rattle.lent.specs.Keyed.{on_record}
use Rattle.runs.proofs.Demand.{nothing_inserted_where_refused}
use Rattle.runs.specs.Demand.{TurnsAway}
use Rattle.runs.specs.Late.{LateOrUnsupported, Rejected, SetupFor}
use Rattle.runs.specs.Run.{KeyedRequest, Table, call_by_key, empty_table, meets}
use Rattle.signal.specs.Causes.{in_progress, old_number, unsupported}
use Rattle.signal.specs.Numbers.{answer_number, is_late}
use Rattle.signal.specs.Signals.{places, rejection}
use Rattle.signal.specs.declared.ReroutingCause.{ReroutingCause}
use Rattle.signal.specs.declared.Signal.{Signal}
use Rattle.signal.specs.declared.Switchover.{Switchover}
use Rattle.events.specs.Events.{setup_number}
use Rattle.events.specs.declared.Act.TheVariants.{Meets}
use Rattle.events.specs.declared.Event.{Event}
use Rattle.events.specs.declared.Event.TheVariants.{Connect, Expiry, FromDomain, FromParty, NoPath, PathFound, Ready, Setup, Trigger}
use Rattle.rows.specs.Checks.{rejection_wanted, rejections}
use Rattle.rows.specs.States.{is_null}
use Rattle.call.proofs.Setups.{six_is}
use Rattle.call.specs.Claims.{Lawful}
use Rattle.call.specs.Events.{Half}
use Rattle.call.specs.Record.{emptied, standing}
use Rattle.call.specs.declared.Call.{Call}
use Rattle.call_table.proofs.Fit.{fit_exactly}
use Rattle.call_table.specs.Bench.{clearing}
use Rattle.call_table.specs.Fit.{fit_table}
use Rattle.call_table.specs.Table.{ran_of, table_of}
use Rattle.promises.proofs.Laws.{event, lawful, live_of, row}
use Rattle.promises.specs.Ends.{OneSieve, Sieve, Sifts, as_act, calls, numbering, ours}
use Rattle.call_table.specs.Claims as table
use Rattle.promises.specs.Claims as claim

-- ---- an empty table is fit, and every table of a run
no_record : (n i : ℕ) → get_or (empty_table calls n) i emptied ≡ emptied
no_record zero i = refl
no_record (suc n) zero = refl
no_record (suc n) (suc i) = no_record n i

empty_fit : (n : ℕ) → n ≤ 1024 → table.FitTable (empty_table calls n)
empty_fit n few =
    record {
      few = subst (λ m. m ≤ 1024) (sym (length-replicate n emptied)) few;
      keys = λ j k l m e. ap (λ c. c.key) (no_record n j);
      each = λ i l. subst table.FitRecord (sym (no_record n i)) record { empty = λ e. refl; used = λ used. absurd (used refl) };
    }

-- a record replaced by itself
replaced_self : (k : ℕ) (ys : List Call) → table.call_replaced k (table.call_of k ys) ys ≡ ys
replaced_self k [] = refl
replaced_self k (c ∷ cs) = by_test (eqb c.key k) (replaced_self k cs)
  where
    by_test : (b : Bool) → table.call_replaced k (table.call_of k cs) cs ≡ cs →
        cond b (cond b c (table.call_of k cs) ∷ cs) (c ∷ table.call_replaced k (cond b c (table.call_of k cs)) cs) ≡ c ∷ cs
    by_test true rest = refl
    by_test false rest = ap (λ t. c ∷ t) rest

-- only a setup has a number
no_number : {n : ℕ} → ◌≡◌ {A = List ℕ} [] (n ∷ []) → ⊥
no_number e = let one' : ◌≡◌ {A = ℕ} 0 1 = ap length e in omega arith

-- so what is inserted is a setup with a code and that number
abbrev pub IsSetup : Event → ℕ → Type 0
IsSetup e n = (code : Switchover) × (e ≡ Setup code n)

pub is_setup_lem : (e : Event) (n : ℕ) → setup_number e ≡ n ∷ [] → IsSetup e n
is_setup_lem (Setup code number) n numbered = (code, ap (Setup code) (ap (λ (ns : List ℕ). get_or ns 0 0) numbered))
is_setup_lem Trigger n numbered = absurd (no_number numbered)
is_setup_lem PathFound n numbered = absurd (no_number numbered)
is_setup_lem NoPath n numbered = absurd (no_number numbered)
is_setup_lem (Connect k agreed) n numbered = absurd (no_number numbered)
is_setup_lem (FromParty cause) n numbered = absurd (no_number numbered)
is_setup_lem (FromDomain k cause tried) n numbered = absurd (no_number numbered)
is_setup_lem Ready n numbered = absurd (no_number numbered)
is_setup_lem Expiry n numbered = absurd (no_number numbered)

-- ---- over too many records every request is refused with 101
module _ (half : Half) (L : Lawful half) where
  pub too_many_are_refused : claim.TooManyAreRefused half
  too_many_are_refused n many a = (row half L).unfit_is_refused (empty_table calls n) a.key (as_act a.does) (by_test (fit_table (empty_table calls n)) refl)
    where
      by_test : (b : Bool) → fit_table (empty_table calls n) ≡ b → fit_table (empty_table calls n) ≡ false
      by_test true fit =
          let few : n ≤ 1024 = subst (λ m. m ≤ 1024) (length-replicate n emptied) ((fit_exactly (empty_table calls n)).0 fit).few in
          absurd (omega arith)
      by_test false unfit = unfit

  refused_throughout : (n : ℕ) → 1024 < n → (a : KeyedRequest calls) → (ours half (empty_table calls n) a).answer ≡ 0 → ⊥
  refused_throughout n many a done = let refused : (ours half (empty_table calls n) a).answer ≡ 101 = too_many_are_refused n many a in omega arith

module _ (s : Sieve) (L : Lawful s.half) (S : Sifts s) where
  -- ---- a rejected setup
  -- the reject that is wanted: #8 where the code is not supported, else #5
  abbrev reject : Call → Switchover → Signal
  reject c code = rejection (cond (s.supports c code) old_number unsupported)

  abbrev Wanted : Call → Switchover → ℕ → Type 0
  Wanted c code number = rejection_wanted s.half.demands (standing c) (Setup code number) ≡ reject c code ∷ []

  -- to a call in use that takes setups, by the cause for which it is rejected
  wanted_for : (c : Call) (code : Switchover) (number : ℕ) (k : ReroutingCause) → s.takes c ≡ true → is_null c.state ≡ false →
      s.half.demands.rejected (standing c) code number ≡ k ∷ [] →
      rejection_wanted s.half.demands (standing c) (Setup code number) ≡ rejection k ∷ []
  wanted_for c code number k taken live for =
      ap (λ b. cond b [] (rejections (s.half.demands.rejected (standing c) code number))) (S.meant c code number live ∙ ap not taken)
      ∙ ap rejections for

  -- a setup that is not supported, or late
  wanted : (c : Call) (code : Switchover) (number : ℕ) → s.takes c ≡ true → is_null c.state ≡ false →
      (number ≤ c.remote) ⊎ (s.supports c code ≡ false) → Wanted c code number
  wanted c code number taken live why = by_code (s.supports c code) refl why
    where
      by_code : (b : Bool) → s.supports c code ≡ b → (number ≤ c.remote) ⊎ (b ≡ false) →
          rejection_wanted s.half.demands (standing c) (Setup code number) ≡ rejection (cond b old_number unsupported) ∷ []
      by_code false lacks _ = wanted_for c code number unsupported taken live (S.lacked c code number lacks)
      by_code true has (inl late) = wanted_for c code number old_number taken live (S.late c code number has late)
      by_code true has (inr lacks) = absurd (true≢false lacks)

  -- neither is #6
  neither_is_6 : (b : Bool) → rejection (cond b old_number unsupported) ≡ rejection in_progress → ⊥
  neither_is_6 true same = let z : ◌≡◌ {A = ℕ} 5 6 = six_is old_number same in omega arith
  neither_is_6 false same = let z : ◌≡◌ {A = ℕ} 8 6 = six_is unsupported same in omega arith

  -- over a fit table, a setup whose rejection is wanted is answered 0 with it, and changes no record
  turned_away_lem : (ys : Table calls) (k : ℕ) (code : Switchover) (number : ℕ) → table.FitTable ys → (k ≡ 0 → ⊥) →
      table.has_call k ys ≡ true → Wanted (table.call_of k ys) code number →
      (table.answered s.half ys k (Meets (Setup code number)) ≡ 0)
      × (((ran_of s.half ys k (Meets (Setup code number))).done.signals ≡ places (reject (table.call_of k ys) code ∷ [])) × (table_of s.half ys k (Meets (Setup code number)) ≡ ys))
  turned_away_lem ys k code number fit named here wants =
      let left = (event s.half L).rejected_setup_leaves_record (table.call_of k ys) (Setup code number) _ refl _ wants (neither_is_6 (s.supports (table.call_of k ys) code)) in
      let done : table.answered s.half ys k (Meets (Setup code number)) ≡ 0 =
      (row s.half L).answers_in_order ys k (Meets (Setup code number)) ∙ rw ((fit_exactly ys).1 fit, ne_eqb k 0 named, here) left.0 in
      let changed = (row s.half L).event_changes_its_call ys k (Setup code number) done in
      (done, (changed.1 ∙ left.1.1, changed.0 ∙ (ap (λ c. table.call_replaced k c ys) left.1.0 ∙ replaced_self k ys)))

  setup_rejected : (ys : Table calls) (a : KeyedRequest calls) (code : Switchover) (number : ℕ) → table.FitTable ys → (a.key ≡ 0 → ⊥) →
      on_record calls.key a.key ys ≡ true → Wanted (call_by_key calls a.key ys) code number →
      a.does ≡ meets (Setup code number) → Rejected calls (numbering s) ys a (ours s.half ys a)
  setup_rejected ys a code number fit named here wants is =
      let t = turned_away_lem ys a.key code number fit named here wants in
      record {
        event = Setup code number;
        is = is;
        answer = subst (λ d. answer_number (ran_of s.half ys a.key (as_act d)).done.answer ≡ 0) (sym is) t.0;
        signals = subst (λ d. (ran_of s.half ys a.key (as_act d)).done.signals ≡ places (reject (call_by_key calls a.key ys) code ∷ [])) (sym is) t.1.0;
        table = subst (λ d. table_of s.half ys a.key (as_act d) ≡ ys) (sym is) t.1.1;
      }

  -- a setup over a fit table that is late or not supported, with whatever code it has
  rejected_by : (ys : Table calls) (a : KeyedRequest calls) (e : Event) (n : ℕ) → table.FitTable ys → SetupFor calls (numbering s) ys a e n →
      (n ≤ (call_by_key calls a.key ys).remote) ⊎ ((numbering s).supported (call_by_key calls a.key ys) e ≡ false) →
      Rejected calls (numbering s) ys a (ours s.half ys a)
  rejected_by ys a e n fit setup why =
      let is = is_setup_lem e n setup.numbered in
      let live = live_of a.key ys setup.named ((fit_exactly ys).1 fit) setup.known in
      setup_rejected ys a is.0 n fit setup.named setup.known
      (wanted (call_by_key calls a.key ys) is.0 n setup.taken live
      (subst (λ d. (n ≤ (call_by_key calls a.key ys).remote) ⊎ ((numbering s).supported (call_by_key calls a.key ys) d ≡ false)) is.1 why))
      (setup.is ∙ ap meets is.1)

  -- ---- what demand 3 asks to be shown (runs, specs/Demand)
  pub too_many_take_none : claim.TooManyTakeNone s
  too_many_take_none n many strands at =
      nothing_inserted_where_refused calls (numbering s) (ours s.half) refl (lawful s.half L).refused n (refused_throughout s.half L n many) strands at

  pub turns_away_lem : TurnsAway calls (numbering s) (ours s.half)
  turns_away_lem =
      record {
        Fit = table.FitTable;
        begins = λ n. by_length n (ltb 1024 n) refl;
        stays = λ ys a. (row s.half L).stays_fit ys a.key (as_act a.does);
        rejects = rejects;
      }
    where
      by_length : (n : ℕ) (b : Bool) → ltb 1024 n ≡ b →
          table.FitTable (empty_table calls n) ⊎ ((a : KeyedRequest calls) → (ours s.half (empty_table calls n) a).answer ≡ 0 → ⊥)
      by_length n false t = inl (empty_fit n (ltb-false 1024 n t))
      by_length n true t = inr (refused_throughout s.half L n (ltb-true 1024 n t))

      rejects : (ys : Table calls) (a : KeyedRequest calls) → table.FitTable ys → LateOrUnsupported calls (numbering s) ys a →
          Rejected calls (numbering s) ys a (ours s.half ys a)
      rejects ys a fit (inl (e, (n, (setup, late)))) = rejected_by ys a e n fit setup (inl late)
      rejects ys a fit (inr (e, (n, (setup, lacks)))) = rejected_by ys a e n fit setup (inr lacks)

-- ---- a check that is the end's own, by the order in which a setup is looked at: its code, its number, and the rest
pub sifts_by : (s : Sieve) (rest : Call → List ReroutingCause) →
    ((c : Call) (code : Switchover) (number : ℕ) → is_null c.state ≡ false → s.half.demands.meaningless (standing c) (Setup code number) ≡ not (s.takes c)) →
    ((c : Call) (code : Switchover) (number : ℕ) →
    s.half.demands.rejected (standing c) code number ≡ cond (s.supports c code) (cond (is_late number c.remote) (old_number ∷ []) (rest c)) (unsupported ∷ [])) →
    Sifts s
sifts_by s rest meant ordered =
    record {
      meant = meant;
      lacked = λ c code number lacks. ordered c code number ∙ rw lacks;
      late = λ c code number has late. ordered c code number ∙ rw (has, le-leb number c.remote late);
    }

-- ---- no other check is the end's own
module _ (s : Sieve) (S : Sifts s) where
  pub one_sieve : OneSieve s
  one_sieve takes supports T c live = (
    not_same (takes c) (s.takes c) (sym (T.meant c clearing 0 live) ∙ S.meant c clearing 0 live),
    λ code. by (supports c code) (s.supports c code) code refl refl,
  )
    where
      not_same : (a b : Bool) → not a ≡ not b → a ≡ b
      not_same true true e = refl
      not_same true false e = absurd (false≢true e)
      not_same false true e = absurd (true≢false e)
      not_same false false e = refl

      -- a cause is #5 or #8, and not both
      apart : old_number ∷ [] ≡ unsupported ∷ [] → ⊥
      apart e = let z : ◌≡◌ {A = ℕ} 5 8 = ap (λ (ks : List ReroutingCause). (get_or ks 0 old_number).number) e in omega arith

      by : (a b : Bool) (code : Switchover) → supports c code ≡ a → s.supports c code ≡ b → a ≡ b
      by true true code p q = refl
      by false false code p q = refl
      by true false code p q = absurd (apart (sym (T.late c code 0 p zero-le) ∙ S.lacked c code 0 q))
      by false true code p q = absurd (apart (sym (S.late c code 0 q zero-le) ∙ T.lacked c code 0 p))
