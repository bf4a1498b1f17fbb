-- Wrong answers of each public function of call_table, two at the least. Each theorem speaks of the function's contract as the
-- prover makes it from the source: that its `ensures` holds of the wrong answer, with any value where a variable stands,
-- is false. Assumes nothing.
use Prim.Native.Nat.{ℕ}
use native.Mathlib.Omega.{arith}
use mathlib.Core.Bool.{true}
use mathlib.Core.List.{List, [], ◌∷◌}
use mathlib.Core.Path.{◌≡◌, ap}
use lib.ListN.{get_or, replicate}
use seplogic.Ra.Ura.{Ura}
use base.Logic.{SProp, ent}
use contract.Lifetimes.{Lfts}
use contract.Monad.{Fun, fact, fact_mono}
use denote.MutBor.{MutBor}
use types.Logic.{Logic}
use prog.Memory.{Memory}
use prog.Routine.{Routine}
use Rattle.std.specs.Prelude.{None}
use Rattle.call.specs.Record.{emptied}
use Rattle.call.specs.declared.Call.{Call}
use Rattle.distinct.specs.Distinct.{has, distinct_of}
use Rattle.events.specs.declared.Act.TheVariants.{Meets, Opens}
use Rattle.events.specs.declared.Act.{Act}
use Rattle.events.specs.declared.Event.TheVariants.{FromParty, Setup, Trigger}
use Rattle.events.specs.declared.Node.TheVariants.{Destination, Source}
use Rattle.events.specs.declared.Node.{Node}
use Rattle.events.specs.declared.NodeAct.{NodeAct}
use Rattle.lent.specs.Search.{read_from}
use Rattle.rows.specs.States.{state_number}
use Rattle.rows.specs.declared.State.TheVariants.{Awaiting, HardWaiting, Idle}
use Rattle.signal.specs.Counting.{kind_number}
use Rattle.signal.specs.Numbers.{answer_number}
use Rattle.signal.specs.Signals.{none, places}
use Rattle.signal.specs.declared.Answer.TheVariants.{Done as WasDone, KeyNotOnRecord, KeyZero, NoEmptyRecord}
use Rattle.signal.specs.declared.Answer.{Answer}
use Rattle.signal.specs.declared.Signal.{Signal}
use Rattle.signal.specs.declared.Soft.TheVariants.{Symmetric}
use Rattle.call_table.specs.declared.Done.{Done}
use Rattle.call_table.specs.declared.SixtyFour.{SixtyFour}
use Rattle.call_table.specs.contracts.handle as handle
use Rattle.call_table.specs.contracts.handle_fit as handle_fit
use Rattle.call_table.specs.contracts.handle64 as handle64

-- something that is lent to be changed; where it stands says nothing here
abbrev lent_mut : {X : Type 0} → X → MutBor X
lent_mut xs = record { ref_ptr = (0, 0); ghost_name = 0; now = xs }

-- a call in Idle, with number 1
abbrev idle : ℕ → Call
idle key = record { key = key; hard = true; soft = Symmetric; state = Idle 1; last = 1; remote = 0 }

-- an act at an end of a call
abbrev requested : Node → Act → NodeAct
requested node act = record { node = node; act = act }

-- what is answered
abbrev answering : Answer → List Signal → Done
answering a signals = record { answer = a; signals = signals }

module _ {M : Type 1} {𝓤 : Ura M} (𝓛 : Logic 𝓤) (memory : Memory → SProp 𝓤) (run : Routine → Fun 𝓤) where
  -- it is false: the logic proves falsity from it
  abbrev NeverHolds : SProp 𝓤 → Type 1
  NeverHolds says = ent 𝓤 says (fact 𝓤 ⊥)

  -- handle: of a row, a key and what is requested, what is answered, and the row that is left
  abbrev handle_at_shuts_out : Node → List Call → ℕ → Act → Done → List Call → Type 1
  handle_at_shuts_out node t key act r left =
      (κs : Lfts 1) → NeverHolds ((handle.clauses 𝓛 memory run κs (lent_mut t, (key, (requested node act, tt)))
      ).ensures tt r (lent_mut left, (key, (requested node act, tt))))

  abbrev handle_shuts_out : List Call → ℕ → Act → Done → List Call → Type 1
  handle_shuts_out t key act r left = handle_at_shuts_out Source t key act r left

  -- at the destination a hard setup is taken (6.3.5.1), which the source rejects with #8
  pub request_goes_to_the_source :
      (d : Done) →
      handle_at_shuts_out Destination (idle 7 ∷ []) 7 (Meets (Setup (record { code = 0 }) 1)) d (idle 7 ∷ [])
  unfolding read_from has distinct_of
  request_goes_to_the_source d κs =
      fact_mono 𝓤 _ _ (λ h.
      let z : ◌≡◌ {A = ℕ} 1 _ = ap (λ (ys : List Call). state_number (get_or ys 0 emptied).state) h.1 in
      omega arith)

  -- 103 where the key is on record, 104 where no record is empty (01, "Numbers of refusal")
  pub refusals_103_and_104_exchanged :
      (signals : List Signal) (left : List Call) →
      handle_shuts_out (idle 7 ∷ []) 7 (Opens None) (answering NoEmptyRecord signals) left
  unfolding read_from has distinct_of
  refusals_103_and_104_exchanged signals left κs =
      fact_mono 𝓤 _ _ (λ h. let z : ◌≡◌ {A = ℕ} 104 _ = ap (λ (d : Done). answer_number d.answer) h.0 in omega arith)

  -- two non-empty records with one key make the table unfit (01, 101)
  pub key_twice_let_through :
      (signals : List Signal) (left : List Call) →
      handle_shuts_out (idle 7 ∷ idle 7 ∷ []) 7 (Meets Trigger) (answering WasDone signals) left
  unfolding read_from has distinct_of
  key_twice_let_through signals left κs =
      fact_mono 𝓤 _ _ (λ h. let z : ◌≡◌ {A = ℕ} 0 _ = ap (λ (d : Done). answer_number d.answer) h.0 in omega arith)

  -- over 1,024 records the table is unfit (01, 101; "Edges")
  pub records_1025_accepted :
      (signals : List Signal) (left : List Call) →
      handle_shuts_out (replicate 1025 emptied) 7 (Opens None) (answering WasDone signals) left
  unfolding read_from has distinct_of
  records_1025_accepted signals left κs =
      fact_mono 𝓤 _ _ (λ h. let z : ◌≡◌ {A = ℕ} 0 _ = ap (λ (d : Done). answer_number d.answer) h.0 in omega arith)

  -- no other record changes: the record goes back to its own place (01, "The table and its records")
  pub record_put_back_elsewhere : (d : Done) (c : Call) → handle_shuts_out (idle 7 ∷ idle 5 ∷ []) 7 (Meets Trigger) d (c ∷ idle 7 ∷ [])
  unfolding read_from has distinct_of
  record_put_back_elsewhere d c κs =
      fact_mono 𝓤 _ _ (λ h. let z : ◌≡◌ {A = ℕ} 7 _ = ap (λ (ys : List Call). (get_or ys 1 emptied).key) h.1 in omega arith)

  -- an opening takes the lowest empty record
  pub the_last_empty_record_is_taken :
      (d : Done) (c : Call) →
      handle_shuts_out (emptied ∷ emptied ∷ []) 7 (Opens None) d (emptied ∷ c ∷ [])
  unfolding read_from has distinct_of
  the_last_empty_record_is_taken d c κs =
      fact_mono 𝓤 _ _ (λ h. let z : ◌≡◌ {A = ℕ} 0 _ = ap (λ (ys : List Call). (get_or ys 0 emptied).key) h.1 in omega arith)

  -- not the first of the row
  pub opening_takes_the_first_place :
      (d : Done) (c : Call) →
      handle_shuts_out (idle 5 ∷ emptied ∷ []) 7 (Opens None) d (c ∷ emptied ∷ [])
  unfolding read_from has distinct_of
  opening_takes_the_first_place d c κs =
      fact_mono 𝓤 _ _ (λ h. let z : ◌≡◌ {A = ℕ} 0 _ = ap (λ (ys : List Call). (get_or ys 1 emptied).key) h.1 in omega arith)

  -- and under the key that is named, not under 7 as in the bench run
  pub opening_under_key_7 : (d : Done) (c : Call) → c.key ≡ 7 → handle_shuts_out (emptied ∷ []) 9 (Opens None) d (c ∷ [])
  unfolding read_from has distinct_of
  opening_under_key_7 d c k κs =
      fact_mono 𝓤 _ _ (λ h. let z : c.key ≡ 9 = ap (λ (ys : List Call). (get_or ys 0 emptied).key) h.1 in omega arith)

  -- an event sends the signals of its call: a release from the calling side goes on
  pub signals_dropped :
      (a : Answer) (left : List Call) →
      handle_shuts_out (idle 7 ∷ []) 7 (Meets (FromParty None)) (answering a (places [])) left
  unfolding read_from has distinct_of
  signals_dropped a left κs =
      fact_mono 𝓤 _ _ (λ h.
      let z : ◌≡◌ {A = ℕ} 0 _ = ap (λ (d : Done). kind_number (get_or d.signals 0 none).kind) h.0 in
      omega arith)

  -- handle_fit: the same of a row that is not checked
  abbrev handle_fit_shuts_out : List Call → ℕ → Act → Done → List Call → Type 1
  handle_fit_shuts_out t key act r left =
      (κs : Lfts 1) → NeverHolds ((handle_fit.clauses 𝓛 memory run κs (lent_mut t, (key, (requested Source act, tt)))
      ).ensures tt r (lent_mut left, (key, (requested Source act, tt))))

  -- a key not on record is 105 (01, "Numbers of refusal")
  pub unknown_key_told_as_zero :
      (signals : List Signal) (left : List Call) →
      handle_fit_shuts_out (idle 7 ∷ []) 9 (Meets Trigger) (answering KeyZero signals) left
  unfolding read_from has distinct_of
  unknown_key_told_as_zero signals left κs =
      fact_mono 𝓤 _ _ (λ h. let z : ◌≡◌ {A = ℕ} 102 _ = ap (λ (d : Done). answer_number d.answer) h.0 in omega arith)

  -- key 0 is 102, told before the key is looked for, and never 105
  pub key_0_told_as_not_on_record :
      (signals : List Signal) (left : List Call) →
      handle_fit_shuts_out (idle 7 ∷ []) 0 (Meets Trigger) (answering KeyNotOnRecord signals) left
  unfolding read_from has distinct_of
  key_0_told_as_not_on_record signals left κs =
      fact_mono 𝓤 _ _ (λ h. let z : ◌≡◌ {A = ℕ} 105 _ = ap (λ (d : Done). answer_number d.answer) h.0 in omega arith)

  -- a refusal stores nothing
  pub refused_event_is_stored : (d : Done) → handle_fit_shuts_out (idle 7 ∷ []) 9 (Meets Trigger) d (emptied ∷ [])
  unfolding read_from has distinct_of
  refused_event_is_stored d κs =
      fact_mono 𝓤 _ _ (λ h. let z : ◌≡◌ {A = ℕ} 0 _ = ap (λ (ys : List Call). (get_or ys 0 emptied).key) h.1 in omega arith)

  -- what is decided is stored, as the checked entry does it on a fit row
  pub unchecked_entry_stores_nothing : (d : Done) → handle_fit_shuts_out (idle 7 ∷ []) 7 (Meets Trigger) d (idle 7 ∷ [])
  unfolding read_from has distinct_of
  unchecked_entry_stores_nothing d κs =
      fact_mono 𝓤 _ _ (λ h.
      let z : ◌≡◌ {A = ℕ} 1 _ = ap (λ (ys : List Call). state_number (get_or ys 0 emptied).state) h.1 in
      omega arith)

  -- the search may not stop at the first empty record (02, Ask 4): 103 needs the keys behind it
  pub search_ends_at_the_first_empty_record :
      (signals : List Signal) (left : List Call) →
      handle_fit_shuts_out (emptied ∷ idle 7 ∷ []) 7 (Opens None) (answering WasDone signals) left
  unfolding read_from has distinct_of
  search_ends_at_the_first_empty_record signals left κs =
      fact_mono 𝓤 _ _ (λ h. let z : ◌≡◌ {A = ℕ} 0 _ = ap (λ (d : Done). answer_number d.answer) h.0 in omega arith)

  -- nor is an event's key missing, where an empty record stands before it
  pub key_behind_an_empty_record_is_missed :
      (signals : List Signal) (left : List Call) →
      handle_fit_shuts_out (emptied ∷ idle 7 ∷ []) 7 (Meets Trigger) (answering KeyNotOnRecord signals) left
  unfolding read_from has distinct_of
  key_behind_an_empty_record_is_missed signals left κs =
      fact_mono 𝓤 _ _ (λ h. let z : ◌≡◌ {A = ℕ} 105 _ = ap (λ (d : Done). answer_number d.answer) h.0 in omega arith)

  -- of empty records it is the lowest that is taken, also where no more than the keys is read
  pub a_later_empty_record_is_taken :
      (d : Done) (c : Call) →
      handle_fit_shuts_out (idle 5 ∷ emptied ∷ emptied ∷ []) 7 (Opens None) d (idle 5 ∷ emptied ∷ c ∷ [])
  unfolding read_from has distinct_of
  a_later_empty_record_is_taken d c κs =
      fact_mono 𝓤 _ _ (λ h. let z : ◌≡◌ {A = ℕ} 0 _ = ap (λ (ys : List Call). (get_or ys 1 emptied).key) h.1 in omega arith)

  -- and of two records with one key, on a row that is not fit, the lowest
  pub a_later_record_with_the_key_is_taken :
      (d : Done) (c : Call) →
      handle_fit_shuts_out (idle 7 ∷ idle 7 ∷ []) 7 (Meets Trigger) d (idle 7 ∷ c ∷ [])
  unfolding read_from has distinct_of
  a_later_record_with_the_key_is_taken d c κs =
      fact_mono 𝓤 _ _ (λ h.
      let z : ◌≡◌ {A = ℕ} 1 _ = ap (λ (ys : List Call). state_number (get_or ys 0 emptied).state) h.1 in
      omega arith)

  -- handle64: of a table by value, a key and what is requested, what is answered with the table after it
  abbrev handle64_shuts_out : List Call → ℕ → Act → SixtyFour → Type 1
  handle64_shuts_out table key act r =
      NeverHolds ((handle64.clauses 𝓛 memory run tt (table, (key, (requested Source act, tt)))).ensures tt r (table, (key, (requested Source act, tt))))

  -- a non-empty record with last number 0 is unfit (01, 101)
  pub last_number_0_is_fit :
      (after : List Call) (signals : List Signal) →
      handle64_shuts_out
      (record { key = 7; hard = true; soft = Symmetric; state = HardWaiting; last = 0; remote = 0 } ∷ replicate 63 emptied) 7 (Meets Trigger)
      (record { table = after; done = answering WasDone signals })
  unfolding read_from has distinct_of
  last_number_0_is_fit after signals =
      fact_mono 𝓤 _ _ (λ h. let z : ◌≡◌ {A = ℕ} 0 _ = ap (λ (d : Done). answer_number d.answer) h.0 in omega arith)

  -- two equal held numbers are unfit
  pub equal_held_numbers_are_fit :
      (after : List Call) (signals : List Signal) →
      handle64_shuts_out
      (record { key = 7; hard = true; soft = Symmetric; state = Awaiting 1 1; last = 1; remote = 0 } ∷ replicate 63 emptied) 7
      (Meets Trigger) (record { table = after; done = answering WasDone signals })
  unfolding read_from has distinct_of
  equal_held_numbers_are_fit after signals =
      fact_mono 𝓤 _ _ (λ h. let z : ◌≡◌ {A = ℕ} 0 _ = ap (λ (d : Done). answer_number d.answer) h.0 in omega arith)

  -- what is decided is stored, and the table not left as it was (01, "What the contracts settle")
  pub table_left_untouched :
      (d : Done) →
      handle64_shuts_out (replicate 64 emptied) 7 (Opens None) (record { table = replicate 64 emptied; done = d })
  unfolding read_from has distinct_of
  table_left_untouched d =
      fact_mono 𝓤 _ _ (λ h. let z : ◌≡◌ {A = ℕ} 0 _ = ap (λ (ys : List Call). (get_or ys 0 emptied).key) h.1 in omega arith)
