-- One record more of a run, over a fit table. Assumes nothing.
use Prim.Native.Nat.{ℕ, zero, suc, ◌+◌, ◌-◌, ◌*◌, ◌<◌}
use native.Mathlib.Omega.{arith}
use mathlib.Core.Path.{◌≡◌, refl, sym, ◌∙◌, ap, subst}
use mathlib.Core.Bool.{Bool, true, false, cond}
use mathlib.Core.List.{List, ◌++◌}
use lib.ListN.{length, set, get_or, length-set}
use Rattle.std.specs.Prelude.{Option, Some, None, is_none}
use Rattle.lines.specs.Lines.{page, put_text}
use Rattle.lines.proofs.Laws.{put_none, and_then}
use Rattle.call.specs.Events.{half_of}
use Rattle.call.specs.declared.Call.{Call}
use Rattle.call.specs.declared.Outcome.{Outcome}
use Rattle.call.specs.Record.{emptied}
use Rattle.events.specs.declared.Act.{Act}
use Rattle.events.specs.declared.Node.{Node}
use Rattle.call_table.specs.Fit.{fit_table}
use Rattle.call_table.specs.Table.{table_of}
use Rattle.call_table.specs.Claims.{FitTable, TableClaims}
use Rattle.call_table.proofs.Fit.{fit_exactly}
use Rattle.call.proofs.Ends.{lawful_at}
use Rattle.call_table.proofs.All as any
use Rattle.event_record.specs.declared.Decoded.{Decoded}
use Rattle.event_record.specs.Record.{decoded_at}
use Rattle.trace_line.specs.declared.Columns.{Columns}
use Rattle.trace_line.specs.Line.{line_text}
use Rattle.event_record.specs.Places.{record_at}
use Rattle.trace_run.specs.Run.{Past, after_records, begin, on_request, on_decoded, shown_of, bad_line}
use Rattle.trace_run.specs.Placed.{keys_in, index_of, place_for, worked_on, unplaced_for}
use Rattle.trace_run.proofs.Laws.{keys_set}
use Rattle.trace_run.proofs.Placed.{placed, unplaced}

module _ (node : Node) where
  abbrev table_claims : TableClaims (half_of node)
  table_claims = any.claims (half_of node) (lawful_at node)

  -- where a run stands after r records of s: what has been printed stands in the buffer, and the keys are those of the table, which is fit
  pub record Standing (w : Columns) (s : List ℕ) (p : Past) (xs : List ℕ) (r : ℕ) (t : List Call) (ks : List ℕ) (n at : ℕ)
      (o : List ℕ) : Type 0 where
    pub table : t ≡ (after_records node w s p r).table
    pub count : n ≡ (after_records node w s p r).count
    pub good : true ≡ (after_records node w s p r).good
    pub text : page o at ≡ put_text (page xs 0) (after_records node w s p r).text
    pub keys : ks ≡ keys_in t
    pub calls : length t ≡ 64
    pub fit : FitTable t

  pub begins : (w : Columns) (s : List ℕ) (t : List Call) (n : ℕ) (xs ks : List ℕ) → ks ≡ keys_in t → length t ≡ 64 → fit_table t ≡ true →
      Standing w s (begin t n) xs 0 t ks n 0 xs
  begins w s t n xs ks k l f =
      record { table = refl; count = refl; good = refl; text = sym (put_none (page xs 0)); keys = k; calls = l; fit = (fit_exactly t).0 f }

  module _ (w : Columns) (s : List ℕ) (p : Past) (r : ℕ) (d : Decoded) (good : true ≡ (after_records node w s p r).good)
      (read : d ≡ decoded_at node (record_at s (r * 16))) where
    opened : after_records node w s p (suc r) ≡ on_decoded node w (after_records node w s p r) d
    opened =
        ap (λ (b : Bool).
        cond b (on_decoded node w (after_records node w s p r) (decoded_at node (record_at s (r * 16)))) (after_records node w s p r))
        (sym good)
        ∙ ap (on_decoded node w (after_records node w s p r)) (sym read)

    one_good : (act : Act) → d.request ≡ Some act →
        after_records node w s p (suc r) ≡ on_request node w (after_records node w s p r) d.key (Some act)
    one_good act x = opened ∙ ap (on_request node w (after_records node w s p r) d.key) x

    one_bad : d.request ≡ None → after_records node w s p (suc r) ≡ on_request node w (after_records node w s p r) d.key None
    one_bad x = opened ∙ ap (on_request node w (after_records node w s p r) d.key) x

  on_good : (w : Columns) (q : Past) (key : ℕ) (act : Act) →
      ((on_request node w q key (Some act)).table ≡ table_of (half_of node) q.table key act)
      × (((on_request node w q key (Some act)).text ≡ q.text ++ line_text w (q.count + 1) (shown_of node q.table key act))
      × (((on_request node w q key (Some act)).count ≡ q.count + 1) × ((on_request node w q key (Some act)).good ≡ true)))
  unfolding on_request
  on_good w q key act = (refl, (refl, (refl, refl)))

  on_bad : (w : Columns) (q : Past) (key : ℕ) →
      ((on_request node w q key None).table ≡ q.table)
      × (((on_request node w q key None).text ≡ q.text ++ bad_line)
      × (((on_request node w q key None).count ≡ q.count) × ((on_request node w q key None).good ≡ false)))
  unfolding on_request
  on_bad w q key = (refl, (refl, (refl, refl)))

  module _ (w : Columns) (s : List ℕ) (p : Past) (xs : List ℕ) (r : ℕ) (t : List Call) (ks : List ℕ) (n at : ℕ) (o : List ℕ)
      (here : Standing w s p xs r t ks n at o)
      (d : Decoded) (read : d ≡ decoded_at node (record_at s (r * 16))) (b : ℕ) (z : List ℕ) where
    module _ (act : Act) (x : d.request ≡ Some act) where
      is : after_records node w s p (suc r) ≡ on_request node w (after_records node w s p r) d.key (Some act)
      is = one_good w s p r d here.good read act x

      -- one line more, of an outcome that is shown
      more : (o' : Outcome) → o' ≡ shown_of node t d.key act → page z b ≡ put_text (page o at) (line_text w (n + 1) o') →
          page z b ≡ put_text (page xs 0) (after_records node w s p (suc r)).text
      more o' e put =
          let same : line_text w (n + 1) o'
          ≡ line_text w ((after_records node w s p r).count + 1) (shown_of node (after_records node w s p r).table d.key act) =
          ap (λ (m : ℕ). line_text w (m + 1) o') here.count
          ∙ ap (line_text w ((after_records node w s p r).count + 1))
          (e ∙ ap (λ (y : List Call). shown_of node y d.key act) here.table) in
          and_then _ _ _ _ _ here.text put
          ∙ ap (put_text (page xs 0))
          (ap (λ (l : List ℕ). (after_records node w s p r).text ++ l) same
          ∙ sym (ap (λ (y : Past). y.text) is ∙ (on_good w (after_records node w s p r) d.key act).1.0))

      onward : (t' : List Call) (ks' : List ℕ) → t' ≡ table_of (half_of node) t d.key act → ks' ≡ keys_in t' → length t' ≡ 64 →
          page z b ≡ put_text (page xs 0) (after_records node w s p (suc r)).text → Standing w s p xs (suc r) t' ks' (n + 1) b z
      onward t' ks' et ek l text =
          record {
            table =
                et
                ∙ (ap (λ (y : List Call). table_of (half_of node) y d.key act) here.table
                ∙ sym (ap (λ (y : Past). y.table) is ∙ (on_good w (after_records node w s p r) d.key act).0));
            count =
                ap (λ (m : ℕ). m + 1) here.count
                ∙ sym (ap (λ (y : Past). y.count) is ∙ (on_good w (after_records node w s p r) d.key act).1.1.0);
            good = sym (ap (λ (y : Past). y.good) is ∙ (on_good w (after_records node w s p r) d.key act).1.1.1);
            text = text;
            keys = ek;
            calls = l;
            fit = subst FitTable (sym et) (table_claims.stays_fit t d.key act here.fit);
          }

      module _ (i : Option ℕ) (found : i ≡ index_of d.key ks) where
        found_is : i ≡ index_of d.key (keys_in t)
        found_is = found ∙ ap (index_of d.key) here.keys

        place_is : place_for (keys_in t) i act ≡ place_for ks i act
        place_is = ap (λ (l : List ℕ). place_for l i act) (sym here.keys)

        pub step_in : (o' : Outcome) (j : ℕ) → place_for ks i act ≡ Some j → o' ≡ worked_on node (get_or t j emptied) d.key act (is_none i) →
            page z b ≡ put_text (page o at) (line_text w (n + 1) o') →
            Standing w s p xs (suc r) (set t j o'.call) (set ks j o'.call.key) (n + 1) b z
        step_in o' j h eo put =
            let m = placed node t here.fit here.calls d.key act i found_is j (place_is ∙ h) in
            onward (set t j o'.call) (set ks j o'.call.key) (ap (λ (y : Outcome). set t j y.call) eo ∙ sym m.0)
            (ap (λ (l : List ℕ). set l j o'.call.key) here.keys ∙ sym (keys_set t j o'.call)) (length-set t j o'.call ∙ here.calls)
            (more o' (eo ∙ sym m.1) put)

        pub step_out : (o' : Outcome) → place_for ks i act ≡ None → o' ≡ unplaced_for d.key act →
            page z b ≡ put_text (page o at) (line_text w (n + 1) o') → Standing w s p xs (suc r) t ks (n + 1) b z
        step_out o' h eo put =
            let m = unplaced node t here.fit here.calls d.key act i found_is (place_is ∙ h) in
            onward t ks (sym m.0) here.keys here.calls (more o' (eo ∙ sym m.1) put)

  -- after a bad record nothing changes
  pub still : (w : Columns) (s : List ℕ) (p : Past) (r k : ℕ) → (after_records node w s p r).good ≡ false →
      after_records node w s p (k + r) ≡ after_records node w s p r
  still w s p r zero g = let e : 0 + r ≡ r = omega arith in ap (after_records node w s p) e
  still w s p r (suc k) g =
      let e : suc k + r ≡ suc (k + r) = omega arith in
      let i : after_records node w s p (k + r) ≡ after_records node w s p r = still w s p r k g in
      ap (after_records node w s p) e ∙ rw (i, g)

  -- what a run answers, after m records
  pub record Answered (w : Columns) (s : List ℕ) (p : Past) (xs : List ℕ) (m : ℕ) (t : List Call) (n : ℕ) (ok : Bool) (at : ℕ)
      (o : List ℕ) : Type 0 where
    pub table : t ≡ (after_records node w s p m).table
    pub count : n ≡ (after_records node w s p m).count
    pub good : ok ≡ (after_records node w s p m).good
    pub text : page o at ≡ put_text (page xs 0) (after_records node w s p m).text
    pub fit : fit_table t ≡ true

  pub ends : (w : Columns) (s : List ℕ) (p : Past) (xs : List ℕ) (r m : ℕ) (t : List Call) (ks : List ℕ) (n at : ℕ) (o : List ℕ) →
      Standing w s p xs r t ks n at o → r ≡ m → Answered w s p xs m t n true at o
  ends w s p xs r m t ks n at o here e =
      rw (← e) (record { table = here.table; count = here.count; good = here.good; text = here.text; fit = (fit_exactly t).1 here.fit })

  pub ends_bad : (w : Columns) (s : List ℕ) (p : Past) (xs : List ℕ) (r m : ℕ) (t : List Call) (ks : List ℕ) (n at : ℕ) (o : List ℕ) →
      Standing w s p xs r t ks n at o → r < m →
      (d : Decoded) → d ≡ decoded_at node (record_at s (r * 16)) → d.request ≡ None → (b : ℕ) (z : List ℕ) →
      page z b ≡ put_text (page o at) bad_line → Answered w s p xs m t n false b z
  ends_bad w s p xs r m t ks n at o here h d read x b z put =
      let e : after_records node w s p (suc r) ≡ on_request node w (after_records node w s p r) d.key None =
      one_bad w s p r d here.good read x in
      let v = on_bad w (after_records node w s p r) d.key in
      let k : m - suc r + suc r ≡ m = omega arith in
      let u : after_records node w s p m ≡ on_request node w (after_records node w s p r) d.key None =
      ap (after_records node w s p) (sym k) ∙ (still w s p (suc r) (m - suc r) (ap (λ (y : Past). y.good) e ∙ v.1.1.1) ∙ e) in
      record {
        table = here.table ∙ sym (ap (λ (y : Past). y.table) u ∙ v.0);
        count = here.count ∙ sym (ap (λ (y : Past). y.count) u ∙ v.1.1.0);
        good = sym (ap (λ (y : Past). y.good) u ∙ v.1.1.1);
        text = and_then _ _ _ _ _ here.text put ∙ ap (put_text (page xs 0)) (sym (ap (λ (y : Past). y.text) u ∙ v.1.0));
        fit = (fit_exactly t).1 here.fit;
      }
