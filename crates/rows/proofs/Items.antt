-- What the test of a whole list of items tells of each item in it. Assumes nothing.
use mathlib.Core.Bool.{Bool, ◌&&◌, ◌||◌, false, not, true}
use mathlib.Core.List.{List, [], ◌++◌, ◌∷◌}
use mathlib.Core.Path.{◌∙◌, ◌≡◌, ap, sym}
use Rattle.rows.proofs.Every.{left, right}
use Rattle.rows.proofs.Same.{not_so}
use Rattle.rows.proofs.Sent.{or_right}
use Rattle.rows.specs.Cases.{Case}
use Rattle.rows.specs.Papers.{Item, Papers, item_holds}
use Rattle.rows.specs.Rules.{Rule, is_done}

-- every item that speaks of a case holds of a rule there, and none of those that 01 departs from does; where the event is refused nothing is tested
abbrev pub all_hold : List Item → Case → Rule → Bool
all_hold [] c rule = true
all_hold (item ∷ more) c rule = (not (item.speaks c) || item_holds item rule) && all_hold more c rule

abbrev pub none_hold : List Item → Case → Rule → Bool
none_hold [] c rule = true
none_hold (item ∷ more) c rule = (not (item.speaks c) || not (item_holds item rule)) && none_hold more c rule

abbrev pub items_hold : Papers → Case → Rule → Bool
items_hold papers c rule = not (is_done rule.answer) || (all_hold (papers.items c) c rule && none_hold (papers.departed c) c rule)

-- what is tested only where something holds, where it holds
pub where_so : (a b : Bool) → a ≡ true → not a || b ≡ true → b ≡ true
where_so a b so p = or_right (not a) b (ap not so) p

one_holds : (c : Case) (rule : Rule) (before after : List Item) (item : Item) → all_hold (before ++ (item ∷ after)) c rule ≡ true →
    item.speaks c ≡ true → item_holds item rule ≡ true
one_holds c rule [] after item p speaks =
    where_so (item.speaks c) (item_holds item rule) speaks (left _ (all_hold after c rule) p)
one_holds c rule (first ∷ before) after item p speaks =
    one_holds c rule before after item (right (not (first.speaks c) || item_holds first rule) _ p) speaks

one_fails : (c : Case) (rule : Rule) (before after : List Item) (item : Item) → none_hold (before ++ (item ∷ after)) c rule ≡ true →
    item.speaks c ≡ true → not (item_holds item rule) ≡ true
one_fails c rule [] after item p speaks =
    where_so (item.speaks c) (not (item_holds item rule)) speaks (left _ (none_hold after c rule) p)
one_fails c rule (first ∷ before) after item p speaks =
    one_fails c rule before after item (right (not (first.speaks c) || not (item_holds first rule)) _ p) speaks

-- of a test that passes at an event that is done
module _ (papers : Papers) (c : Case) (rule : Rule) (passes : items_hold papers c rule ≡ true) (done : is_done rule.answer ≡ true) where
  both_pass : all_hold (papers.items c) c rule && none_hold (papers.departed c) c rule ≡ true
  both_pass = where_so (is_done rule.answer) _ done passes

  -- wherever an item stands in the list: it holds
  pub held : (before after : List Item) (item : Item) → papers.items c ≡ before ++ (item ∷ after) → item.speaks c ≡ true →
      item_holds item rule ≡ true
  held before after item stands =
      one_holds c rule before after item (ap (λ l. all_hold l c rule) (sym stands) ∙ left _ (none_hold (papers.departed c) c rule) both_pass)

  -- or, if 01 departs from it, fails
  pub departed : (before after : List Item) (item : Item) → papers.departed c ≡ before ++ (item ∷ after) → item.speaks c ≡ true →
      item_holds item rule ≡ false
  departed before after item stands speaks =
      not_so (item_holds item rule)
      (one_fails c rule before after item (ap (λ l. none_hold l c rule) (sym stands) ∙ right (all_hold (papers.items c) c rule) _ both_pass) speaks)
