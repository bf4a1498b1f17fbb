-- What is known from i on, at an element and past the last: the laws of `read_from` and `read_until` that a loop over a list needs.
-- Assumes nothing.
use mathlib.Core.Path.{◌≡◌, sym, ◌∙◌, ap}
use Prim.Native.Nat.{ℕ, ◌+◌, ◌<◌}
use native.Mathlib.Numerals.{add-one}
use mathlib.Core.Bool.{Bool, cond}
use mathlib.Core.List.{List}
use lib.ListN.{length, get_or, drop}
use lib.Seq.{drop-cons, drop-length}
use Rattle.lent.specs.Search.{read_from, read_until}

-- read to the end: where there is an element at i, and at the end
module _ {X Y : Type 0} (step : Y → ℕ → X → Y) (ys : List X) (i : ℕ) (v : Y) where
  pub next_at : (d : X) → i < length ys →
      read_from step i v (drop i ys) ≡ read_from step (i + 1) (step v i (get_or ys i d)) (drop (i + 1) ys)
  unfolding read_from
  next_at d l =
      ap (read_from step i v) (drop-cons ys i d l)
      ∙ ap (λ (n : ℕ). read_from step (i + 1) (step v i (get_or ys i d)) (drop n ys)) (sym (add-one i))

  pub end_at : i ≡ length ys → read_from step i v (drop i ys) ≡ v
  unfolding read_from
  end_at e = ap (λ (n : ℕ). read_from step n v (drop n ys)) e ∙ ap (read_from step (length ys) v) (drop-length ys)

-- read until it is enough: where there is an element at i, by whether more is needed; and at the end
module _ {X Y : Type 0} (enough : Y → Bool) (step : Y → ℕ → X → Y) (ys : List X) (d : X) (i : ℕ) (v : Y) where
  abbrev onward : Y
  onward = read_until enough step i v (drop i ys)

  abbrev further : Y
  further = read_until enough step (i + 1) (step v i (get_or ys i d)) (drop (i + 1) ys)

  pub until_at : i < length ys → (b : Bool) → enough v ≡ b → onward ≡ cond b v further
  unfolding read_until
  until_at l b e = ap (read_until enough step i v) (drop-cons ys i d l) ∙ (ap (λ (n : ℕ). cond (enough v) v
      (read_until enough step (i + 1) (step v i (get_or ys i d)) (drop n ys))) (sym (add-one i)) ∙ ap (λ (b : Bool). cond b v further) e)

  pub ended_at : i ≡ length ys → onward ≡ v
  unfolding read_until
  ended_at e = ap (λ (n : ℕ). read_until enough step n v (drop n ys)) e ∙ ap (read_until enough step (length ys) v) (drop-length ys)
