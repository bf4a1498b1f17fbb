-- The laws of texts put at the end of a line, one after the other. Assumes nothing.
use Prim.Native.Nat.{ℕ, suc, ◌+◌, ◌<◌}
use native.Mathlib.Omega.{arith}
use mathlib.Core.Path.{◌≡◌, refl, sym, ◌∙◌, ap}
use mathlib.Core.List.{List, [], ◌∷◌, ◌++◌}
use lib.ListN.{length, take, get_or}
use lib.Seq.{take-suc}
use Rattle.lines.specs.Lines.{page, put_text}
use Rattle.lines.specs.Line.{page_of, turned_to, with_byte, with_text}
use Rattle.lines.specs.declared.Line.{Line}
use Rattle.lines.proofs.Laws.{put_append}

pub nothing_put : (l : Line) → l ≡ with_text l []
unfolding with_text put_text
nothing_put l = refl

pub byte_put : (l : Line) (b : ℕ) → with_byte l b ≡ with_text l (b ∷ [])
unfolding with_byte with_text put_text
byte_put l b = refl

-- two texts put one after the other are the two put as one
pub texts_put : (l : Line) (a b : List ℕ) → with_text (with_text l a) b ≡ with_text l (a ++ b)
unfolding with_text
texts_put l a b = ap (turned_to l) (sym (put_append (page_of l) a b))

pub and_then : (l m n : Line) (a b : List ℕ) → m ≡ with_text l a → n ≡ with_text m b → n ≡ with_text l (a ++ b)
and_then l m n a b e f = f ∙ (ap (λ k. with_text k b) e ∙ texts_put l a b)

pub and_then_byte : (l m n : Line) (a : List ℕ) (b : ℕ) → m ≡ with_text l a → n ≡ with_byte m b → n ≡ with_text l (a ++ (b ∷ []))
and_then_byte l m n a b e f = and_then l m n a (b ∷ []) e (f ∙ byte_put m b)

-- the same, said of the page
pub page_put : (l m : Line) (a : List ℕ) → m ≡ with_text l a → page_of m ≡ put_text (page_of l) a
unfolding with_text
page_put l m a e = ap page_of e

-- and of the reference to the buffer
pub reference_stays : (l m : Line) (a : List ℕ) → m ≡ with_text l a → m.buffer.ghost_name ≡ l.buffer.ghost_name
unfolding with_text
reference_stays l m a e = ap (λ (k : Line). k.buffer.ghost_name) e

-- a line is turned to the page that a text leaves
pub turned_by : (l : Line) (bytes : List ℕ) (at : ℕ) (a : List ℕ) → page bytes at ≡ put_text (page_of l) a → turned_to l (page bytes at) ≡ with_text l a
unfolding with_text
turned_by l bytes at a e = ap (turned_to l) e

-- one byte more of a word
pub one_more : (l m n : Line) (word : List ℕ) (i : ℕ) → i < length word → m ≡ with_text l (take i word) →
    n ≡ with_byte m (get_or word i 0) → n ≡ with_text l (take (i + 1) word)
one_more l m n word i h e f =
    let s : i + 1 ≡ suc i = omega arith in
    and_then_byte l m n (take i word) (get_or word i 0) e f
    ∙ ap (with_text l) (sym (take-suc word i 0 h) ∙ ap (λ k. take k word) (sym s))

-- a line by its buffer and its place; where the buffer stands says nothing here
abbrev pub line_of : List ℕ → ℕ → Line
line_of buffer at = record { buffer = record { ref_ptr = (0, 0); ghost_name = 0; now = buffer }; at = at }
