-- One signal more in a list in words. Assumes nothing.
use Prim.Native.Nat.{ℕ, ◌+◌, suc, ◌<◌}
use native.Mathlib.Omega.{arith}
use mathlib.Core.Path.{◌≡◌, refl, sym, ◌∙◌, ap}
use mathlib.Core.Bool.{Bool, true, false, ◌||◌, cond, true≢false}
use mathlib.Core.List.{List, [], ◌∷◌, ◌++◌, append_assoc, append-nil}
use lib.ListN.{length, take, get_or}
use lib.Seq.{take-suc, take-length}
use Rattle.lines.specs.Line.{with_byte, with_text}
use Rattle.lines.specs.declared.Line.{Line}
use Rattle.lines.proofs.Lines.{and_then, byte_put, nothing_put}
use Rattle.signal.specs.declared.Signal.{Signal}
use Rattle.signal_words.specs.Words.{is_sent, signal_text, next_text, list_text, any_sent, signals_text}

any_more : (before : Bool) (ss : List Signal) (s : Signal) → any_sent before (ss ++ (s ∷ [])) ≡ (any_sent before ss || is_sent s.kind)
any_more before [] s = refl
any_more before (x ∷ ss) s = any_more (before || is_sent x.kind) ss s

list_more : (before : Bool) (ss : List Signal) (s : Signal) →
    list_text before (ss ++ (s ∷ [])) ≡ list_text before ss ++ next_text (any_sent before ss) s
list_more before [] s = append-nil (next_text before s)
list_more before (x ∷ ss) s =
    ap (λ t. next_text before x ++ t) (list_more (before || is_sent x.kind) ss s)
    ∙ sym (append_assoc (next_text before x) (list_text (before || is_sent x.kind) ss)
    (next_text (any_sent (before || is_sent x.kind) ss) s))

grown : (ss : List Signal) (i : ℕ) (d : Signal) → i < length ss → take (i + 1) ss ≡ take i ss ++ (get_or ss i d ∷ [])
grown ss i d h = let e : i + 1 ≡ suc i = omega arith in ap (λ n. take n ss) e ∙ take-suc ss i d h

-- what a turn of the loop has put, and whether one stands before the next
pub turn : (p q r : Line) (ss : List Signal) (i : ℕ) (d : Signal) (before : Bool) → i < length ss → before ≡ any_sent false (take i ss) →
    q ≡ with_text p (list_text false (take i ss)) → r ≡ with_text q (next_text before (get_or ss i d)) → r ≡ with_text p
    (list_text false (take (i + 1) ss))
turn p q r ss i d before h b f g =
    and_then p q r _ _ f (g ∙ ap (λ t. with_text q (next_text t (get_or ss i d))) b)
    ∙ ap (with_text p) (sym (ap (list_text false) (grown ss i d h) ∙ list_more false (take i ss) (get_or ss i d)))

pub turned : (ss : List Signal) (i : ℕ) (d : Signal) (before after : Bool) → i < length ss → before ≡ any_sent false (take i ss) →
    after ≡ (before || is_sent (get_or ss i d).kind) → after ≡ any_sent false (take (i + 1) ss)
turned ss i d before after h b a =
    a ∙ (ap (λ t. t || is_sent (get_or ss i d).kind) b
    ∙ sym (ap (any_sent false) (grown ss i d h) ∙ any_more false (take i ss) (get_or ss i d)))

-- the whole list, where one stands in it
whole : (ss : List Signal) (i : ℕ) → i ≡ length ss → take i ss ≡ ss
whole ss i e = ap (λ n. take n ss) e ∙ take-length ss

pub some_sent : (p q : Line) (ss : List Signal) (i : ℕ) (before : Bool) → i ≡ length ss → before ≡ any_sent false (take i ss) →
    q ≡ with_text p (list_text false (take i ss)) → before ≡ true → q ≡ with_text p (signals_text ss)
some_sent p q ss i before e b f t =
    let any : any_sent false ss ≡ true = sym (ap (any_sent false) (whole ss i e)) ∙ (sym b ∙ t) in
    rw any (f ∙ ap (λ l. with_text p (list_text false l)) (whole ss i e))

-- and where none does
any_stays : (ss : List Signal) → any_sent true ss ≡ true
any_stays [] = refl
any_stays (s ∷ ss) = any_stays ss

nothing_listed : (ss : List Signal) → any_sent false ss ≡ false → list_text false ss ≡ []
nothing_listed [] h = refl
nothing_listed (s ∷ ss) h = by_kind (is_sent s.kind) h (nothing_listed ss)
  where
    by_kind : (sent : Bool) → any_sent (false || sent) ss ≡ false → (any_sent false ss ≡ false → list_text false ss ≡ []) →
        cond sent (signal_text s) [] ++ list_text (false || sent) ss ≡ []
    by_kind true none rest = absurd (true≢false (sym (any_stays ss) ∙ none))
    by_kind false none rest = rest none

pub none_sent : (p q r : Line) (ss : List Signal) (i : ℕ) (before : Bool) → i ≡ length ss → before ≡ any_sent false (take i ss) →
    q ≡ with_text p (list_text false (take i ss)) → before ≡ false → r ≡ with_byte q 45 → r ≡ with_text p (signals_text ss)
none_sent p q r ss i before e b f t g =
    let any : any_sent false ss ≡ false = sym (ap (any_sent false) (whole ss i e)) ∙ (sym b ∙ t) in
    let same : q ≡ p =
    f ∙ (ap (λ l. with_text p (list_text false l)) (whole ss i e) ∙ (ap (with_text p) (nothing_listed ss any) ∙ sym (nothing_put p))) in
    rw any (g ∙ (ap (λ s. with_byte s 45) same ∙ byte_put p 45))
