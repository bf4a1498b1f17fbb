-- Bytes put into a buffer from a place on, and numbers and words as bytes. Assumes nothing.
use Rattle.std.specs.Prelude.{ℕ, zero, suc, ◌+◌, ◌/◌, ◌%◌, cond, List, [], ◌∷◌, ◌++◌, ltb, length, set}
use Prim.Native.Char.{code}
use Prim.Native.String.{String, [] as no_text, ◌∷◌ as ◌then◌}

-- a buffer, and the place where the next byte goes
pub record Page : Type 0 where
  pub bytes : List ℕ
  pub at : ℕ

abbrev pub page : List ℕ → ℕ → Page
page bytes at = record { bytes = bytes; at = at }

-- a byte is stored where there is room, and the place moves on; past the end nothing happens
unfoldable pub put_byte : Page → ℕ → Page
put_byte p b = cond (ltb p.at (length p.bytes)) (page (set p.bytes p.at b) (p.at + 1)) p

-- one byte after the other
unfoldable pub put_text : Page → List ℕ → Page
put_text p [] = p
put_text p (b ∷ bs) = put_text (put_byte p b) bs

-- a word as its ASCII codes
abbrev pub ascii : String → List ℕ
ascii no_text = []
ascii (c then s) = code c ∷ ascii s

-- the end of a line
abbrev pub new_line : List ℕ
new_line = 10 ∷ []

-- a number in decimal: one digit below ten, else what is left by ten and the last digit after it. No number has more digits than one more
-- than itself
unfoldable pub spelled : ℕ → ℕ → List ℕ
spelled zero n = []
spelled (suc k) n = cond (ltb n 10) ((48 + n) ∷ []) (spelled k (n / 10) ++ ((48 + n % 10) ∷ []))

unfoldable pub number_text : ℕ → List ℕ
number_text n = spelled (suc n) n
