-- A switchover code that is read fits an octet, and what is known of a number that is read. Assumes nothing.
use Prim.Native.Nat.{ℕ, ◌≤◌}
use native.Mathlib.Omega.{arith}
use mathlib.Core.Path.{◌≡◌, refl}
use mathlib.Core.Bool.{Bool, true, false, cond}
use mathlib.Core.List.{List}
use Rattle.std.proofs.Common.{Option, Some, None, Ok, ok_or}
use Rattle.line_reader.specs.Numbers.{number_up_to}
use Rattle.line_reader.proofs.Numbers.{at_most}
use Rattle.script_words.specs.declared.What.{What}
use Rattle.script_line.specs.Script.{is_word, read_code}

pub code_at_most : (word : List ℕ) (n : ℕ) → read_code word ≡ Some n → n ≤ 255
unfolding read_code
code_at_most word n e = by_tests (is_word word "clearing") (is_word word "immediate") _ _ e (omega arith) (omega arith)
  where
    by_tests : (clearing immediate : Bool) (a b : ℕ) →
        cond clearing (Some a) (cond immediate (Some b) (number_up_to 255 word)) ≡ Some n → a ≤ 255 → b ≤ 255 → n ≤ 255
    by_tests true immediate a b e h k = let m : a ≡ n = cc in omega arith
    by_tests false true a b e h k = let m : b ≡ n = cc in omega arith
    by_tests false false a b e h k = at_most 255 word n e

-- a number that is read is at most its limit
pub read_at_most : (limit n : ℕ) (word : List ℕ) (what : What) → Ok n ≡ ok_or (number_up_to limit word) what → n ≤ limit
read_at_most limit n word what e = by_reading (number_up_to limit word) refl e
  where
    by_reading : (r : Option ℕ) → number_up_to limit word ≡ r → Ok n ≡ ok_or r what → n ≤ limit
    by_reading None is e = cc
    by_reading (Some m) is e = at_most limit word n (let same : m ≡ n = cc in cc)
