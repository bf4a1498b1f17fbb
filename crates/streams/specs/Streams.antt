-- What a read and a write do to the octets that a stream has, where those are known (`None`: they are not).
use Rattle.std.specs.Prelude.{ℕ, Option, Result, Err, List, [], ◌∷◌, ◌++◌, codes, ◌≡◌, ◌<◌, ◌≤◌, length, take, MatchResult, Ok}
use Rattle.std.specs.Io.KnownBytes.{Appends, Consumes, IsAtEnd, Keeps}
use Rattle.lines.specs.declared.Line.{Line}
use Rattle.streams.specs.declared.Failure.{Failure}
use Rattle.streams.specs.declared.Failure.TheVariants.{Reading, Writing}

-- what is told of a failure, a line to its end
abbrev pub told_of : Failure → List ℕ
told_of Reading = codes ": reading fails" ++ 10 ∷ []
told_of Writing = codes ": writing fails" ++ 10 ∷ []

-- the first n of xs are n
abbrev pub IsFrontLen : ℕ → List ℕ → Type 0
IsFrontLen n xs = (n ≤ length xs) × (n ≡ length (take n xs))

-- a read took from the stream what it put at the front of the buffer, and it put nothing only at the end or where there is no room; one
-- that failed took nothing
abbrev pub ReadsSome : Option (List ℕ) → Option (List ℕ) → Result ℕ Failure → List ℕ → Type 0
ReadsSome old new r buf =
    MatchResult r (λ n. Consumes old new (take n buf) × (n ≡ 0 → 0 < length buf → IsAtEnd new)) (λ e. Keeps old new × (e ≡ Reading))

-- a write put all of the buffer behind what the stream had, and where it failed some at the front of the buffer, not all
abbrev pub WritesAll : Option (List ℕ) → Option (List ℕ) → List ℕ → Result Unit Failure → Type 0
WritesAll old new buf r =
    MatchResult r (λ _. Appends old new buf) (λ e. ((n : ℕ) × (n < length buf) × Appends old new (take n buf)) × (e ≡ Writing))

-- so of a line, if it does not fill its buffer; else it fails, and the stream is as it was
abbrev pub WritesLine : Option (List ℕ) → Option (List ℕ) → Line → Result Unit Failure → Type 0
WritesLine old new line r =
    (line.at < length line.buffer.now → WritesAll old new (take line.at line.buffer.now) r)
    × (length line.buffer.now ≤ line.at → (r ≡ Err Writing) × Keeps old new)

-- a line that is longer than the limit is written, and begins anew where that did not fail; else nothing happens
abbrev pub WritesLong : Option (List ℕ) → Option (List ℕ) → Line → Line → ℕ → Result Unit Failure → Type 0
WritesLong old new before after limit r =
    (limit < before.at → WritesLine old new before r
    × MatchResult r (λ _. after ≡ record { buffer = before.buffer; at = 0 }) (λ _. after ≡ before))
    × (before.at ≤ limit → (r ≡ Ok tt) × Keeps old new × (after ≡ before))
