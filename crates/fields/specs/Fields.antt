-- A text in the midst of a buffer. Assumes nothing.
use Rattle.std.specs.Prelude.{ℕ, ◌+◌, List, ◌++◌, length, take, drop}

-- from a place on, with all else as it was
unfoldable pub spliced : List ℕ → ℕ → List ℕ → List ℕ
spliced buffer at text = take at buffer ++ (text ++ drop (at + length text) buffer)
