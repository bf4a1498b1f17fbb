-- Event records among octets that were read, as far as they have come. Assumes nothing.
use Rattle.std.specs.Prelude.{ℕ, ◌-◌, ◌%◌, cond, List, ◌++◌, ltb, length, take, drop}

-- the 16 octets from a place on
unfoldable pub record_at : List ℕ → ℕ → List ℕ
record_at octets place = take 16 (drop place octets)

-- how many of the first octets stand behind the last whole record; none, where there are not so many octets
unfoldable pub rest_length : List ℕ → ℕ → ℕ
rest_length octets filled = cond (ltb (length octets) filled) 0 (filled % 16)

-- octets from a place on, so many, brought to the front; behind them all is as it was
abbrev pub brought_from : List ℕ → ℕ → ℕ → List ℕ
brought_from octets place count = take count (drop place octets) ++ drop count octets

-- they come to the front, so that a read may go on behind them
abbrev pub rest_kept : List ℕ → ℕ → List ℕ
rest_kept octets filled = brought_from octets (filled - rest_length octets filled) (rest_length octets filled)
