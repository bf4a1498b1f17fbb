-- What a text that is put does to a buffer, for a reader who does not want to follow it byte by byte. Proofs: proofs/Claims.antt. Assumes
-- nothing.
use Rattle.std.specs.Prelude.{ℕ, ◌+◌, ◌≤◌, ◌≡◌, List, ◌++◌, length, take, drop}
use Rattle.lines.specs.Lines.{page, put_text}

-- Where there is room for the whole text it stands in the buffer from the place on, all else is as it was, and the place behind it is
-- answered.
abbrev pub PutWithRoom : Type 0
PutWithRoom =
    (buffer : List ℕ) (at : ℕ) (text : List ℕ) → at + length text ≤ length buffer →
    put_text (page buffer at) text ≡ page (take at buffer ++ (text ++ drop (at + length text) buffer)) (at + length text)

-- The buffer stays as long as it was, and a place in it, or at its end, stays one.
abbrev pub StaysWithin : Type 0
StaysWithin =
    (buffer : List ℕ) (at : ℕ) (text : List ℕ) →
    (length (put_text (page buffer at) text).bytes ≡ length buffer)
    × (at ≤ length buffer → (put_text (page buffer at) text).at ≤ length buffer)
