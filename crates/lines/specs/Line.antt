-- A line: a lent buffer, and the place where the next byte goes. Assumes nothing.
use Rattle.std.specs.Prelude.{ℕ, List}
use Rattle.lines.specs.Lines.{Page, page, put_byte, put_text}
use Rattle.lines.specs.declared.Line.{Line}
use borrow.Rule.Slice.Mut.{set_vals}

-- what stands in the buffer now, and the place
abbrev pub page_of : Line → Page
page_of l = page l.buffer.now l.at

-- the same line, whose buffer holds the bytes of a page, and which goes on at its place
abbrev pub turned_to : Line → Page → Line
turned_to l p = record { buffer = set_vals p.bytes l.buffer; at = p.at }

-- a byte is put at its end
unfoldable pub with_byte : Line → ℕ → Line
with_byte l b = turned_to l (put_byte (page_of l) b)

-- a text is
unfoldable pub with_text : Line → List ℕ → Line
with_text l text = turned_to l (put_text (page_of l) text)
