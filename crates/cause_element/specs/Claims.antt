-- The claims on the element that is sent on. That both strings stay as they were is what a shared reference says: they are lent to be read.
-- Proofs: proofs/Claims.antt. Assumes nothing.
use Rattle.std.specs.Prelude.{ℕ, ◌+◌, ◌*◌, ◌≤◌, ◌≡◌, Bool, true, false, ◌&&◌, ◌||◌, List, [], ◌∷◌, ◌++◌, ◌⊎◌, eqb, leb, length, take}
use Rattle.signal.specs.declared.Kind.{Kind}
use Rattle.signal.specs.declared.ReroutingCause.{ReroutingCause}
use Rattle.signal.specs.declared.SentCause.TheVariants.{Absent, Numbered, AsReceived}
use Rattle.signal.specs.declared.Signal.{Signal}
use Rattle.signal.specs.Counting.{kind_number}
use Rattle.cause_element.specs.Element.{named_by, element_length, count_by, string_of, element_of}

-- 01, "The cause element sent on": the part never reaches past the string that it is of.
abbrev pub NeverPast : Type 0
NeverPast = (received own : List ℕ) (s : Signal) → count_by (named_by s) received own ≤ length (string_of received own s)

-- The same place: a well-formed element, followed by any octets, is sent exactly: its header, and the content that its length says.
abbrev pub ExactlyTheElement : Type 0
ExactlyTheElement =
    (a b high low : ℕ) (content rest : List ℕ) → length content ≡ high * 256 + low →
    take (element_length (a ∷ b ∷ high ∷ low ∷ (content ++ rest))) (a ∷ b ∷ high ∷ low ∷ (content ++ rest)) ≡ a ∷ b ∷ high ∷ low ∷ content

-- The same place: a string that breaks off before its element ends gives nothing.
abbrev pub TooShortIsNothing : Type 0
TooShortIsNothing =
    (a b high low : ℕ) (content : List ℕ) → length content + 1 ≤ high * 256 + low → element_length (a ∷ b ∷ high ∷ low ∷ content) ≡ 0

-- the four kinds of release: of the calling side, of the incumbent and of the rerouting connection, and of the called side (02, Ask 2)
abbrev pub is_release_kind : Kind → Bool
is_release_kind k = (leb 4 (kind_number k) && leb (kind_number k) 6) || eqb (kind_number k) 10

-- The same place: a release with a cause as received sends on the received string's element, and one with a cause by number the node's own.
abbrev pub SendsTheNamed : Type 0
SendsTheNamed =
    (received own : List ℕ) (s : Signal) → is_release_kind s.kind ≡ true → (c : ReroutingCause) →
    (s.cause ≡ AsReceived c → element_of received own s ≡ take (element_length received) received)
    × (s.cause ≡ Numbered c → element_of received own s ≡ take (element_length own) own)

-- The same place: without a cause, and for a signal that is no release, nothing is sent; a reject is no release here.
abbrev pub ElseNothing : Type 0
ElseNothing = (received own : List ℕ) (s : Signal) → (is_release_kind s.kind ≡ false) ⊎ (s.cause ≡ Absent) → element_of received own s ≡ []
