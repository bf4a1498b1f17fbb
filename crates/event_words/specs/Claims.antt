-- What is claimed of an event in words: by example, for a reader who does not want to follow it word by word. Proofs: proofs/Claims.antt.
-- Assumes nothing.
use Rattle.std.specs.Prelude.{◌≡◌, None}
use Rattle.lines.specs.Lines.{ascii}
use Rattle.signal.specs.declared.Crankback.TheVariants.{NoCrankback}
use Rattle.events.specs.declared.Event.TheVariants.{FromParty, FromDomain}
use Rattle.events.specs.declared.Node.TheVariants.{Source, Destination}
use Rattle.event_words.specs.Words.{keyless_text}

-- docs/BENCH.md, "script"; 02, Ask 2: a release is told by the side that it came from, and the one from across the domain with its
-- connection. At the source that is the called side's, at the destination the calling side's.
abbrev pub SidesInWords : Type 0
SidesInWords =
    (keyless_text Source (FromParty None) ≡ ascii "calling")
    × ((keyless_text Source (FromDomain 3 None NoCrankback) ≡ ascii "called 3")
    × ((keyless_text Destination (FromParty None) ≡ ascii "called")
    × (keyless_text Destination (FromDomain 3 None NoCrankback) ≡ ascii "calling 3")))
