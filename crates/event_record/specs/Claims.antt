-- What is claimed of a record, read and written. Proofs: proofs/Claims.antt. Assumes nothing.
use Rattle.std.specs.Prelude.{ℕ, ◌+◌, ◌*◌, ◌<◌, true, false, List, [], ◌∷◌, ◌⊎◌, ◌≡◌, Option, None, Some}
use Rattle.signal.specs.declared.Crankback.TheVariants.{NoCrankback, AlternateFound, NoAlternate}
use Rattle.signal.specs.declared.ReroutingCause.{ReroutingCause}
use Rattle.signal.specs.declared.Soft.TheVariants.{NoSoft, Asymmetric, Symmetric}
use Rattle.events.specs.declared.Event.{Event}
use Rattle.events.specs.declared.Event.TheVariants.{Trigger, PathFound, NoPath, Connect, Setup, FromParty, FromDomain, Ready, Expiry}
use Rattle.events.specs.declared.Act.{Act}
use Rattle.events.specs.declared.Act.TheVariants.{Opens, Meets}
use Rattle.events.specs.declared.Node.{Node}
use Rattle.events.specs.declared.Node.TheVariants.{Source, Destination}
use Rattle.event_record.specs.Record.{octet, number_of, decoded_at, decoded_of}
use Rattle.event_record.specs.Encoded.{written_at}

-- What each octet means, in the words of 01, "The trace": octets on the left, what they ask for on the right, and nothing of how they are
-- read. An octet that a kind does not read is any number, and what follows is any list.

-- four octets as one number, big-endian
abbrev pub big_endian : ℕ → ℕ → ℕ → ℕ → ℕ
big_endian a b c d = a * 16777216 + b * 65536 + c * 256 + d

-- bytes 4 to 7 are the key, in every record
abbrev pub KeyMeans : Type 0
KeyMeans = (kind p q r a b c d : ℕ) (more : List ℕ) → (decoded_of (kind ∷ p ∷ q ∷ r ∷ a ∷ b ∷ c ∷ d ∷ more)).key ≡ big_endian a b c d

-- byte 0: 1 trigger, 2 path found, 3 no path, 8 ready, 9 expiry; of these nothing else is read but the key (decision 23)
abbrev pub OnlyKeysMean : Type 0
OnlyKeysMean =
    (p q r : ℕ) (more : List ℕ) →
    ((decoded_of (1 ∷ p ∷ q ∷ r ∷ more)).request ≡ Some (Meets Trigger))
    × (((decoded_of (2 ∷ p ∷ q ∷ r ∷ more)).request ≡ Some (Meets PathFound))
    × (((decoded_of (3 ∷ p ∷ q ∷ r ∷ more)).request ≡ Some (Meets NoPath))
    × (((decoded_of (8 ∷ p ∷ q ∷ r ∷ more)).request ≡ Some (Meets Ready))
    × ((decoded_of (9 ∷ p ∷ q ∷ r ∷ more)).request ≡ Some (Meets Expiry)))))

-- 0 open: byte 1 is 0 for default services, and 1 for named ones; then byte 2 is hard, off or on, and byte 3 soft: none, asymmetric,
-- symmetric (decision 22)
abbrev pub OpenMeans : Type 0
OpenMeans =
    (q r : ℕ) (more : List ℕ) →
    ((decoded_of (0 ∷ 0 ∷ q ∷ r ∷ more)).request ≡ Some (Opens None))
    × (((decoded_of (0 ∷ 1 ∷ 0 ∷ 0 ∷ more)).request ≡ Some (Opens (Some (record { hard = false; soft = NoSoft }))))
    × (((decoded_of (0 ∷ 1 ∷ 0 ∷ 1 ∷ more)).request ≡ Some (Opens (Some (record { hard = false; soft = Asymmetric }))))
    × (((decoded_of (0 ∷ 1 ∷ 0 ∷ 2 ∷ more)).request ≡ Some (Opens (Some (record { hard = false; soft = Symmetric }))))
    × (((decoded_of (0 ∷ 1 ∷ 1 ∷ 0 ∷ more)).request ≡ Some (Opens (Some (record { hard = true; soft = NoSoft }))))
    × (((decoded_of (0 ∷ 1 ∷ 1 ∷ 1 ∷ more)).request ≡ Some (Opens (Some (record { hard = true; soft = Asymmetric }))))
    × ((decoded_of (0 ∷ 1 ∷ 1 ∷ 2 ∷ more)).request ≡ Some (Opens (Some (record { hard = true; soft = Symmetric })))))))))

-- 4 connect: byte 1 is policy, 0 no, 1 yes; bytes 8 to 11 the connection, which fills the last two of them at most
abbrev pub ConnectMeans : Type 0
ConnectMeans =
    (q r s t u v a b : ℕ) (more : List ℕ) → a < 256 → b < 256 →
    ((decoded_of (4 ∷ 0 ∷ q ∷ r ∷ s ∷ t ∷ u ∷ v ∷ 0 ∷ 0 ∷ a ∷ b ∷ more)).request ≡ Some (Meets (Connect (a * 256 + b) false)))
    × ((decoded_of (4 ∷ 1 ∷ q ∷ r ∷ s ∷ t ∷ u ∷ v ∷ 0 ∷ 0 ∷ a ∷ b ∷ more)).request ≡ Some (Meets (Connect (a * 256 + b) true)))

-- 5 setup: byte 1 is the switchover code, whatever its value; bytes 8 to 11 the incarnation number
abbrev pub SetupMeans : Type 0
SetupMeans =
    (code q r s t u v a b c d : ℕ) (more : List ℕ) →
    (decoded_of (5 ∷ code ∷ q ∷ r ∷ s ∷ t ∷ u ∷ v ∷ a ∷ b ∷ c ∷ d ∷ more)).request
    ≡ Some (Meets (Setup (record { code = code }) (big_endian a b c d)))

-- 6 calling release: byte 1 is 0 where no cause came and 1 where one did, byte 2 its number, whatever that is; byte 3 is crankback, 0 to 2,
-- which no row of a calling release reads
abbrev pub CallingMeans : Type 0
CallingMeans =
    (cause : ℕ) (more : List ℕ) →
    ((decoded_of (6 ∷ 0 ∷ cause ∷ 0 ∷ more)).request ≡ Some (Meets (FromParty None)))
    × (((decoded_of (6 ∷ 0 ∷ cause ∷ 1 ∷ more)).request ≡ Some (Meets (FromParty None)))
    × (((decoded_of (6 ∷ 0 ∷ cause ∷ 2 ∷ more)).request ≡ Some (Meets (FromParty None)))
    × (((decoded_of (6 ∷ 1 ∷ cause ∷ 0 ∷ more)).request ≡ Some (Meets (FromParty (Some (record { number = cause })))))
    × (((decoded_of (6 ∷ 1 ∷ cause ∷ 1 ∷ more)).request ≡ Some (Meets (FromParty (Some (record { number = cause })))))
    × ((decoded_of (6 ∷ 1 ∷ cause ∷ 2 ∷ more)).request ≡ Some (Meets (FromParty (Some (record { number = cause })))))))))

-- 7 called release: the same, with crankback none, alternate found, none found (decision 22), and the connection as in a connect
abbrev pub CalledMeans : Type 0
CalledMeans =
    (cause s t u v a b : ℕ) (more : List ℕ) → a < 256 → b < 256 →
    let named : List ℕ = s ∷ t ∷ u ∷ v ∷ 0 ∷ 0 ∷ a ∷ b ∷ more in
    let given : Option ReroutingCause = Some (record { number = cause }) in
    ((decoded_of (7 ∷ 0 ∷ cause ∷ 0 ∷ named)).request ≡ Some (Meets (FromDomain (a * 256 + b) None NoCrankback)))
    × (((decoded_of (7 ∷ 0 ∷ cause ∷ 1 ∷ named)).request ≡ Some (Meets (FromDomain (a * 256 + b) None AlternateFound)))
    × (((decoded_of (7 ∷ 0 ∷ cause ∷ 2 ∷ named)).request ≡ Some (Meets (FromDomain (a * 256 + b) None NoAlternate)))
    × (((decoded_of (7 ∷ 1 ∷ cause ∷ 0 ∷ named)).request ≡ Some (Meets (FromDomain (a * 256 + b) given NoCrankback)))
    × (((decoded_of (7 ∷ 1 ∷ cause ∷ 1 ∷ named)).request ≡ Some (Meets (FromDomain (a * 256 + b) given AlternateFound)))
    × ((decoded_of (7 ∷ 1 ∷ cause ∷ 2 ∷ named)).request ≡ Some (Meets (FromDomain (a * 256 + b) given NoAlternate)))))))

-- Any other value is bad, whatever stands elsewhere: a kind above 9; of an opening byte 1 or hard above 1, or soft above 2; policy above 1;
-- of a release cause present above 1, or crankback above 2.
abbrev pub NotNamedIsBad : Type 0
NotNamedIsBad =
    (n p q r : ℕ) (more : List ℕ) →
    (9 < n → (decoded_of (n ∷ p ∷ q ∷ r ∷ more)).request ≡ None)
    × ((1 < n → (decoded_of (0 ∷ n ∷ q ∷ r ∷ more)).request ≡ None)
    × ((1 < n → (decoded_of (0 ∷ 1 ∷ n ∷ r ∷ more)).request ≡ None)
    × ((2 < n → (decoded_of (0 ∷ 1 ∷ q ∷ n ∷ more)).request ≡ None)
    × ((1 < n → (decoded_of (4 ∷ n ∷ q ∷ r ∷ more)).request ≡ None)
    × ((1 < n → (decoded_of (6 ∷ n ∷ q ∷ r ∷ more)).request ≡ None)
    × ((2 < n → (decoded_of (6 ∷ p ∷ q ∷ n ∷ more)).request ≡ None)
    × ((1 < n → (decoded_of (7 ∷ n ∷ q ∷ r ∷ more)).request ≡ None)
    × (2 < n → (decoded_of (7 ∷ p ∷ q ∷ n ∷ more)).request ≡ None))))))))

-- By example, with octets that all differ: 1, 2, 3, 4 is 16,909,060; 5, 6, 7, 8 is 84,281,096; 4, 3, 2, 1 is 67,305,985; 9, 10 is 2,314.
abbrev pub OctetsInTheirOrder : Type 0
OctetsInTheirOrder =
    (decoded_of (5 ∷ 1 ∷ 0 ∷ 0 ∷ 1 ∷ 2 ∷ 3 ∷ 4 ∷ 5 ∷ 6 ∷ 7 ∷ 8 ∷ 0 ∷ 0 ∷ 0 ∷ 0 ∷ [])
    ≡ record { key = 16909060; request = Some (Meets (Setup (record { code = 1 }) 84281096)) })
    × (decoded_of (7 ∷ 1 ∷ 4 ∷ 2 ∷ 4 ∷ 3 ∷ 2 ∷ 1 ∷ 0 ∷ 0 ∷ 9 ∷ 10 ∷ 0 ∷ 0 ∷ 0 ∷ 0 ∷ [])
    ≡ record { key = 67305985; request = Some (Meets (FromDomain 2314 (Some (record { number = 4 })) NoAlternate)) })

-- 01, "The trace": a connect or a called release with a connection number above 65,535 is bad.
abbrev pub AboveIsBad : Type 0
AboveIsBad =
    (os : List ℕ) → (octet os 0 ≡ 4) ⊎ (octet os 0 ≡ 7) →
    65535 < number_of (octet os 8) (octet os 9) (octet os 10) (octet os 11) → (decoded_of os).request ≡ None

-- the numbers of an event have a place in a record: a connection in two octets, a key and an incarnation number in four, a code and a cause
-- in one
abbrev pub CauseFits : Option ReroutingCause → Type 0
CauseFits None = Unit {0}
CauseFits (Some c) = c.number < 256

abbrev pub EventFits : Event → Type 0
EventFits Trigger = Unit {0}
EventFits PathFound = Unit {0}
EventFits NoPath = Unit {0}
EventFits (Connect c policy) = c < 65536
EventFits (Setup s n) = (s.code < 256) × (n < 4294967296)
EventFits (FromParty cause) = CauseFits cause
EventFits (FromDomain c cause back) = (c < 65536) × CauseFits cause
EventFits Ready = Unit {0}
EventFits Expiry = Unit {0}

abbrev pub ActFits : Act → Type 0
ActFits (Opens w) = Unit {0}
ActFits (Meets e) = EventFits e

abbrev pub Fits : ℕ → Act → Type 0
Fits key act = (key < 4294967296) × ActFits act

-- Every event whose numbers fit comes back from its record as it was, with its key, at either end; a release from the node's own party has
-- no crankback to lose.
abbrev pub ReadBack : Type 0
ReadBack =
    (node : Node) (key : ℕ) (act : Act) → Fits key act →
    decoded_at node (written_at node key act) ≡ record { key = key; request = Some act }

-- 02, Ask 2: at the destination a record says what it says at the source, but that the two releases change places.
abbrev pub EndsDiffer : Type 0
EndsDiffer =
    (more : List ℕ) →
    (decoded_at Destination (6 ∷ more) ≡ decoded_at Source (7 ∷ more))
    × ((decoded_at Destination (7 ∷ more) ≡ decoded_at Source (6 ∷ more))
    × ((kind : ℕ) → (kind ≡ 6 → ⊥) → (kind ≡ 7 → ⊥) → decoded_at Destination (kind ∷ more) ≡ decoded_at Source (kind ∷ more)))
