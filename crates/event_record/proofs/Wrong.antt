-- Two wrong answers of each public function of event_record. Each theorem speaks of the function's contract as the
-- prover makes it from the source: that its `ensures` holds of the wrong answer, with any value where a variable stands,
-- is false. Assumes nothing.
use Prim.Native.Nat.{ℕ}
use native.Mathlib.Omega.{arith}
use mathlib.Core.Bool.{Bool, cond, false, true}
use mathlib.Core.List.{List, [], ◌++◌, ◌∷◌}
use mathlib.Core.Path.{◌≡◌, ap}
use lib.ListN.{get_or, length, replicate}
use seplogic.Ra.Ura.{Ura}
use base.Logic.{SProp, ent}
use contract.Lifetimes.{Lfts}
use contract.Monad.{Fun, fact, fact_mono}
use denote.Ref.{Bor}
use denote.MutBor.{MutBor}
use types.Logic.{Logic}
use prog.Memory.{Memory}
use prog.Routine.{Routine}
use Rattle.std.specs.Prelude.{Option, Some, None}
use Rattle.event_record.specs.Encoded.{octets_written}
use Rattle.event_record.specs.Places.{record_at, rest_length}
use Rattle.event_record.specs.declared.Decoded.{Decoded}
use Rattle.events.specs.declared.Act.TheVariants.{Meets, Opens}
use Rattle.events.specs.declared.Act.{Act}
use Rattle.events.specs.declared.Node.{Node}
use Rattle.events.specs.declared.Node.TheVariants.{Source, Destination}
use Rattle.events.specs.declared.Event.TheVariants.{Connect, FromParty, Setup, Trigger}
use Rattle.signal.specs.declared.ReroutingCause.{ReroutingCause}
use Rattle.signal.specs.declared.Services.{Services}
use Rattle.signal.specs.declared.Soft.TheVariants.{Symmetric}
use Rattle.signal.specs.declared.Soft.{Soft}
use Rattle.event_record.specs.contracts.decode as decode
use Rattle.event_record.specs.contracts.encode as encode
use Rattle.event_record.specs.contracts.record_at as record-at
use Rattle.event_record.specs.contracts.keep_rest as keep_rest
use Rattle.event_record.specs.contracts.kind_at as kind_at

-- something that is lent; where it stands says nothing here
abbrev lent : {X : Type 0} → X → Bor X
lent xs = record { ref_ptr = (0, 0); now = xs }

-- something that is lent to be changed
abbrev lent_mut : {X : Type 0} → X → MutBor X
lent_mut xs = record { ref_ptr = (0, 0); ghost_name = 0; now = xs }

-- the octets that would be written, under key 0, of what is asked for; none of what is bad
abbrev written : Option Act → List ℕ
written None = []
written (Some act) = octets_written 0 act

-- an opening that names its services
abbrev named : Bool → Soft → Option Act
named hard soft = Some (Opens (Some (record { hard = hard; soft = soft })))

-- a connect for a connection, with the policy
abbrev connecting : ℕ → Bool → Option Act
connecting connection policy = Some (Meets (Connect connection policy))

module _ {M : Type 1} {𝓤 : Ura M} (𝓛 : Logic 𝓤) (memory : Memory → SProp 𝓤) (run : Routine → Fun 𝓤) where
  -- it is false: the logic proves falsity from it
  abbrev NeverHolds : SProp 𝓤 → Type 1
  NeverHolds says = ent 𝓤 says (fact 𝓤 ⊥)

  -- decode: of 16 octets at the source, their key and what they ask for
  abbrev decode_shuts_out : List ℕ → Decoded → Type 1
  decode_shuts_out octets r =
      NeverHolds ((decode.clauses 𝓛 memory run tt (Source, (octets, tt))).ensures tt r (Source, (octets, tt)))

  -- the key is bytes 4 to 7 (01, "The trace"), and not 8 to 11
  pub key_read_behind_its_place :
      (request : Option Act) →
      decode_shuts_out (1 ∷ 0 ∷ 0 ∷ 0 ∷ 0 ∷ 0 ∷ 0 ∷ 7 ∷ 0 ∷ 0 ∷ 0 ∷ 9 ∷ 0 ∷ 0 ∷ 0 ∷ 0 ∷ []) (record { key = 9; request = request })
  key_read_behind_its_place request = fact_mono 𝓤 _ _ (λ h. let z : ◌≡◌ {A = ℕ} 9 _ = ap (λ (d : Decoded). d.key) h in omega arith)

  -- a connection number above 65,535 is bad
  pub connection_65536_let_through :
      (key connection : ℕ) (policy : Bool) →
      decode_shuts_out (4 ∷ 0 ∷ 0 ∷ 0 ∷ 0 ∷ 0 ∷ 0 ∷ 7 ∷ 0 ∷ 1 ∷ 0 ∷ 0 ∷ 0 ∷ 0 ∷ 0 ∷ 0 ∷ [])
      (record { key = key; request = connecting connection policy })
  connection_65536_let_through key connection policy =
      fact_mono 𝓤 _ _ (λ h. let z : ◌≡◌ {A = ℕ} 16 _ = ap (λ (d : Decoded). length (written d.request)) h in omega arith)

  -- crankback above 2 is bad in every release (decision 23)
  pub crankback_of_a_calling_release_not_tested :
      (key : ℕ) (cause : Option ReroutingCause) →
      decode_shuts_out (6 ∷ 0 ∷ 0 ∷ 3 ∷ 0 ∷ 0 ∷ 0 ∷ 7 ∷ 0 ∷ 0 ∷ 0 ∷ 0 ∷ 0 ∷ 0 ∷ 0 ∷ 0 ∷ [])
      (record { key = key; request = Some (Meets (FromParty cause)) })
  crankback_of_a_calling_release_not_tested key cause =
      fact_mono 𝓤 _ _ (λ h. let z : ◌≡◌ {A = ℕ} 16 _ = ap (λ (d : Decoded). length (written d.request)) h in omega arith)

  -- byte 1 of a release is 0 where no cause is
  pub cause_present_the_wrong_way_round :
      (key : ℕ) (cause : ReroutingCause) →
      decode_shuts_out (6 ∷ 0 ∷ 4 ∷ 0 ∷ 0 ∷ 0 ∷ 0 ∷ 7 ∷ 0 ∷ 0 ∷ 0 ∷ 0 ∷ 0 ∷ 0 ∷ 0 ∷ 0 ∷ [])
      (record { key = key; request = Some (Meets (FromParty (Some cause))) })
  cause_present_the_wrong_way_round key cause =
      fact_mono 𝓤 _ _ (λ h. let z : ◌≡◌ {A = ℕ} 1 _ = ap (λ (d : Decoded). get_or (written d.request) 1 0) h in omega arith)

  -- hard on is 1
  pub hard_the_wrong_way_round :
      (key : ℕ) (soft : Soft) →
      decode_shuts_out (0 ∷ 1 ∷ 1 ∷ 2 ∷ 0 ∷ 0 ∷ 0 ∷ 7 ∷ 0 ∷ 0 ∷ 0 ∷ 0 ∷ 0 ∷ 0 ∷ 0 ∷ 0 ∷ [])
      (record { key = key; request = named false soft })
  hard_the_wrong_way_round key soft =
      fact_mono 𝓤 _ _ (λ h.
      let x : ◌≡◌ {A = Option Act} (named false soft) (named true Symmetric) = ap (λ (d : Decoded). d.request) h in
      let y : ◌≡◌ {A = Services} (record { hard = false; soft = soft }) (record { hard = true; soft = Symmetric }) = cc in
      let z : ◌≡◌ {A = ℕ} 0 1 = ap (λ (s : Services). cond s.hard 1 0) y in
      omega arith)

  -- policy yes is 1
  pub policy_the_wrong_way_round :
      (key connection : ℕ) →
      decode_shuts_out (4 ∷ 1 ∷ 0 ∷ 0 ∷ 0 ∷ 0 ∷ 0 ∷ 7 ∷ 0 ∷ 0 ∷ 0 ∷ 5 ∷ 0 ∷ 0 ∷ 0 ∷ 0 ∷ [])
      (record { key = key; request = connecting connection false })
  policy_the_wrong_way_round key connection =
      fact_mono 𝓤 _ _ (λ h.
      let y : ◌≡◌ {A = Option Act} (connecting connection false) (connecting 5 true) = ap (λ (d : Decoded). d.request) h in
      let z : ◌≡◌ {A = ℕ} 0 1 = cc in
      omega arith)

  -- the switchover code is byte 1 of a setup
  pub switchover_code_read_from_byte_2 :
      (key number : ℕ) →
      decode_shuts_out (5 ∷ 1 ∷ 0 ∷ 0 ∷ 0 ∷ 0 ∷ 0 ∷ 7 ∷ 0 ∷ 0 ∷ 0 ∷ 3 ∷ 0 ∷ 0 ∷ 0 ∷ 0 ∷ [])
      (record { key = key; request = Some (Meets (Setup (record { code = 0 }) number)) })
  switchover_code_read_from_byte_2 key number =
      fact_mono 𝓤 _ _ (λ h. let z : ◌≡◌ {A = ℕ} 0 _ = ap (λ (d : Decoded). get_or (written d.request) 1 0) h in omega arith)

  -- encode: at the source, of a key and what is done with it, 16 octets
  abbrev encode_shuts_out : ℕ → Act → List ℕ → Type 1
  encode_shuts_out key act r =
      NeverHolds ((encode.clauses 𝓛 memory run tt (Source, (key, (act, tt)))).ensures tt r (Source, (key, (act, tt))))

  -- each octet of the key is written once, the highest first (01, "The trace")
  pub key_written_with_an_octet_twice :
      encode_shuts_out 16909060 (Meets Trigger) (1 ∷ 0 ∷ 0 ∷ 0 ∷ 1 ∷ 1 ∷ 3 ∷ 4 ∷ 0 ∷ 0 ∷ 0 ∷ 0 ∷ 0 ∷ 0 ∷ 0 ∷ 0 ∷ [])
  key_written_with_an_octet_twice = fact_mono 𝓤 _ _ (λ h. let z : ◌≡◌ {A = ℕ} 1 _ = ap (λ (os : List ℕ). get_or os 5 0) h in omega arith)

  -- the highest octet of a connection is written first too: 1 and 2 of 258
  pub connection_written_lowest_first :
      encode_shuts_out 7 (Meets (Connect 258 true)) (4 ∷ 1 ∷ 0 ∷ 0 ∷ 0 ∷ 0 ∷ 0 ∷ 7 ∷ 0 ∷ 0 ∷ 2 ∷ 1 ∷ 0 ∷ 0 ∷ 0 ∷ 0 ∷ [])
  connection_written_lowest_first = fact_mono 𝓤 _ _ (λ h. let z : ◌≡◌ {A = ℕ} 2 _ = ap (λ (os : List ℕ). get_or os 10 0) h in omega arith)

  -- record_at: of octets and a place, the 16 octets from there on
  abbrev record_at_shuts_out : List ℕ → ℕ → List ℕ → Type 1
  record_at_shuts_out octets place r =
      (κs : Lfts 1) → NeverHolds ((record-at.clauses 𝓛 memory run κs (lent octets, (place, tt))).ensures tt r (lent octets, (place, tt)))

  -- the record begins at its place, and not at the start of what was read
  pub record_from_the_start : (more : List ℕ) → record_at_shuts_out (5 ∷ replicate 16 6) 1 (5 ∷ more)
  unfolding record_at
  record_from_the_start more κs = fact_mono 𝓤 _ _ (λ h. let z : ◌≡◌ {A = ℕ} 5 _ = ap (λ (os : List ℕ). get_or os 0 0) h in omega arith)

  -- it has 16 octets (01, "The trace")
  pub record_of_17_octets : record_at_shuts_out (replicate 20 7) 1 (replicate 17 7)
  unfolding record_at
  record_of_17_octets κs = fact_mono 𝓤 _ _ (λ h. let z : ◌≡◌ {A = ℕ} 17 _ = ap (λ (os : List ℕ). length os) h in omega arith)

  -- keep_rest: of octets and how many of them have come, how many are kept, and the octets that are left
  abbrev keep_rest_shuts_out : List ℕ → ℕ → ℕ → List ℕ → Type 1
  keep_rest_shuts_out octets filled r left =
      (κs : Lfts 1) → NeverHolds ((keep_rest.clauses 𝓛 memory run κs (lent_mut octets, (filled, tt))
      ).ensures tt r (lent_mut left, (filled, tt)))

  -- a whole record is done with: none of it is kept
  pub whole_record_is_kept : (left : List ℕ) → keep_rest_shuts_out (replicate 20 7) 16 16 left
  unfolding rest_length
  whole_record_is_kept left κs = fact_mono 𝓤 _ _ (λ h. let z : ◌≡◌ {A = ℕ} 16 _ = h.0 in omega arith)

  -- what is kept comes to the front
  pub rest_stays_where_it_is : (r : ℕ) (more : List ℕ) → keep_rest_shuts_out (replicate 16 7 ++ (9 ∷ [])) 17 r (7 ∷ more)
  unfolding rest_length
  rest_stays_where_it_is r more κs = fact_mono 𝓤 _ _ (λ h. let z : ◌≡◌ {A = ℕ} 7 _ = ap (λ (os : List ℕ). get_or os 0 0) h.1 in omega arith)

  -- kind_at: of an end and a kind, the kind that the source has for it
  abbrev kind_at_shuts_out : Node → ℕ → ℕ → Type 1
  kind_at_shuts_out node kind r = NeverHolds ((kind_at.clauses 𝓛 memory run tt (node, (kind, tt))).ensures tt r (node, (kind, tt)))

  -- at the destination the calling release names a connection (02, Ask 2)
  pub destination_releases_as_the_source : kind_at_shuts_out Destination 6 6
  destination_releases_as_the_source = fact_mono 𝓤 _ _ (λ h. let z : ◌≡◌ {A = ℕ} 6 7 = h in omega arith)

  -- no other kind changes its place
  pub destination_takes_a_connect_for_a_release : kind_at_shuts_out Destination 4 7
  destination_takes_a_connect_for_a_release = fact_mono 𝓤 _ _ (λ h. let z : ◌≡◌ {A = ℕ} 7 4 = h in omega arith)
