-- The words in which an end says what the papers say of its events elsewhere than in its rows: situations, which are tests of a case, and
-- items, which say what is done in one. Assumes nothing.
use Rattle.std.specs.Prelude.{ℕ, Bool, ◌&&◌, ◌||◌, false, not, true, List, [], ◌∷◌, eqb}
use Rattle.signal.specs.declared.Answer.{Answer}
use Rattle.signal.specs.declared.CauseCode.TheVariants.{Section66}
use Rattle.signal.specs.declared.Crankback.{Crankback}
use Rattle.signal.specs.declared.Crankback.TheVariants.{AlternateFound, NoAlternate, NoCrankback}
use Rattle.rows.specs.Cases.{Asking, AsksClearing, AsksImmediate, AsksOther, Case, Connected, DomainReleased, Expired, FoundNone}
use Rattle.rows.specs.Cases.{FoundPath, Happening, NamesIncumbent, NamesOther, NamesRerouting, PartyReleased, Role, SaidReady, SetUp}
use Rattle.rows.specs.Cases.{Triggered, asks_clearing, came_none}
use Rattle.rows.specs.Laws.{first_answer, holds_role, same_phase, same_role}
use Rattle.rows.specs.Papers.{Item}
use Rattle.rows.specs.Rules.{Closing, NewNumber, OldRerouting, Rejects, Saying, SendsConnect, SendsSetup, Told, is_done}
use Rattle.rows.specs.States.{Phase, is_over}
use Rattle.rows.specs.declared.Class.{Class}
use Rattle.rows.specs.declared.Class.TheVariants.{CameComplete, CameNone, CameOther, CameOutside}

-- ---- situations: states and services
abbrev pub in_state : Phase → Case → Bool
in_state phase c = same_phase c.phase phase

abbrev pub hard_on : Case → Bool
hard_on c = c.hard

abbrev pub hard_off : Case → Bool
hard_off c = not c.hard

-- the last number is below 65,535, or is 65,535
abbrev pub with_room : Case → Bool
with_room c = c.room

abbrev pub at_last_number : Case → Bool
at_last_number c = not c.room

abbrev pub in_both : (Case → Bool) → (Case → Bool) → Case → Bool
in_both one other c = one c && other c

-- what came in a release
abbrev pub came_any : Class → Bool
came_any class = true

abbrev pub came_some : Class → Bool
came_some class = not (came_none class)

abbrev pub came1 : Class → Bool
came1 CameNone = false
came1 CameOutside = true
came1 CameComplete = false
came1 CameOther = false

abbrev pub came4 : Class → Bool
came4 CameNone = false
came4 CameOutside = false
came4 CameComplete = true
came4 CameOther = false

-- a cause other than #1; other than #4; other than either
abbrev pub came_not1 : Class → Bool
came_not1 class = came_some class && not (came1 class)

abbrev pub came_not4 : Class → Bool
came_not4 class = came_some class && not (came4 class)

abbrev pub came_neither : Class → Bool
came_neither class = came_not1 class && not (came4 class)

abbrev pub cranked_any : Crankback → Bool
cranked_any tried = true

-- no Crankback element; one, and an alternate path is found; one, and none is
abbrev pub cranked_none : Crankback → Bool
cranked_none NoCrankback = true
cranked_none AlternateFound = false
cranked_none NoAlternate = false

abbrev pub cranked_found : Crankback → Bool
cranked_found NoCrankback = false
cranked_found AlternateFound = true
cranked_found NoAlternate = false

abbrev pub cranked_lost : Crankback → Bool
cranked_lost NoCrankback = false
cranked_lost AlternateFound = false
cranked_lost NoAlternate = true

-- events
abbrev pub happening_number : Happening → ℕ
happening_number Triggered = 1
happening_number FoundPath = 2
happening_number FoundNone = 3
happening_number (Connected role agreed) = 4
happening_number (SetUp asked late) = 5
happening_number (PartyReleased class) = 6
happening_number (DomainReleased role class tried) = 7
happening_number SaidReady = 8
happening_number Expired = 9

-- one of the events without values, in a state
abbrev pub happens_in : Happening → Phase → Case → Bool
happens_in happening phase c = in_state phase c && eqb (happening_number c.happening) (happening_number happening)

abbrev pub is_party_release : (Class → Bool) → Happening → Bool
is_party_release test Triggered = false
is_party_release test FoundPath = false
is_party_release test FoundNone = false
is_party_release test (Connected role agreed) = false
is_party_release test (SetUp asked late) = false
is_party_release test (PartyReleased class) = test class
is_party_release test (DomainReleased role class tried) = false
is_party_release test SaidReady = false
is_party_release test Expired = false

abbrev pub is_domain_release : Role → (Class → Bool) → (Crankback → Bool) → Happening → Bool
is_domain_release named test cranked Triggered = false
is_domain_release named test cranked FoundPath = false
is_domain_release named test cranked FoundNone = false
is_domain_release named test cranked (Connected role agreed) = false
is_domain_release named test cranked (SetUp asked late) = false
is_domain_release named test cranked (PartyReleased class) = false
is_domain_release named test cranked (DomainReleased role class tried) = same_role role named && (test class && cranked tried)
is_domain_release named test cranked SaidReady = false
is_domain_release named test cranked Expired = false

abbrev pub is_connect : (Bool → Bool) → Happening → Bool
is_connect policy Triggered = false
is_connect policy FoundPath = false
is_connect policy FoundNone = false
is_connect policy (Connected role agreed) = same_role role NamesRerouting && policy agreed
is_connect policy (SetUp asked late) = false
is_connect policy (PartyReleased class) = false
is_connect policy (DomainReleased role class tried) = false
is_connect policy SaidReady = false
is_connect policy Expired = false

abbrev pub is_setup : (Asking → Bool → Bool) → Happening → Bool
is_setup test Triggered = false
is_setup test FoundPath = false
is_setup test FoundNone = false
is_setup test (Connected role agreed) = false
is_setup test (SetUp asked late) = test asked late
is_setup test (PartyReleased class) = false
is_setup test (DomainReleased role class tried) = false
is_setup test SaidReady = false
is_setup test Expired = false

-- a release from the direction of the node's own party, by its cause; from across the domain, for a connection, by cause and crankback, and
-- by cause alone
abbrev pub party_release_in : Phase → (Class → Bool) → Case → Bool
party_release_in phase test c = in_state phase c && is_party_release test c.happening

abbrev pub cranked_in : Phase → Role → (Class → Bool) → (Crankback → Bool) → Case → Bool
cranked_in phase named test cranked c = in_state phase c && is_domain_release named test cranked c.happening

abbrev pub domain_release_in : Phase → Role → (Class → Bool) → Case → Bool
domain_release_in phase named test = cranked_in phase named test cranked_any

-- a connect for the rerouting connection, by what local policy says
abbrev pub policy_any : Bool → Bool
policy_any agreed = true

abbrev pub policy_yes : Bool → Bool
policy_yes agreed = agreed

abbrev pub connect_in : Phase → (Bool → Bool) → Case → Bool
connect_in phase policy c = in_state phase c && is_connect policy c.happening

-- a setup, by the switchover that it asks for and whether its number is late
abbrev pub asks_immediate : Asking → Bool
asks_immediate AsksImmediate = true
asks_immediate AsksClearing = false
asks_immediate AsksOther = false

abbrev pub asks_unrecognized : Asking → Bool
asks_unrecognized AsksImmediate = false
asks_unrecognized AsksClearing = false
asks_unrecognized AsksOther = true

abbrev pub setup_came_in : Phase → (Asking → Bool → Bool) → Case → Bool
setup_came_in phase test c = in_state phase c && is_setup test c.happening

-- a soft reroute setup indication: asked to switch at clearing, and turned away by no earlier question (D25-8, D36-8)
abbrev pub is_soft_setup : Asking → Bool → Bool
is_soft_setup asked late = asks_clearing asked && not late

-- asked to switch at clearing, by a number that is not greater than the one on record (D25-5; C-1, note 3)
abbrev pub is_late_setup : Asking → Bool → Bool
is_late_setup asked late = asks_clearing asked && late

-- ---- words of items: one that is silent on all, and what it says, a word for each
abbrev pub about : (Case → Bool) → Item
about situation = record { speaks = situation; next = []; switches = []; closing = []; party = []; retires = []; drops = [] }

abbrev pub goes_to : Phase → Item → Item
goes_to phase item =
    record {
      speaks = item.speaks;
      next = phase ∷ [];
      switches = item.switches;
      closing = item.closing;
      party = item.party;
      retires = item.retires;
      drops = item.drops;
    }

abbrev pub switches_by : Bool → Item → Item
switches_by switched item =
    record {
      speaks = item.speaks;
      next = item.next;
      switches = switched ∷ [];
      closing = item.closing;
      party = item.party;
      retires = item.retires;
      drops = item.drops;
    }

abbrev pub closes_by : Closing → Item → Item
closes_by closing item =
    record {
      speaks = item.speaks;
      next = item.next;
      switches = item.switches;
      closing = closing ∷ [];
      party = item.party;
      retires = item.retires;
      drops = item.drops;
    }

abbrev pub party_gets : Told → Item → Item
party_gets told item =
    record {
      speaks = item.speaks;
      next = item.next;
      switches = item.switches;
      closing = item.closing;
      party = told ∷ [];
      retires = item.retires;
      drops = item.drops;
    }

abbrev pub incumbent_gets : Told → Item → Item
incumbent_gets told item =
    record {
      speaks = item.speaks;
      next = item.next;
      switches = item.switches;
      closing = item.closing;
      party = item.party;
      retires = told ∷ [];
      drops = item.drops;
    }

abbrev pub rerouting_gets : Told → Item → Item
rerouting_gets told item =
    record {
      speaks = item.speaks;
      next = item.next;
      switches = item.switches;
      closing = item.closing;
      party = item.party;
      retires = item.retires;
      drops = told ∷ [];
    }

-- both connections across the domain; the node's own party and the rerouting connection
abbrev pub connections_get : Told → Item → Item
connections_get told item = incumbent_gets told (rerouting_gets told item)

abbrev pub party_and_rerouting_get : Told → Item → Item
party_and_rerouting_get told item = party_gets told (rerouting_gets told item)

abbrev pub setup_is_sent : Item → Item
setup_is_sent = closes_by (SendsSetup NewNumber)

abbrev pub connect_is_sent : Item → Item
connect_is_sent = closes_by (SendsConnect OldRerouting)

-- rejected to the neighbour: the state stays (6.2.7.2; 01, "Setup"), and the Cause code is section 6.6's (6.2.7, 6.3.5)
abbrev pub rejected_with : Saying → Phase → Item → Item
rejected_with say phase item = goes_to phase (closes_by (Rejects say Section66) item)

-- a cell of C-1 or C-3: the tables are of calls with hard service, and count no numbers. B-1 and B-3 print the same next states in the
-- states that they have, so the soft service is not asked for
abbrev pub is_tabled : Case → Bool
is_tabled c = c.hard && c.room

abbrev pub cell : Phase → (Case → Bool) → Item
cell phase situation = goes_to phase (about (in_both is_tabled situation))

-- ---- checks and lists that both ends share
-- 107: a connect or a release for a connection not held, or a connect for the incumbent
abbrev pub is_for_unheld : Phase → Happening → Bool
is_for_unheld phase Triggered = false
is_for_unheld phase FoundPath = false
is_for_unheld phase FoundNone = false
is_for_unheld phase (Connected role agreed) = same_role role NamesIncumbent || not (holds_role phase role)
is_for_unheld phase (SetUp asked late) = false
is_for_unheld phase (PartyReleased class) = false
is_for_unheld phase (DomainReleased role class tried) = not (holds_role phase role)
is_for_unheld phase SaidReady = false
is_for_unheld phase Expired = false

-- 108 at 65,535: what would take a number, a path that is found or a setup that would otherwise be accepted
abbrev pub takes_number : (Phase → Asking → Bool → Bool) → Phase → Happening → Bool
takes_number acceptable phase Triggered = false
takes_number acceptable phase FoundPath = true
takes_number acceptable phase FoundNone = false
takes_number acceptable phase (Connected role agreed) = false
takes_number acceptable phase (SetUp asked late) = acceptable phase asked late
takes_number acceptable phase (PartyReleased class) = false
takes_number acceptable phase (DomainReleased role class tried) = false
takes_number acceptable phase SaidReady = false
takes_number acceptable phase Expired = false

-- 106, 107, 108, in that order, by what has no meaning at the end and which setups would be accepted there; in Null always 106 (decision
-- 26)
abbrev pub checked_by : (Case → Bool) → (Phase → Asking → Bool → Bool) → Case → Answer
checked_by meaningless acceptable c =
    first_answer
    (is_over c.phase || meaningless c)
    (is_for_unheld c.phase c.happening)
    (takes_number acceptable c.phase c.happening && not c.room)

-- an accepted setup stores its number (01, "Setup"); of a setup that is not, an end says for itself whether it does
abbrev pub is_stored_by : (Case → Answer) → (Phase → Asking → Bool → Bool) → Case → Bool
is_stored_by answer acceptable c = is_done (answer c) && is_setup (acceptable c.phase) c.happening

-- by the connection that the release is for
abbrev pub for_named : Role → List Item → List Item → List Item
for_named NamesIncumbent incumbent rerouting = incumbent
for_named NamesRerouting incumbent rerouting = rerouting
for_named NamesOther incumbent rerouting = []
