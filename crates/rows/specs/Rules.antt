-- What a row says, as data, and the words in which rows are written. A rule has one field for each turn of the printed order of signals
-- (01, "Signals"): so their order, "once each", and "a release names its own connection" hold by construction. Assumes nothing.
use Rattle.std.specs.Prelude.{Bool, cond, false, true, eqb}
use Rattle.signal.specs.Numbers.{answer_number}
use Rattle.signal.specs.declared.Answer.{Answer}
use Rattle.signal.specs.declared.Answer.TheVariants.{Done, NotHeld}
use Rattle.signal.specs.declared.CauseCode.{CauseCode}
use Rattle.signal.specs.declared.CauseCode.TheVariants.{CallRejected, Section66}
use Rattle.rows.specs.Cases.{NamesIncumbent, NamesOther, NamesRerouting, Role}
use Rattle.rows.specs.States.{AtNull, Phase, holds_incumbent, holds_rerouting}

-- a connection, as a rule speaks of it: one that was held, or the next number
pub data Slot : Type 0 where
  NoSlot : Slot
  OldIncumbent : Slot
  OldRerouting : Slot
  NewNumber : Slot

pub data Timer : Type 0 where
  LeavesTimer : Timer
  StartsTimer : Timer
  StopsTimer : Timer

-- a Rerouting cause: absent, a number, or the one that came, as received
pub data Saying : Type 0 where
  SaysNothing : Saying
  Says1 : Saying
  Says2 : Saying
  Says4 : Saying
  Says5 : Saying
  Says6 : Saying
  Says8 : Saying
  SaysAsCame : Saying

-- whether a release is sent, and what it carries
pub data Told : Type 0 where
  Untold : Told
  Tells : Saying → CauseCode → Told

-- the last of an event's signals
pub data Closing : Type 0 where
  NoClosing : Closing
  SendsSetup : Slot → Closing
  SendsConnect : Slot → Closing
  Rejects : Saying → CauseCode → Closing

-- a row: the answer; the next state, and which connection becomes its incumbent, which its rerouting connection; whether the setup's number
-- is stored; and the signals in their turns: timer, switch, release of the party, of the old incumbent, of the old rerouting connection,
-- and setup, connect or reject. A number is given where one of the two connections is new
pub record Rule : Type 0 where
  pub answer : Answer
  pub phase : Phase
  pub incumbent : Slot
  pub rerouting : Slot
  pub stores : Bool
  pub timer : Timer
  pub switch : Slot
  pub party : Told
  pub retires : Told
  pub drops : Told
  pub closing : Closing

abbrev pub is_done : Answer → Bool
is_done a = eqb (answer_number a) 0

-- done: in a phase that holds these, and nothing sent yet
abbrev pub to : Phase → Slot → Slot → Rule
to phase i r =
    record {
      answer = Done;
      phase = phase;
      incumbent = i;
      rerouting = r;
      stores = false;
      timer = LeavesTimer;
      switch = NoSlot;
      party = Untold;
      retires = Untold;
      drops = Untold;
      closing = NoClosing;
    }

-- done: the call ends
abbrev pub ends : Rule
ends = to AtNull NoSlot NoSlot

abbrev pub own_incumbent : Phase → Slot
own_incumbent phase = cond (holds_incumbent phase) OldIncumbent NoSlot

abbrev pub own_rerouting : Phase → Slot
own_rerouting phase = cond (holds_rerouting phase) OldRerouting NoSlot

-- the call stays as it is
abbrev pub stays : Phase → Rule
stays phase = to phase (own_incumbent phase) (own_rerouting phase)

abbrev pub refuses : Answer → Phase → Rule
refuses a phase =
    record {
      answer = a;
      phase = phase;
      incumbent = own_incumbent phase;
      rerouting = own_rerouting phase;
      stores = false;
      timer = LeavesTimer;
      switch = NoSlot;
      party = Untold;
      retires = Untold;
      drops = Untold;
      closing = NoClosing;
    }

-- what is said besides: each word sets one field
abbrev pub timed : Timer → Rule → Rule
timed t rule =
    record {
      answer = rule.answer;
      phase = rule.phase;
      incumbent = rule.incumbent;
      rerouting = rule.rerouting;
      stores = rule.stores;
      timer = t;
      switch = rule.switch;
      party = rule.party;
      retires = rule.retires;
      drops = rule.drops;
      closing = rule.closing;
    }

abbrev pub starting : Rule → Rule
starting rule = timed StartsTimer rule

abbrev pub stopping : Rule → Rule
stopping rule = timed StopsTimer rule

abbrev pub switching : Slot → Rule → Rule
switching slot rule =
    record {
      answer = rule.answer;
      phase = rule.phase;
      incumbent = rule.incumbent;
      rerouting = rule.rerouting;
      stores = rule.stores;
      timer = rule.timer;
      switch = slot;
      party = rule.party;
      retires = rule.retires;
      drops = rule.drops;
      closing = rule.closing;
    }

abbrev pub telling : Saying → Rule → Rule
telling say rule =
    record {
      answer = rule.answer;
      phase = rule.phase;
      incumbent = rule.incumbent;
      rerouting = rule.rerouting;
      stores = rule.stores;
      timer = rule.timer;
      switch = rule.switch;
      party = Tells say Section66;
      retires = rule.retires;
      drops = rule.drops;
      closing = rule.closing;
    }

abbrev pub retiring : Told → Rule → Rule
retiring t rule =
    record {
      answer = rule.answer;
      phase = rule.phase;
      incumbent = rule.incumbent;
      rerouting = rule.rerouting;
      stores = rule.stores;
      timer = rule.timer;
      switch = rule.switch;
      party = rule.party;
      retires = t;
      drops = rule.drops;
      closing = rule.closing;
    }

abbrev pub dropping : Told → Rule → Rule
dropping t rule =
    record {
      answer = rule.answer;
      phase = rule.phase;
      incumbent = rule.incumbent;
      rerouting = rule.rerouting;
      stores = rule.stores;
      timer = rule.timer;
      switch = rule.switch;
      party = rule.party;
      retires = rule.retires;
      drops = t;
      closing = rule.closing;
    }

abbrev pub closed : Closing → Rule → Rule
closed x rule =
    record {
      answer = rule.answer;
      phase = rule.phase;
      incumbent = rule.incumbent;
      rerouting = rule.rerouting;
      stores = rule.stores;
      timer = rule.timer;
      switch = rule.switch;
      party = rule.party;
      retires = rule.retires;
      drops = rule.drops;
      closing = x;
    }

abbrev pub storing : Rule → Rule
storing rule =
    record {
      answer = rule.answer;
      phase = rule.phase;
      incumbent = rule.incumbent;
      rerouting = rule.rerouting;
      stores = true;
      timer = rule.timer;
      switch = rule.switch;
      party = rule.party;
      retires = rule.retires;
      drops = rule.drops;
      closing = rule.closing;
    }

-- a release with a Rerouting cause, with none, and turned away with Cause code #21
abbrev pub with : Saying → Told
with say = Tells say Section66

abbrev pub plainly : Told
plainly = Tells SaysNothing Section66

abbrev pub turned_away : Told
turned_away = Tells SaysNothing CallRejected

-- the rerouting connection is named, or nothing is done (107)
abbrev pub of_rerouting : Role → Phase → Rule → Rule
of_rerouting NamesIncumbent phase row = refuses NotHeld phase
of_rerouting NamesRerouting phase row = row
of_rerouting NamesOther phase row = refuses NotHeld phase

abbrev pub of_incumbent : Role → Phase → Rule → Rule
of_incumbent NamesIncumbent phase row = row
of_incumbent NamesRerouting phase row = refuses NotHeld phase
of_incumbent NamesOther phase row = refuses NotHeld phase

abbrev pub of_either : Role → Phase → Rule → Rule → Rule
of_either NamesIncumbent phase first second = first
of_either NamesRerouting phase first second = second
of_either NamesOther phase first second = refuses NotHeld phase
