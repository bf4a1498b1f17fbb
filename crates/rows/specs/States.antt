-- The states of either end of a call, by what they hold (6.2.3, 6.3.3; 01, "The table and its records"), and their phases: a state without
-- its numbers. Assumes nothing.
use Rattle.std.specs.Prelude.{ℕ, Bool, false, true, List, [], ◌∷◌, eqb}
use Rattle.rows.specs.declared.State.{State}
use Rattle.rows.specs.declared.State.TheVariants.{Awaiting, HardUnderway, HardWaiting, Idle, Null, SoftInitiated, SoftProceeding}
use Rattle.rows.specs.declared.State.TheVariants.{SoftTriggered}

-- 0 Null; 1 Rerouting Idle; 2 Hard Reroute Triggered, at the destination Indicated; 3 Hard Reroute Proceeding, at the destination
-- Initiated; 4 Soft Reroute Triggered; 5 Soft Reroute Proceeding; 6 Soft Reroute Initiated; 7 Awaiting Switchover (01, "The table and its
-- records": 0 to 7)
pub data Phase : Type 0 where
  AtNull : Phase
  AtIdle : Phase
  AtHardWaiting : Phase
  AtHardUnderway : Phase
  AtSoftTriggered : Phase
  AtSoftProceeding : Phase
  AtSoftInitiated : Phase
  AtAwaiting : Phase

abbrev pub phase_number : Phase → ℕ
phase_number AtNull = 0
phase_number AtIdle = 1
phase_number AtHardWaiting = 2
phase_number AtHardUnderway = 3
phase_number AtSoftTriggered = 4
phase_number AtSoftProceeding = 5
phase_number AtSoftInitiated = 6
phase_number AtAwaiting = 7

abbrev pub phase_of : State → Phase
phase_of Null = AtNull
phase_of (Idle i) = AtIdle
phase_of HardWaiting = AtHardWaiting
phase_of (HardUnderway r) = AtHardUnderway
phase_of (SoftTriggered i) = AtSoftTriggered
phase_of (SoftProceeding i r) = AtSoftProceeding
phase_of (SoftInitiated i r) = AtSoftInitiated
phase_of (Awaiting i r) = AtAwaiting

-- the state of a phase that holds these
abbrev pub built : Phase → ℕ → ℕ → State
built AtNull i r = Null
built AtIdle i r = Idle i
built AtHardWaiting i r = HardWaiting
built AtHardUnderway i r = HardUnderway r
built AtSoftTriggered i r = SoftTriggered i
built AtSoftProceeding i r = SoftProceeding i r
built AtSoftInitiated i r = SoftInitiated i r
built AtAwaiting i r = Awaiting i r

-- the number of a state (01, "The table and its records")
abbrev pub state_number : State → ℕ
state_number Null = 0
state_number (Idle i) = 1
state_number HardWaiting = 2
state_number (HardUnderway r) = 3
state_number (SoftTriggered i) = 4
state_number (SoftProceeding i r) = 5
state_number (SoftInitiated i r) = 6
state_number (Awaiting i r) = 7

-- the state with that number
abbrev pub is_at : ℕ → State → Bool
is_at n s = eqb (state_number s) n

-- no call
abbrev pub is_null : State → Bool
is_null s = eqb (state_number s) 0

-- the incumbent connection, 0 where the state holds none
abbrev pub incumbent_of : State → ℕ
incumbent_of Null = 0
incumbent_of (Idle i) = i
incumbent_of HardWaiting = 0
incumbent_of (HardUnderway r) = 0
incumbent_of (SoftTriggered i) = i
incumbent_of (SoftProceeding i r) = i
incumbent_of (SoftInitiated i r) = i
incumbent_of (Awaiting i r) = i

-- the rerouting connection, 0 where the state holds none
abbrev pub rerouting_of : State → ℕ
rerouting_of Null = 0
rerouting_of (Idle i) = 0
rerouting_of HardWaiting = 0
rerouting_of (HardUnderway r) = r
rerouting_of (SoftTriggered i) = 0
rerouting_of (SoftProceeding i r) = r
rerouting_of (SoftInitiated i r) = r
rerouting_of (Awaiting i r) = r

-- the connections that a state holds, the incumbent first
abbrev pub held_in : State → List ℕ
held_in Null = []
held_in (Idle i) = i ∷ []
held_in HardWaiting = []
held_in (HardUnderway r) = r ∷ []
held_in (SoftTriggered i) = i ∷ []
held_in (SoftProceeding i r) = i ∷ r ∷ []
held_in (SoftInitiated i r) = i ∷ r ∷ []
held_in (Awaiting i r) = i ∷ r ∷ []

-- the two Hard states
abbrev pub is_hard : State → Bool
is_hard Null = false
is_hard (Idle i) = false
is_hard HardWaiting = true
is_hard (HardUnderway r) = true
is_hard (SoftTriggered i) = false
is_hard (SoftProceeding i r) = false
is_hard (SoftInitiated i r) = false
is_hard (Awaiting i r) = false

-- the same of a phase
abbrev pub holds_incumbent : Phase → Bool
holds_incumbent AtNull = false
holds_incumbent AtIdle = true
holds_incumbent AtHardWaiting = false
holds_incumbent AtHardUnderway = false
holds_incumbent AtSoftTriggered = true
holds_incumbent AtSoftProceeding = true
holds_incumbent AtSoftInitiated = true
holds_incumbent AtAwaiting = true

abbrev pub holds_rerouting : Phase → Bool
holds_rerouting AtNull = false
holds_rerouting AtIdle = false
holds_rerouting AtHardWaiting = false
holds_rerouting AtHardUnderway = true
holds_rerouting AtSoftTriggered = false
holds_rerouting AtSoftProceeding = true
holds_rerouting AtSoftInitiated = true
holds_rerouting AtAwaiting = true

abbrev pub is_in : ℕ → Phase → Bool
is_in n phase = eqb (phase_number phase) n

abbrev pub is_over : Phase → Bool
is_over phase = eqb (phase_number phase) 0

abbrev pub is_hard_phase : Phase → Bool
is_hard_phase AtNull = false
is_hard_phase AtIdle = false
is_hard_phase AtHardWaiting = true
is_hard_phase AtHardUnderway = true
is_hard_phase AtSoftTriggered = false
is_hard_phase AtSoftProceeding = false
is_hard_phase AtSoftInitiated = false
is_hard_phase AtAwaiting = false
