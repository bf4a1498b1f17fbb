-- What is claimed of the words of a signal. Proofs: proofs/Claims.antt. Assumes nothing.
use Rattle.std.specs.Prelude.{ℕ, List, [], ◌∷◌, map, ◌≡◌}
use Prim.Native.String.{String}
use Rattle.lines.specs.Lines.{ascii}
use Rattle.signal.specs.declared.CauseCode.{CauseCode}
use Rattle.signal.specs.declared.CauseCode.TheVariants.{Section66, CallRejected}
use Rattle.signal.specs.declared.Kind.{Kind}
use Rattle.signal.specs.declared.Kind.TheVariants.{TimerStart, TimerStop, Switch, CallingRelease, IncumbentRelease}
use Rattle.signal.specs.declared.Kind.TheVariants.{ReroutingRelease, SetupRequest, ConnectRequest, Rejection, CalledRelease}
use Rattle.signal.specs.declared.SentCause.{SentCause}
use Rattle.signal.specs.declared.SentCause.TheVariants.{Absent, Numbered, AsReceived}
use Rattle.signal.specs.declared.Signal.{Signal}
use Rattle.signal.specs.Signals.{places}
use Rattle.signal_words.specs.Words.{signals_text}

-- signals in the first of the four places, and what is printed of the four
pub record Sample : Type 0 where
  pub signals : List Signal
  pub shown : String

abbrev pub sample : List Signal → String → Sample
sample signals shown = record { signals = places signals; shown = shown }

abbrev pub signal : Kind → ℕ → SentCause → CauseCode → Signal
signal kind connection cause code = record { kind = kind; connection = connection; cause = cause; code = code }

-- the eleven kinds (01, "Signals"; 02, Ask 2; decision 16), those that name a connection with one; the two sides, the timer and a reject
-- have none
abbrev pub kinds : List Sample
kinds =
    sample [] "-"
    ∷ sample (signal TimerStart 0 Absent Section66 ∷ []) "timer start"
    ∷ sample (signal TimerStop 0 Absent Section66 ∷ []) "timer stop"
    ∷ sample (signal Switch 12 Absent Section66 ∷ []) "switch 12"
    ∷ sample (signal CallingRelease 0 Absent Section66 ∷ []) "release calling"
    ∷ sample (signal IncumbentRelease 34 Absent Section66 ∷ []) "release incumbent 34"
    ∷ sample (signal ReroutingRelease 56 Absent Section66 ∷ []) "release rerouting 56"
    ∷ sample (signal SetupRequest 78 Absent Section66 ∷ []) "setup 78"
    ∷ sample (signal ConnectRequest 90 Absent Section66 ∷ []) "connect 90"
    ∷ sample (signal Rejection 0 Absent Section66 ∷ []) "reject"
    ∷ sample (signal CalledRelease 0 Absent Section66 ∷ []) "release called"
    ∷ []

-- the Rerouting cause absent, a number, or as received; then the Cause code where it is #21; and two signals parted by a comma
abbrev pub causes : List Sample
causes =
    sample (signal CallingRelease 0 (Numbered (record { number = 2 })) Section66 ∷ []) "release calling #2"
    ∷ sample (signal Rejection 0 (Numbered (record { number = 8 })) Section66 ∷ []) "reject #8"
    ∷ sample (signal IncumbentRelease 1 (AsReceived (record { number = 255 })) Section66 ∷ []) "release incumbent 1 =255"
    ∷ sample (signal ReroutingRelease 5 Absent CallRejected ∷ []) "release rerouting 5 cause 21"
    ∷ sample (signal ReroutingRelease 5 (Numbered (record { number = 0 })) CallRejected ∷ []) "release rerouting 5 #0 cause 21"
    ∷ sample (signal TimerStop 0 Absent Section66 ∷ signal Switch 9 Absent Section66 ∷ []) "timer stop, switch 9"
    ∷ sample (signal Switch 4 Absent Section66 ∷ signal IncumbentRelease 3 (Numbered (record { number = 4 })) Section66 ∷ [])
    "switch 4, release incumbent 3 #4"
    ∷ []

-- Every word of a signal is printed as docs/CELLS.md has it.
abbrev pub EveryWord : Type 0
EveryWord =
    (map (λ t. signals_text t.signals) kinds ≡ map (λ t. ascii t.shown) kinds)
    × (map (λ t. signals_text t.signals) causes ≡ map (λ t. ascii t.shown) causes)
