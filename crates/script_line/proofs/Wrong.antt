-- Two wrong answers of each public function of script_line. Each theorem speaks of the function's contract as the
-- prover makes it from the source: that its `ensures` holds of the wrong answer, with any value where a variable stands,
-- is false. Assumes nothing.
use Rattle.std.specs.Prelude.{Option}
use Prim.Native.Nat.{ℕ}
use native.Mathlib.Omega.{arith}
use mathlib.Core.List.{List, []}
use mathlib.Core.Path.{◌≡◌, ap}
use lib.ListN.{get_or}
use seplogic.Ra.Ura.{Ura}
use base.Logic.{SProp, ent}
use contract.Lifetimes.{Lfts}
use contract.Monad.{Fun, fact, fact_mono}
use denote.Ref.{Bor}
use types.Logic.{Logic}
use prog.Memory.{Memory}
use prog.Routine.{Routine}
use Rattle.std.proofs.Common.{Some, None, Ok, Err}
use Rattle.event_record.specs.Encoded.{octets_written}
use Rattle.events.specs.declared.Act.TheVariants.{Meets}
use Rattle.events.specs.declared.Node.TheVariants.{Source}
use Rattle.events.specs.declared.Event.TheVariants.{FromDomain, Setup}
use Rattle.line_reader.specs.Numbers.{number_up_to}
use Rattle.line_reader.specs.Words.{first_word, after_word}
use Rattle.lines.specs.Lines.{ascii}
use Rattle.script_line.specs.Script.{Parsed, read_called, read_code, read_crankback, read_end, read_incarnation}
use Rattle.script_line.specs.Script.{full_name, read_keyed, name_of, parsed_of, plain_name, read_release, read_setup}
use Rattle.signal.specs.declared.Crankback.TheVariants.{NoAlternate}
use Rattle.signal.specs.declared.ReroutingCause.{ReroutingCause}
use Rattle.script_line.specs.contracts.parse as parse

-- something that is lent; where it stands says nothing here
abbrev lent : {X : Type 0} → X → Bor X
lent xs = record { ref_ptr = (0, 0); now = xs }

-- the record that is written of what a line is read as: its octet 1 is the switchover code, and its octet 3 the crankback
abbrev written : Parsed → List ℕ
written (Ok None) = []
written (Ok (Some (key, act))) = octets_written key act
written (Err what) = []

module _ {M : Type 1} {𝓤 : Ura M} (𝓛 : Logic 𝓤) (memory : Memory → SProp 𝓤) (run : Routine → Fun 𝓤) where
  -- it is false: the logic proves falsity from it
  abbrev NeverHolds : SProp 𝓤 → Type 1
  NeverHolds says = ent 𝓤 says (fact 𝓤 ⊥)

  -- parse: of a line at the source, what it is read as
  abbrev parse_shuts_out : List ℕ → Parsed → Type 1
  parse_shuts_out line r =
      (κs : Lfts 1) → NeverHolds ((parse.clauses 𝓛 memory run κs (Source, (lent line, tt))).ensures tt r (Source, (lent line, tt)))

  -- `immediate` is the switchover code 0 (docs/BENCH.md, "script")
  pub immediate_is_code_1 :
      (key number : ℕ) →
      parse_shuts_out (ascii "setup 7 immediate 3") (Ok (Some (key, Meets (Setup (record { code = 1 }) number))))
  unfolding first_word after_word number_up_to plain_name full_name name_of read_end read_code read_incarnation read_setup read_keyed parsed_of
  immediate_is_code_1 key number κs =
      fact_mono 𝓤 _ _ (λ h. let z : ◌≡◌ {A = ℕ} 1 _ = ap (λ (p : Parsed). get_or (written p) 1 0) h in omega arith)

  -- `alternate` is an alternate found
  pub alternate_taken_for_none_found :
      (key connection : ℕ) (cause : Option ReroutingCause) →
      parse_shuts_out (ascii "called 7 3 alternate") (Ok (Some (key, Meets (FromDomain connection cause NoAlternate))))
  unfolding first_word after_word number_up_to plain_name full_name name_of read_end read_crankback read_release read_called read_keyed parsed_of
  alternate_taken_for_none_found key connection cause κs =
      fact_mono 𝓤 _ _ (λ h. let z : ◌≡◌ {A = ℕ} 2 _ = ap (λ (p : Parsed). get_or (written p) 3 0) h in omega arith)
