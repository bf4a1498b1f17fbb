-- The numbers of every event that a line is read as have a place in a record. Assumes nothing.
use Rattle.std.specs.Prelude.{None, Option, Some}
use Prim.Native.Nat.{ℕ, ◌≤◌, ◌<◌}
use native.Mathlib.Omega.{arith}
use mathlib.Core.Path.{◌≡◌, refl}
use mathlib.Core.Bool.{Bool, true, false, cond}
use mathlib.Core.List.{List}
use Rattle.std.proofs.Common.{Option, Some, None, Ok, Err}
use Rattle.line_reader.specs.Words.{first_word, after_word}
use Rattle.line_reader.specs.Numbers.{number_up_to}
use Rattle.line_reader.proofs.Numbers.{at_most}
use Rattle.signal.specs.declared.ReroutingCause.{ReroutingCause}
use Rattle.events.specs.declared.Act.{Act}
use Rattle.events.specs.declared.Node.{Node}
use Rattle.event_record.specs.Claims.{CauseFits, Fits}
use Rattle.script_words.specs.declared.What.{What}
use Rattle.script_line.specs.declared.Name.{Name}
use Rattle.script_line.specs.declared.Name.TheVariants.{OpenName, TriggerName, PathName, NoPathName, ConnectName, SetupName}
use Rattle.script_line.specs.declared.Name.TheVariants.{CallingName, CalledName, ReadyName, ExpiryName}
use Rattle.script_line.specs.Script.{Parsed, is_word, name_of, read_end, read_soft, read_open, read_policy, with_number, read_connect, read_code}
use Rattle.script_line.specs.Script.{read_incarnation, read_setup, read_calling_cause, read_calling, read_crankback, read_called_cause}
use Rattle.script_line.specs.Script.{read_release, read_called, read_arguments, read_keyed, name_at, read_named, parsed_of}
use Rattle.script_line.proofs.Laws.{code_at_most}

abbrev Meaning : Parsed → Type 0
Meaning (Ok None) = Unit {0}
Meaning (Ok (Some (key, act))) = Fits key act
Meaning (Err what) = Unit {0}

pub record Sound (parsed : Parsed) : Type 0 where
  pub meaning : Meaning parsed

told : {key : ℕ} {act : Act} → Fits key act → Sound (Ok (Some (key, act)))
told fits = record { meaning = fits }

expected : {what : What} → Sound (Err what)
expected = record { meaning = tt }

pub fits_of : (key : ℕ) (act : Act) → Sound (Ok (Some (key, act))) → Fits key act
fits_of key act sound = sound.meaning

-- either way, and with whatever number is read
either : (t : Bool) {x y : Parsed} → Sound x → Sound y → Sound (cond t x y)
either true a b = a
either false a b = b

of_reading : (limit : ℕ) (reading : Option ℕ) (what : What) (further : ℕ → Parsed) → ((n : ℕ) → reading ≡ Some n → n ≤ limit) →
    ((n : ℕ) → n ≤ limit → Sound (further n)) → Sound (with_number reading what further)
of_reading limit None what further most sound = expected
of_reading limit (Some n) what further most sound = sound n (most n refl)

of_number : (limit : ℕ) (word : List ℕ) (what : What) (further : ℕ → Parsed) → ((n : ℕ) → n ≤ limit → Sound (further n)) →
    Sound (with_number (number_up_to limit word) what further)
of_number limit word what further sound = of_reading limit (number_up_to limit word) what further (at_most limit word) sound

end_sound : (key : ℕ) (act : Act) (rest : List ℕ) → Fits key act → Sound (read_end key act rest)
unfolding read_end
end_sound key act rest fits = either (is_word (first_word rest) "") (told fits) expected

module _ (key : ℕ) (k : key < 4294967296) where
  soft_sound : (hard : Bool) (rest : List ℕ) → Sound (read_soft key hard rest)
  unfolding read_soft
  soft_sound hard rest =
      either (is_word (first_word rest) "none") (end_sound key _ _ (k, tt))
      (either (is_word (first_word rest) "asymmetric") (end_sound key _ _ (k, tt))
      (either (is_word (first_word rest) "symmetric") (end_sound key _ _ (k, tt)) expected))

  open_sound : (rest : List ℕ) → Sound (read_open key rest)
  unfolding read_open
  open_sound rest =
      either (is_word (first_word rest) "") (told (k, tt))
      (either (is_word (first_word rest) "hard") (soft_sound true (after_word rest))
      (either (is_word (first_word rest) "nohard") (soft_sound false (after_word rest)) expected))

  policy_sound : (c : ℕ) (rest : List ℕ) → c < 65536 → Sound (read_policy key c rest)
  unfolding read_policy
  policy_sound c rest h =
      either (is_word (first_word rest) "yes") (end_sound key _ _ (k, h))
      (either (is_word (first_word rest) "no") (end_sound key _ _ (k, h)) expected)

  connect_sound : (rest : List ℕ) → Sound (read_connect key rest)
  unfolding read_connect
  connect_sound rest = of_number 65535 (first_word rest) _ _ (λ c h. policy_sound c (after_word rest) (omega arith))

  incarnation_sound : (code : ℕ) (rest : List ℕ) → code < 256 → Sound (read_incarnation key code rest)
  unfolding read_incarnation
  incarnation_sound code rest h = of_number 4294967295 (first_word rest) _ _ (λ n l. end_sound key _ _ (k, (h, omega arith)))

  setup_sound : (rest : List ℕ) → Sound (read_setup key rest)
  unfolding read_setup
  setup_sound rest =
      of_reading 255 (read_code (first_word rest)) _ _ (code_at_most (first_word rest))
      (λ code h. incarnation_sound code (after_word rest) (omega arith))

  calling_cause_sound : (rest : List ℕ) → Sound (read_calling_cause key rest)
  unfolding read_calling_cause
  calling_cause_sound rest = of_number 255 (first_word rest) _ _ (λ n h. end_sound key _ _ (k, omega arith))

  calling_sound : (rest : List ℕ) → Sound (read_calling key rest)
  unfolding read_calling
  calling_sound rest =
      either (is_word (first_word rest) "") (told (k, tt))
      (either (is_word (first_word rest) "cause") (calling_cause_sound (after_word rest)) expected)

  crankback_sound : (c : ℕ) (cause : Option ReroutingCause) (what : What) (rest : List ℕ) → c < 65536 → CauseFits cause →
      Sound (read_crankback key c cause what rest)
  unfolding read_crankback
  crankback_sound c cause what rest h f =
      either (is_word (first_word rest) "") (told (k, (h, f)))
      (either (is_word (first_word rest) "alternate") (end_sound key _ _ (k, (h, f)))
      (either (is_word (first_word rest) "noalternate") (end_sound key _ _ (k, (h, f))) expected))

  called_cause_sound : (c : ℕ) (rest : List ℕ) → c < 65536 → Sound (read_called_cause key c rest)
  unfolding read_called_cause
  called_cause_sound c rest h =
      of_number 255 (first_word rest) _ _ (λ n l. crankback_sound c (Some (record { number = n })) _ (after_word rest) h (omega arith))

  release_sound : (c : ℕ) (rest : List ℕ) → c < 65536 → Sound (read_release key c rest)
  unfolding read_release
  release_sound c rest h =
      either (is_word (first_word rest) "cause") (called_cause_sound c (after_word rest) h) (crankback_sound c None _ rest h tt)

  called_sound : (rest : List ℕ) → Sound (read_called key rest)
  unfolding read_called
  called_sound rest = of_number 65535 (first_word rest) _ _ (λ c h. release_sound c (after_word rest) (omega arith))

  arguments_sound : (name : Name) (rest : List ℕ) → Sound (read_arguments name key rest)
  arguments_sound OpenName rest = open_sound rest
  arguments_sound TriggerName rest = end_sound key _ rest (k, tt)
  arguments_sound PathName rest = end_sound key _ rest (k, tt)
  arguments_sound NoPathName rest = end_sound key _ rest (k, tt)
  arguments_sound ConnectName rest = connect_sound rest
  arguments_sound SetupName rest = setup_sound rest
  arguments_sound CallingName rest = calling_sound rest
  arguments_sound CalledName rest = called_sound rest
  arguments_sound ReadyName rest = end_sound key _ rest (k, tt)
  arguments_sound ExpiryName rest = end_sound key _ rest (k, tt)

named_sound : (node : Node) (naming : Option Name) (rest : List ℕ) → Sound (read_named node naming rest)
unfolding read_keyed
named_sound node None rest = expected
named_sound node (Some name) rest =
    of_number 4294967295 (first_word rest) _ _ (λ key h. arguments_sound key (omega arith) (name_at name node) (after_word rest))

pub parsed_sound : (node : Node) (line : List ℕ) → Sound (parsed_of node line)
unfolding parsed_of
parsed_sound node line =
    either (is_word (first_word line) "") (record { meaning = tt }) (named_sound node (name_of (first_word line)) (after_word line))
