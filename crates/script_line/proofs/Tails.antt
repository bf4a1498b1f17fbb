-- A line is read as it is without what changes none of its words: a tail that is no word, such as a comment, or a blank at the end. Assumes
-- nothing.
use Rattle.std.specs.Prelude.{Option}
use Prim.Native.Nat.{ℕ}
use mathlib.Core.Path.{◌≡◌, refl, ◌∙◌, ap}
use mathlib.Core.Bool.{Bool}
use mathlib.Core.List.{List, ◌++◌}
use mathlib.Core.Logic.{◌⊎◌, ⊎_elim}
use Rattle.std.proofs.Common.{Option, Some, None}
use Rattle.line_reader.specs.Words.{first_word, after_word}
use Rattle.signal.specs.declared.ReroutingCause.{ReroutingCause}
use Rattle.events.specs.declared.Act.{Act}
use Rattle.events.specs.declared.Node.{Node}
use Rattle.script_words.specs.declared.What.{What}
use Rattle.script_line.specs.declared.Name.{Name}
use Rattle.script_line.specs.declared.Name.TheVariants.{OpenName, TriggerName, PathName, NoPathName, ConnectName, SetupName}
use Rattle.script_line.specs.declared.Name.TheVariants.{CallingName, CalledName, ReadyName, ExpiryName}
use Rattle.script_line.specs.Script.{Parsed, read_end, read_soft, read_open, read_policy, read_connect, read_incarnation, read_setup}
use Rattle.script_line.specs.Script.{read_calling_cause, read_calling, read_crankback, read_called_cause, read_release, read_called}
use Rattle.script_line.specs.Script.{read_arguments, read_keyed, read_named, parsed_of}

module _ (tail : List ℕ) (first : (rest : List ℕ) → first_word (rest ++ tail) ≡ first_word rest)
    (after : (rest : List ℕ) → (after_word (rest ++ tail) ≡ after_word rest ++ tail) ⊎ (after_word (rest ++ tail) ≡ after_word rest)) where
  -- what does not see the tail does not see it behind a word either
  behind : (read : List ℕ → Parsed) → ((rest : List ℕ) → read (rest ++ tail) ≡ read rest) → (rest : List ℕ) →
      read (after_word (rest ++ tail)) ≡ read (after_word rest)
  behind read same rest = ⊎_elim (λ e. ap read e ∙ same (after_word rest)) (λ e. ap read e) (after rest)

  end_same : (key : ℕ) (act : Act) (rest : List ℕ) → read_end key act (rest ++ tail) ≡ read_end key act rest
  unfolding read_end
  end_same key act rest = simp (first)

  end_behind : (key : ℕ) (act : Act) (rest : List ℕ) → read_end key act (after_word (rest ++ tail)) ≡ read_end key act (after_word rest)
  end_behind key act rest = behind (read_end key act) (end_same key act) rest

  soft_same : (key : ℕ) (hard : Bool) (rest : List ℕ) → read_soft key hard (rest ++ tail) ≡ read_soft key hard rest
  unfolding read_soft
  soft_same key hard rest = simp (first, end_behind)

  soft_behind : (key : ℕ) (hard : Bool) (rest : List ℕ) → read_soft key hard (after_word (rest ++ tail)) ≡ read_soft key hard (after_word rest)
  soft_behind key hard rest = behind (read_soft key hard) (soft_same key hard) rest

  open_same : (key : ℕ) (rest : List ℕ) → read_open key (rest ++ tail) ≡ read_open key rest
  unfolding read_open
  open_same key rest = simp (first, soft_behind)

  policy_same : (key c : ℕ) (rest : List ℕ) → read_policy key c (rest ++ tail) ≡ read_policy key c rest
  unfolding read_policy
  policy_same key c rest = simp (first, end_behind)

  policy_behind : (key c : ℕ) (rest : List ℕ) → read_policy key c (after_word (rest ++ tail)) ≡ read_policy key c (after_word rest)
  policy_behind key c rest = behind (read_policy key c) (policy_same key c) rest

  connect_same : (key : ℕ) (rest : List ℕ) → read_connect key (rest ++ tail) ≡ read_connect key rest
  unfolding read_connect
  connect_same key rest = simp (first, policy_behind)

  incarnation_same : (key code : ℕ) (rest : List ℕ) → read_incarnation key code (rest ++ tail) ≡ read_incarnation key code rest
  unfolding read_incarnation
  incarnation_same key code rest = simp (first, end_behind)

  incarnation_behind : (key code : ℕ) (rest : List ℕ) →
      read_incarnation key code (after_word (rest ++ tail)) ≡ read_incarnation key code (after_word rest)
  incarnation_behind key code rest = behind (read_incarnation key code) (incarnation_same key code) rest

  setup_same : (key : ℕ) (rest : List ℕ) → read_setup key (rest ++ tail) ≡ read_setup key rest
  unfolding read_setup
  setup_same key rest = simp (first, incarnation_behind)

  calling_cause_same : (key : ℕ) (rest : List ℕ) → read_calling_cause key (rest ++ tail) ≡ read_calling_cause key rest
  unfolding read_calling_cause
  calling_cause_same key rest = simp (first, end_behind)

  calling_cause_behind : (key : ℕ) (rest : List ℕ) → read_calling_cause key (after_word (rest ++ tail)) ≡ read_calling_cause key (after_word rest)
  calling_cause_behind key rest = behind (read_calling_cause key) (calling_cause_same key) rest

  calling_same : (key : ℕ) (rest : List ℕ) → read_calling key (rest ++ tail) ≡ read_calling key rest
  unfolding read_calling
  calling_same key rest = simp (first, calling_cause_behind)

  crankback_same : (key c : ℕ) (cause : Option ReroutingCause) (what : What) (rest : List ℕ) →
      read_crankback key c cause what (rest ++ tail) ≡ read_crankback key c cause what rest
  unfolding read_crankback
  crankback_same key c cause what rest = simp (first, end_behind)

  crankback_behind : (key c : ℕ) (cause : Option ReroutingCause) (what : What) (rest : List ℕ) →
      read_crankback key c cause what (after_word (rest ++ tail)) ≡ read_crankback key c cause what (after_word rest)
  crankback_behind key c cause what rest = behind (read_crankback key c cause what) (crankback_same key c cause what) rest

  called_cause_same : (key c : ℕ) (rest : List ℕ) → read_called_cause key c (rest ++ tail) ≡ read_called_cause key c rest
  unfolding read_called_cause
  called_cause_same key c rest = simp (first, crankback_behind)

  called_cause_behind : (key c : ℕ) (rest : List ℕ) →
      read_called_cause key c (after_word (rest ++ tail)) ≡ read_called_cause key c (after_word rest)
  called_cause_behind key c rest = behind (read_called_cause key c) (called_cause_same key c) rest

  release_same : (key c : ℕ) (rest : List ℕ) → read_release key c (rest ++ tail) ≡ read_release key c rest
  unfolding read_release
  release_same key c rest = simp (first, called_cause_behind, crankback_same)

  release_behind : (key c : ℕ) (rest : List ℕ) → read_release key c (after_word (rest ++ tail)) ≡ read_release key c (after_word rest)
  release_behind key c rest = behind (read_release key c) (release_same key c) rest

  called_same : (key : ℕ) (rest : List ℕ) → read_called key (rest ++ tail) ≡ read_called key rest
  unfolding read_called
  called_same key rest = simp (first, release_behind)

  arguments_same : (name : Name) (key : ℕ) (rest : List ℕ) → read_arguments name key (rest ++ tail) ≡ read_arguments name key rest
  arguments_same OpenName key rest = open_same key rest
  arguments_same TriggerName key rest = end_same key _ rest
  arguments_same PathName key rest = end_same key _ rest
  arguments_same NoPathName key rest = end_same key _ rest
  arguments_same ConnectName key rest = connect_same key rest
  arguments_same SetupName key rest = setup_same key rest
  arguments_same CallingName key rest = calling_same key rest
  arguments_same CalledName key rest = called_same key rest
  arguments_same ReadyName key rest = end_same key _ rest
  arguments_same ExpiryName key rest = end_same key _ rest

  arguments_behind : (name : Name) (key : ℕ) (rest : List ℕ) →
      read_arguments name key (after_word (rest ++ tail)) ≡ read_arguments name key (after_word rest)
  arguments_behind name key rest = behind (read_arguments name key) (arguments_same name key) rest

  named_same : (node : Node) (naming : Option Name) (rest : List ℕ) → read_named node naming (rest ++ tail) ≡ read_named node naming rest
  unfolding read_keyed
  named_same node None rest = refl
  named_same node (Some name) rest = simp (first, arguments_behind)

  named_behind : (node : Node) (naming : Option Name) (rest : List ℕ) →
      read_named node naming (after_word (rest ++ tail)) ≡ read_named node naming (after_word rest)
  named_behind node naming rest = behind (read_named node naming) (named_same node naming) rest

  pub parsed_same : (node : Node) (line : List ℕ) → parsed_of node (line ++ tail) ≡ parsed_of node line
  unfolding parsed_of
  parsed_same node line = simp (first, named_behind)
