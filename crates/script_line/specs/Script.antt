-- A line of a script, by cases, over the octets of it that are left (docs/BENCH.md, "script"). Assumes nothing.
use Rattle.std.specs.Prelude.{ℕ, Bool, true, false, cond, List, Option, Some, None, Result, Ok, Err}
use Prim.Native.String.{String}
use Rattle.lines.specs.Lines.{ascii}
use Rattle.line_reader.specs.Words.{first_word, after_word, same_text}
use Rattle.line_reader.specs.Numbers.{number_up_to}
use Rattle.signal.specs.declared.Crankback.TheVariants.{NoCrankback, AlternateFound, NoAlternate}
use Rattle.signal.specs.declared.ReroutingCause.{ReroutingCause}
use Rattle.signal.specs.declared.Soft.{Soft}
use Rattle.signal.specs.declared.Soft.TheVariants.{NoSoft, Asymmetric, Symmetric}
use Rattle.events.specs.declared.Event.TheVariants.{Trigger, PathFound, NoPath, Connect, Setup, FromParty, FromDomain, Ready, Expiry}
use Rattle.events.specs.declared.Act.{Act}
use Rattle.events.specs.declared.Node.{Node}
use Rattle.events.specs.declared.Node.TheVariants.{Destination}
use Rattle.events.specs.declared.Act.TheVariants.{Opens, Meets}
use Rattle.script_line.specs.declared.Name.{Name}
use Rattle.script_line.specs.declared.Name.TheVariants.{OpenName, TriggerName, PathName, NoPathName, ConnectName, SetupName}
use Rattle.script_line.specs.declared.Name.TheVariants.{CallingName, CalledName, ReadyName, ExpiryName}
use Rattle.script_words.specs.declared.What.{What}
use Rattle.script_words.specs.declared.What.TheVariants.{AnEvent, AKey, HardOrEnd, ASoftService, AConnection, YesOrNo, ASwitchover}
use Rattle.script_words.specs.declared.What.TheVariants.{AnIncarnation, CauseOrEnd, ACause, CauseCrankbackOrEnd, CrankbackOrEnd}
use Rattle.script_words.specs.declared.What.TheVariants.{NothingMore}

-- a key and what is done with it; none, where there are no words; or what was expected
abbrev pub Parsed : Type 0
Parsed = Result (Option (ℕ × Act)) What

-- the empty name tells that there is no word
abbrev pub is_word : List ℕ → String → Bool
is_word word name = same_text word (ascii name)

-- an event that is only a key
unfoldable pub plain_name : List ℕ → Option Name
plain_name word =
    cond (is_word word "trigger") (Some TriggerName)
    (cond (is_word word "path") (Some PathName)
    (cond (is_word word "nopath") (Some NoPathName)
    (cond (is_word word "ready") (Some ReadyName)
    (cond (is_word word "expiry") (Some ExpiryName) None))))

-- an opening, or an event that may bring more than its key
unfoldable pub full_name : List ℕ → Option Name
full_name word =
    cond (is_word word "open") (Some OpenName)
    (cond (is_word word "connect") (Some ConnectName)
    (cond (is_word word "setup") (Some SetupName)
    (cond (is_word word "calling") (Some CallingName)
    (cond (is_word word "called") (Some CalledName) None))))

-- one name, or else another
abbrev pub or_named : Option Name → Option Name → Option Name
or_named None other = other
or_named (Some name) other = Some name

unfoldable pub name_of : List ℕ → Option Name
name_of word = or_named (plain_name word) (full_name word)

-- nothing may follow
unfoldable pub read_end : ℕ → Act → List ℕ → Parsed
read_end key act rest = cond (is_word (first_word rest) "") (Ok (Some (key, act))) (Err NothingMore)

abbrev pub read_services : ℕ → Bool → Soft → List ℕ → Parsed
read_services key hard soft rest = read_end key (Opens (Some (record { hard = hard; soft = soft }))) rest

unfoldable pub read_soft : ℕ → Bool → List ℕ → Parsed
read_soft key hard rest =
    cond (is_word (first_word rest) "none") (read_services key hard NoSoft (after_word rest))
    (cond (is_word (first_word rest) "asymmetric") (read_services key hard Asymmetric (after_word rest))
    (cond (is_word (first_word rest) "symmetric") (read_services key hard Symmetric (after_word rest)) (Err ASoftService)))

unfoldable pub read_open : ℕ → List ℕ → Parsed
read_open key rest =
    cond (is_word (first_word rest) "") (Ok (Some (key, Opens None)))
    (cond (is_word (first_word rest) "hard") (read_soft key true (after_word rest))
    (cond (is_word (first_word rest) "nohard") (read_soft key false (after_word rest)) (Err HardOrEnd)))

unfoldable pub read_policy : ℕ → ℕ → List ℕ → Parsed
read_policy key connection rest =
    cond (is_word (first_word rest) "yes") (read_end key (Meets (Connect connection true)) (after_word rest))
    (cond (is_word (first_word rest) "no") (read_end key (Meets (Connect connection false)) (after_word rest)) (Err YesOrNo))

-- a number, and then what depends on it
abbrev pub with_number : Option ℕ → What → (ℕ → Parsed) → Parsed
with_number None what further = Err what
with_number (Some n) what further = further n

unfoldable pub read_connect : ℕ → List ℕ → Parsed
read_connect key rest = with_number (number_up_to 65535 (first_word rest)) AConnection (λ n. read_policy key n (after_word rest))

-- a switchover by its name or its number
unfoldable pub read_code : List ℕ → Option ℕ
read_code word = cond (is_word word "clearing") (Some 1) (cond (is_word word "immediate") (Some 0) (number_up_to 255 word))

unfoldable pub read_incarnation : ℕ → ℕ → List ℕ → Parsed
read_incarnation key code rest =
    with_number (number_up_to 4294967295 (first_word rest)) AnIncarnation
    (λ n. read_end key (Meets (Setup (record { code = code }) n)) (after_word rest))

unfoldable pub read_setup : ℕ → List ℕ → Parsed
read_setup key rest = with_number (read_code (first_word rest)) ASwitchover (λ code. read_incarnation key code (after_word rest))

unfoldable pub read_calling_cause : ℕ → List ℕ → Parsed
read_calling_cause key rest =
    with_number (number_up_to 255 (first_word rest)) ACause
    (λ n. read_end key (Meets (FromParty (Some (record { number = n })))) (after_word rest))

unfoldable pub read_calling : ℕ → List ℕ → Parsed
read_calling key rest =
    cond (is_word (first_word rest) "") (Ok (Some (key, Meets (FromParty None))))
    (cond (is_word (first_word rest) "cause") (read_calling_cause key (after_word rest)) (Err CauseOrEnd))

-- the crankback of a release, or nothing; what else was expected depends on what stands before
unfoldable pub read_crankback : ℕ → ℕ → Option ReroutingCause → What → List ℕ → Parsed
read_crankback key connection cause what rest =
    cond (is_word (first_word rest) "") (Ok (Some (key, Meets (FromDomain connection cause NoCrankback))))
    (cond (is_word (first_word rest) "alternate") (read_end key (Meets (FromDomain connection cause AlternateFound)) (after_word rest))
    (cond (is_word (first_word rest) "noalternate") (read_end key (Meets (FromDomain connection cause NoAlternate)) (after_word rest))
    (Err what)))

unfoldable pub read_called_cause : ℕ → ℕ → List ℕ → Parsed
read_called_cause key connection rest =
    with_number (number_up_to 255 (first_word rest)) ACause
    (λ n. read_crankback key connection (Some (record { number = n })) CrankbackOrEnd (after_word rest))

unfoldable pub read_release : ℕ → ℕ → List ℕ → Parsed
read_release key connection rest =
    cond (is_word (first_word rest) "cause") (read_called_cause key connection (after_word rest))
    (read_crankback key connection None CauseCrankbackOrEnd rest)

unfoldable pub read_called : ℕ → List ℕ → Parsed
read_called key rest = with_number (number_up_to 65535 (first_word rest)) AConnection (λ n. read_release key n (after_word rest))

-- what follows the key
abbrev pub read_arguments : Name → ℕ → List ℕ → Parsed
read_arguments OpenName key rest = read_open key rest
read_arguments TriggerName key rest = read_end key (Meets Trigger) rest
read_arguments PathName key rest = read_end key (Meets PathFound) rest
read_arguments NoPathName key rest = read_end key (Meets NoPath) rest
read_arguments ConnectName key rest = read_connect key rest
read_arguments SetupName key rest = read_setup key rest
read_arguments CallingName key rest = read_calling key rest
read_arguments CalledName key rest = read_called key rest
read_arguments ReadyName key rest = read_end key (Meets Ready) rest
read_arguments ExpiryName key rest = read_end key (Meets Expiry) rest

unfoldable pub read_keyed : Name → List ℕ → Parsed
read_keyed name rest = with_number (number_up_to 4294967295 (first_word rest)) AKey (λ key. read_arguments name key (after_word rest))

-- the name of a release at an end: at the destination it is the calling side's that names a connection
abbrev pub name_at : Name → Node → Name
name_at CallingName Destination = CalledName
name_at CalledName Destination = CallingName
name_at name _ = name

abbrev pub read_named : Node → Option Name → List ℕ → Parsed
read_named node None rest = Err AnEvent
read_named node (Some name) rest = read_keyed (name_at name node) rest

unfoldable pub parsed_of : Node → List ℕ → Parsed
parsed_of node line = cond (is_word (first_word line) "") (Ok None) (read_named node (name_of (first_word line)) (after_word line))
