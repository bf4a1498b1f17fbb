-- The claims on a line of a script (specs/Claims), proved. Assumes nothing.
use Rattle.std.specs.Prelude.{None, Option, Some}
use Prim.Native.Nat.{ℕ, ◌≤◌, ◌<◌}
use native.Mathlib.Omega.{arith}
use mathlib.Core.Path.{◌≡◌, refl, sym, ◌∙◌, ap, subst}
use mathlib.Core.Bool.{Bool, true, false, cond}
use mathlib.Core.List.{List, [], ◌∷◌, ◌++◌, append-nil, append_assoc}
use mathlib.Core.Logic.{inl}
use lib.Dec.{eqb}
use borrow.Author.Tests.{eqb-true}
use Rattle.std.proofs.Common.{Some, Ok}
use Rattle.lines.specs.Lines.{ascii}
use Rattle.line_reader.specs.Words.{first_word, after_word}
use Rattle.line_reader.specs.Numbers.{number_up_to}
use Rattle.line_reader.proofs.Claims.{comment_is_no_word, blank_behind_is_no_word}
use Rattle.signal.specs.declared.Crankback.{Crankback}
use Rattle.signal.specs.declared.Crankback.TheVariants.{NoCrankback, AlternateFound, NoAlternate}
use Rattle.signal.specs.declared.ReroutingCause.{ReroutingCause}
use Rattle.signal.specs.declared.Soft.{Soft}
use Rattle.signal.specs.declared.Soft.TheVariants.{NoSoft, Asymmetric, Symmetric}
use Rattle.signal.specs.declared.Services.{Services}
use Rattle.events.specs.declared.Event.{Event}
use Rattle.events.specs.declared.Event.TheVariants.{Trigger, PathFound, NoPath, Connect, Setup, FromParty, FromDomain, Ready, Expiry}
use Rattle.events.specs.declared.Act.{Act}
use Rattle.events.specs.declared.Node.{Node}
use Rattle.events.specs.declared.Node.TheVariants.{Source, Destination}
use Rattle.events.specs.declared.Act.TheVariants.{Opens, Meets}
use Rattle.event_record.specs.Claims.{Fits, CauseFits}
use Rattle.event_record.proofs.Claims.{read_back}
use Rattle.event_words.specs.Words.{then_number, hard_text, soft_text, wanted_text, policy_text, switchover_text, received_cause_text}
use Rattle.event_words.specs.Words.{crankback_text, values_text, brought_text, event_text}
use Rattle.script_words.specs.declared.What.{What}
use Rattle.script_words.specs.declared.What.TheVariants.{AKey, AConnection, AnIncarnation, ACause, CauseCrankbackOrEnd, CrankbackOrEnd}
use Rattle.script_line.specs.declared.Name.{Name}
use Rattle.script_line.specs.declared.Name.TheVariants.{OpenName, TriggerName, PathName, NoPathName, ConnectName, SetupName}
use Rattle.script_line.specs.declared.Name.TheVariants.{CallingName, CalledName, ReadyName, ExpiryName}
use Rattle.script_line.specs.Script.{Parsed, plain_name, full_name, name_of, read_end, read_soft, read_open, read_policy, with_number, read_connect}
use Rattle.script_line.specs.Script.{read_code, read_incarnation, read_setup, read_calling_cause, read_calling, read_crankback}
use Rattle.script_line.specs.Script.{read_called_cause, read_release, read_called, read_arguments, read_keyed, parsed_of}
use Rattle.script_line.specs.Claims as claim
use Rattle.script_line.proofs.Fits.{Sound, fits_of, parsed_sound}
use Rattle.script_line.proofs.Tails.{parsed_same}
use Rattle.script_line.proofs.Spelled.{Parted, number_first, number_after, number_reads, number_no_name}

-- what follows the key, and what follows a cause, starts with a blank or is nothing
crankback_parted : (back : Crankback) → Parted (crankback_text back)
crankback_parted NoCrankback = tt
crankback_parted AlternateFound = refl
crankback_parted NoAlternate = refl

cause_parted : (cause : Option ReroutingCause) (back : Crankback) → Parted (received_cause_text cause ++ crankback_text back)
cause_parted None back = crankback_parted back
cause_parted (Some c) back = refl

code_parted : (n : ℕ) (tail : List ℕ) → Parted (switchover_text n ++ tail)
code_parted n tail = by_tests (eqb n 0) (eqb n 1)
  where
    by_tests : (t u : Bool) → Parted (cond t (ascii " immediate") (cond u (ascii " clearing") (then_number n)) ++ tail)
    by_tests true u = refl
    by_tests false true = refl
    by_tests false false = refl

event_parted : (e : Event) → Parted (values_text e)
event_parted Trigger = tt
event_parted PathFound = tt
event_parted NoPath = tt
event_parted (Connect c policy) = refl
event_parted (Setup s n) = code_parted s.code (then_number n)
event_parted (FromParty None) = tt
event_parted (FromParty (Some c)) = refl
event_parted (FromDomain c cause back) = refl
event_parted Ready = tt
event_parted Expiry = tt

hard_parted : (hard : Bool) (tail : List ℕ) → Parted (hard_text hard ++ tail)
hard_parted true tail = refl
hard_parted false tail = refl

parted : (act : Act) → Parted (brought_text act)
parted (Opens None) = tt
parted (Opens (Some s)) = hard_parted s.hard (soft_text s.soft)
parted (Meets e) = event_parted e

-- a number that fits is read, and what is to come follows it
reads : (limit n : ℕ) (what : What) (tail : List ℕ) (further : ℕ → List ℕ → Parsed) → n ≤ limit → Parted tail →
    with_number (number_up_to limit (first_word (then_number n ++ tail))) what
    (λ m. further m (after_word (then_number n ++ tail))) ≡ further n tail
reads limit n what tail further h p = rw (number_first n tail p, number_reads limit n h) (ap (further n) (number_after n tail p))

-- a number at the end of a line
at_end : (n : ℕ) → then_number n ≡ then_number n ++ []
at_end n = sym (append-nil (then_number n))

opens : (key : ℕ) (hard : Bool) (soft : Soft) →
    read_open key (hard_text hard ++ soft_text soft) ≡ Ok (Some (key, Opens (Some (record { hard = hard; soft = soft }))))
unfolding read_open read_soft read_end first_word after_word
opens key true NoSoft = refl
opens key true Asymmetric = refl
opens key true Symmetric = refl
opens key false NoSoft = refl
opens key false Asymmetric = refl
opens key false Symmetric = refl

opens_wanted : (key : ℕ) (w : Option Services) → read_open key (wanted_text w) ≡ Ok (Some (key, Opens w))
unfolding read_open first_word
opens_wanted key None = refl
opens_wanted key (Some s) = opens key s.hard s.soft

policy_parted : (policy : Bool) → Parted (policy_text policy)
policy_parted true = refl
policy_parted false = refl

policy_told : (key c : ℕ) (policy : Bool) → read_policy key c (policy_text policy) ≡ Ok (Some (key, Meets (Connect c policy)))
unfolding read_policy read_end first_word after_word
policy_told key c true = refl
policy_told key c false = refl

connects : (key c : ℕ) (policy : Bool) → c < 65536 →
    read_connect key (then_number c ++ policy_text policy) ≡ Ok (Some (key, Meets (Connect c policy)))
unfolding read_connect
connects key c policy h =
    reads 65535 c AConnection (policy_text policy) (λ n rest. read_policy key n rest) (omega arith) (policy_parted policy)
    ∙ policy_told key c policy

-- a switchover by its name or its number
incarnation_told : (key code n : ℕ) → n < 4294967296 →
    read_incarnation key code (then_number n) ≡ Ok (Some (key, Meets (Setup (record { code = code }) n)))
unfolding read_incarnation read_end first_word
incarnation_told key code n h =
    ap (read_incarnation key code) (at_end n) ∙ reads 4294967295 n AnIncarnation []
    (λ m rest. read_end key (Meets (Setup (record { code = code }) m)) rest) (omega arith) tt

immediate_told : (key n : ℕ) → n < 4294967296 →
    read_setup key (ascii " immediate" ++ then_number n) ≡ Ok (Some (key, Meets (Setup (record { code = 0 }) n)))
unfolding read_setup read_code first_word after_word
immediate_told key n h = incarnation_told key 0 n h

clearing_told : (key n : ℕ) → n < 4294967296 →
    read_setup key (ascii " clearing" ++ then_number n) ≡ Ok (Some (key, Meets (Setup (record { code = 1 }) n)))
unfolding read_setup read_code first_word after_word
clearing_told key n h = incarnation_told key 1 n h

setups : (key code n : ℕ) → code < 256 → n < 4294967296 →
    read_setup key (switchover_text code ++ then_number n) ≡ Ok (Some (key, Meets (Setup (record { code = code }) n)))
unfolding read_setup read_code
setups key code n c h = by_tests (eqb code 0) (eqb code 1) refl refl
  where
    by_tests : (t u : Bool) → eqb code 0 ≡ t → eqb code 1 ≡ u →
        read_setup key (cond t (ascii " immediate") (cond u (ascii " clearing") (then_number code)) ++ then_number n)
        ≡ Ok (Some (key, Meets (Setup (record { code = code }) n)))
    by_tests true u e f = rw (eqb-true code 0 e) (immediate_told key n h)
    by_tests false true e f = rw (eqb-true code 1 f) (clearing_told key n h)
    by_tests false false e f =
        rw (
          number_first code (then_number n) refl,
          number_no_name code 99 _ (omega arith),
          number_no_name code 105 _ (omega arith),
          number_reads 255 code (omega arith),
          number_after code (then_number n) refl,
        )
        (incarnation_told key code n h)

calling_told : (key : ℕ) (cause : Option ReroutingCause) → CauseFits cause →
    read_calling key (received_cause_text cause) ≡ Ok (Some (key, Meets (FromParty cause)))
unfolding read_calling read_calling_cause read_end first_word after_word
calling_told key None h = refl
calling_told key (Some c) h =
    ap (read_calling_cause key) (at_end c.number)
    ∙ reads 255 c.number ACause [] (λ n rest. read_end key (Meets (FromParty (Some (record { number = n })))) rest) (omega arith) tt

crankback_told : (key c : ℕ) (cause : Option ReroutingCause) (what : What) (back : Crankback) →
    read_crankback key c cause what (crankback_text back) ≡ Ok (Some (key, Meets (FromDomain c cause back)))
unfolding read_crankback read_end first_word after_word
crankback_told key c cause what NoCrankback = refl
crankback_told key c cause what AlternateFound = refl
crankback_told key c cause what NoAlternate = refl

no_cause_told : (key c : ℕ) (back : Crankback) →
    read_release key c (crankback_text back) ≡ read_crankback key c None CauseCrankbackOrEnd (crankback_text back)
unfolding read_release first_word
no_cause_told key c NoCrankback = refl
no_cause_told key c AlternateFound = refl
no_cause_told key c NoAlternate = refl

release_told : (key c : ℕ) (cause : Option ReroutingCause) (back : Crankback) → CauseFits cause →
    read_release key c (received_cause_text cause ++ crankback_text back) ≡ Ok (Some (key, Meets (FromDomain c cause back)))
unfolding read_release read_called_cause first_word after_word
release_told key c None back h = no_cause_told key c back ∙ crankback_told key c None CauseCrankbackOrEnd back
release_told key c (Some cause) back h =
    reads 255 cause.number ACause (crankback_text back)
    (λ n rest. read_crankback key c (Some (record { number = n })) CrankbackOrEnd rest) (omega arith) (crankback_parted back)
    ∙ crankback_told key c (Some cause) CrankbackOrEnd back

called_told : (key c : ℕ) (cause : Option ReroutingCause) (back : Crankback) → c < 65536 → CauseFits cause →
    read_called key (then_number c ++ (received_cause_text cause ++ crankback_text back)) ≡ Ok (Some (key, Meets (FromDomain c cause back)))
unfolding read_called
called_told key c cause back h f =
    reads 65535 c AConnection (received_cause_text cause ++ crankback_text back) (λ n rest. read_release key n rest) (omega arith)
    (cause_parted cause back)
    ∙ release_told key c cause back f

-- the name, the key, and the rest
keyed_told : (name : Name) (key : ℕ) (rest : List ℕ) → key < 4294967296 → Parted rest →
    read_keyed name (then_number key ++ rest) ≡ read_arguments name key rest
unfolding read_keyed
keyed_told name key rest h p = reads 4294967295 key AKey rest (λ k more. read_arguments name k more) (omega arith) p

nothing_told : (key : ℕ) (act : Act) → read_end key act [] ≡ Ok (Some (key, act))
unfolding read_end first_word
nothing_told key act = refl

-- a release, by the name that its side has at an end
party_told : (node : Node) (key : ℕ) (cause : Option ReroutingCause) → key < 4294967296 → CauseFits cause →
    parsed_of node (event_text node key (Meets (FromParty cause))) ≡ Ok (Some (key, Meets (FromParty cause)))
unfolding parsed_of plain_name full_name name_of first_word after_word
party_told Source key cause h f = keyed_told CallingName key _ h (event_parted (FromParty cause)) ∙ calling_told key cause f
party_told Destination key cause h f = keyed_told CallingName key _ h (event_parted (FromParty cause)) ∙ calling_told key cause f

domain_told : (node : Node) (key c : ℕ) (cause : Option ReroutingCause) (back : Crankback) → key < 4294967296 → c < 65536 → CauseFits cause →
    parsed_of node (event_text node key (Meets (FromDomain c cause back))) ≡ Ok (Some (key, Meets (FromDomain c cause back)))
unfolding parsed_of plain_name full_name name_of first_word after_word
domain_told Source key c cause back h l f =
    keyed_told CalledName key _ h (event_parted (FromDomain c cause back)) ∙ called_told key c cause back l f
domain_told Destination key c cause back h l f =
    keyed_told CalledName key _ h (event_parted (FromDomain c cause back)) ∙ called_told key c cause back l f

event_told : (node : Node) (key : ℕ) (e : Event) → Fits key (Meets e) → parsed_of node (event_text node key (Meets e)) ≡ Ok (Some (key, Meets e))
unfolding parsed_of plain_name full_name name_of first_word after_word
event_told node key Trigger h = keyed_told TriggerName key [] h.0 tt ∙ nothing_told key (Meets Trigger)
event_told node key PathFound h = keyed_told PathName key [] h.0 tt ∙ nothing_told key (Meets PathFound)
event_told node key NoPath h = keyed_told NoPathName key [] h.0 tt ∙ nothing_told key (Meets NoPath)
event_told node key (Connect c policy) h =
    keyed_told ConnectName key _ h.0 (event_parted (Connect c policy)) ∙ connects key c policy h.1
event_told node key (Setup s n) h =
    keyed_told SetupName key _ h.0 (event_parted (Setup s n)) ∙ setups key s.code n h.1.0 h.1.1
event_told node key (FromParty cause) h = party_told node key cause h.0 h.1
event_told node key (FromDomain c cause back) h = domain_told node key c cause back h.0 h.1.0 h.1.1
event_told node key Ready h = keyed_told ReadyName key [] h.0 tt ∙ nothing_told key (Meets Ready)
event_told node key Expiry h = keyed_told ExpiryName key [] h.0 tt ∙ nothing_told key (Meets Expiry)

opening_told : (node : Node) (key : ℕ) (w : Option Services) → key < 4294967296 → parsed_of node (event_text node key (Opens w)) ≡ Ok (Some (key, Opens w))
unfolding parsed_of plain_name full_name name_of first_word after_word
opening_told node key w h = keyed_told OpenName key (wanted_text w) h (parted (Opens w)) ∙ opens_wanted key w

line_told : (node : Node) (key : ℕ) (act : Act) → Fits key act → parsed_of node (event_text node key act) ≡ Ok (Some (key, act))
line_told node key (Opens w) h = opening_told node key w h.0
line_told node key (Meets e) h = event_told node key e h

pub round_trip : claim.RoundTrip
round_trip node key act h = (line_told node key act h, read_back node key act h)

pub written_as_read : claim.WrittenAsRead
written_as_read node line key act e =
    let fits : Fits key act = fits_of key act (subst Sound e (parsed_sound node line)) in
    (fits, read_back node key act fits)

pub comments_are_not_read : claim.CommentsAreNotRead
comments_are_not_read node line comment =
    parsed_same (35 ∷ comment) (λ rest. (comment_is_no_word rest comment).0) (λ rest. inl (comment_is_no_word rest comment).1) node line

pub blanks_behind_are_not_read : claim.BlanksBehindAreNotRead
blanks_behind_are_not_read node line b blank =
    parsed_same (b ∷ []) (λ rest. (blank_behind_is_no_word rest b blank).0) (λ rest. (blank_behind_is_no_word rest b blank).1) node line

pub listed_is_read : claim.ListedIsRead
listed_is_read node key act comment fits =
    let text = event_text node key act in
    ap (parsed_of node) (sym (append_assoc text (32 ∷ []) (32 ∷ 35 ∷ comment)))
    ∙ (ap (parsed_of node) (sym (append_assoc (text ++ (32 ∷ [])) (32 ∷ []) (35 ∷ comment)))
    ∙ (comments_are_not_read node ((text ++ (32 ∷ [])) ++ (32 ∷ [])) comment
    ∙ (blanks_behind_are_not_read node (text ++ (32 ∷ [])) 32 refl
    ∙ (blanks_behind_are_not_read node text 32 refl ∙ line_told node key act fits))))
