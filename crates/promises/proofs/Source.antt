-- The promises over whole runs, at the source. Assumes nothing.
use mathlib.Core.Bool.{Bool, ◌||◌, cond, false, false≢true, not, true}
use mathlib.Core.List.{List, [], ◌∷◌}
use mathlib.Core.Logic.{◌↔◌}
use mathlib.Core.Path.{◌≡◌, ap, refl}
use borrow.Author.Tests.{eqb-false, ne_eqb}
use Rattle.distinct.specs.Distinct.{distinct_of, has}
use Rattle.lent.specs.Search.{read_from}
use Rattle.signal.specs.Causes.{in_progress, unsupported}
use Rattle.signal.specs.Counting.{one}
use Rattle.signal.specs.Numbers.{has_symmetric, is_clearing}
use Rattle.signal.specs.declared.ReroutingCause.{ReroutingCause}
use Rattle.signal.specs.declared.Soft.{Soft}
use Rattle.signal.specs.declared.Soft.TheVariants.{Asymmetric, NoSoft, Symmetric}
use Rattle.source_rows.specs.Demands.{is_busy}
use Rattle.call.proofs.Source.{lawful}
use Rattle.call_table.specs.Bench.{immediate}
use Rattle.promises.proofs.Rejected.{sifts_by}
use Rattle.promises.proofs.Shown.{shown, shown_at}
use Rattle.promises.specs.Claims.{KeepsPromises}
use Rattle.promises.specs.Ends.{ByServices, Sifts, source_sieve}
use Rattle.promises.specs.Inserted.{HasInsertions, LacksInWords, TakesInWords, source_in_words}
use Rattle.promises.specs.ShutOut.{ShutsOut}
use Rattle.promises.proofs.Claims as any
use Rattle.promises.proofs.Inserted as any_run
use Rattle.promises.proofs.ShutOut as any_control

-- ---- its number check
-- the code is looked at first, then the number, then whether the call is busy
code_first : (clearing : Bool) (others : List ReroutingCause) → cond (not clearing) (unsupported ∷ []) others ≡ cond clearing others (unsupported ∷ [])
code_first true others = refl
code_first false others = refl

pub sifts : Sifts source_sieve
sifts =
    sifts_by source_sieve (λ c. cond (is_busy c.state) (in_progress ∷ []) [])
    (λ c code number live. ap (λ b. b || not (has_symmetric c.soft)) live)
    (λ c code number. code_first (is_clearing code) _)

by_services : ByServices source_sieve
by_services c d hard soft = ap has_symmetric soft

is_symmetric : (soft : Soft) → (has_symmetric soft ≡ true) ↔ (soft ≡ Symmetric)
is_symmetric Symmetric = (λ h. refl, λ e. refl)
is_symmetric Asymmetric = (λ h. absurd (false≢true h), λ e. ap has_symmetric e)
is_symmetric NoSoft = (λ h. absurd (false≢true h), λ e. ap has_symmetric e)

takes_in_words : TakesInWords source_sieve source_in_words
takes_in_words c = is_symmetric c.soft

lacks_in_words : LacksInWords source_sieve source_in_words
lacks_in_words c code = (eqb-false code.code 1, ne_eqb code.code 1)

-- ---- what it shows on the runs that are written out
shows : shown_at source_sieve ≡ shown
unfolding read_from has distinct_of one
shows = refl

-- ---- the promises
pub promises : KeepsPromises source_sieve
promises = any.promises source_sieve lawful sifts by_services

pub insertions : HasInsertions source_sieve source_in_words immediate
insertions = any_run.insertions source_sieve source_in_words takes_in_words lacks_in_words shows immediate refl

pub shut_out : ShutsOut source_sieve
shut_out = any_control.shut_out source_sieve shows lawful
