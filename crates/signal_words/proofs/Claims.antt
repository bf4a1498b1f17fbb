-- The claim on the words of a signal (specs/Claims), proved. Assumes nothing.
use mathlib.Core.Path.{refl}
use Rattle.lines.specs.Lines.{number_text, spelled}
use Rattle.signal_words.specs.Claims as claim

pub every_word : claim.EveryWord
unfolding number_text spelled
every_word = (refl, refl)
