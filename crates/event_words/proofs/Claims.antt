-- The claims on an event in words (specs/Claims), proved. Assumes nothing.
use mathlib.Core.Path.{refl}
use Rattle.lines.specs.Lines.{number_text, spelled}
use Rattle.event_words.specs.Claims as claim

pub sides_in_words : claim.SidesInWords
unfolding number_text spelled
sides_in_words = (refl, (refl, (refl, refl)))
