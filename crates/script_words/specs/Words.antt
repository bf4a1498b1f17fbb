-- What was expected in a line of a script, in words (docs/BENCH.md, "script"). Assumes nothing.
use Rattle.std.specs.Prelude.{ℕ, List}
use Rattle.lines.specs.Lines.{ascii}
use Rattle.script_words.specs.declared.What.{What}
use Rattle.script_words.specs.declared.What.TheVariants.{AnEvent, AKey, HardOrEnd, ASoftService, AConnection, YesOrNo, ASwitchover}
use Rattle.script_words.specs.declared.What.TheVariants.{AnIncarnation, CauseOrEnd, ACause, CauseCrankbackOrEnd, CrankbackOrEnd}
use Rattle.script_words.specs.declared.What.TheVariants.{NothingMore}

abbrev pub what_text : What → List ℕ
what_text AnEvent = ascii "open, trigger, path, nopath, connect, setup, calling, called, ready or expiry"
what_text AKey = ascii "a key, 0 to 4294967295"
what_text HardOrEnd = ascii "hard, nohard or nothing more"
what_text ASoftService = ascii "none, asymmetric or symmetric"
what_text AConnection = ascii "a connection, 0 to 65535"
what_text YesOrNo = ascii "yes or no"
what_text ASwitchover = ascii "clearing, immediate or a switchover code, 0 to 255"
what_text AnIncarnation = ascii "an incarnation number, 0 to 4294967295"
what_text CauseOrEnd = ascii "cause or nothing more"
what_text ACause = ascii "a cause, 0 to 255"
what_text CauseCrankbackOrEnd = ascii "cause, alternate, noalternate or nothing more"
what_text CrankbackOrEnd = ascii "alternate, noalternate or nothing more"
what_text NothingMore = ascii "nothing more"
