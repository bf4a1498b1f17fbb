-- A run that meets every kind of record, every value of hard, soft, policy, cause present and crankback, every state, every kind of signal
-- and every word that tells one. Of each record its octets, and the line that the watch prints of it, derived by hand from the place that
-- stands above it: of 01, a row of its "Setup", the number of a refusal, a request of 02, a section of the standard, or a decision. Assumes
-- nothing.
use Rattle.std.specs.Prelude.{ℕ, List, [], ◌∷◌, ◌++◌}
use Prim.Native.String.{String}
use Rattle.lines.specs.Lines.{ascii}
use Rattle.trace_line.specs.Claims.{line}

pub record StoryLine : Type 0 where
  pub octets : List ℕ
  pub shown : String

abbrev pub story_line : List ℕ → String → StoryLine
story_line octets shown = record { octets = octets; shown = shown }

abbrev pub octets_of : List StoryLine → List ℕ
octets_of [] = []
octets_of (t ∷ more) = t.octets ++ octets_of more

abbrev pub lines_of : List StoryLine → List ℕ
lines_of [] = []
lines_of (t ∷ more) = line (ascii t.shown) ++ lines_of more

unfoldable pub story : List StoryLine
story =
    -- key 1 2 3 4, with hard on and symmetric soft
    -- 01, openings: Idle (1)
    story_line (0 ∷ 1 ∷ 1 ∷ 2 ∷ 1 ∷ 2 ∷ 3 ∷ 4 ∷ 0 ∷ 0 ∷ 0 ∷ 0 ∷ 0 ∷ 0 ∷ 0 ∷ 0 ∷ []) "1 0 1 1 0 0 1 -"
    -- Setup row 1: code 0 is not clearing
    ∷ story_line (5 ∷ 0 ∷ 0 ∷ 0 ∷ 1 ∷ 2 ∷ 3 ∷ 4 ∷ 0 ∷ 0 ∷ 1 ∷ 4 ∷ 0 ∷ 0 ∷ 0 ∷ 0 ∷ []) "2 0 1 1 0 0 1 reject #8"
    -- Setup row 1: nor is 255
    ∷ story_line (5 ∷ 255 ∷ 0 ∷ 0 ∷ 1 ∷ 2 ∷ 3 ∷ 4 ∷ 0 ∷ 0 ∷ 1 ∷ 4 ∷ 0 ∷ 0 ∷ 0 ∷ 0 ∷ []) "3 0 1 1 0 0 1 reject #8"
    -- Setup row 4: Soft Initiated (1,2); bytes 2, 3 and 12 to 15 are not read
    ∷ story_line (5 ∷ 1 ∷ 9 ∷ 9 ∷ 1 ∷ 2 ∷ 3 ∷ 4 ∷ 0 ∷ 0 ∷ 1 ∷ 4 ∷ 9 ∷ 9 ∷ 9 ∷ 9 ∷ []) "4 0 6 1 2 260 2 -"
    -- Setup row 5: the older connection is released; (1,3)
    ∷ story_line (5 ∷ 1 ∷ 0 ∷ 0 ∷ 1 ∷ 2 ∷ 3 ∷ 4 ∷ 0 ∷ 0 ∷ 1 ∷ 5 ∷ 0 ∷ 0 ∷ 0 ∷ 0 ∷ []) "5 0 6 1 3 261 3 release rerouting 2"
    -- 01, Ready: Awaiting (1,3)
    ∷ story_line (8 ∷ 0 ∷ 0 ∷ 0 ∷ 1 ∷ 2 ∷ 3 ∷ 4 ∷ 0 ∷ 0 ∷ 0 ∷ 0 ∷ 0 ∷ 0 ∷ 0 ∷ 0 ∷ []) "6 0 7 1 3 261 3 connect 3"
    -- Setup row 2: 261 is not greater than the number on record
    ∷ story_line (5 ∷ 1 ∷ 0 ∷ 0 ∷ 1 ∷ 2 ∷ 3 ∷ 4 ∷ 0 ∷ 0 ∷ 1 ∷ 5 ∷ 0 ∷ 0 ∷ 0 ∷ 0 ∷ []) "7 0 7 1 3 261 3 reject #5"
    -- 01, Awaiting, incumbent, #4: Idle (3)
    ∷ story_line (7 ∷ 1 ∷ 4 ∷ 0 ∷ 1 ∷ 2 ∷ 3 ∷ 4 ∷ 0 ∷ 0 ∷ 0 ∷ 1 ∷ 0 ∷ 0 ∷ 0 ∷ 0 ∷ []) "8 0 1 3 0 261 3 switch 3"
    -- 01, Soft trigger: Soft Triggered (3); bytes 1 to 3 and 8 to 15 are not read
    ∷ story_line (1 ∷ 9 ∷ 9 ∷ 9 ∷ 1 ∷ 2 ∷ 3 ∷ 4 ∷ 9 ∷ 9 ∷ 9 ∷ 9 ∷ 9 ∷ 9 ∷ 9 ∷ 9 ∷ []) "9 0 4 3 0 261 3 -"
    -- 01, No path: Idle (3)
    ∷ story_line (3 ∷ 0 ∷ 0 ∷ 0 ∷ 1 ∷ 2 ∷ 3 ∷ 4 ∷ 0 ∷ 0 ∷ 0 ∷ 0 ∷ 0 ∷ 0 ∷ 0 ∷ 0 ∷ []) "10 0 1 3 0 261 3 -"
    -- 01, Soft trigger
    ∷ story_line (1 ∷ 0 ∷ 0 ∷ 0 ∷ 1 ∷ 2 ∷ 3 ∷ 4 ∷ 0 ∷ 0 ∷ 0 ∷ 0 ∷ 0 ∷ 0 ∷ 0 ∷ 0 ∷ []) "11 0 4 3 0 261 3 -"
    -- 01, Path found: Soft Proceeding (3,4)
    ∷ story_line (2 ∷ 0 ∷ 0 ∷ 0 ∷ 1 ∷ 2 ∷ 3 ∷ 4 ∷ 0 ∷ 0 ∷ 0 ∷ 0 ∷ 0 ∷ 0 ∷ 0 ∷ 0 ∷ []) "12 0 5 3 4 261 4 setup 4"
    -- Setup row 3: 512 is stored (02, Ask 3)
    ∷ story_line (5 ∷ 1 ∷ 0 ∷ 0 ∷ 1 ∷ 2 ∷ 3 ∷ 4 ∷ 0 ∷ 0 ∷ 2 ∷ 0 ∷ 0 ∷ 0 ∷ 0 ∷ 0 ∷ []) "13 0 5 3 4 512 4 reject #6"
    -- 01, Soft Proceeding, rerouting, alternate found: (3,5)
    ∷ story_line (7 ∷ 0 ∷ 0 ∷ 1 ∷ 1 ∷ 2 ∷ 3 ∷ 4 ∷ 0 ∷ 0 ∷ 0 ∷ 4 ∷ 0 ∷ 0 ∷ 0 ∷ 0 ∷ []) "14 0 5 3 5 512 5 setup 5"
    -- 01, Connect, policy no: #21, Idle (3)
    ∷ story_line (4 ∷ 0 ∷ 0 ∷ 0 ∷ 1 ∷ 2 ∷ 3 ∷ 4 ∷ 0 ∷ 0 ∷ 0 ∷ 5 ∷ 0 ∷ 0 ∷ 0 ∷ 0 ∷ []) "15 0 1 3 0 512 5 release rerouting 5 cause 21"
    -- 01, Soft trigger
    ∷ story_line (1 ∷ 0 ∷ 0 ∷ 0 ∷ 1 ∷ 2 ∷ 3 ∷ 4 ∷ 0 ∷ 0 ∷ 0 ∷ 0 ∷ 0 ∷ 0 ∷ 0 ∷ 0 ∷ []) "16 0 4 3 0 512 5 -"
    -- 01, Path found
    ∷ story_line (2 ∷ 0 ∷ 0 ∷ 0 ∷ 1 ∷ 2 ∷ 3 ∷ 4 ∷ 0 ∷ 0 ∷ 0 ∷ 0 ∷ 0 ∷ 0 ∷ 0 ∷ 0 ∷ []) "17 0 5 3 6 512 6 setup 6"
    -- 01, Connect, policy yes: Idle (6)
    ∷ story_line (4 ∷ 1 ∷ 0 ∷ 0 ∷ 1 ∷ 2 ∷ 3 ∷ 4 ∷ 0 ∷ 0 ∷ 0 ∷ 6 ∷ 0 ∷ 0 ∷ 0 ∷ 0 ∷ []) "18 0 1 6 0 512 6 switch 6, release incumbent 3 #4"
    -- 6.2.4.2 case 4: Hard Triggered
    ∷ story_line (7 ∷ 0 ∷ 0 ∷ 0 ∷ 1 ∷ 2 ∷ 3 ∷ 4 ∷ 0 ∷ 0 ∷ 0 ∷ 6 ∷ 0 ∷ 0 ∷ 0 ∷ 0 ∷ []) "19 0 2 0 0 512 6 timer start"
    -- 01, No path: Hard Triggered stays
    ∷ story_line (3 ∷ 0 ∷ 0 ∷ 0 ∷ 1 ∷ 2 ∷ 3 ∷ 4 ∷ 0 ∷ 0 ∷ 0 ∷ 0 ∷ 0 ∷ 0 ∷ 0 ∷ 0 ∷ []) "20 0 2 0 0 512 6 -"
    -- 01, Path found: Hard Proceeding (7)
    ∷ story_line (2 ∷ 0 ∷ 0 ∷ 0 ∷ 1 ∷ 2 ∷ 3 ∷ 4 ∷ 0 ∷ 0 ∷ 0 ∷ 0 ∷ 0 ∷ 0 ∷ 0 ∷ 0 ∷ []) "21 0 3 0 7 512 7 setup 7"
    -- 6.2.4.4 case 6, no crankback: Hard Triggered (decision 2)
    ∷ story_line (7 ∷ 0 ∷ 0 ∷ 0 ∷ 1 ∷ 2 ∷ 3 ∷ 4 ∷ 0 ∷ 0 ∷ 0 ∷ 7 ∷ 0 ∷ 0 ∷ 0 ∷ 0 ∷ []) "22 0 2 0 0 512 7 -"
    -- 01, Path found
    ∷ story_line (2 ∷ 0 ∷ 0 ∷ 0 ∷ 1 ∷ 2 ∷ 3 ∷ 4 ∷ 0 ∷ 0 ∷ 0 ∷ 0 ∷ 0 ∷ 0 ∷ 0 ∷ 0 ∷ []) "23 0 3 0 8 512 8 setup 8"
    -- 6.2.4.4 case 4, alternate found: stays, (9)
    ∷ story_line (7 ∷ 0 ∷ 0 ∷ 1 ∷ 1 ∷ 2 ∷ 3 ∷ 4 ∷ 0 ∷ 0 ∷ 0 ∷ 8 ∷ 0 ∷ 0 ∷ 0 ∷ 0 ∷ []) "24 0 3 0 9 512 9 setup 9"
    -- 01, Connect: policy is not read; Idle (9)
    ∷ story_line (4 ∷ 0 ∷ 0 ∷ 0 ∷ 1 ∷ 2 ∷ 3 ∷ 4 ∷ 0 ∷ 0 ∷ 0 ∷ 9 ∷ 0 ∷ 0 ∷ 0 ∷ 0 ∷ []) "25 0 1 9 0 512 9 timer stop, switch 9"
    -- 6.2.4.2 case 4
    ∷ story_line (7 ∷ 0 ∷ 0 ∷ 0 ∷ 1 ∷ 2 ∷ 3 ∷ 4 ∷ 0 ∷ 0 ∷ 0 ∷ 9 ∷ 0 ∷ 0 ∷ 0 ∷ 0 ∷ []) "26 0 2 0 0 512 9 timer start"
    -- 01, Path found
    ∷ story_line (2 ∷ 0 ∷ 0 ∷ 0 ∷ 1 ∷ 2 ∷ 3 ∷ 4 ∷ 0 ∷ 0 ∷ 0 ∷ 0 ∷ 0 ∷ 0 ∷ 0 ∷ 0 ∷ []) "27 0 3 0 10 512 10 setup 10"
    -- 6.2.4.4 case 5, none found: Null
    ∷ story_line (7 ∷ 0 ∷ 0 ∷ 2 ∷ 1 ∷ 2 ∷ 3 ∷ 4 ∷ 0 ∷ 0 ∷ 0 ∷ 10 ∷ 0 ∷ 0 ∷ 0 ∷ 0 ∷ []) "28 0 0 0 0 0 0 timer stop, release calling #2"
    -- 105: the call has ended
    ∷ story_line (1 ∷ 0 ∷ 0 ∷ 0 ∷ 1 ∷ 2 ∷ 3 ∷ 4 ∷ 0 ∷ 0 ∷ 0 ∷ 0 ∷ 0 ∷ 0 ∷ 0 ∷ 0 ∷ []) "29 105 0 0 0 0 0 -"
    -- key 7 from here on, one call after the other; with hard on and asymmetric soft
    -- 01, openings
    ∷ story_line (0 ∷ 1 ∷ 1 ∷ 1 ∷ 0 ∷ 0 ∷ 0 ∷ 7 ∷ 0 ∷ 0 ∷ 0 ∷ 0 ∷ 0 ∷ 0 ∷ 0 ∷ 0 ∷ []) "30 0 1 1 0 0 1 -"
    -- 106: a setup without symmetric soft
    ∷ story_line (5 ∷ 1 ∷ 0 ∷ 0 ∷ 0 ∷ 0 ∷ 0 ∷ 7 ∷ 0 ∷ 0 ∷ 0 ∷ 1 ∷ 0 ∷ 0 ∷ 0 ∷ 0 ∷ []) "31 106 1 1 0 0 1 -"
    -- 6.2.4.2 case 1: the cause unmodified
    ∷ story_line (6 ∷ 1 ∷ 77 ∷ 0 ∷ 0 ∷ 0 ∷ 0 ∷ 7 ∷ 0 ∷ 0 ∷ 0 ∷ 0 ∷ 0 ∷ 0 ∷ 0 ∷ 0 ∷ []) "32 0 0 0 0 0 0 release incumbent 1 =77"
    -- hard off, asymmetric soft
    -- 01, openings
    ∷ story_line (0 ∷ 1 ∷ 0 ∷ 1 ∷ 0 ∷ 0 ∷ 0 ∷ 7 ∷ 0 ∷ 0 ∷ 0 ∷ 0 ∷ 0 ∷ 0 ∷ 0 ∷ 0 ∷ []) "33 0 1 1 0 0 1 -"
    -- 01, Soft trigger
    ∷ story_line (1 ∷ 0 ∷ 0 ∷ 0 ∷ 0 ∷ 0 ∷ 0 ∷ 7 ∷ 0 ∷ 0 ∷ 0 ∷ 0 ∷ 0 ∷ 0 ∷ 0 ∷ 0 ∷ []) "34 0 4 1 0 0 1 -"
    -- 01, Path found
    ∷ story_line (2 ∷ 0 ∷ 0 ∷ 0 ∷ 0 ∷ 0 ∷ 0 ∷ 7 ∷ 0 ∷ 0 ∷ 0 ∷ 0 ∷ 0 ∷ 0 ∷ 0 ∷ 0 ∷ []) "35 0 5 1 2 0 2 setup 2"
    -- 01, Soft Proceeding, incumbent, hard off: no Rerouting cause
    ∷ story_line (7 ∷ 0 ∷ 0 ∷ 0 ∷ 0 ∷ 0 ∷ 0 ∷ 7 ∷ 0 ∷ 0 ∷ 0 ∷ 1 ∷ 0 ∷ 0 ∷ 0 ∷ 0 ∷ []) "36 0 0 0 0 0 0 release calling, release rerouting 2"
    -- default services
    -- 02, Ask 1: hard on, soft asymmetric; bytes 2 and 3 are not read
    ∷ story_line (0 ∷ 0 ∷ 0 ∷ 2 ∷ 0 ∷ 0 ∷ 0 ∷ 7 ∷ 0 ∷ 0 ∷ 0 ∷ 0 ∷ 0 ∷ 0 ∷ 0 ∷ 0 ∷ []) "37 0 1 1 0 0 1 -"
    -- 106: a setup without symmetric soft
    ∷ story_line (5 ∷ 1 ∷ 0 ∷ 0 ∷ 0 ∷ 0 ∷ 0 ∷ 7 ∷ 0 ∷ 0 ∷ 0 ∷ 1 ∷ 0 ∷ 0 ∷ 0 ∷ 0 ∷ []) "38 106 1 1 0 0 1 -"
    -- 01, Soft trigger: Soft Triggered (1)
    ∷ story_line (1 ∷ 0 ∷ 0 ∷ 0 ∷ 0 ∷ 0 ∷ 0 ∷ 7 ∷ 0 ∷ 0 ∷ 0 ∷ 0 ∷ 0 ∷ 0 ∷ 0 ∷ 0 ∷ []) "39 0 4 1 0 0 1 -"
    -- 01, No path: Idle (1)
    ∷ story_line (3 ∷ 0 ∷ 0 ∷ 0 ∷ 0 ∷ 0 ∷ 0 ∷ 7 ∷ 0 ∷ 0 ∷ 0 ∷ 0 ∷ 0 ∷ 0 ∷ 0 ∷ 0 ∷ []) "40 0 1 1 0 0 1 -"
    -- 6.2.4.2 case 2: none came, and hard is on; byte 2 is not read
    ∷ story_line (6 ∷ 0 ∷ 77 ∷ 2 ∷ 0 ∷ 0 ∷ 0 ∷ 7 ∷ 0 ∷ 0 ∷ 0 ∷ 0 ∷ 0 ∷ 0 ∷ 0 ∷ 0 ∷ []) "41 0 0 0 0 0 0 release incumbent 1 #1"
    -- hard off, soft none
    -- 01, openings
    ∷ story_line (0 ∷ 1 ∷ 0 ∷ 0 ∷ 0 ∷ 0 ∷ 0 ∷ 7 ∷ 0 ∷ 0 ∷ 0 ∷ 0 ∷ 0 ∷ 0 ∷ 0 ∷ 0 ∷ []) "42 0 1 1 0 0 1 -"
    -- 106: a trigger with soft none
    ∷ story_line (1 ∷ 0 ∷ 0 ∷ 0 ∷ 0 ∷ 0 ∷ 0 ∷ 7 ∷ 0 ∷ 0 ∷ 0 ∷ 0 ∷ 0 ∷ 0 ∷ 0 ∷ 0 ∷ []) "43 106 1 1 0 0 1 -"
    -- 6.2.4.2 case 3, hard off: no Rerouting cause
    ∷ story_line (7 ∷ 0 ∷ 0 ∷ 0 ∷ 0 ∷ 0 ∷ 0 ∷ 7 ∷ 0 ∷ 0 ∷ 0 ∷ 1 ∷ 0 ∷ 0 ∷ 0 ∷ 0 ∷ []) "44 0 0 0 0 0 0 release calling"
    -- hard off, symmetric soft
    -- 01, openings
    ∷ story_line (0 ∷ 1 ∷ 0 ∷ 2 ∷ 0 ∷ 0 ∷ 0 ∷ 7 ∷ 0 ∷ 0 ∷ 0 ∷ 0 ∷ 0 ∷ 0 ∷ 0 ∷ 0 ∷ []) "45 0 1 1 0 0 1 -"
    -- Setup row 4: Soft Initiated (1,2)
    ∷ story_line (5 ∷ 1 ∷ 0 ∷ 0 ∷ 0 ∷ 0 ∷ 0 ∷ 7 ∷ 0 ∷ 0 ∷ 0 ∷ 1 ∷ 0 ∷ 0 ∷ 0 ∷ 0 ∷ []) "46 0 6 1 2 1 2 -"
    -- 01, calling side in Soft Initiated: none came, and hard is off
    ∷ story_line (6 ∷ 0 ∷ 0 ∷ 1 ∷ 0 ∷ 0 ∷ 0 ∷ 7 ∷ 0 ∷ 0 ∷ 0 ∷ 0 ∷ 0 ∷ 0 ∷ 0 ∷ 0 ∷ [])
    "47 0 0 0 0 0 0 release incumbent 1, release rerouting 2"
    -- hard on, soft none
    -- 01, openings
    ∷ story_line (0 ∷ 1 ∷ 1 ∷ 0 ∷ 0 ∷ 0 ∷ 0 ∷ 7 ∷ 0 ∷ 0 ∷ 0 ∷ 0 ∷ 0 ∷ 0 ∷ 0 ∷ 0 ∷ []) "48 0 1 1 0 0 1 -"
    -- 6.2.4.2 case 3: #1 unmodified
    ∷ story_line (7 ∷ 1 ∷ 1 ∷ 0 ∷ 0 ∷ 0 ∷ 0 ∷ 7 ∷ 0 ∷ 0 ∷ 0 ∷ 1 ∷ 0 ∷ 0 ∷ 0 ∷ 0 ∷ []) "49 0 0 0 0 0 0 release calling =1"
    -- 01, openings
    ∷ story_line (0 ∷ 1 ∷ 1 ∷ 0 ∷ 0 ∷ 0 ∷ 0 ∷ 7 ∷ 0 ∷ 0 ∷ 0 ∷ 0 ∷ 0 ∷ 0 ∷ 0 ∷ 0 ∷ []) "50 0 1 1 0 0 1 -"
    -- 6.2.4.2 case 4
    ∷ story_line (7 ∷ 0 ∷ 0 ∷ 0 ∷ 0 ∷ 0 ∷ 0 ∷ 7 ∷ 0 ∷ 0 ∷ 0 ∷ 1 ∷ 0 ∷ 0 ∷ 0 ∷ 0 ∷ []) "51 0 2 0 0 0 1 timer start"
    -- 6.2.5.2 item 1
    ∷ story_line (9 ∷ 0 ∷ 0 ∷ 0 ∷ 0 ∷ 0 ∷ 0 ∷ 7 ∷ 0 ∷ 0 ∷ 0 ∷ 0 ∷ 0 ∷ 0 ∷ 0 ∷ 0 ∷ []) "52 0 0 0 0 0 0 release calling #2"
    -- 01, The trace: kind 10 is not named
    ∷ story_line (10 ∷ 0 ∷ 0 ∷ 0 ∷ 0 ∷ 0 ∷ 0 ∷ 7 ∷ 0 ∷ 0 ∷ 0 ∷ 0 ∷ 0 ∷ 0 ∷ 0 ∷ 0 ∷ []) "bad"
    ∷ []

-- The bench run of the destination node (bench/destination): one call with hard on and symmetric soft, moved hard and then soft by the far
-- side and once by this side, until its incumbent fails and no setup comes in time. Neither 01 nor 02 prints a run of this end: each line
-- is derived by hand from the place that stands above it: a case of 6.3, an item of Annex D (Dn-m), or the number of a refusal.
unfoldable pub destination_story : List StoryLine
destination_story =
    -- 01, openings: Idle (1), record number 0
    story_line (0 ∷ 1 ∷ 1 ∷ 2 ∷ 0 ∷ 0 ∷ 0 ∷ 7 ∷ 0 ∷ 0 ∷ 0 ∷ 0 ∷ 0 ∷ 0 ∷ 0 ∷ 0 ∷ []) "1 0 1 1 0 0 1 -"
    -- 6.3.5.1 case 1: Hard Initiated (2), 4
    ∷ story_line (5 ∷ 0 ∷ 0 ∷ 0 ∷ 0 ∷ 0 ∷ 0 ∷ 7 ∷ 0 ∷ 0 ∷ 0 ∷ 4 ∷ 0 ∷ 0 ∷ 0 ∷ 0 ∷ []) "2 0 3 0 2 4 2 timer start, release incumbent 1"
    -- D36-7: in a Hard state an unrecognised code is hard: Hard Initiated (3), 5
    ∷ story_line (5 ∷ 200 ∷ 0 ∷ 0 ∷ 0 ∷ 0 ∷ 0 ∷ 7 ∷ 0 ∷ 0 ∷ 0 ∷ 5 ∷ 0 ∷ 0 ∷ 0 ∷ 0 ∷ []) "3 0 3 0 3 5 3 release rerouting 2 cause 21"
    -- 6.3.5.8: Idle (3), 5
    ∷ story_line (8 ∷ 0 ∷ 0 ∷ 0 ∷ 0 ∷ 0 ∷ 0 ∷ 7 ∷ 0 ∷ 0 ∷ 0 ∷ 0 ∷ 0 ∷ 0 ∷ 0 ∷ 0 ∷ []) "4 0 1 3 0 5 3 timer stop, switch 3, connect 3"
    -- D36-4: the number on record is old
    ∷ story_line (5 ∷ 1 ∷ 0 ∷ 0 ∷ 0 ∷ 0 ∷ 0 ∷ 7 ∷ 0 ∷ 0 ∷ 0 ∷ 5 ∷ 0 ∷ 0 ∷ 0 ∷ 0 ∷ []) "5 0 1 3 0 5 3 reject #5"
    -- D36-3: in Idle the same code is rejected, and 9 is not stored
    ∷ story_line (5 ∷ 200 ∷ 0 ∷ 0 ∷ 0 ∷ 0 ∷ 0 ∷ 7 ∷ 0 ∷ 0 ∷ 0 ∷ 9 ∷ 0 ∷ 0 ∷ 0 ∷ 0 ∷ []) "6 0 1 3 0 5 3 reject #8"
    -- 6.3.5.1 case 2: Soft Initiated (3,4), 6
    ∷ story_line (5 ∷ 1 ∷ 0 ∷ 0 ∷ 0 ∷ 0 ∷ 0 ∷ 7 ∷ 0 ∷ 0 ∷ 0 ∷ 6 ∷ 0 ∷ 0 ∷ 0 ∷ 0 ∷ []) "7 0 6 3 4 6 4 -"
    -- 6.3.5.9: Awaiting (3,4), 6
    ∷ story_line (8 ∷ 0 ∷ 0 ∷ 0 ∷ 0 ∷ 0 ∷ 0 ∷ 7 ∷ 0 ∷ 0 ∷ 0 ∷ 0 ∷ 0 ∷ 0 ∷ 0 ∷ 0 ∷ []) "8 0 7 3 4 6 4 connect 4"
    -- 106: ready outside Hard Initiated and Soft Initiated
    ∷ story_line (8 ∷ 0 ∷ 0 ∷ 0 ∷ 0 ∷ 0 ∷ 0 ∷ 7 ∷ 0 ∷ 0 ∷ 0 ∷ 0 ∷ 0 ∷ 0 ∷ 0 ∷ 0 ∷ []) "9 106 7 3 4 6 4 -"
    -- 6.3.5.5: as 6.3.5.4 case 2: Soft Initiated (3,5), 8
    ∷ story_line (5 ∷ 1 ∷ 0 ∷ 0 ∷ 0 ∷ 0 ∷ 0 ∷ 7 ∷ 0 ∷ 0 ∷ 0 ∷ 8 ∷ 0 ∷ 0 ∷ 0 ∷ 0 ∷ []) "10 0 6 3 5 8 5 release rerouting 4 cause 21"
    -- 6.3.5.9: Awaiting (3,5), 8
    ∷ story_line (8 ∷ 0 ∷ 0 ∷ 0 ∷ 0 ∷ 0 ∷ 0 ∷ 7 ∷ 0 ∷ 0 ∷ 0 ∷ 0 ∷ 0 ∷ 0 ∷ 0 ∷ 0 ∷ []) "11 0 7 3 5 8 5 connect 5"
    -- 6.3.4.6 case 4: Idle (5), 8
    ∷ story_line (6 ∷ 1 ∷ 4 ∷ 0 ∷ 0 ∷ 0 ∷ 0 ∷ 7 ∷ 0 ∷ 0 ∷ 0 ∷ 3 ∷ 0 ∷ 0 ∷ 0 ∷ 0 ∷ []) "12 0 1 5 0 8 5 switch 5"
    -- 107: connection 3 has ended
    ∷ story_line (6 ∷ 0 ∷ 0 ∷ 0 ∷ 0 ∷ 0 ∷ 0 ∷ 7 ∷ 0 ∷ 0 ∷ 0 ∷ 3 ∷ 0 ∷ 0 ∷ 0 ∷ 0 ∷ []) "13 107 1 5 0 8 5 -"
    -- 6.3.6.1 case 1: Soft Triggered (5), 8
    ∷ story_line (1 ∷ 0 ∷ 0 ∷ 0 ∷ 0 ∷ 0 ∷ 0 ∷ 7 ∷ 0 ∷ 0 ∷ 0 ∷ 0 ∷ 0 ∷ 0 ∷ 0 ∷ 0 ∷ []) "14 0 4 5 0 8 5 -"
    -- 6.3.6.1 case 2: disregarded
    ∷ story_line (1 ∷ 0 ∷ 0 ∷ 0 ∷ 0 ∷ 0 ∷ 0 ∷ 7 ∷ 0 ∷ 0 ∷ 0 ∷ 0 ∷ 0 ∷ 0 ∷ 0 ∷ 0 ∷ []) "15 0 4 5 0 8 5 -"
    -- 6.3.6.1 case 1: Soft Proceeding (5,6), 8
    ∷ story_line (2 ∷ 0 ∷ 0 ∷ 0 ∷ 0 ∷ 0 ∷ 0 ∷ 7 ∷ 0 ∷ 0 ∷ 0 ∷ 0 ∷ 0 ∷ 0 ∷ 0 ∷ 0 ∷ []) "16 0 5 5 6 8 6 setup 6"
    -- 6.3.7.1: policy yes, Idle (6), 8
    ∷ story_line (4 ∷ 1 ∷ 0 ∷ 0 ∷ 0 ∷ 0 ∷ 0 ∷ 7 ∷ 0 ∷ 0 ∷ 0 ∷ 6 ∷ 0 ∷ 0 ∷ 0 ∷ 0 ∷ []) "17 0 1 6 0 8 6 switch 6, release incumbent 5 #4"
    -- 103: the key is on record
    ∷ story_line (0 ∷ 1 ∷ 1 ∷ 2 ∷ 0 ∷ 0 ∷ 0 ∷ 7 ∷ 0 ∷ 0 ∷ 0 ∷ 0 ∷ 0 ∷ 0 ∷ 0 ∷ 0 ∷ []) "18 103 1 6 0 8 6 -"
    -- 6.3.4.2 case 4: hard is on and no cause came: Hard Indicated, 8
    ∷ story_line (6 ∷ 0 ∷ 0 ∷ 0 ∷ 0 ∷ 0 ∷ 0 ∷ 7 ∷ 0 ∷ 0 ∷ 0 ∷ 6 ∷ 0 ∷ 0 ∷ 0 ∷ 0 ∷ []) "19 0 2 0 0 8 6 timer start"
    -- 6.3.5.10 item 1: Null, empty
    ∷ story_line (9 ∷ 0 ∷ 0 ∷ 0 ∷ 0 ∷ 0 ∷ 0 ∷ 7 ∷ 0 ∷ 0 ∷ 0 ∷ 0 ∷ 0 ∷ 0 ∷ 0 ∷ 0 ∷ []) "20 0 0 0 0 0 0 release called #2"
    ∷ []
