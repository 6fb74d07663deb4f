-- Worked examples of steps over names in other scripts, by computation: vectors of request N4.
use Rattle.std.specs.Prelude.{◌≡◌, refl, [], ◌∷◌, ◌++◌, replicate}
use Rattle.laws.specs.Text.{bytes}
use Rattle.table.specs.Table.{standard}
use Rattle.sessions.specs.Sessions.{fresh_of}
use Rattle.sessions.specs.Stepping.{answered, run_of}
use Rattle.demands.specs.Calls.{steps_from}
use Rattle.demands.specs.MiscExamples.{K, numbers_of, over}
use Rattle.demands.specs.Computing.{computing}

-- The last scene has other bytes at the same places. N4-13: for the open name é, ×, a character that is cut, and one that begins no name; for a prefix ×;
-- for a URI bytes that are no text, which 20 does not judge. N4-15: the place lies inside a character
script_steps :
    (numbers_of (steps_from K fresh_of (over (bytes "<ab>t<" ∷ bytes "<ab>t<" ∷ (0x3C ∷ 0xC3 ∷ 0xA9 ∷ bytes ">t<") ∷ []))) ≡ (0, 4) ∷ (0, 5) ∷ (1, 6) ∷ [])
    × (numbers_of (steps_from K fresh_of (over (bytes "<ab>t<" ∷ bytes "<ab>t<" ∷ (0x3C ∷ 0xC3 ∷ 0x97 ∷ bytes ">t<") ∷ []))) ≡ (0, 4) ∷ (0, 5) ∷ (20, 0) ∷ [])
    × (numbers_of (steps_from K fresh_of (over (bytes "<ab>t<" ∷ bytes "<ab>t<" ∷ (0x3C ∷ 0xE3 ∷ 0x81 ∷ bytes ">t<") ∷ []))) ≡ (0, 4) ∷ (0, 5) ∷ (20, 0) ∷ [])
    × (numbers_of (steps_from K fresh_of (over (bytes "<ab>t<" ∷ bytes "<ab>t<" ∷ (0x3C ∷ 0xC2 ∷ 0xB7 ∷ bytes ">t<") ∷ []))) ≡ (0, 4) ∷ (0, 5) ∷ (20, 0) ∷ [])
    × (numbers_of (steps_from K fresh_of (over (bytes "<ab:c xmlns:ab='u'>t<" ∷ bytes "<ab:c xmlns:ab='u'>t<" ∷ (bytes "<ab:c xmlns:" ++ (0xC3 ∷ 0x97 ∷ bytes "='u'>t<")) ∷ []))) ≡ (0, 19) ∷ (0, 20) ∷ (20, 0) ∷ [])
    × (numbers_of (steps_from K fresh_of (over (bytes "<r xmlns='ab'>t<" ∷ bytes "<r xmlns='ab'>t<" ∷ (bytes "<r xmlns='" ++ (0xFF ∷ 0xFF ∷ bytes "'>t<")) ∷ []))) ≡ (0, 14) ∷ (0, 15) ∷ (1, 16) ∷ [])
    × (numbers_of (steps_from K fresh_of (over (bytes "<r>a<" ∷ bytes "<r>a<" ∷ (bytes "<r>" ++ (0xC3 ∷ 0xA9 ∷ 0xC3 ∷ 0xA9 ∷ bytes "<")) ∷ []))) ≡ (0, 3) ∷ (0, 4) ∷ (2, 4) ∷ [])
unfolding computing
script_steps = (refl, refl, refl, refl, refl, refl, refl)

-- N4-14: a table that lists the URI FF is accepted
uri_of_no_scene : (run_of standard (0x01 ∷ 0x01 ∷ 0x01 ∷ 0x01 ∷ 0x03 ∷ 0xFE ∷ 0x00 ∷ 0x00 ∷ 0x01 ∷ 0xFF ∷ []) (bytes "<r/>") (replicate 320 7)).answer ≡ answered 9 4 2 4
unfolding computing
uri_of_no_scene = refl
