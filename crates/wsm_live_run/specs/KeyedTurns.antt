-- What a run over a log by any number of names writes for each line.
use Rattle.std.specs.Prelude.{List, ◌∷◌, ℕ}
use Rattle.wsm_keyed_intake.specs.KeyedLog.{KeyedLog, names_of, said_by, said_next, turn_text}
use Rattle.wsm_keyed_intake.specs.Run.{IsTextOf}
use Rattle.wsm_live.specs.Told.{Turn, told}
use Rattle.wsm_live_run.specs.Turns.{text_of}

-- the bytes that are written for a line behind others, by the names that came with these and with itself
abbrev pub keyed_turn_of : KeyedLog → Turn
keyed_turn_of g before line =
    let all = names_of g (line ∷ before) in
    turn_text g.program all g.clocks (said_by g all before) (said_next g all before line)

-- the bytes that were written for lines, the newest first, are those of their turns also by all names that come later
abbrev pub AreAllTurns : KeyedLog → List (List ℕ) → Type 0
AreAllTurns g before = IsTextOf g before (text_of (told (keyed_turn_of g) before))
