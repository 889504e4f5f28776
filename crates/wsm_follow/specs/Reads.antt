-- What was read of a file's lines.
use Rattle.std.specs.Prelude.{◌≡◌, ◌≤◌, ◌<◌, ◌==◌, ℕ, List, [], ◌++◌, Option, Some, None, drop, length, map, slice_index, take, true, ⊤}
use Rattle.wsm_log.specs.LinesOf.{HasNoFeed, lines_of}
use Rattle.wsm_follow.specs.Ended.{ended_lines}
use Rattle.wsm_follow.specs.declared.reading.Reading.{Reading}
use Rattle.wsm_follow.specs.declared.reading.Found.{Found}
use Rattle.wsm_follow.specs.declared.reading.Found.TheVariants.{Lines, Part}

abbrev pub text_of : Reading → List ℕ
text_of r = r.text.items

abbrev pub most_of : Reading → ℕ
most_of r = r.most

-- the text has the lines from one offset up to another, as they are kept; or none has ended, where the file ends there
abbrev pub Reads : ℕ → List ℕ → ℕ → List ℕ → Found → Type 0
Reads most known start text (Lines end) = map (take most) (ended_lines text) ++ map (take most) (ended_lines (drop end known)) ≡ map (take most) (ended_lines (drop start known))
Reads most known start text (Part end) = length known ≤ end → ended_lines (drop start known) ≡ []

-- the text is whole lines, at least one of them
abbrev pub AreWhole : ℕ → List ℕ → Found → Type 0
AreWhole start text (Lines end) = (start < end) × (lines_of text ≡ ended_lines text)
AreWhole start text (Part end) = ⊤

-- the last line feed of some bytes stands there, or they have none
abbrev pub EndsAt : List ℕ → Option ℕ → Type 0
EndsAt bytes None = HasNoFeed bytes
EndsAt bytes (Some place) = (place < length bytes) × ((slice_index bytes place == 10) ≡ true)
