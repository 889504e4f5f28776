-- What is known of the numbers of an accepted program: of those that its instructions push, and of those that a firing hands on.
use Rattle.std.specs.Prelude.{List, [], ◌∷◌, map, reverse, drop, cond, Option, Some, None}
use Rattle.std.specs.List.{filter_map}
use Rattle.wsm_interval.specs.declared.Interval.{Interval}
use Rattle.wsm_program.specs.declared.Instr.{Instr}
use Rattle.wsm_program.specs.declared.SectionId.{SectionId}
use Rattle.wsm_program.specs.declared.SectionId.TheVariants.{Where, Update, Fire}
use Rattle.wsm_program.specs.Instructions as table
use Rattle.wsm_program.specs.Program.{Program, section}
use Rattle.wsm_rules.specs.declared.known.Known.{Known}
use Rattle.wsm_rules.specs.Labels.{State, Ranges, Label, Unreached, Differing, Reached, Visit, pushed, label_with, hull_all, visits}
use Rattle.wsm_rules.specs.Rules.{and_then, entry, known_range, last_number, ranges_of, ranges_with}
use Rattle.wsm_verifier.specs.declared.places.Place.{Place}

-- what is known before an instruction, where its place has a label of one state
abbrev pub state_in : Label → Option State
state_in Unreached = None
state_in Differing = None
state_in (Reached s) = Some s

-- ---- the numbers that instructions push

-- the number that an instruction pushes where a label is known, if it pushes one
abbrev pub number_pushed : Ranges → Instr → Label → Option Interval
number_pushed r i l = and_then last_number (and_then (pushed r i) (state_in l))

abbrev pub place_of : Ranges → Visit → Place
place_of r v = record { instr = v.instr; number = number_pushed r v.instr v.label }

-- the places of a section in their order, where its visits have the last first
abbrev pub places_of : Ranges → List Visit → List Place
places_of r vs = reverse (map (place_of r) vs)

-- ---- the numbers that a section ends with

-- what a place ends its section with, if it does
abbrev pub returned : Instr → Label → Option State
returned i l = cond (table.ends i) (state_in l) None

abbrev pub returned_at : Visit → Option State
returned_at v = returned v.instr v.label

abbrev pub joined_with : Option State → Label → Label
joined_with None l = l
joined_with (Some s) l = label_with s l

-- the hull of all that a section ends with
abbrev pub returned_with : List Visit → Label
returned_with vs = hull_all (filter_map returned_at vs)

abbrev pub number_of : Known → Option Interval
number_of k = last_number (k ∷ [])

-- a firing ends with whether it is shown, above its columns, of which the last is above the others
abbrev pub columns_of : Option State → List (Option Interval)
columns_of None = []
columns_of (Some s) = reverse (map number_of (drop 1 s.stack))

-- ---- those of a program

abbrev pub accumulators_in : Program → SectionId → List Known
accumulators_in p Where = []
accumulators_in p Update = []
accumulators_in p Fire = map known_range (ranges_of p)

abbrev pub ranges_in : Program → SectionId → Ranges
ranges_in p id = ranges_with p (accumulators_in p id)

abbrev pub visits_in : Program → SectionId → List Visit
visits_in p id = visits (entry p) (ranges_in p id) (section p id)

abbrev pub places_in : Program → SectionId → List Place
places_in p id = places_of (ranges_in p id) (visits_in p id)

-- of each column the interval of the number that a firing hands on for it, if it's one of numbers
abbrev pub column_ranges : Program → List (Option Interval)
column_ranges p = columns_of (state_in (returned_with (visits_in p Fire)))
