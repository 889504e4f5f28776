-- The bytes of lines whose keys are numbers among any names: each key as the cell of its name.
use Rattle.std.specs.Prelude.{◌≡◌, refl, ℕ, List, [], ◌∷◌, ◌++◌, flat_map, map, pos, codes}
use Rattle.std.specs.Fmt.{digits}
use Rattle.wsm_record.specs.Event.{Event}
use Rattle.wsm_record.specs.Schema.{Declared}
use Rattle.wsm_record.specs.declared.cell.Cell.TheVariants.{Int}
use Rattle.wsm_windows.specs.declared.window.PaneKind.TheVariants.{OnTime}
use Rattle.wsm_windows.specs.Windows.{window}
use Rattle.wsm_semantics.specs.declared.out_row.OutRow.TheVariants.{Pane}
use Rattle.wsm_semantics.specs.Lines.{Line, Out, Faulty, Refused, End, refusal_lines}
use Rattle.wsm_semantics.specs.Query.{verdict_on}
use Rattle.wsm_semantics.specs.Relation.{turn_rows}
use Rattle.wsm_semantics.specs.Text.{line_text}
use Rattle.wsm_program.specs.Program.{Program}
use Rattle.wsm_turns.specs.Numbered.{Numbered}
use Rattle.wsm_part_programs.specs.Names.{of_names}
use Rattle.wsm_csv.specs.KeyedLines.{key_text, keyed_text}
use Rattle.wsm_key_names.specs.Cell.{cells_of, doubled}

-- the bytes of a line: the key of a row as the cell of its name
abbrev pub keyed_line : Declared → List (List ℕ) → Line → List ℕ
keyed_line d names (Out row) = keyed_text d (key_text (cells_of names) row) row
keyed_line d names (Faulty row why) = line_text d (Faulty row why)
keyed_line d names (Refused row why) = line_text d (Refused row why)
keyed_line d names (End rows admitted late refused panes) = line_text d (End rows admitted late refused panes)

abbrev pub keyed_lines : Declared → List (List ℕ) → List Line → List ℕ
keyed_lines d names lines = flat_map (keyed_line d names) lines

-- the bytes of the turn of an event after a history, by the query over these names. It is of the line of a number
abbrev pub event_text : Program → List (List ℕ) → ℕ → List Event → Event → List ℕ
event_text p names number past e =
    keyed_lines p.header.schema names (refusal_lines number (verdict_on (of_names p names) past e) ++ map Out (turn_rows (of_names p names) past e))

-- those of events, the first first
abbrev pub events_text : Program → List (List ℕ) → List Event → List Numbered → List ℕ
events_text p names past [] = []
events_text p names past (g ∷ gs) = event_text p names g.number past g.event ++ events_text p names (g.event ∷ past) gs

-- ---- a worked row

abbrev bare : Declared
bare = record { keys = []; fields = []; sources = [] }

-- a name with a comma stands in quotes
a_line : keyed_lines bare (codes "a" ∷ codes "x,y" ∷ []) (Out (Pane OnTime 1 (window (pos 0) (pos 60)) (Int (pos 7) ∷ [])) ∷ End 2 1 0 0 1 ∷ [])
    ≡ codes "pane,on_time,\"x,y\",0,60,7\nend,2,1,0,0,1\n"
unfolding digits doubled
a_line = refl
