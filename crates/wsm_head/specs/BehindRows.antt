-- Worked rows on lines behind others, where needed events are in the place of all. Lines are written oldest first.
use Rattle.std.specs.Prelude.{◌≡◌, refl, ℕ, List, [], ◌∷◌, ◌++◌, pos, reverse, Some, None, Ok}
use Rattle.wsm_record.specs.declared.event.Value.TheVariants.{Int}
use Rattle.wsm_record.specs.Event.{Event, Record, Watermark}
use Rattle.wsm_windows.specs.declared.window.PaneKind.TheVariants.{Final}
use Rattle.wsm_windows.specs.declared.window.Shape.TheVariants.{Fixed}
use Rattle.wsm_windows.specs.Windows.{window}
use Rattle.wsm_admission.specs.declared.verdict.Refusal.TheVariants.{RecordLimit}
use Rattle.wsm_semantics.specs.declared.out_row.OutRow.TheVariants.{Pane}
use Rattle.wsm_semantics.specs.Query.{Query}
use Rattle.wsm_semantics.specs.Lines.{Line, Out, Refused}
use Rattle.wsm_semantics.specs.Rows.{base, ints}
use Rattle.wsm_semantics.specs.ByKey.{with_records}
use Rattle.wsm_turns.specs.declared.voice.Voice.TheVariants.{Key}
use Rattle.wsm_turns.specs.Turns.{Said as AnySaid, kept, setting_of}
use Rattle.wsm_head.specs.Behind.{lines_behind, lines_written, needed_of}

-- windows of 10, LATENESS 10, RECORDS 5
abbrev q : Query
q = record base { shape = Fixed (pos 10); clock = record base.clock { records = pos 5 } }

abbrev Said : Type 0
Said = AnySaid (Unit {0})

abbrev said : Event → Said
said e = Ok (record { event = e; identifier = None; voice = Key })

abbrev a : ℕ → ℕ → Said
a time n = said (Record (Some 0) (pos time) (Int (pos n) ∷ []))

abbrev w : ℕ → Said
w time = said (Watermark (Some 0) (pos time))

-- eight lines, of whose four records two are needed
abbrev before : List Said
before = reverse (a 5 1 ∷ w 18 ∷ w 20 ∷ a 15 2 ∷ a 20 3 ∷ w 30 ∷ a 28 4 ∷ w 32 ∷ [])

-- and three behind them
abbrev lines : List Said
lines = reverse (a 29 5 ∷ a 33 6 ∷ w 40 ∷ [])

-- one more record is taken; the next has the number of its line in the log
abbrev written_of_them : List Line
written_of_them = Refused 10 RecordLimit ∷ Out (Pane Final 0 (window (pos 20) (pos 30)) (ints (3 ∷ 12 ∷ []))) ∷ []

by_the_whole : lines_written q None (lines ++ before) ≡ lines_written q None before ++ written_of_them
by_the_whole = refl

by_the_needed : lines_behind (with_records (pos 3) q) None (needed_of q (kept (setting_of None q) before)) 8 lines ≡ written_of_them
by_the_needed = refl
