-- Worked rows of programs, computed by their meaning and by what is kept of panes.
use Rattle.std.specs.Prelude.{◌≡◌, refl, ℕ, true, List, [], ◌∷◌, ◌++◌, reverse, map, filter_map, ℤ, pos, Some, None, Ok, codes, false}
use Rattle.wsm_record.specs.declared.event.Value.{Value}
use Rattle.wsm_record.specs.declared.event.Value.TheVariants.{Int}
use Rattle.wsm_record.specs.declared.cell.Cell.{Cell}
use Rattle.wsm_record.specs.declared.cell.Cell.TheVariants as cells
use Rattle.wsm_record.specs.declared.words.Kind.TheVariants.{Sum}
use Rattle.wsm_record.specs.declared.words.Mode.{Mode}
use Rattle.wsm_record.specs.declared.words.Mode.TheVariants.{Discarding, Accumulating}
use Rattle.wsm_record.specs.declared.words.Form.TheVariants.{Panes, Rstream}
use Rattle.wsm_record.specs.Event.{Event, Record, Watermark}
use Rattle.wsm_record.specs.Schema.{Int as Between}
use Rattle.wsm_windows.specs.declared.window.PaneKind.{PaneKind}
use Rattle.wsm_windows.specs.declared.window.PaneKind.TheVariants.{Early, OnTime, Late, Final}
use Rattle.wsm_windows.specs.declared.window.Shape.{Shape}
use Rattle.wsm_windows.specs.declared.window.Shape.TheVariants.{Fixed, Sliding, Session}
use Rattle.wsm_windows.specs.Windows.{window}
use Rattle.wsm_semantics.specs.declared.out_row.OutRow.{OutRow}
use Rattle.wsm_semantics.specs.declared.out_row.OutRow.TheVariants as rows
use Rattle.wsm_semantics.specs.Query.{Datum}
use Rattle.wsm_semantics.specs.Lines.{Line, Out, End, all_lines}
use Rattle.wsm_semantics.specs.declared.standing.Standing.TheVariants.{Unfired, Row as Stands}
use Rattle.wsm_semantics.specs.Summaries.{Pane, after_record, after_watermark, fired_by_watermark, row_of, relation_of, at_watermark, summaries}
use Rattle.wsm_semantics.specs.Kept.{kept}
use Rattle.wsm_semantics.specs.Steps.{step_rows, run}
use Rattle.wsm_record.specs.declared.words.CellType.TheVariants as types
use Rattle.wsm_windows.specs.declared.place.Place.{Place}
use Rattle.wsm_program.specs.declared.instr.Instr.TheVariants.{PushInt, PushBool, Field, Acc, Count, Compare, Fold, Return}
use Rattle.wsm_interval.specs.declared.comparison.Comparison.TheVariants.{Gt}
use Rattle.wsm_program.specs.Program.{Program}
use Rattle.wsm_machine.specs.Meaning.{query_of, plan_of, record_cost, record_cost_by}

-- KEYS a, b; FIELD n INT 0..100; START 0; SKEW 100; LATENESS 10; RECORDS 1000;
-- SELECT COUNT(*), SUM(n) ACCUMULATING EMIT PANES;
abbrev base : Shape → Mode → Program
base shape mode = record {
  header = record {
    schema = record { keys = codes "a" ∷ codes "b" ∷ []; fields = record { name = codes "n"; type = Between (pos 0) (pos 100) } ∷ []; sources = [] };
    clock = record { start = pos 0; skew = pos 100; lateness = pos 10; from_window = false; records = pos 1000 };
    shape = shape;
    mode = mode;
    early = pos 0;
    late = pos 0;
    form = Panes;
    kinds = Sum ∷ [];
    columns = types.Int ∷ types.Int ∷ [];
    budget = record { per_record = 6; per_pane = 4; held = 6 };
  };
  selection = PushBool true ∷ Return ∷ [];
  update = Field 0 ∷ Fold 0 ∷ Return ∷ [];
  fire = Count ∷ Acc 0 ∷ PushBool true ∷ Return ∷ [];
}

abbrev fixed : Program
fixed = base (Fixed (pos 60)) Accumulating

abbrev session : Program
session = base (Session (pos 30)) Accumulating

abbrev a : ℕ → ℕ → Event
a time n = Record (Some 0) (pos time) (Int (pos n) ∷ [])

abbrev ints : List ℕ → List Cell
ints ns = map (λ n. cells.Int (pos n)) ns

-- ---- by the meaning

two_records_in_one_pane :
    all_lines (query_of fixed) (reverse (Ok (a 5 7) ∷ Ok (a 59 3) ∷ Ok (Watermark (Some 0) (pos 60)) ∷ []))
    ≡ Out (rows.Pane OnTime 0 (window (pos 0) (pos 60)) (ints (2 ∷ 10 ∷ []))) ∷ End 3 2 0 0 1 ∷ []
two_records_in_one_pane = refl

-- HAVING SUM(n) > 10
having_false_writes_no_row :
    all_lines (query_of (record fixed { fire = Count ∷ Acc 0 ∷ Acc 0 ∷ PushInt (pos 10) ∷ Compare Gt ∷ Return ∷ [] }))
    (reverse (Ok (a 5 7) ∷ Ok (a 59 3) ∷ Ok (Watermark (Some 0) (pos 60)) ∷ [])) ≡ End 3 2 0 0 1 ∷ []
having_false_writes_no_row = refl

-- WHERE n > 5
only_selected_records :
    all_lines (query_of (record fixed { selection = Field 0 ∷ PushInt (pos 5) ∷ Compare Gt ∷ Return ∷ [] }))
    (reverse (Ok (a 5 7) ∷ Ok (a 59 3) ∷ Ok (Watermark (Some 0) (pos 60)) ∷ []))
    ≡ Out (rows.Pane OnTime 0 (window (pos 0) (pos 60)) (ints (1 ∷ 7 ∷ []))) ∷ End 3 2 0 0 1 ∷ []
only_selected_records = refl

a_record_costs_five : record_cost fixed [] (a 5 7) ≡ 5
a_record_costs_five = refl

a_record_that_joins_costs_six : record_cost session (a 40 2 ∷ a 0 1 ∷ []) (a 20 4) ≡ 6
a_record_that_joins_costs_six = refl

a_record_between_that_joins_none : record_cost session (a 40 2 ∷ a 0 1 ∷ []) (a 39 4) ≡ 5
a_record_between_that_joins_none = refl

-- ---- by what is kept of panes

abbrev d : ℕ → ℕ → Datum
d time n = record { turn = 0; mark = pos 0; key = 0; time = pos time; values = Int (pos n) ∷ [] }

abbrev Held : Type 0
Held = List (Place × Pane (List Value))

-- the panes after some records, the newest first, at the mark 0
abbrev after : Program → List Datum → Held
after p [] = []
after p (d ∷ ds) = after_record (plan_of p) (query_of p) (pos 0) d (after p ds)

abbrev fired_at : Program → ℤ → Held → List Line
fired_at p new held = map Out (filter_map (row_of (plan_of p)) (fired_by_watermark (plan_of p) (query_of p) (pos 0) new held))

two_records_are_kept :
    after fixed (d 59 3 ∷ d 5 7 ∷ [])
    ≡ (record { end = pos 60; start = pos 0; key = 0 }, record { count = 2; unshown = 2; folded = Some (Int (pos 10) ∷ []); stands = Unfired }) ∷ []
two_records_are_kept = refl

two_records_fire :
    fired_at fixed (pos 60) (after fixed (d 59 3 ∷ d 5 7 ∷ [])) ≡ Out (rows.Pane OnTime 0 (window (pos 0) (pos 60)) (ints (2 ∷ 10 ∷ []))) ∷ []
two_records_fire = refl

a_record_joins_two_sessions :
    after session (d 20 4 ∷ d 40 2 ∷ d 0 1 ∷ [])
    ≡ (record { end = pos 70; start = pos 0; key = 0 }, record { count = 3; unshown = 3; folded = Some (Int (pos 7) ∷ []); stands = Unfired }) ∷ []
a_record_joins_two_sessions = refl

the_joining_record_costs_six : record_cost_by session (after session (d 40 2 ∷ d 0 1 ∷ [])) (d 20 4) ≡ 6
the_joining_record_costs_six = refl

-- LATENESS 100: nothing stands for a session just joined
abbrev lasting : Program
lasting = record session { header = record session.header { clock = record session.header.clock { lateness = pos 100 } } }

abbrev both_fired : Held
both_fired = after_watermark (plan_of lasting) (query_of lasting) (pos 0) (pos 70) (after lasting (d 40 2 ∷ d 0 1 ∷ []))

two_rows_stand : relation_of both_fired ≡ ints (1 ∷ 1 ∷ []) ∷ ints (1 ∷ 2 ∷ []) ∷ []
two_rows_stand = refl

none_stands_for_what_is_joined : relation_of (after_record (plan_of lasting) (query_of lasting) (pos 70) (d 20 4) both_fired) ≡ []
none_stands_for_what_is_joined = refl

the_joined_session_fires_at_last :
    relation_of (at_watermark (plan_of lasting) (query_of lasting) (pos 80) (pos 170) (after_record (plan_of lasting) (query_of lasting) (pos 70) (d 20 4) both_fired)) ≡ ints (3 ∷ 7 ∷ []) ∷ []
the_joined_session_fires_at_last = refl

-- what discarding panes keep after a firing
nothing_is_left_of_a_fired_pane :
    after_watermark (plan_of (base (Fixed (pos 60)) Discarding)) (query_of (base (Fixed (pos 60)) Discarding)) (pos 0) (pos 60)
    (after (base (Fixed (pos 60)) Discarding) (d 59 3 ∷ d 5 7 ∷ []))
    ≡ (record { end = pos 60; start = pos 0; key = 0 }, record { count = 2; unshown = 0; folded = None; stands = Stands None (Some (ints (2 ∷ 10 ∷ []))) }) ∷ []
nothing_is_left_of_a_fired_pane = refl

-- ---- event by event

-- the rows of all turns, by what is kept; the newest event first
abbrev rows_so_far : Program → List Event → List OutRow
rows_so_far p [] = []
rows_so_far p (e ∷ past) = rows_so_far p past ++ step_rows (plan_of p) (query_of p) (run (plan_of p) (query_of p) past) e

abbrev rows_of_all : Program → List Event → List OutRow
rows_of_all p events = rows_so_far p (reverse events)

abbrev with_early : ℕ → Program → Program
with_early m p = record p { header = record p.header { early = pos m } }

abbrev with_late : ℕ → Program → Program
with_late m p = record p { header = record p.header { late = pos m } }

abbrev pane : PaneKind → ℕ → ℕ → List ℕ → OutRow
pane kind start end columns = rows.Pane kind 0 (window (pos start) (pos end)) (ints columns)

a_joined_session_fires_early : rows_of_all (with_early 4 session) (a 0 1 ∷ a 1 1 ∷ a 40 1 ∷ a 41 1 ∷ a 20 1 ∷ []) ≡ pane Early 0 71 (5 ∷ 5 ∷ []) ∷ []
a_joined_session_fires_early = refl

discarding_shows_a_record_once : rows_of_all (with_early 2 (base (Fixed (pos 60)) Discarding)) (a 1 2 ∷ a 2 3 ∷ Watermark (Some 0) (pos 60) ∷ []) ≡ pane Early 0 60 (2 ∷ 5 ∷ []) ∷ []
discarding_shows_a_record_once = refl

late_and_final_panes :
    rows_of_all (with_late 2 fixed) (a 55 1 ∷ Watermark (Some 0) (pos 60) ∷ a 56 2 ∷ a 57 3 ∷ a 58 4 ∷ Watermark (Some 0) (pos 70) ∷ [])
    ≡ pane OnTime 0 60 (1 ∷ 1 ∷ []) ∷ pane Late 0 60 (3 ∷ 6 ∷ []) ∷ pane Final 0 60 (4 ∷ 10 ∷ []) ∷ []
late_and_final_panes = refl

late_and_final_panes_of_unshown_records :
    rows_of_all (with_late 2 (base (Fixed (pos 60)) Discarding)) (a 55 1 ∷ Watermark (Some 0) (pos 60) ∷ a 56 2 ∷ a 57 3 ∷ a 58 4 ∷ Watermark (Some 0) (pos 70) ∷ [])
    ≡ pane OnTime 0 60 (1 ∷ 1 ∷ []) ∷ pane Late 0 60 (2 ∷ 5 ∷ []) ∷ pane Final 0 60 (1 ∷ 4 ∷ []) ∷ []
late_and_final_panes_of_unshown_records = refl

-- sessions with LATENESS 100, EMIT RSTREAM
abbrev related : Program
related = record lasting { header = record lasting.header { form = Rstream } }

nothing_stands_for_a_session_just_joined :
    rows_of_all related (a 0 1 ∷ a 40 1 ∷ Watermark (Some 0) (pos 70) ∷ a 20 1 ∷ Watermark (Some 0) (pos 80) ∷ Watermark (Some 0) (pos 170) ∷ [])
    ≡ rows.Rstream (pos 70) (ints (1 ∷ 1 ∷ [])) ∷ rows.Rstream (pos 70) (ints (1 ∷ 1 ∷ [])) ∷ rows.Rstream (pos 170) (ints (3 ∷ 3 ∷ [])) ∷ []
nothing_stands_for_a_session_just_joined = refl

-- what is kept is what the history says
abbrev joined_late : List Event
joined_late = reverse (a 0 1 ∷ a 40 1 ∷ Watermark (Some 0) (pos 70) ∷ a 20 1 ∷ Watermark (Some 0) (pos 80) ∷ [])

panes_are_the_history's : (run (plan_of related) (query_of related) joined_late).panes ≡ summaries (plan_of related) Accumulating (kept (query_of related) joined_late)
panes_are_the_history's = refl

sliding_panes_are_the_history's :
    (run (plan_of (base (Sliding (pos 60) (pos 25)) Discarding)) (query_of (base (Sliding (pos 60) (pos 25)) Discarding)) joined_late).panes
    ≡ summaries (plan_of (base (Sliding (pos 60) (pos 25)) Discarding)) Discarding (kept (query_of (base (Sliding (pos 60) (pos 25)) Discarding)) joined_late)
sliding_panes_are_the_history's = refl
