-- Worked rows of the laws by key and by number: a part of a history, what it fires, and what each of their
-- conditions is for. Histories are written oldest row first.
use Rattle.std.specs.Prelude.{◌≡◌, refl, ℕ, zero, suc, false, List, [], ◌∷◌, filter, map, reverse, pos, Some, None, codes, nat_eq}
use Rattle.wsm_record.specs.declared.words.Form.TheVariants as form
use Rattle.wsm_record.specs.declared.words.Mode.TheVariants as mode
use Rattle.wsm_record.specs.declared.event.Value.TheVariants.{Int}
use Rattle.wsm_record.specs.Event.{Event, Record, Watermark}
use Rattle.wsm_windows.specs.declared.window.PaneKind.TheVariants.{OnTime}
use Rattle.wsm_windows.specs.Windows.{window}
use Rattle.wsm_admission.specs.declared.verdict.Refusal.TheVariants.{RecordLimit}
use Rattle.wsm_semantics.specs.declared.out_row.OutRow.TheVariants.{Pane, Istream}
use Rattle.wsm_semantics.specs.Query.{Query, verdict_on}
use Rattle.wsm_semantics.specs.Relation.{sorted_rows, relation, turn_rows}
use Rattle.wsm_semantics.specs.Lines.{Row, events}
use Rattle.wsm_semantics.specs.Rows.{base, counting, with_lateness, a, b, w, ints}
use Rattle.wsm_semantics.specs.ByNumber.{event_by, row_by, with_keys}
use Rattle.wsm_semantics.specs.ByKey.{Keys, others, of_keys, turn_of, is_row_of, of_parts, netted, gains, losses}

-- key a alone, and b with the records of no declared key
abbrev of_a : Keys
of_a None = false
of_a (Some key) = nat_eq key 0

abbrev of_b : Keys
of_b = others of_a

-- the events of some rows, the newest first
abbrev past_of : List Row → List Event
past_of rows = events (reverse rows)

abbrev watermark : ℕ → Event
watermark time = Watermark (Some 0) (pos time)

-- ---- a part

abbrev rows : List Row
rows = b 5 1 ∷ a 6 2 ∷ b 7 4 ∷ a 8 8 ∷ []

the_part_has_two : of_keys of_a (past_of rows) ≡ past_of (a 6 2 ∷ a 8 8 ∷ [])
the_part_has_two = refl

-- each has its turn of the whole, and so has what comes next
they_have_their_turns : map (turn_of of_a (past_of rows)) (0 ∷ 1 ∷ 2 ∷ []) ≡ 1 ∷ 3 ∷ 4 ∷ []
they_have_their_turns = refl

the_rows_of_a : filter (is_row_of of_a) (turn_rows base (past_of rows) (watermark 60)) ≡ Pane OnTime 0 (window (pos 0) (pos 60)) (ints (2 ∷ 10 ∷ [])) ∷ []
the_rows_of_a = refl

the_part_writes_them : turn_rows base (past_of (a 6 2 ∷ a 8 8 ∷ [])) (watermark 60) ≡ filter (is_row_of of_a) (turn_rows base (past_of rows) (watermark 60))
the_part_writes_them = refl

-- a record of b withdraws nothing of a, and fires nothing of it
another_key_withdraws_nothing :
    filter (is_row_of of_a) (turn_rows (record base { mode = mode.Retracting; late = 1 }) (past_of (a 5 1 ∷ b 6 2 ∷ w 60 ∷ [])) (Record (Some 1) (pos 55) (Int (pos 4) ∷ []))) ≡ []
another_key_withdraws_nothing = refl

its_own_part_withdraws :
    turn_rows (record base { mode = mode.Retracting; late = 1 }) (of_keys of_b (past_of (a 5 1 ∷ b 6 2 ∷ w 60 ∷ []))) (Record (Some 1) (pos 55) (Int (pos 4) ∷ []))
    ≡ turn_rows (record base { mode = mode.Retracting; late = 1 }) (past_of (a 5 1 ∷ b 6 2 ∷ w 60 ∷ [])) (Record (Some 1) (pos 55) (Int (pos 4) ∷ []))
its_own_part_withdraws = refl

-- ---- RECORDS counts all keys

-- RECORDS 1
abbrev one_record : Query
one_record = record base { clock = record base.clock { records = pos 1 } }

a_record_too_many : verdict_on one_record (past_of (b 5 1 ∷ [])) (Record (Some 0) (pos 6) (Int (pos 2) ∷ [])) ≡ Some RecordLimit
a_record_too_many = refl

the_part_takes_it : verdict_on one_record (of_keys of_a (past_of (b 5 1 ∷ []))) (Record (Some 0) (pos 6) (Int (pos 2) ∷ [])) ≡ None
the_part_takes_it = refl

-- and so it fires what the whole doesn't
the_whole_writes_none : filter (is_row_of of_a) (turn_rows one_record (past_of (b 5 1 ∷ a 6 2 ∷ [])) (watermark 60)) ≡ []
the_whole_writes_none = refl

the_part_writes_one : turn_rows one_record (of_keys of_a (past_of (b 5 1 ∷ a 6 2 ∷ []))) (watermark 60) ≡ Pane OnTime 0 (window (pos 0) (pos 60)) (ints (1 ∷ 2 ∷ [])) ∷ []
the_part_writes_one = refl

-- ---- what the relation gains and loses

-- at 120 the row of a is dropped and b has a row like it
abbrev two_windows : List Event
two_windows = past_of (a 5 1 ∷ w 60 ∷ b 65 1 ∷ [])

abbrev q : Query
q = with_lateness 0 counting

abbrev both : List Keys
both = of_a ∷ of_b ∷ []

abbrev three : List Event
three = past_of (a 5 1 ∷ b 6 1 ∷ b 7 1 ∷ w 60 ∷ [])

the_relation_of_both : relation q three ≡ ints (1 ∷ []) ∷ ints (2 ∷ []) ∷ []
the_relation_of_both = refl

-- without their order the rows of the parts aren't it
in_their_order_they_are_it : sorted_rows (of_parts (of_b ∷ of_a ∷ []) three (relation q)) ≡ relation q three
in_their_order_they_are_it = refl

one_behind_the_other_they_are_not : of_parts (of_b ∷ of_a ∷ []) three (relation q) ≡ ints (2 ∷ []) ∷ ints (1 ∷ []) ∷ []
one_behind_the_other_they_are_not = refl

-- the whole gains nothing
the_whole_gains_none : gains q two_windows (watermark 120) ≡ []
the_whole_gains_none = refl

-- but one part gains a row, and the other loses it: with that left on, ISTREAM of the parts isn't that of the whole
a_part_gains_one : of_parts both two_windows (λ part. gains q part (watermark 120)) ≡ ints (1 ∷ []) ∷ []
a_part_gains_one = refl

a_part_loses_one : of_parts both two_windows (λ part. losses q part (watermark 120)) ≡ ints (1 ∷ []) ∷ []
a_part_loses_one = refl

-- SELECT COUNT(*) .. EMIT ISTREAM
the_whole_writes_no_change : turn_rows (record q { form = form.Istream }) two_windows (watermark 120) ≡ []
the_whole_writes_no_change = refl

a_part_writes_one : of_parts both two_windows (λ part. turn_rows (record q { form = form.Istream }) part (watermark 120)) ≡ Istream (pos 120) (ints (1 ∷ [])) ∷ []
a_part_writes_one = refl

netted_they_gain_none : netted (of_parts both two_windows (λ part. gains q part (watermark 120))) (of_parts both two_windows (λ part. losses q part (watermark 120))) ≡ []
netted_they_gain_none = refl

-- a key that is of both parts is counted twice
a_key_in_both_counts_twice : sorted_rows (of_parts (of_a ∷ of_a ∷ of_b ∷ []) three (relation q)) ≡ ints (1 ∷ []) ∷ ints (1 ∷ []) ∷ ints (2 ∷ []) ∷ []
a_key_in_both_counts_twice = refl

-- ---- keys by their numbers

-- KEYS b alone, which is number 0 there, and 1 in the base
abbrev base_of_b : Query
base_of_b = with_keys suc (codes "b" ∷ []) base

its_number_is_0 : turn_rows base_of_b (past_of (a 5 1 ∷ a 7 4 ∷ [])) (watermark 60) ≡ Pane OnTime 0 (window (pos 0) (pos 60)) (ints (2 ∷ 5 ∷ [])) ∷ []
its_number_is_0 = refl

in_the_base_it_is_1 : turn_rows base (map (event_by suc) (past_of (a 5 1 ∷ a 7 4 ∷ []))) (watermark 60) ≡ Pane OnTime 1 (window (pos 0) (pos 60)) (ints (2 ∷ 5 ∷ [])) ∷ []
in_the_base_it_is_1 = refl

it_is_the_part_of_b : map (event_by suc) (past_of (a 5 1 ∷ a 7 4 ∷ [])) ≡ of_keys of_b (past_of rows)
it_is_the_part_of_b = refl

-- KEYS b, a, in another order than in the base
abbrev turned : ℕ → ℕ
turned zero = 1
turned (suc n) = 0

abbrev base_turned : Query
base_turned = with_keys turned (codes "b" ∷ codes "a" ∷ []) base

in_their_order : map (row_by turned) (turn_rows base_turned (past_of (a 5 1 ∷ b 6 2 ∷ [])) (watermark 60))
    ≡ Pane OnTime 1 (window (pos 0) (pos 60)) (ints (1 ∷ 1 ∷ [])) ∷ Pane OnTime 0 (window (pos 0) (pos 60)) (ints (1 ∷ 2 ∷ [])) ∷ []
in_their_order = refl

in_the_order_of_the_base : turn_rows base (map (event_by turned) (past_of (a 5 1 ∷ b 6 2 ∷ []))) (watermark 60)
    ≡ Pane OnTime 0 (window (pos 0) (pos 60)) (ints (1 ∷ 2 ∷ [])) ∷ Pane OnTime 1 (window (pos 0) (pos 60)) (ints (1 ∷ 1 ∷ [])) ∷ []
in_the_order_of_the_base = refl
