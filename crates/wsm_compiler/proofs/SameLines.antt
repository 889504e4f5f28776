-- Queries that select the same of the records in range, and have the same rows over panes in range, have the same lines for every input.
use Rattle.std.proofs.Common.{◌≡◌, ℕ, suc, ◌≤◌, Bool, true, false, ◌&&◌, ◌||◌, cond, List, [], ◌∷◌, ◌++◌, length, map, ℤ, Option, Some, None, refl, sym, ap, subst, ◌∙◌, arith}
use Rattle.std.proofs.lemmas.Int.{ints}
use Rattle.std.specs.Prelude.{pos, ◌≤ℤ◌, filter, filter_map, flat_map, is_none, nat_lt, not, option_map, option_and_then, unsigned_abs}
use Rattle.std.specs.Option.{IfSome}
use Rattle.std.specs.List.{AllByRecursion, list_all, list_any}
use Rattle.std.specs.FinMap.Entries.{where_key}
use Rattle.std.proofs.lemmas.Bool.{and_from, and_parts}
use Rattle.wsm_semantics.proofs.Each.{filter_map-each}
use Rattle.wsm_record.specs.declared.event.Value.{Value}
use Rattle.wsm_record.specs.declared.cell.Cell.{Cell}
use Rattle.wsm_record.specs.declared.words.Mode.{Mode}
use Rattle.wsm_record.specs.declared.words.Mode.TheVariants.{Retracting}
use Rattle.wsm_record.specs.Event.{Event, Record, Watermark}
use Rattle.wsm_record.specs.Schema.{fit_fields}
use Rattle.wsm_windows.specs.declared.place.Place.{Place}
use Rattle.wsm_windows.specs.Limits.{is_size, is_span, is_time}
use Rattle.wsm_windows.specs.Places.{place_cmp, at}
use Rattle.wsm_admission.specs.declared.verdict.Refusal.{Refusal}
use Rattle.wsm_semantics.specs.Query.{Query as Meant, Datum, datum, Effect, Selects, Nothing, effect_of, selection, mark, raises, verdict_on, selected}
use Rattle.wsm_semantics.specs.Panes.{windows_among, is_there, is_live_at, with_contents, panes, held}
use Rattle.wsm_semantics.specs.Firings.{Firing, holds, shows, fire, firings_by, is_shown, firings, firings_so_far, pane_rows}
use Rattle.wsm_semantics.specs.Relation.{sorted_rows, relation_at, relation, stream_rows, chosen_rows, streamed, turn_rows}
use Rattle.wsm_semantics.specs.Retractions.{standing_for, panes_before_drops, is_same, withdrawn, written_of, retracted, retract_rows}
use Rattle.wsm_semantics.specs.StandingFirings.{standing}
use Rattle.wsm_semantics.specs.Lines.{Row, turn_lines, lines_so_far, end_line, all_lines}
use Rattle.wsm_machine.specs.Meaning.{query_of}
use Rattle.wsm_query.specs.Tree.{Query}
use Rattle.wsm_compiler.specs.Program.{program_of}
use Rattle.wsm_compiler.specs.Means.{meant}
use Rattle.wsm_compiler.specs.SameMeaning.{record_in_range, IsPane, IsAccepted}
use Rattle.wsm_compiler.specs.Accepted.{states_enough}
use Rattle.wsm_compiler.specs.Ranges.{ranges_fit}
use Rattle.wsm_compiler.specs.SameLines.{SameLines, TextMeans}
use Rattle.wsm_compiler.proofs.Accepted.{accepted_exactly}
use Rattle.wsm_compiler.proofs.Texts.{parsed_is_spelt}
use Rattle.wsm_compiler.proofs.Passed.{passed}
use Rattle.wsm_compiler.proofs.FiringSets.{IsFiringSet, IsOfSet, taken_fits, firings_of_sets, so_far_of_sets, standing_of_set, withdrawn_of_sets, all_each}
use Rattle.wsm_compiler.proofs.TotalPanes.{stands_for_meant}

module _ (m : Meant) (sel : ℕ → List Value → Bool) (row : ℕ → List Datum → Option (List Cell)) where
  -- the clauses of the first, with other meanings of WHERE and of rows
  abbrev other : Meant
  other = record m { selects = sel; row = row }

  -- where records are in range they select the same, and over the sets of firings they have the same row
  record Agree : Type 0 where
    selects : (key : ℕ) (values : List Value) → (nat_lt key (length m.declared.keys) && fit_fields m.declared.fields values) ≡ true → m.selects key values ≡ sel key values
    rows : (key : ℕ) (ds : List Datum) → IsFiringSet m key ds → m.row key ds ≡ row key ds

  module _ (agree : Agree) where
    effect_same : (past : List Event) (e : Event) → effect_of m past e ≡ effect_of other past e
    effect_same past (Record None time values) = refl
    effect_same past (Record (Some key) time values) = pick (verdict_on m past (Record (Some key) time values)) refl
      where
        pick : (v : Option Refusal) → verdict_on m past (Record (Some key) time values) ≡ v →
            cond (is_none v && m.selects key values) (Selects (datum (length past) (mark m past) key time values)) Nothing ≡ cond (is_none v && sel key values) (Selects (datum (length past) (mark m past) key time values)) Nothing
        pick None h = ap (λ b. cond b (Selects (datum (length past) (mark m past) key time values)) Nothing) (agree.selects key values (taken_fits m past key time values h))
        pick (Some r) h = refl
    effect_same past (Watermark source time) = refl

    selected_same : (past : List Event) → selected m past ≡ selected other past
    selected_same [] = refl
    selected_same (e ∷ past) = (λ i. selection (effect_same past e i) ++ selected_same past i)

    panes_same : (past : List Event) → panes m past ≡ panes other past
    panes_same past = ap (λ ds. with_contents (λ p. filter (is_there m p) ds) (flat_map (λ d. map (at d.key) (windows_among m.shape m.clock.lateness ds d)) ds)) (selected_same past)

    held_same : (past : List Event) → held m past ≡ held other past
    held_same past = ap (where_key place_cmp (is_live_at m (mark m past))) (panes_same past)

    -- ---- firings

    fire_same : (shown : Datum → Bool) (turn : ℕ) (x : Effect) (p : Place) (all : List Datum) → fire shown m turn x p all ≡ fire shown other turn x p all
    fire_same shown turn x p all = grind arith

    by_same : (shown also : Place → Datum → Bool) → shown ≡ also → (past : List Event) (e : Event) → firings_by shown m past e ≡ firings_by also other past e
    by_same shown also h past e = (λ i. filter_map (λ p. fire_same (h i p.0) (length past) (effect_same past e i) p.0 p.1 i) (panes_same (e ∷ past) i))

    shown_same : (past : List Event) → is_shown m past ≡ is_shown other past
    shown_same [] = (λ i p d. false)
    shown_same (e ∷ past) = (λ i p d. shown_same past i p d || list_any (λ f. shows m.shape p f.place && holds d f.contents) (by_same (is_shown m past) (is_shown other past) (shown_same past) past e i))

    firings_same : (past : List Event) (e : Event) → firings m past e ≡ firings other past e
    firings_same past e = by_same (is_shown m past) (is_shown other past) (shown_same past) past e

    so_far_same : (past : List Event) → firings_so_far m past ≡ firings_so_far other past
    so_far_same [] = refl
    so_far_same (e ∷ past) = (λ i. so_far_same past i ++ firings_same past e i)

    -- ---- rows

    pane_rows_same : (past : List Event) (e : Event) → pane_rows m past e ≡ pane_rows other past e
    pane_rows_same past e = grind (arith, filter_map-each, all_each, IsOfSet, firings_of_sets, firings_same)

    standing_row : (o : Option Firing) → IfSome o (IsOfSet m) → option_and_then (λ f. m.row f.place.key f.fired) o ≡ option_and_then (λ f. row f.place.key f.fired) o
    standing_row o h = grind arith

    abbrev standing_in : List Firing → Place × List Datum → Option (List Cell)
    standing_in fs p = option_and_then (λ f. m.row f.place.key f.fired) (standing m fs p.0 p.1)

    abbrev other_standing_in : List Firing → Place × List Datum → Option (List Cell)
    other_standing_in fs p = option_and_then (λ f. row f.place.key f.fired) (standing m fs p.0 p.1)

    all_standing : (fs : List Firing) → AllByRecursion (IsOfSet m) fs → (ps : List (Place × List Datum)) → AllByRecursion (λ p. standing_in fs p ≡ other_standing_in fs p) ps
    all_standing fs h [] = tt
    all_standing fs h (p ∷ ps) = (standing_row (standing m fs p.0 p.1) (standing_of_set m fs p.0 p.1 h), all_standing fs h ps)

    relation_at_same : (past : List Event) (e : Event) → relation_at m past e ≡ relation_at other past e
    relation_at_same past e =
        let fs = firings_so_far m (e ∷ past) in
        ap sorted_rows
        (filter_map-each (standing_in fs) (other_standing_in fs) (held m past) (all_standing fs (so_far_of_sets m (e ∷ past)) (held m past))
        ∙ (λ i. filter_map (other_standing_in (so_far_same (e ∷ past) i)) (held_same past i)))

    relation_same : (past : List Event) → relation m past ≡ relation other past
    relation_same [] = refl
    relation_same (e ∷ past) = (λ i. cond (raises m past e) (relation_at_same past e i) (relation_same past i))

    streamed_same : (past : List Event) (e : Event) → streamed m past e ≡ streamed other past e
    streamed_same past e = (λ i. cond (raises m past e) (stream_rows m.form (mark m (e ∷ past)) (relation_same past i) (relation_at_same past e i)) [])

    -- ---- what is withdrawn

    standing_for_same : (past : List Event) (ps qs : List (Place × List Datum)) → ps ≡ qs → standing_for m past ps ≡ standing_for other past qs
    standing_for_same past ps qs h = (λ i. filter_map (λ p. standing m (so_far_same past i) p.0 p.1) (h i))

    before_drops_same : (past : List Event) (e : Event) → panes_before_drops m past e ≡ panes_before_drops other past e
    before_drops_same past e = ap (where_key place_cmp (is_live_at m (mark m past))) (panes_same (e ∷ past))

    withdrawn_same : (past : List Event) (e : Event) → withdrawn m past e ≡ withdrawn other past e
    withdrawn_same past e =
        let now = standing_for_same (e ∷ past) (panes_before_drops m past e) (panes_before_drops other past e) (before_drops_same past e) in
        let before = standing_for_same past (held m past) (held other past) (held_same past) in
        (λ i. filter (λ f. not (list_any (is_same f) (now i))) (before i))

    written_same : (past : List Event) (e : Event) → filter_map (written_of m) (withdrawn m past e) ≡ filter_map (written_of other) (withdrawn other past e)
    written_same past e =
        filter_map-each (written_of m) (written_of other) (withdrawn m past e)
        (all_each (IsOfSet m) (λ f. written_of m f ≡ written_of other f) (λ f h. ap (option_map (λ (columns : List Cell). (f.place, columns))) (agree.rows f.place.key f.fired h)) (withdrawn m past e) (withdrawn_of_sets m past e))
        ∙ ap (filter_map (written_of other)) (withdrawn_same past e)

    retract_rows_same : (mode : Mode) (past : List Event) (e : Event) → retract_rows mode m past e ≡ retract_rows mode other past e
    retract_rows_same Retracting past e = ap retracted (written_same past e)
    retract_rows_same mode past e = refl

    rows_same : (past : List Event) (e : Event) → turn_rows m past e ≡ turn_rows other past e
    rows_same past e = (λ i. chosen_rows m.form (retract_rows_same m.mode past e i ++ pane_rows_same past e i) (streamed_same past e i))

    -- ---- lines

    turn_same : (before : List Row) (r : Row) → turn_lines m before r ≡ turn_lines other before r
    turn_same before r = grind (arith, rows_same)

    so_far_lines_same : (rows : List Row) → lines_so_far m rows ≡ lines_so_far other rows
    so_far_lines_same [] = refl
    so_far_lines_same (r ∷ before) = (λ i. so_far_lines_same before i ++ turn_same before r i)

    end_same : (rows : List Row) → end_line m rows ≡ end_line other rows
    end_same rows = grind (arith, so_far_same)

    lines_same : (rows : List Row) → all_lines m rows ≡ all_lines other rows
    lines_same rows = (λ i. so_far_lines_same rows i ++ end_same rows i ∷ [])

-- ---- the text and its program

few_of : (n : ℕ) (records : ℤ) → is_size records ≡ true → n ≤ unsigned_abs records → pos n ≤ℤ records
few_of n records h l = grind (arith, ints)

length-values : (ds : List Datum) → length (map (λ (d : Datum). d.values) ds) ≡ length ds
length-values [] = refl
length-values (d ∷ ds) = ap suc (length-values ds)

all_in_range : (q : Query) (key : ℕ) (ds : List Datum) → AllByRecursion (λ d. d.key ≡ key) ds → AllByRecursion (λ d. record_in_range q d.key d.values ≡ true) ds → list_all (record_in_range q key) (map (λ d. d.values) ds) ≡ true
all_in_range q key [] same fits = refl
all_in_range q key (d ∷ ds) same fits =
    (λ i. subst (λ k. record_in_range q k d.values ≡ true) same.0 fits.0 i && all_in_range q key ds same.1 fits.1 i)

pub pane_is : (q : Query) → IsAccepted q → (key : ℕ) (ds : List Datum) → IsFiringSet (query_of (program_of q)) key ds → IsPane q key (map (λ d. d.values) ds)
pane_is q a key ds h =
    let clock = (passed q a.checked).clock in
    let c1 = and_parts (is_time q.clock.start) (is_span q.clock.skew && (is_span q.clock.lateness && is_size q.clock.records)) clock in
    let c2 = and_parts (is_span q.clock.skew) (is_span q.clock.lateness && is_size q.clock.records) c1.1 in
    let c3 = and_parts (is_span q.clock.lateness) (is_size q.clock.records) c2.1 in
    let n = length-values ds in
    let few : length (map (λ (d : Datum). d.values) ds) ≤ unsigned_abs q.clock.records = subst (λ l. l ≤ unsigned_abs q.clock.records) (sym n) h.few in
    record {
      some = subst (λ l. 1 ≤ l) (sym n) h.some;
      few = few_of (length (map (λ (d : Datum). d.values) ds)) q.clock.records c3.1 few;
      each = all_in_range q key ds h.same h.each;
    }

pub same_lines : (q : Query) → SameLines q
same_lines q a rows =
    let s = stands_for_meant q a in
    lines_same (query_of (program_of q)) (meant q).selects (meant q).row (record { selects = s.selects; rows = λ key ds h. s.row key ds h.same (pane_is q a key ds h) }) rows

pub text_means : (text : List ℕ) (q : Query) → TextMeans text q
text_means text q read checked fit enough =
    same_lines q (record { checked = checked; spelt = parsed_is_spelt text q read; accepted = accepted_exactly q checked ∙ and_from (ranges_fit q) (states_enough (program_of q)) fit enough })
