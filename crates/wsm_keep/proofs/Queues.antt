-- What a queue has of the rows so far, row by row and cut by cut.
use Rattle.std.proofs.Common.{◌≡◌, ℕ, true, false, ◌&&◌, cond, List, [], ◌∷◌, ◌++◌, map, length, ℤ, pos, ◌+ℤ◌, ◌-ℤ◌, ◌≤ℤ◌, Some, None, Ok, Err, refl, sym, ap, subst, ◌∙◌, arith}
use Rattle.std.proofs.lemmas.Int.{ints}
use Rattle.std.proofs.lemmas.Bool.{and_parts}
use Rattle.std.specs.Prelude.{filter, int_lt, nat_eq}
use Rattle.wsm_record.specs.Event.{Event, Record, Watermark}
use Rattle.wsm_windows.specs.declared.window.Shape.{Shape}
use Rattle.wsm_windows.specs.declared.window.Shape.TheVariants.{Fixed, Sliding, Session}
use Rattle.wsm_windows.specs.Windows.{IsShape}
use Rattle.wsm_admission.specs.Clock.{admitted_count}
use Rattle.wsm_admission.proofs.SourceMarks.{watermark_rises}
use Rattle.wsm_semantics.specs.Query.{Query, Datum, SessionsByEvent, Selects, Rises, Nothing, datum, mark, raises, is_taken, selected, selection, verdict_on}
use Rattle.wsm_semantics.specs.Lines.{Row, events}
use Rattle.wsm_semantics.specs.Panes.{of_key}
use Rattle.wsm_semantics.specs.FromWatermark.{Times, IsSettled, PartsNoSession, last_end, dropped_time, dropped_times}
use Rattle.wsm_semantics.specs.Needed.{needed_by_panes}
use Rattle.wsm_semantics.proofs.Decided.{none_is}
use Rattle.wsm_semantics.proofs.KeptTurns.{prompt}
use Rattle.wsm_semantics.proofs.KeptLaw.{gap_is_long}
use Rattle.wsm_semantics.proofs.LaterParts.{parted_on, over_settled, over_parts_none}
use Rattle.wsm_keep.specs.declared.what.What.{What}
use Rattle.wsm_keep.specs.declared.what.What.TheVariants.{Selected, Accepted, Idle}
use Rattle.wsm_keep.specs.Staying.{what_of, stays, told_after, events_in, thinned, with_what, done_by, row_of, staying_for_panes}
use Rattle.wsm_keep.specs.Holds.{Written, Queued, read, text_of, queued, all_queued, time_if, times_in, selected_in, IsAbove, Serves, Holds}
use Rattle.wsm_keep.proofs.Thinning.{thinned_twice, thinned-map, above_thinned, times_thinned, later_times}
use Rattle.wsm_keep.proofs.Settled.{later_decide, sooner_by, no_later}
use Rattle.wsm_keep.proofs.SelectedRows.{selected_needed}

module _ (q : Query) where
  abbrev past : List Written → List Event
  past rows = events_in read rows

  -- ---- the times of a key

  module _ (key : ℕ) where
    abbrev selected_times : List Event → List ℤ
    selected_times es = map (λ (d : Datum). d.time) (of_key key (selected q es))

    times_of_rows : (rows : List Written) → times_in key (all_queued q rows) ≡ selected_times (past rows)
    times_of_rows [] = refl
    times_of_rows (w ∷ before) = by (times_of_rows before) w.0 where
      by : times_in key (all_queued q before) ≡ selected_times (past before) → (r : Row) → time_if key (what_of q (past before) r) ++ times_in key (all_queued q before) ≡ selected_times (events (r ∷ map read before))
      by again (Err fault) = again
      by again (Ok (Record None t vs)) = again
      by again (Ok (Record (Some k) t vs)) =
          elim (is_taken q (past before) (Record (Some k) t vs) && q.selects k vs) as (λ c. time_if key (cond c (Selected k t) Idle) ++ times_in key (all_queued q before) ≡ map (λ (d : Datum). d.time) (of_key key (selection (cond c (Selects (datum (length (past before)) (mark q (past before)) k t vs)) Nothing) ++ selected q (past before)))) [
            | true ↦ elim (nat_eq k key) as (λ b. cond b (t ∷ []) [] ++ times_in key (all_queued q before) ≡ map (λ (d : Datum). d.time) (cond b (datum (length (past before)) (mark q (past before)) k t vs ∷ of_key key (selected q (past before))) (of_key key (selected q (past before))))) [
              | true ↦ ap (λ (ts : List ℤ). t ∷ ts) (again)
              | false ↦ again
            ]
            | false ↦ again
          ]
      by again (Ok (Watermark None t)) = raised (Watermark None t) where
        raised : (e : Event) → times_in key (all_queued q before) ≡ map (λ (d : Datum). d.time) (of_key key (selection (cond (raises q (past before) e) (Rises (mark q (past before)) (mark q (e ∷ past before))) Nothing) ++ selected q (past before)))
        raised e = elim (raises q (past before) e) as (λ b. times_in key (all_queued q before) ≡ map (λ (d : Datum). d.time) (of_key key (selection (cond b (Rises (mark q (past before)) (mark q (e ∷ past before))) Nothing) ++ selected q (past before)))) [
          | true ↦ again
          | false ↦ again
        ]
      by again (Ok (Watermark (Some s) t)) =
          elim (is_taken q (past before) (Watermark (Some s) t)) as (λ c. time_if key (cond c (Accepted s) Idle) ++ times_in key (all_queued q before) ≡ map (λ (d : Datum). d.time) (of_key key (selection (cond (raises q (past before) (Watermark (Some s) t)) (Rises (mark q (past before)) (mark q (Watermark (Some s) t ∷ past before))) Nothing) ++ selected q (past before)))) [
            | true ↦ raised (Watermark (Some s) t)
            | false ↦ raised (Watermark (Some s) t)
          ]
        where
          raised : (e : Event) → times_in key (all_queued q before) ≡ map (λ (d : Datum). d.time) (of_key key (selection (cond (raises q (past before) e) (Rises (mark q (past before)) (mark q (e ∷ past before))) Nothing) ++ selected q (past before)))
          raised e = elim (raises q (past before) e) as (λ b. times_in key (all_queued q before) ≡ map (λ (d : Datum). d.time) (of_key key (selection (cond b (Rises (mark q (past before)) (mark q (e ∷ past before))) Nothing) ++ selected q (past before)))) [
            | true ↦ again
            | false ↦ again
          ]

  -- ---- the queue decides

  same_as : (y : Times) (key : ℕ) → y key ≤ℤ y key
  same_as y key = let n : ℤ = y key in omega (arith, ints)

  module _ (ok : IsShape q.shape) (rows : List Written) (queue : List Queued) (holds : Holds q rows queue) where
    -- the later times of a key are those of all
    queue_times : (gap : ℤ) → q.shape ≡ Session gap → (key : ℕ) → filter (λ t. int_lt (holds.x key) t) (selected_times key (past rows)) ≡ times_in key queue
    queue_times gap is key =
        ap (filter (λ t. int_lt (holds.x key) t)) (sym (times_of_rows key rows))
        ∙ sym (times_thinned holds.x key [] (all_queued q rows))
        ∙ ap (times_in key) (sym (holds.serves holds.x (same_as holds.x) []))
        ∙ times_thinned holds.x key [] queue
        ∙ later_times holds.x key queue (holds.above gap is)

    -- up to which time all of a key may go
    pub queue_decides : (key : ℕ) → dropped_times q (past rows) key ≡ dropped_time q.shape (mark q (past rows) -ℤ q.clock.lateness) (times_in key queue)
    queue_decides key = of_shape q.shape refl (holds.settled key) where
      t : ℤ
      t = mark q (past rows) -ℤ q.clock.lateness

      of_shape : (s : Shape) → q.shape ≡ s → (last_end s (holds.x key) +ℤ q.clock.lateness) ≤ℤ mark q (past rows) → dropped_time s t (selected_times key (past rows)) ≡ dropped_time s t (times_in key queue)
      of_shape (Fixed size) is h = refl
      of_shape (Sliding size period) is h = refl
      of_shape (Session gap) is h =
          later_decide gap (gap_is_long q gap is ok) (holds.x key) (t -ℤ gap) (sooner_by (holds.x key) gap q.clock.lateness (mark q (past rows)) h)
          (selected_times key (past rows)) (times_in key queue) (holds.whole gap is key) (queue_times gap is key)

    abbrev limits : Times
    limits = dropped_times q (past rows)

    not_after : (key : ℕ) → holds.x key ≤ℤ limits key
    not_after key = no_later q ok holds.x (past rows) holds.settled holds.whole key

    trans : (a b c : ℤ) → a ≤ℤ b → b ≤ℤ c → a ≤ℤ c
    trans a b c h k = omega (arith, ints)

    -- a cut
    pub holds_cut : Holds q rows (thinned done_by limits [] queue)
    holds_cut = record {
      x = limits;
      settled = over_settled q ok (past rows);
      whole = over_parts_none q ok (past rows);
      serves = λ y later told. thinned_twice done_by limits y later told queue ∙ holds.serves y (λ key. trans (holds.x key) (limits key) (y key) (not_after key) (later key)) told;
      above = λ gap is. above_thinned limits [] queue;
    }

    -- what stays of it is what stays of all rows
    pub queue_staying : map row_of (thinned done_by limits [] queue) ≡ map text_of (staying_for_panes read q rows)
    queue_staying =
        ap (map row_of) (holds.serves limits not_after [] ∙ thinned-map queued done_by done_by (λ d. refl) limits [] (with_what read q rows))
        ∙ texts (thinned done_by limits [] (with_what read q rows))
      where
        texts : (ds : List (What × Written)) → map row_of (map queued ds) ≡ map text_of (map row_of ds)
        texts [] = refl
        texts (d ∷ ds) = ap (λ (ts : List (List ℕ)). text_of d.1 ∷ ts) (texts ds)

    -- and as many records are selected in it as are taken of the needed events
    pub queue_selected : selected_in (thinned done_by limits [] queue) ≡ admitted_count q.clock q.shape q.declared (needed_by_panes q (past rows))
    queue_selected = ap selected_in (holds.serves limits not_after []) ∙ selected_needed q limits rows []

  -- ---- the first row, and the next

  pub holds_none : IsShape q.shape → Holds q [] []
  holds_none ok = record {
    x = dropped_times q [];
    settled = over_settled q ok [];
    whole = over_parts_none q ok [];
    serves = λ y later told. refl;
    above = λ gap is. tt;
  }

  module _ (ok : IsShape q.shape) (timely : SessionsByEvent q) (rows : List Written) (queue : List Queued) (holds : Holds q rows queue) (w : Written) where
    abbrev what : What
    what = what_of q (past rows) w.0

    rises_on : (a m n : ℤ) → a ≤ℤ m → m ≤ℤ n → a ≤ℤ n
    rises_on a m n h k = omega (arith, ints)

    still_settled : (r : Row) → IsSettled q holds.x (mark q (events (r ∷ map read rows)))
    still_settled (Err fault) key = holds.settled key
    still_settled (Ok e) key = rises_on (last_end q.shape (holds.x key) +ℤ q.clock.lateness) (mark q (past rows)) (mark q (e ∷ past rows)) (holds.settled key) (watermark_rises q.clock q.declared (past rows) e)

    still_whole : (r : Row) → PartsNoSession q holds.x (events (r ∷ map read rows))
    still_whole (Err fault) = holds.whole
    still_whole (Ok e) = parted_on q ok timely holds.x (past rows) e holds.settled holds.whole

    -- a record of a session that is selected comes later
    is_later : (x gap l t m : ℤ) → pos 1 ≤ℤ gap → ((x +ℤ gap) +ℤ l) ≤ℤ m → int_lt (t +ℤ l) m ≡ false → int_lt x t ≡ true
    is_later x gap l t m long settled prompt = grind (arith, ints)

    above_next : (gap : ℤ) → q.shape ≡ Session gap → (r : Row) → IsAbove holds.x (what_of q (past rows) r)
    above_next gap is (Err fault) = tt
    above_next gap is (Ok (Record None t vs)) = tt
    above_next gap is (Ok (Record (Some k) t vs)) =
        elim (is_taken q (past rows) (Record (Some k) t vs) && q.selects k vs) as (λ c. (is_taken q (past rows) (Record (Some k) t vs) && q.selects k vs) ≡ c → IsAbove holds.x (cond c (Selected k t) Idle)) [
          | true ↦ λ h.
              let taken : verdict_on q (past rows) (Record (Some k) t vs) ≡ None = none_is (verdict_on q (past rows) (Record (Some k) t vs)) (and_parts (is_taken q (past rows) (Record (Some k) t vs)) (q.selects k vs) h).0 in
              is_later (holds.x k) gap q.clock.lateness t (mark q (past rows)) (gap_is_long q gap is ok) (subst (λ (s : Shape). (last_end s (holds.x k) +ℤ q.clock.lateness) ≤ℤ mark q (past rows)) is (holds.settled k)) (prompt q (past rows) timely gap is k t vs taken)
          | false ↦ λ _. tt
        ] refl
    above_next gap is (Ok (Watermark None t)) = tt
    above_next gap is (Ok (Watermark (Some s) t)) = elim (is_taken q (past rows) (Watermark (Some s) t)) as (λ c. IsAbove holds.x (cond c (Accepted s) Idle)) [ true ↦ tt | false ↦ tt ]

    serves_next : Serves holds.x ((what, w.1) ∷ queue) (all_queued q (w ∷ rows))
    serves_next y later told = λ i. cond (stays y told what) ((what, w.1) ∷ holds.serves y later (told_after told what) i) (holds.serves y later told i)

    -- a row that is queued
    pub holds_next : Holds q (w ∷ rows) ((what, w.1) ∷ queue)
    holds_next = record {
      x = holds.x;
      settled = still_settled w.0;
      whole = still_whole w.0;
      serves = serves_next;
      above = λ gap is. (above_next gap is w.0, holds.above gap is);
    }

    -- one that does nothing needn't be
    pub holds_idle : what ≡ Idle → Holds q (w ∷ rows) queue
    holds_idle idle = record {
      x = holds.x;
      settled = still_settled w.0;
      whole = still_whole w.0;
      serves = λ y later told. holds.serves y later told ∙ sym (ap (λ (v : What). cond (stays y told v) ((what, w.1) ∷ thinned done_by y (told_after told v) (all_queued q rows)) (thinned done_by y told (all_queued q rows))) idle);
      above = holds.above;
    }
