-- How many firings and rows a turn has, whatever the shape of windows, the mode, the triggers and the
-- form: at most as many as panes can be held, and where panes retract twice as many rows.
use Rattle.std.proofs.Common.{◌≡◌, ℕ, suc, ◌+◌, ◌≤◌, true, false, cond, List, [], ◌∷◌, ◌++◌, map, length, ℤ, Option, Some, None, refl, sym, ap, subst, ◌∙◌, arith, length-append}
use Rattle.std.specs.Prelude.{filter_map, not}
use Rattle.std.specs.List.{cons_option, list_any}
use Rattle.std.specs.Ordering.{is_gt, is_eq}
use Rattle.wsm_record.specs.declared.event.Value.{Value}
use Rattle.wsm_record.specs.declared.cell.Cell.{Cell}
use Rattle.wsm_record.specs.declared.words.Mode.{Mode}
use Rattle.wsm_record.specs.declared.words.Mode.TheVariants.{Discarding, Accumulating, Retracting}
use Rattle.wsm_record.specs.declared.words.Form.{Form}
use Rattle.wsm_record.specs.declared.words.Form.TheVariants as form
use Rattle.wsm_record.specs.Event.{Event, Record, Watermark}
use Rattle.wsm_windows.specs.Windows.{IsShape}
use Rattle.wsm_windows.specs.declared.place.Place.{Place}
use Rattle.wsm_windows.specs.Places.{place_cmp}
use Rattle.wsm_admission.specs.Clock.{IsWithinLimits}
use Rattle.wsm_semantics.specs.declared.out_row.OutRow.{OutRow}
use Rattle.wsm_semantics.specs.declared.out_row.OutRow.TheVariants.{Istream, Dstream, Rstream}
use Rattle.wsm_semantics.specs.Query.{Query, Datum, SessionsByEvent, mark, raises, verdict_on, datum}
use Rattle.wsm_semantics.specs.Panes.{held}
use Rattle.wsm_semantics.specs.Firings.{Firing, firings, firings_so_far, row_of, pane_rows}
use Rattle.wsm_semantics.specs.StandingFirings.{standing as standing_firing}
use Rattle.wsm_semantics.specs.Retractions.{panes_before_drops, standing_for, is_same, withdrawn, written_of, with_written, by_place, retract_row, retracted, retract_rows}
use Rattle.wsm_semantics.specs.Relation.{row_cmp, with_row, sorted_rows, relation_at, relation, without_one, difference, stream_rows, chosen_rows, streamed, turn_rows}
use Rattle.wsm_semantics.specs.HeldBounds.{most_panes, rows_of_panes, most_rows}
use Rattle.wsm_semantics.specs.Kept.{kept, entered, fired_by_record, fired_by_watermark}
use Rattle.wsm_semantics.proofs.Lists.{length_each}
use Rattle.wsm_semantics.proofs.ManyKeys.{length-filter}
use Rattle.wsm_semantics.proofs.Effects.{by_effect}
use Rattle.wsm_semantics.proofs.Turns.{firings-nothing}
use Rattle.wsm_semantics.proofs.EventTurns.{firings-record, firings-watermark}
use Rattle.wsm_semantics.proofs.KeptLaw.{places, enters}
use Rattle.wsm_semantics.proofs.HeldBound.{held_bounded, kept_bounded, entered_bounded}

-- ---- lengths

length-filter_map : {A B : Type 0} (g : A → Option B) (xs : List A) → length (filter_map g xs) ≤ length xs
length-filter_map g [] = omega arith
length-filter_map g (x ∷ xs) =
    elim (g x) as (λ o. length (cons_option o (filter_map g xs)) ≤ suc (length xs)) [
      | None ↦ omega (arith, length-filter_map g xs)
      | Some y ↦ omega (arith, length-filter_map g xs)
    ]

length-with_written : (w : Place × List Cell) (ws : List (Place × List Cell)) → length (with_written w ws) ≡ suc (length ws)
length-with_written w [] = refl
length-with_written w (x ∷ xs) =
    elim (is_gt (place_cmp w.0 x.0)) as (λ b. length (cond b (x ∷ with_written w xs) (w ∷ x ∷ xs)) ≡ suc (suc (length xs))) [
      | true ↦ ap suc (length-with_written w xs)
      | false ↦ refl
    ]

length-by_place : (ws : List (Place × List Cell)) → length (by_place ws) ≡ length ws
length-by_place [] = refl
length-by_place (w ∷ ws) = length-with_written w (by_place ws) ∙ ap suc (length-by_place ws)

pub length-with_row : (r : List Cell) (rs : List (List Cell)) → length (with_row r rs) ≡ suc (length rs)
length-with_row r [] = refl
length-with_row r (x ∷ xs) =
    elim (is_gt (row_cmp r x)) as (λ b. length (cond b (x ∷ with_row r xs) (r ∷ x ∷ xs)) ≡ suc (suc (length xs))) [
      | true ↦ ap suc (length-with_row r xs)
      | false ↦ refl
    ]

pub length-sorted_rows : (rs : List (List Cell)) → length (sorted_rows rs) ≡ length rs
length-sorted_rows [] = refl
length-sorted_rows (r ∷ rs) = length-with_row r (sorted_rows rs) ∙ ap suc (length-sorted_rows rs)

length-without_one : (r : List Cell) (rs : List (List Cell)) → length (without_one r rs) ≤ length rs
length-without_one r [] = omega arith
length-without_one r (x ∷ xs) =
    elim (is_eq (row_cmp r x)) as (λ b. length (cond b xs (x ∷ without_one r xs)) ≤ suc (length xs)) [
      | true ↦ omega arith
      | false ↦ omega (arith, length-without_one r xs)
    ]

length-difference : (rows xs : List (List Cell)) → length (difference rows xs) ≤ length rows
length-difference rows [] = omega arith
length-difference rows (x ∷ xs) =
    let rest : length (difference (without_one x rows) xs) ≤ length (without_one x rows) = length-difference (without_one x rows) xs in
    let one : length (without_one x rows) ≤ length rows = length-without_one x rows in
    omega arith

module _ (q : Query) (ok : IsShape q.shape) (timely : SessionsByEvent q) (within : IsWithinLimits q.clock) where
  -- ---- firings

  -- what fires on a turn: nothing, or what is kept fires by a selected record or by a watermark
  pub fired_ways : (P : List Firing → Type 0) (past : List Event) (e : Event) → P [] →
      ((k : ℕ) (t : ℤ) (vs : List Value) → e ≡ Record (Some k) t vs → verdict_on q past (Record (Some k) t vs) ≡ None → q.selects k vs ≡ true → P (fired_by_record q (mark q past) (datum (length past) (mark q past) k t vs) (kept q past))) →
      ((o : Option ℕ) (t : ℤ) → e ≡ Watermark o t → P (fired_by_watermark q (length past) (mark q past) (mark q (Watermark o t ∷ past)) (kept q past))) →
      P (firings q past e)
  fired_ways P past e none by_record by_watermark =
      by_effect q past (λ x _. e ≡ x → P (firings q past x))
      (λ k t vs taken selects is. subst P (sym (firings-record q within.lateness_from timely (places q ok timely) past (enters q ok timely) k t vs taken selects)) (by_record k t vs is taken selects))
      (λ o t _ is. subst P (sym (firings-watermark q within.lateness_from timely (places q ok timely) past o t)) (by_watermark o t is))
      (λ x nothing _. subst P (sym (firings-nothing q past x nothing)) none)
      e refl

  -- no more panes fire on a turn than can be held
  pub firings_bounded : (past : List Event) (e : Event) → length (firings q past e) ≤ most_panes q
  firings_bounded past e =
      fired_ways (λ fs. length fs ≤ most_panes q) past e (omega arith)
      (λ k t vs is taken selects.
      let fewer : length (fired_by_record q (mark q past) (datum (length past) (mark q past) k t vs) (kept q past)) ≤ length (entered q.shape q.clock.lateness (datum (length past) (mark q past) k t vs) (kept q past)) = length-filter_map _ (entered q.shape q.clock.lateness (datum (length past) (mark q past) k t vs) (kept q past)) in
      let most : length (entered q.shape q.clock.lateness (datum (length past) (mark q past) k t vs) (kept q past)) ≤ most_panes q = entered_bounded q ok timely within past k t vs taken selects in
      omega arith)
      (λ o t is.
      let fewer : length (fired_by_watermark q (length past) (mark q past) (mark q (Watermark o t ∷ past)) (kept q past)) ≤ length (kept q past) = length-filter_map _ (kept q past) in
      let most : length (kept q past) ≤ most_panes q = kept_bounded q ok timely within past in
      omega arith)

  -- ---- relations

  relation_at_bounded : (past : List Event) (e : Event) → length (relation_at q past e) ≤ most_panes q
  relation_at_bounded past e =
      subst (λ (n : ℕ). n ≤ most_panes q) (sym (length-sorted_rows _)) (fewer _)
    where
      fewer : (g : Place × List Datum → Option (List Cell)) → length (filter_map g (held q past)) ≤ most_panes q
      fewer g = let less = length-filter_map g (held q past) in let all : length (held q past) ≤ most_panes q = held_bounded q ok timely within past in omega arith

  -- no more rows stand in the relation than panes can be held
  pub relation_bounded : (past : List Event) → length (relation q past) ≤ most_panes q
  relation_bounded [] = omega arith
  relation_bounded (e ∷ past) =
      elim (raises q past e) as (λ b. length (cond b (relation_at q past e) (relation q past)) ≤ most_panes q) [
        | true ↦ relation_at_bounded past e
        | false ↦ relation_bounded past
      ]

  -- ---- rows

  mapped : {A B : Type 0} (f : A → B) (xs : List A) → length xs ≤ most_panes q → length (map f xs) ≤ most_panes q
  mapped f xs h = subst (λ (n : ℕ). n ≤ most_panes q) (sym (length_each f xs)) h

  difference_bounded : (rows xs : List (List Cell)) → length rows ≤ most_panes q → length (difference rows xs) ≤ most_panes q
  difference_bounded rows xs h = let less = length-difference rows xs in omega arith

  of_stream : (f : Form) (m : ℤ) (before now : List (List Cell)) → length before ≤ most_panes q → length now ≤ most_panes q → length (stream_rows f m before now) ≤ most_panes q
  of_stream form.Panes m before now h k = omega arith
  of_stream form.Istream m before now h k = mapped (Istream m) _ (difference_bounded now before k)
  of_stream form.Dstream m before now h k = mapped (Dstream m) _ (difference_bounded before now h)
  of_stream form.Rstream m before now h k = mapped (Rstream m) _ k

  streamed_bounded : (past : List Event) (e : Event) → length (streamed q past e) ≤ most_panes q
  streamed_bounded past e =
      elim (raises q past e) as (λ b. length (cond b (stream_rows q.form (mark q (e ∷ past)) (relation q past) (relation_at q past e)) []) ≤ most_panes q) [
        | true ↦ of_stream q.form (mark q (e ∷ past)) (relation q past) (relation_at q past e) (relation_bounded past) (relation_at_bounded past e)
        | false ↦ omega arith
      ]

  -- no more panes are withdrawn on a turn than can be held
  retracted_bounded : (past : List Event) (e : Event) → length (retracted (filter_map (written_of q) (withdrawn q past e))) ≤ most_panes q
  retracted_bounded past e =
      let stood : List Firing = standing_for q past (held q past) in
      let now : List Firing = standing_for q (e ∷ past) (panes_before_drops q past e) in
      let rows : length (filter_map (written_of q) (withdrawn q past e)) ≤ length (withdrawn q past e) = length-filter_map (written_of q) (withdrawn q past e) in
      let lost : length (withdrawn q past e) ≤ length stood = length-filter (λ f. not (list_any (is_same f) now)) stood in
      let standing : length stood ≤ length (held q past) = length-filter_map (λ p. standing_firing q (firings_so_far q past) p.0 p.1) (held q past) in
      let all : length (held q past) ≤ most_panes q = held_bounded q ok timely within past in
      mapped retract_row (by_place (filter_map (written_of q) (withdrawn q past e)))
      (subst (λ (n : ℕ). n ≤ most_panes q) (sym (length-by_place (filter_map (written_of q) (withdrawn q past e)))) (omega arith))

  -- rows of panes and streams alike
  at_most : (m : Mode) (n k : ℕ) → k ≤ n → k ≤ rows_of_panes m n
  at_most Discarding n k h = h
  at_most Accumulating n k h = h
  at_most Retracting n k h = omega arith

  of_mode : (m : Mode) (past : List Event) (e : Event) → length (retract_rows m q past e ++ pane_rows q past e) ≤ rows_of_panes m (most_panes q)
  of_mode m past e = by_mode m where
    fired : length (pane_rows q past e) ≤ most_panes q
    fired = let all : length (firings q past e) ≤ most_panes q = firings_bounded past e in let less = length-filter_map (row_of q) (firings q past e) in omega arith

    by_mode : (m : Mode) → length (retract_rows m q past e ++ pane_rows q past e) ≤ rows_of_panes m (most_panes q)
    by_mode Discarding = fired
    by_mode Accumulating = fired
    by_mode Retracting =
        let rows : List OutRow = retracted (filter_map (written_of q) (withdrawn q past e)) in
        let few : length rows ≤ most_panes q = retracted_bounded past e in
        let all : length (rows ++ pane_rows q past e) ≡ length rows + length (pane_rows q past e) = length-append rows (pane_rows q past e) in
        omega (arith, few, all, fired)

  either_rows : (f : Form) (of_panes streams : List OutRow) → length of_panes ≤ most_rows q → length streams ≤ most_rows q → length (chosen_rows f of_panes streams) ≤ most_rows q
  either_rows form.Panes of_panes streams h k = h
  either_rows form.Istream of_panes streams h k = k
  either_rows form.Dstream of_panes streams h k = k
  either_rows form.Rstream of_panes streams h k = k

  -- no more rows are written on a turn than of the panes that can be held
  pub rows_bounded : (past : List Event) (e : Event) → length (turn_rows q past e) ≤ most_rows q
  rows_bounded past e =
      either_rows q.form (retract_rows q.mode q past e ++ pane_rows q past e) (streamed q past e) (of_mode q.mode past e) (at_most q.mode (most_panes q) (length (streamed q past e)) (streamed_bounded past e))
