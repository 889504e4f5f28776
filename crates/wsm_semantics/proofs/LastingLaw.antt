-- The law of retracting panes: the pane rows that were written are those that were withdrawn and those of
-- the firings that last.
use Rattle.std.proofs.Common.{◌≡◌, ℕ, Bool, true, not, List, [], ◌∷◌, ◌++◌, map, length, ℤ, pos, ◌≤ℤ◌, Option, Some, None, refl, sym, ap, subst, ◌∙◌, append-nil, append_assoc}
use Rattle.std.proofs.lemmas.List.Sorted.{IsPermutation-refl, IsPermutation-trans, IsPermutation-append_comm, IsPermutation-append_left, IsPermutation-append_right}
use Rattle.std.proofs.lemmas.List.Elements.{filter_map-append}
use Rattle.std.specs.Prelude.{IsPermutation, filter, filter_map, option_and_then, option_map}
use Rattle.std.specs.List.{cons_option}
use Rattle.wsm_record.specs.declared.cell.Cell.{Cell}
use Rattle.wsm_record.specs.declared.event.Value.{Value}
use Rattle.wsm_record.specs.declared.words.Form.TheVariants.{Panes}
use Rattle.wsm_record.specs.declared.words.Mode.TheVariants.{Retracting}
use Rattle.wsm_record.specs.Event.{Event, Record, Watermark}
use Rattle.wsm_windows.specs.declared.window.Shape.{Shape}
use Rattle.wsm_windows.specs.declared.window.Shape.TheVariants.{Fixed, Sliding, Session}
use Rattle.wsm_windows.specs.Windows.{IsShape}
use Rattle.wsm_windows.specs.declared.place.Place.{Place}
use Rattle.wsm_windows.specs.Places.{window_of}
use Rattle.wsm_admission.proofs.SourceMarks.{watermark_rises}
use Rattle.wsm_semantics.specs.declared.out_row.OutRow.{OutRow}
use Rattle.wsm_semantics.specs.declared.out_row.OutRow.TheVariants.{Pane}
use Rattle.wsm_semantics.specs.Query.{Query, Datum, SessionsByEvent, datum, Nothing, effect_of, mark, verdict_on, selection}
use Rattle.wsm_semantics.specs.Panes.{panes, held, is_live_at}
use Rattle.wsm_semantics.specs.Firings.{Firing, firings, firings_so_far, row_of, pane_rows}
use Rattle.wsm_semantics.specs.StandingFirings.{standing}
use Rattle.wsm_semantics.specs.Retractions.{standing_for, panes_before_drops, written_of, by_place, retract_row, retracted, retract_rows}
use Rattle.wsm_semantics.specs.Relation.{chosen_rows, streamed, turn_rows}
use Rattle.wsm_semantics.specs.LastingRows.{rows_so_far, shown_by, withdrawn_by, standing_dropped, stood_at_drop, lasting}
use Rattle.wsm_semantics.specs.Kept.{kept, kept_in, entered, stands_in, written_by, all_fired, kind_by_record, kind_by_watermark, fired_by_record, fired_by_watermark, withdrawn_entering, withdrawn_firing}
use Rattle.wsm_semantics.proofs.Lists.{filter_within}
use Rattle.wsm_semantics.proofs.Assigned.{IsAssigned}
use Rattle.wsm_semantics.proofs.Each.{all-any, filter_map-each, filter_map-map}
use Rattle.wsm_semantics.proofs.Effects.{by_effect, selects_none}
use Rattle.wsm_semantics.proofs.Turns.{panes-same, firings-nothing}
use Rattle.wsm_semantics.proofs.EventTurns.{kept-record, firings-record, kept_before_drops, firings-watermark, lives_before}
use Rattle.wsm_semantics.proofs.Withdrawn.{filter_map-filter_map, written-standing, written_withdrawn, withdrawn-nothing, withdrawn-watermark}
use Rattle.wsm_semantics.proofs.WithdrawnAssigned.{none_entering, stood-assigned}
use Rattle.wsm_semantics.proofs.WithdrawnSessions.{of_both, stood-session}
use Rattle.wsm_semantics.proofs.KeptLaw.{places, enters, gap_is_long, withdraws}
use Rattle.wsm_semantics.proofs.LastingBags.{same_bag, sum_up, by_place_bag, stood, fired_bag}

abbrev Written : Type 0
Written = List (Place × List Cell)

-- what was written of some firings
abbrev of_firings : Query → List Firing → Written
of_firings q fs = filter_map (written_of q) fs

rows_standing : (q : Query) (past : List Event) (ps : List (Place × List Datum)) → of_firings q (standing_for q past ps) ≡ stood q (map (kept_in q past) ps)
rows_standing q past ps =
    filter_map-filter_map (written_of q) (λ x. standing q (firings_so_far q past) x.0 x.1) ps
    ∙ filter_map-each (λ x. option_and_then (written_of q) (standing q (firings_so_far q past) x.0 x.1)) (λ x. written_by q x.0 (stands_in q past x.0 x.1)) ps
    (all-any _ (λ x. written-standing q past x.0 x.1) ps)
    ∙ sym (filter_map-map (λ e. written_by q e.0 e.1.stands) (kept_in q past) ps)

-- ---- a turn

module _ (q : Query) (ok : IsShape q.shape) (timely : SessionsByEvent q) (low : pos 0 ≤ℤ q.clock.lateness) where
  -- what stood for the held panes, and what stands after an event, before its drops
  abbrev before : List Event → Written
  before past = of_firings q (standing_for q past (held q past))

  abbrev now : List Event → Event → Written
  now past e = of_firings q (standing_for q (e ∷ past) (panes_before_drops q past e))

  -- what stood and what fires is what is withdrawn and what stands then
  abbrev Balances : List Event → Event → Type 0
  Balances past e = IsPermutation (before past ++ of_firings q (firings q past e)) (written_withdrawn q past e ++ now past e)

  silent_turn : (past : List Event) (e : Event) → effect_of q past e ≡ Nothing → Balances past e
  silent_turn past e none =
      let quiet : firings q past e ≡ [] = firings-nothing q past e none in
      let all : firings_so_far q (e ∷ past) ≡ firings_so_far q past = ap (λ (fs : List Firing). firings_so_far q past ++ fs) quiet ∙ append-nil (firings_so_far q past) in
      let stays : standing_for q (e ∷ past) (panes_before_drops q past e) ≡ standing_for q past (held q past) =
      (λ i. filter_map (λ p. standing q (all i) p.0 p.1) (filter (λ p. is_live_at q (mark q past) p.0) (panes-same q past e (ap selection none) i))) in
      same_bag (before past ++ of_firings q (firings q past e)) (written_withdrawn q past e ++ now past e)
      (ap (λ (fs : List Firing). before past ++ of_firings q fs) quiet
      ∙ append-nil (before past)
      ∙ sym (λ i. withdrawn-nothing q (places q ok timely) past e none i ++ of_firings q (stays i)))

  of_assigned : (past : List Event) (k : ℕ) (t : ℤ) (vs : List Value) → verdict_on q past (Record (Some k) t vs) ≡ None → q.selects k vs ≡ true → IsAssigned q.shape →
      let d = datum (length past) (mark q past) k t vs in IsPermutation (stood q (kept q past)) (withdrawn_entering q q.shape d (kept q past) ++ stood q (entered q.shape q.clock.lateness d (kept q past)))
  of_assigned past k t vs taken selects assigned =
      let d = datum (length past) (mark q past) k t vs in
      same_bag (stood q (kept q past)) (withdrawn_entering q q.shape d (kept q past) ++ stood q (entered q.shape q.clock.lateness d (kept q past)))
      (stood-assigned q ok assigned low timely past k t vs taken selects ∙ sym (ap (λ (ws : Written). ws ++ stood q (entered q.shape q.clock.lateness d (kept q past))) (none_entering q q.shape assigned d (kept q past))))

  entering_bag : (past : List Event) (k : ℕ) (t : ℤ) (vs : List Value) → verdict_on q past (Record (Some k) t vs) ≡ None → q.selects k vs ≡ true → (shape : Shape) → q.shape ≡ shape →
      let d = datum (length past) (mark q past) k t vs in IsPermutation (stood q (kept q past)) (withdrawn_entering q q.shape d (kept q past) ++ stood q (entered q.shape q.clock.lateness d (kept q past)))
  entering_bag past k t vs taken selects (Session gap) is = stood-session q timely gap is (gap_is_long q gap is ok) low (places q ok timely) (enters q ok timely) past k t vs taken selects
  entering_bag past k t vs taken selects (Fixed size) is = of_assigned past k t vs taken selects (subst IsAssigned (sym is) tt)
  entering_bag past k t vs taken selects (Sliding size period) is = of_assigned past k t vs taken selects (subst IsAssigned (sym is) tt)

  record_turn : (past : List Event) (k : ℕ) (t : ℤ) (vs : List Value) → verdict_on q past (Record (Some k) t vs) ≡ None → q.selects k vs ≡ true → Balances past (Record (Some k) t vs)
  record_turn past k t vs taken selects =
      let d : Datum = datum (length past) (mark q past) k t vs in
      let e : Event = Record (Some k) t vs in
      let es = entered q.shape q.clock.lateness d (kept q past) in
      let kind = kind_by_record q (mark q past) d in
      let entering : Written = withdrawn_entering q q.shape d (kept q past) in
      let goes : Written = withdrawn_firing q kind es in
      let fired : Written = of_firings q (fired_by_record q (mark q past) d (kept q past)) in
      let stays : Written = stood q (all_fired q kind es) in
      let left : before past ++ of_firings q (firings q past e) ≡ stood q (kept q past) ++ fired =
      (λ i. rows_standing q past (held q past) i ++ of_firings q (firings-record q low timely (places q ok timely) past (enters q ok timely) k t vs taken selects i)) in
      let right : written_withdrawn q past e ++ now past e ≡ (entering ++ goes) ++ stays =
      (λ i. withdraws q ok timely low q.shape refl past k t vs taken selects i ++ (rows_standing q (e ∷ past) (held q (e ∷ past)) ∙ ap (stood q) (kept-record q low timely (places q ok timely) past (enters q ok timely) k t vs taken selects)) i) in
      subst (λ (xs : Written). IsPermutation xs (written_withdrawn q past e ++ now past e)) (sym left)
      (subst (IsPermutation (stood q (kept q past) ++ fired)) (sym right)
      (IsPermutation-trans (stood q (kept q past) ++ fired) ((entering ++ stood q es) ++ fired) ((entering ++ goes) ++ stays)
      (IsPermutation-append_left fired (stood q (kept q past)) (entering ++ stood q es) (entering_bag past k t vs taken selects q.shape refl))
      (subst (λ (xs : Written). IsPermutation xs ((entering ++ goes) ++ stays)) (sym (append_assoc entering (stood q es) fired))
      (subst (IsPermutation (entering ++ (stood q es ++ fired))) (sym (append_assoc entering goes stays))
      (IsPermutation-append_right entering (stood q es ++ fired) (goes ++ stays) (fired_bag q (length past) kind es))))))

  watermark_turn : (past : List Event) (o : Option ℕ) (t : ℤ) → Balances past (Watermark o t)
  watermark_turn past o t =
      let e : Event = Watermark o t in
      let kind = kind_by_watermark q (mark q past) (mark q (e ∷ past)) in
      let fires : List Firing = fired_by_watermark q (length past) (mark q past) (mark q (e ∷ past)) (kept q past) in
      subst (λ (xs : Written). IsPermutation xs (written_withdrawn q past e ++ now past e))
      (sym (λ i. rows_standing q past (held q past) i ++ of_firings q (firings-watermark q low timely (places q ok timely) past o t i)))
      (subst (IsPermutation (stood q (kept q past) ++ of_firings q fires))
      (sym (λ i. withdrawn-watermark q (places q ok timely) past o t i ++ (ap (λ (ps : List (Place × List Datum)). of_firings q (standing_for q (e ∷ past) (filter (λ x. is_live_at q (mark q past) x.0) ps))) (panes-same q past e (selects_none q past o t)) ∙ rows_standing q (e ∷ past) (held q past) ∙ ap (stood q) (sym (kept_before_drops q low timely (places q ok timely) past o t))) i))
      (fired_bag q (length past) kind (kept q past)))

  balances : (past : List Event) (e : Event) → Balances past e
  balances past = by_effect q past (λ e _. Balances past e) (record_turn past) (λ o t _. watermark_turn past o t) (silent_turn past)

  -- ---- what is dropped

  pub live_still : (past : List Event) (e : Event) (p : Place) → is_live_at q (mark q (e ∷ past)) p ≡ true → is_live_at q (mark q past) p ≡ true
  live_still past e p h = lives_before (mark q past) (mark q (e ∷ past)) q.clock.lateness p.end (watermark_rises q.clock q.declared past e) h

  -- what stands before the drops is what stood for those that are dropped, and what stands
  drops : (past : List Event) (e : Event) → IsPermutation (now past e) (of_firings q (standing_dropped q past e) ++ before (e ∷ past))
  drops past e =
      let on : List (Place × List Datum) = panes_before_drops q past e in
      let live : Place × List Datum → Bool = λ x. is_live_at q (mark q (e ∷ past)) x.0 in
      let dropped : Written = of_firings q (standing_dropped q past e) in
      let stands : Place × List Datum → Option Firing = λ x. standing q (firings_so_far q (e ∷ past)) x.0 x.1 in
      let rows : Place × List Datum → Option (Place × List Cell) = λ x. option_and_then (written_of q) (stands x) in
      let stays : filter live on ≡ held q (e ∷ past) = filter_within live (λ x. is_live_at q (mark q past) x.0) (λ x h. live_still past e x.0 h) (panes q (e ∷ past)) in
      let still : filter_map rows (filter live on) ≡ before (e ∷ past) = ap (filter_map rows) stays ∙ sym (filter_map-filter_map (written_of q) stands (held q (e ∷ past))) in
      let gone : filter_map rows (filter (λ x. not (live x)) on) ≡ dropped = sym (filter_map-filter_map (written_of q) stands (filter (λ x. not (live x)) on)) in
      subst (λ (xs : Written). IsPermutation xs (dropped ++ before (e ∷ past))) (sym (filter_map-filter_map (written_of q) stands on))
      (IsPermutation-trans (filter_map rows on) (filter_map rows (filter live on) ++ filter_map rows (filter (λ x. not (live x)) on)) (dropped ++ before (e ∷ past))
      (of_both rows live on)
      (subst (λ (xs : Written). IsPermutation xs (dropped ++ before (e ∷ past))) (sym (λ i. still i ++ gone i)) (IsPermutation-append_comm (before (e ∷ past)) dropped)))

  -- ---- the law

  module _ (retracting : q.mode ≡ Retracting) (panes_form : q.form ≡ Panes) where
    -- the rows of a turn
    abbrev own_rows : List Event → Event → List OutRow
    own_rows past e = retracted (written_withdrawn q past e) ++ pane_rows q past e

    rows_are : (past : List Event) (e : Event) → turn_rows q past e ≡ own_rows past e
    rows_are past e = λ i. chosen_rows (panes_form i) (retract_rows (retracting i) q past e ++ pane_rows q past e) (streamed q past e)

    -- what they show, and what they withdraw
    shown_rows : (ws : Written) (fs : List Firing) → filter_map shown_by (map retract_row ws ++ filter_map (row_of q) fs) ≡ of_firings q fs
    shown_rows (w ∷ ws) fs = shown_rows ws fs
    shown_rows [] [] = refl
    shown_rows [] (f ∷ fs) = of_row (q.row f.place.key f.fired) fs (shown_rows [] fs) where
      of_row : (o : Option (List Cell)) (fs : List Firing) → filter_map shown_by (filter_map (row_of q) fs) ≡ of_firings q fs →
          filter_map shown_by (cons_option (option_map (Pane f.kind f.place.key (window_of f.place)) o) (filter_map (row_of q) fs)) ≡ cons_option (option_map (λ columns. (f.place, columns)) o) (of_firings q fs)
      of_row None fs h = h
      of_row (Some columns) fs h = ap (λ (ws : Written). (f.place, columns) ∷ ws) h

    withdrawn_rows : (ws : Written) (fs : List Firing) → filter_map withdrawn_by (map retract_row ws ++ filter_map (row_of q) fs) ≡ ws
    withdrawn_rows (w ∷ ws) fs = ap (λ (xs : Written). w ∷ xs) (withdrawn_rows ws fs)
    withdrawn_rows [] [] = refl
    withdrawn_rows [] (f ∷ fs) = of_row (q.row f.place.key f.fired) fs (withdrawn_rows [] fs) where
      of_row : (o : Option (List Cell)) (fs : List Firing) → filter_map withdrawn_by (filter_map (row_of q) fs) ≡ [] →
          filter_map withdrawn_by (cons_option (option_map (Pane f.kind f.place.key (window_of f.place)) o) (filter_map (row_of q) fs)) ≡ []
      of_row None fs h = h
      of_row (Some columns) fs h = h

    abbrev lasts : List Event → Written
    lasts past = of_firings q (lasting q past)

    abbrev shown : List Event → Written
    shown past = filter_map shown_by (rows_so_far q past)

    abbrev went : List Event → Written
    went past = filter_map withdrawn_by (rows_so_far q past)

    lasting_turn : (past : List Event) (e : Event) → IsPermutation (lasts past ++ of_firings q (firings q past e)) (written_withdrawn q past e ++ lasts (e ∷ past))
    lasting_turn past e =
        let ds : Written = of_firings q (stood_at_drop q past) in
        let ss : Written = before past in
        let fs : Written = of_firings q (firings q past e) in
        let ws : Written = written_withdrawn q past e in
        let ns : Written = now past e in
        let gone : Written = of_firings q (standing_dropped q past e) in
        let still : Written = before (e ∷ past) in
        let left : lasts past ≡ ds ++ ss = filter_map-append (written_of q) (stood_at_drop q past) (standing_for q past (held q past)) in
        let right : lasts (e ∷ past) ≡ ds ++ (gone ++ still) =
        filter_map-append (written_of q) (stood_at_drop q (e ∷ past)) (standing_for q (e ∷ past) (held q (e ∷ past)))
        ∙ ap (λ (xs : Written). xs ++ still) (filter_map-append (written_of q) (stood_at_drop q past) (standing_dropped q past e))
        ∙ append_assoc ds gone still in
        subst (λ (xs : Written). IsPermutation (xs ++ fs) (ws ++ lasts (e ∷ past))) (sym left)
        (subst (λ (xs : Written). IsPermutation ((ds ++ ss) ++ fs) (ws ++ xs)) (sym right)
        (IsPermutation-trans ((ds ++ ss) ++ fs) (ws ++ (ds ++ ns)) (ws ++ (ds ++ (gone ++ still)))
        (sum_up ds ss fs ws ns (balances past e))
        (IsPermutation-append_right ws (ds ++ ns) (ds ++ (gone ++ still)) (IsPermutation-append_right ds ns (gone ++ still) (drops past e)))))

    -- the pane rows are those that were withdrawn and those that last
    pub adds_up : (past : List Event) → IsPermutation (shown past) (went past ++ lasts past)
    adds_up [] = IsPermutation-refl []
    adds_up (e ∷ past) =
        let a : Written = shown past in
        let r : Written = went past in
        let fs : Written = of_firings q (firings q past e) in
        let ws : Written = written_withdrawn q past e in
        let rows = rows_are past e in
        let left : shown (e ∷ past) ≡ a ++ fs = filter_map-append shown_by (rows_so_far q past) (turn_rows q past e) ∙ ap (λ (xs : Written). a ++ xs) (ap (filter_map shown_by) rows ∙ shown_rows (by_place ws) (firings q past e)) in
        let right : went (e ∷ past) ≡ r ++ by_place ws = filter_map-append withdrawn_by (rows_so_far q past) (turn_rows q past e) ∙ ap (λ (xs : Written). r ++ xs) (ap (filter_map withdrawn_by) rows ∙ withdrawn_rows (by_place ws) (firings q past e)) in
        subst (λ (xs : Written). IsPermutation xs (went (e ∷ past) ++ lasts (e ∷ past))) (sym left)
        (subst (λ (xs : Written). IsPermutation (a ++ fs) (xs ++ lasts (e ∷ past))) (sym right)
        (IsPermutation-trans (a ++ fs) ((r ++ lasts past) ++ fs) ((r ++ by_place ws) ++ lasts (e ∷ past))
        (IsPermutation-append_left fs a (r ++ lasts past) (adds_up past))
        (subst (λ (xs : Written). IsPermutation xs ((r ++ by_place ws) ++ lasts (e ∷ past))) (sym (append_assoc r (lasts past) fs))
        (subst (IsPermutation (r ++ (lasts past ++ fs))) (sym (append_assoc r (by_place ws) (lasts (e ∷ past))))
        (IsPermutation-append_right r (lasts past ++ fs) (by_place ws ++ lasts (e ∷ past))
        (IsPermutation-trans (lasts past ++ fs) (ws ++ lasts (e ∷ past)) (by_place ws ++ lasts (e ∷ past))
        (lasting_turn past e)
        (IsPermutation-append_left (lasts (e ∷ past)) ws (by_place ws) (by_place_bag ws))))))))
