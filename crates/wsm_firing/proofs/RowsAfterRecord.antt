-- The rows that stand for panes once a record is put in, by their counts.
use Rattle.std.proofs.Common.{◌≡◌, ℕ, suc, ◌+◌, ◌≤◌, Bool, true, false, not, ◌&&◌, cond, T, List, [], ◌∷◌, length, Option, Some, None, refl, sym, ap, subst, ◌∙◌, arith}
use Rattle.std.proofs.lemmas.Int.{ints}
use Rattle.std.specs.Prelude.{ℤ, pos, ◌+ℤ◌, ◌≤ℤ◌, nat_eq, int_lt}
use Rattle.std.specs.Int.{int_max, int_min}
use Rattle.std.specs.List.{cons_option}
use Rattle.std.specs.Ordering.{is_eq}
use Rattle.std.specs.FinMap.Entries.{put, find, where_key, is_sorted, is_sorted-put, is_sorted-where_key, find-where_key}
use Rattle.wsm_record.specs.declared.event.Value.{Value}
use Rattle.wsm_record.specs.declared.cell.Cell.{Cell}
use Rattle.wsm_record.specs.declared.words.Form.{Form}
use Rattle.wsm_windows.specs.declared.window.Shape.{Shape}
use Rattle.wsm_windows.specs.declared.window.Shape.TheVariants.{Fixed, Sliding, Session}
use Rattle.wsm_windows.specs.declared.window.Window.{Window}
use Rattle.wsm_windows.specs.Windows.{IsShape}
use Rattle.wsm_windows.specs.Life.{live_windows_of}
use Rattle.wsm_windows.specs.declared.place.Place.{Place}
use Rattle.wsm_windows.specs.Places.{place_cmp, at}
use Rattle.wsm_windows.proofs.Places.{places_total, places_exact}
use Rattle.wsm_semantics.specs.declared.standing.Standing.{Standing}
use Rattle.wsm_semantics.specs.declared.standing.Standing.TheVariants.{Unfired, Row, Joined}
use Rattle.wsm_semantics.specs.Query.{Datum}
use Rattle.wsm_semantics.specs.Replay.{datum}
use Rattle.wsm_semantics.specs.Kept.{is_linked}
use Rattle.wsm_semantics.specs.Summaries.{Plan, Pane, assigned, entered, joined_all, linked, merged_session, session_with, standing_joined, standing_row, with_record}
use Rattle.wsm_panes.specs.Held.{are_sessions, joined_panes}
use Rattle.wsm_list.specs.Joining.{first_two}
use Rattle.wsm_slots.specs.Panes.{has_fired}
use Rattle.wsm_relation.specs.Rows.{count_of}
use Rattle.wsm_firing.specs.Streams.{IsToldOf, are_both_fired, rows_and, rows_with, standing_rows}
use Rattle.wsm_firing.proofs.StreamRows.{Numbers, Rows, told_same}
use Rattle.wsm_firing.proofs.StandingRows.{Folded, Panes, row_at, row_found, without, count_in, count_cons, count_found, count_put, few_rows, length_cons}

module _ (plan : Plan (List Value)) (d : Datum) where
  row_kept : (o : Option (Pane Folded)) → row_at (with_record plan d o) ≡ row_found o
  row_kept None = refl
  row_kept (Some h) = refl

  -- a record in the panes of its windows changes no row
  pub count_assigned : (q : List Cell) (ws : List Window) (es : Panes) → T (is_sorted place_cmp es) → count_of q (standing_rows (assigned plan d ws es)) ≡ count_of q (standing_rows es)
  count_assigned q [] es sorted = refl
  count_assigned q (w ∷ ws) es sorted =
      let p : Place = at d.key w in let o : Option (Pane Folded) = find place_cmp p es in let h : Pane Folded = with_record plan d o in
      count_assigned q ws (put place_cmp p h es) (is_sorted-put place_cmp places_total p h es sorted)
      ∙ count_put q p h es sorted
      ∙ ap (λ (r : Option (List Cell)). count_in q r + count_of q (standing_rows (without p es))) (row_kept o)
      ∙ sym (count_found q p es)

-- ---- sessions

none_without : (p : Place) (es : Panes) → find place_cmp p es ≡ None → without p es ≡ es
none_without p [] none = refl
none_without p (e ∷ es) none = elim (is_eq (place_cmp p e.0)) as (λ b. cond b (Some e.1) (find place_cmp p es) ≡ None → cond b es (e ∷ without p es) ≡ e ∷ es) [
  | true ↦ λ h. absurd (cc)
  | false ↦ λ h. ap (λ (fs : Panes). e ∷ fs) (none_without p es h)
] none

record Holds (gap : ℤ) (d : Datum) (p : Place) : Type 0 where
  key : p.key ≡ d.key
  start : p.start ≤ℤ d.time
  end : (d.time +ℤ gap) ≤ℤ p.end

holds : (gap : ℤ) (d : Datum) (es : Panes) → Holds gap d (session_with gap d es)
holds gap d [] = record { key = refl; start = omega (arith, ints); end = omega (arith, ints) }
holds gap d (e ∷ es) =
    let rest = holds gap d es in
    let p : Place = session_with gap d es in
    record { key = refl; start = lower e.0.start p.start rest.start; end = upper e.0.end p.end rest.end }
  where
    lower : (a b : ℤ) → b ≤ℤ d.time → int_min a b ≤ℤ d.time
    lower a b h = grind (arith, ints)

    upper : (a b : ℤ) → (d.time +ℤ gap) ≤ℤ b → (d.time +ℤ gap) ≤ℤ int_max a b
    upper a b h = grind (arith, ints)

-- a session is linked to its records
linked_itself : (gap : ℤ) (d : Datum) (p : Place) → pos 1 ≤ℤ gap → Holds gap d p → is_linked gap d p ≡ true
linked_itself gap d p some h =
    let key : nat_eq d.key p.key ≡ true = rw h.key (grind arith) in
    let start : int_lt p.start (d.time +ℤ gap) ≡ true = grind (arith, ints, h.start, some) in
    let end : int_lt d.time p.end ≡ true = grind (arith, ints, h.end, some) in
    (λ i. key i && (start i && end i))

module _ (gap : ℤ) (d : Datum) where
  abbrev far : Place → Bool
  far p = not (is_linked gap d p)

  -- the rows are those of the panes that a record is linked to and of the others
  count_parts : (q : List Cell) (es : Panes) → count_of q (standing_rows es) ≡ count_of q (standing_rows (linked gap d es)) + count_of q (standing_rows (where_key place_cmp far es))
  count_parts q [] = refl
  count_parts q (e ∷ es) =
      let rest = count_parts q es in
      elim (is_linked gap d e.0) as (λ b. count_of q (standing_rows (e ∷ es)) ≡ count_of q (standing_rows (cond b (e ∷ linked gap d es) (linked gap d es))) + count_of q (standing_rows (cond (not b) (e ∷ where_key place_cmp far es) (where_key place_cmp far es)))) [
        | true ↦ omega (arith, rest, count_cons q (row_at e.1) (standing_rows es), count_cons q (row_at e.1) (standing_rows (linked gap d es)))
        | false ↦ omega (arith, rest, count_cons q (row_at e.1) (standing_rows es), count_cons q (row_at e.1) (standing_rows (where_key place_cmp far es)))
      ]

  pub length_parts : (es : Panes) → length es ≡ length (linked gap d es) + length (where_key place_cmp far es)
  length_parts [] = refl
  length_parts (e ∷ es) =
      let rest = length_parts es in
      elim (is_linked gap d e.0) as (λ b. suc (length es) ≡ length (cond b (e ∷ linked gap d es) (linked gap d es)) + length (cond (not b) (e ∷ where_key place_cmp far es) (where_key place_cmp far es))) [
        | true ↦ omega (arith, rest)
        | false ↦ omega (arith, rest)
      ]

-- two sessions that both fired stand for nothing once they are joined, and else for what stood before
joined_none : (s t : Standing) → has_fired s && has_fired t ≡ true → standing_row (standing_joined s t) ≡ None
joined_none Unfired t h = absurd (cc)
joined_none (Row v r) Unfired h = absurd (cc)
joined_none (Row v r) (Row w u) h = refl
joined_none (Row v r) Joined h = refl
joined_none Joined Unfired h = absurd (cc)
joined_none Joined (Row w u) h = refl
joined_none Joined Joined h = refl

joined_row : (q : List Cell) (s t : Standing) → has_fired s && has_fired t ≡ false → count_in q (standing_row (standing_joined s t)) ≡ count_in q (standing_row s) + count_in q (standing_row t)
joined_row q Unfired t h = omega arith
joined_row q (Row v r) Unfired h = omega arith
joined_row q (Row v r) (Row w u) h = absurd (cc)
joined_row q (Row v r) Joined h = absurd (cc)
joined_row q Joined Unfired h = omega arith
joined_row q Joined (Row w u) h = absurd (cc)
joined_row q Joined Joined h = absurd (cc)

module _ (plan : Plan (List Value)) (gap : ℤ) (some : pos 1 ≤ℤ gap) (d : Datum) (es : Panes) (sorted : T (is_sorted place_cmp es)) where
  abbrev others : Panes
  others = where_key place_cmp (λ p. not (is_linked gap d p)) es

  abbrev place : Place
  place = session_with gap d (linked gap d es)

  abbrev pane : Pane Folded
  pane = with_record plan d (joined_all plan (linked gap d es))

  not_there : without place others ≡ others
  not_there = none_without place others (
      find-where_key place_cmp (λ p. not (is_linked gap d p)) place (λ x tie. ap (λ (p : Place). not (is_linked gap d p)) (sym (places_exact place x tie))) es
      ∙ ap (λ b. cond (not b) (find place_cmp place es) None) (linked_itself gap d place some (holds gap d (linked gap d es))))

  count_put_in : (q : List Cell) → count_of q (standing_rows (merged_session plan gap d es)) ≡ count_in q (row_at pane) + count_of q (standing_rows others)
  count_put_in q =
      count_put q place pane others (is_sorted-where_key place_cmp (λ p. not (is_linked gap d p)) es sorted)
      ∙ ap (λ (fs : Panes). count_in q (row_at pane) + count_of q (standing_rows fs)) not_there

  -- by the panes that it is linked to
  by_parts : (q : List Cell) (parts : Panes) → linked gap d es ≡ parts → length parts ≤ 2 →
      count_in q (row_at (with_record plan d (joined_all plan parts))) + count_of q (standing_rows others) ≡ count_of q (cond (are_both_fired parts) (standing_rows others) (standing_rows es))
  by_parts q [] is few = let all = count_parts gap d q es in let none : count_of q (standing_rows (linked gap d es)) ≡ 0 = ap (λ (ps : Panes). count_of q (standing_rows ps)) is in omega (arith, all, none)
  by_parts q (e ∷ []) is few =
      let all = count_parts gap d q es in
      let one : count_of q (standing_rows (linked gap d es)) ≡ count_of q (standing_rows (e ∷ [])) = ap (λ (ps : Panes). count_of q (standing_rows ps)) is in
      omega (arith, all, one, count_cons q (row_at e.1) [])
  by_parts q (e ∷ f ∷ []) is few =
      let all = count_parts gap d q es in
      let two : count_of q (standing_rows (linked gap d es)) ≡ count_of q (standing_rows (e ∷ f ∷ [])) = ap (λ (ps : Panes). count_of q (standing_rows ps)) is in
      elim (has_fired e.1.stands && has_fired f.1.stands) as (λ b. has_fired e.1.stands && has_fired f.1.stands ≡ b → count_in q (standing_row (standing_joined e.1.stands f.1.stands)) + count_of q (standing_rows others) ≡ count_of q (cond b (standing_rows others) (standing_rows es))) [
        | true ↦ λ h. omega (arith, ap (count_in q) (joined_none e.1.stands f.1.stands h))
        | false ↦ λ h. omega (arith, all, two, joined_row q e.1.stands f.1.stands h, count_cons q (row_at e.1) (standing_rows (f ∷ [])), count_cons q (row_at f.1) [])
      ] refl
  by_parts q (e ∷ f ∷ g ∷ ps) is few = absurd (omega (arith, few))

  pub count_merged : length (linked gap d es) ≤ 2 → (q : List Cell) → count_of q (standing_rows (merged_session plan gap d es)) ≡ count_of q (rows_with (Session gap) d es)
  count_merged few q = count_put_in q ∙ by_parts q (linked gap d es) refl few

-- ---- all shapes

pub count_entered : (plan : Plan (List Value)) (sh : Shape) (l : ℤ) (d : Datum) (es : Panes) → IsShape sh → T (is_sorted place_cmp es) → ((gap : ℤ) → sh ≡ Session gap → length (linked gap d es) ≤ 2) → (q : List Cell) →
    count_of q (standing_rows (entered plan sh l d es)) ≡ count_of q (rows_with sh d es)
count_entered plan (Fixed size) l d es is sorted few q = count_assigned plan d q (live_windows_of (Fixed size) d.time l d.mark) es sorted
count_entered plan (Sliding size period) l d es is sorted few q = count_assigned plan d q (live_windows_of (Sliding size period) d.time l d.mark) es sorted
count_entered plan (Session gap) l d es is sorted few q = count_merged plan gap (at_least gap is) d es sorted (few gap refl) q
  where
    at_least : (gap : ℤ) → IsShape (Session gap) → pos 1 ≤ℤ gap
    at_least gap is = search is

-- where none are joined, or not both have fired, no row goes
pub rows_alone : (sh : Shape) (d : Datum) (es : Panes) → joined_panes sh d es ≡ None → rows_with sh d es ≡ standing_rows es
rows_alone (Fixed size) d es none = refl
rows_alone (Sliding size period) d es none = refl
rows_alone (Session gap) d es none = by_parts (linked gap d es) none
  where
    by_parts : (parts : Panes) → first_two parts ≡ None → cond (are_both_fired parts) (standing_rows (where_key place_cmp (λ p. not (is_linked gap d p)) es)) (standing_rows es) ≡ standing_rows es
    by_parts [] h = refl
    by_parts (e ∷ []) h = refl
    by_parts (e ∷ f ∷ ps) h = absurd (cc)

-- the two that are joined
pub record ArePair (sh : Shape) (d : Datum) (es : Panes) (v w : Pane Folded) : Type 0 where
  pub counts : (q : List Cell) → count_of q (standing_rows es) ≡ count_of q (rows_and v w (rows_with sh d es))
  pub few : length (rows_and v w (rows_with sh d es)) ≤ length es

module _ (gap : ℤ) (d : Datum) (es : Panes) (v w : Pane Folded) where
  abbrev rest_of : Panes
  rest_of = where_key place_cmp (λ p. not (is_linked gap d p)) es

  abbrev with_parts : Panes → Rows
  with_parts parts = cond (are_both_fired parts) (standing_rows rest_of) (standing_rows es)

  pair_by : (parts : Panes) → linked gap d es ≡ parts → length parts ≤ 2 → first_two parts ≡ Some (v, w) → ArePair (Session gap) d es v w
  pair_by [] is m h = absurd (cc)
  pair_by (e ∷ []) is m h = absurd (cc)
  pair_by (e ∷ f ∷ g ∷ ps) is m h = absurd (omega (arith, m))
  pair_by (e ∷ f ∷ []) is m h =
      let first : e.1 ≡ v = ap (λ (o : Option (Pane Folded × Pane Folded)). elim o [ None ↦ v | Some x ↦ x.0 ]) h in
      let second : f.1 ≡ w = ap (λ (o : Option (Pane Folded × Pane Folded)). elim o [ None ↦ w | Some x ↦ x.1 ]) h in
      let all = count_parts gap d in
      let shown : with_parts (linked gap d es) ≡ cond (has_fired v.stands && has_fired w.stands) (standing_rows rest_of) (standing_rows es) = ap with_parts is ∙ (λ i. cond (has_fired (first i).stands && has_fired (second i).stands) (standing_rows rest_of) (standing_rows es)) in
      elim (has_fired v.stands && has_fired w.stands) as (λ b. has_fired v.stands && has_fired w.stands ≡ b → ArePair (Session gap) d es v w) [
        | true ↦ λ yes.
            let left : with_parts (linked gap d es) ≡ standing_rows rest_of = shown ∙ ap (λ b. cond b (standing_rows rest_of) (standing_rows es)) yes in
            let both : rows_and v w (with_parts (linked gap d es)) ≡ cons_option (row_at v) (cons_option (row_at w) (standing_rows rest_of)) = (λ i. cond (yes i) (cons_option (row_at v) (cons_option (row_at w) (left i))) (left i)) in
            let two : (q : List Cell) → count_of q (standing_rows (linked gap d es)) ≡ count_of q (cons_option (row_at v) (cons_option (row_at w) [])) = λ q. ap (λ (ps : Panes). count_of q (standing_rows ps)) is ∙ (λ i. count_of q (cons_option (row_at (first i)) (cons_option (row_at (second i)) []))) in
            let counts : (q : List Cell) → count_of q (standing_rows es) ≡ count_of q (cons_option (row_at v) (cons_option (row_at w) (standing_rows rest_of))) = λ q.
            omega (arith, all q es, two q, count_cons q (row_at v) (cons_option (row_at w) []), count_cons q (row_at w) [], count_cons q (row_at v) (cons_option (row_at w) (standing_rows rest_of)), count_cons q (row_at w) (standing_rows rest_of)) in
            let many : length es ≡ length (linked gap d es) + length rest_of = length_parts gap d es in
            let pair : length (linked gap d es) ≡ 2 = ap length is in
            record {
              counts = λ q. counts q ∙ ap (count_of q) (sym both);
              few = subst (λ (rs : Rows). length rs ≤ length es) (sym both)
                  (omega (arith, many, pair, few_rows rest_of, length_cons (row_at v) (cons_option (row_at w) (standing_rows rest_of)), length_cons (row_at w) (standing_rows rest_of)));
            }
        | false ↦ λ no.
            let left : with_parts (linked gap d es) ≡ standing_rows es = shown ∙ ap (λ b. cond b (standing_rows rest_of) (standing_rows es)) no in
            let same : rows_and v w (with_parts (linked gap d es)) ≡ standing_rows es = (λ i. cond (no i) (cons_option (row_at v) (cons_option (row_at w) (left i))) (left i)) in
            record { counts = λ q. ap (count_of q) (sym same); few = subst (λ (rs : Rows). length rs ≤ length es) (sym same) (few_rows es) }
      ] refl

pub pair_is : (sh : Shape) (d : Datum) (es : Panes) (v w : Pane Folded) → ((gap : ℤ) → sh ≡ Session gap → length (linked gap d es) ≤ 2) → joined_panes sh d es ≡ Some (v, w) → ArePair sh d es v w
pair_is (Fixed size) d es v w few h = absurd (cc)
pair_is (Sliding size period) d es v w few h = absurd (cc)
pair_is (Session gap) d es v w few h = pair_by gap d es v w (linked gap d es) refl (few gap refl) h

-- the mark of a record changes nothing of it
pub unmarked : (sh : Shape) (m : ℤ) (k : ℕ) (t : ℤ) (es : Panes) → rows_with sh (datum 0 m k t []) es ≡ rows_with sh (datum 0 (pos 0) k t []) es
unmarked (Fixed size) m k t es = refl
unmarked (Sliding size period) m k t es = refl
unmarked (Session gap) m k t es = refl

-- where windows are no sessions, no row goes
pub rows_apart : (sh : Shape) (d : Datum) (es : Panes) → are_sessions sh ≡ false → rows_with sh d es ≡ standing_rows es
rows_apart (Fixed size) d es apart = refl
rows_apart (Sliding size period) d es apart = refl
rows_apart (Session gap) d es apart = absurd (cc)

-- what was told of the rows that stand then is told of those of the panes
pub told_entered : (f : Form) (ns : Numbers) (relation : Rows) (plan : Plan (List Value)) (sh : Shape) (l m : ℤ) (k : ℕ) (t : ℤ) (es : Panes) →
    IsShape sh → T (is_sorted place_cmp es) → ((gap : ℤ) → sh ≡ Session gap → length (linked gap (datum 0 m k t []) es) ≤ 2) →
    IsToldOf f ns relation (rows_with sh (datum 0 (pos 0) k t []) es) → IsToldOf f ns relation (standing_rows (entered plan sh l (datum 0 m k t []) es))
told_entered f ns relation plan sh l m k t es is sorted few told =
    let d = datum 0 m k t [] in
    told_same f ns relation (rows_with sh (datum 0 (pos 0) k t []) es) (standing_rows (entered plan sh l d es))
    (λ q. sym (count_entered plan sh l d es is sorted few q ∙ ap (count_of q) (unmarked sh m k t es))) told

few_apart : (sh : Shape) (d : Datum) (es : Panes) → are_sessions sh ≡ false → (gap : ℤ) → sh ≡ Session gap → length (linked gap d es) ≤ 2
few_apart (Fixed size) d es apart gap is = absurd (cc)
few_apart (Sliding size period) d es apart gap is = absurd (cc)
few_apart (Session g) d es apart gap is = absurd (cc)

pub told_apart : (f : Form) (ns : Numbers) (relation : Rows) (plan : Plan (List Value)) (sh : Shape) (l m : ℤ) (k : ℕ) (t : ℤ) (es : Panes) →
    IsShape sh → T (is_sorted place_cmp es) → are_sessions sh ≡ false → IsToldOf f ns relation (standing_rows es) → IsToldOf f ns relation (standing_rows (entered plan sh l (datum 0 m k t []) es))
told_apart f ns relation plan sh l m k t es is sorted apart told =
    told_entered f ns relation plan sh l m k t es is sorted (few_apart sh (datum 0 m k t []) es apart)
    (subst (λ (rs : Rows). IsToldOf f ns relation rs) (sym (rows_apart sh (datum 0 (pos 0) k t []) es apart)) told)
