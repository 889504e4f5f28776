-- A machine that keeps summaries steps as one that keeps the panes' records: what is kept after a
-- record or a watermark, what fires with which rows, and the relation are the summaries of the other's.
use Rattle.std.proofs.Common.{◌≡◌, ℕ, Bool, true, false, cond, List, [], ◌∷◌, map, length, ℤ, Option, Some, None, refl, sym, ap, ◌∙◌}
use Rattle.std.proofs.lemmas.Bool.{and_parts}
use Rattle.std.specs.Prelude.{filter, filter_map, not, option_map}
use Rattle.std.specs.Int.{int_max, int_min}
use Rattle.std.specs.List.{AllByRecursion, cons_option}
use Rattle.std.specs.declared.cmp.Ordering.TheVariants.{Less, Equal, Greater}
use Rattle.std.specs.FinMap.Entries.{put, find, by_order}
use Rattle.wsm_record.specs.declared.words.Mode.{Mode}
use Rattle.wsm_windows.specs.declared.window.PaneKind.{PaneKind}
use Rattle.wsm_windows.specs.declared.window.Window.{Window}
use Rattle.wsm_windows.specs.declared.window.Shape.{Shape}
use Rattle.wsm_windows.specs.declared.window.Shape.TheVariants.{Fixed, Sliding, Session}
use Rattle.wsm_windows.specs.Windows.{window}
use Rattle.wsm_windows.specs.Life.{live_windows_of}
use Rattle.wsm_windows.specs.declared.place.Place.{Place}
use Rattle.wsm_windows.specs.Places.{place_cmp, at, window_of}
use Rattle.wsm_windows.proofs.Places.{places_exact}
use Rattle.wsm_semantics.specs.declared.out_row.OutRow.TheVariants as rows
use Rattle.wsm_semantics.specs.Query.{Datum, Query}
use Rattle.wsm_semantics.specs.Panes.{is_live_at}
use Rattle.wsm_semantics.specs.Firings.{Firing, firing_set, firing_of, kind_on_watermark}
use Rattle.wsm_semantics.specs.Firings as firings
use Rattle.wsm_semantics.specs.Relation.{sorted_rows}
use Rattle.wsm_semantics.specs.Kept as kept
use Rattle.wsm_semantics.specs.Kept.{Kept, Stands, is_linked, joined_to}
use Rattle.wsm_semantics.specs.Summaries.{Plan, IsLawful, Runs, Pane, session_with, linked, kind_by_record, kind_by_watermark, fired_of, fires, standing_row, relation_of, with_record, joined_with, joined_all, assigned, merged_session, entered, fired_pane, all_fired, after_record, fired_by_record, at_watermark, fired_by_watermark, after_watermark, row_of, standing_of, pane_of, summaries, summary_fired}
use Rattle.wsm_semantics.proofs.Lists.{all-each}
use Rattle.wsm_semantics.proofs.Each.{passed, same_key}
use Rattle.wsm_semantics.proofs.Tables.{find-keyed}
use Rattle.wsm_semantics.proofs.Summaries.{pane-with_record, pane-joined, pane-fired, fired-of, counted-fired}

-- ---- tables

module _ {X : Type 0} (plan : Plan X) (m : Mode) where
  put-summaries : (p : Place) (h : Kept) (es : List (Place × Kept)) → put place_cmp p (pane_of plan m p.key h) (summaries plan m es) ≡ summaries plan m (put place_cmp p h es)
  put-summaries p h [] = refl
  put-summaries p h (e ∷ es) =
      let v : Pane X = pane_of plan m p.key h in
      elim (place_cmp p e.0) as (λ o. place_cmp p e.0 ≡ o → by_order o ((p, v) ∷ summaries plan m (e ∷ es)) ((e.0, v) ∷ summaries plan m es) ((e.0, pane_of plan m e.0.key e.1) ∷ put place_cmp p v (summaries plan m es))
      ≡ summaries plan m (by_order o ((p, h) ∷ e ∷ es) ((e.0, h) ∷ es) (e ∷ put place_cmp p h es))) [
        | Less ↦ λ _. refl
        | Equal ↦ λ t. ap (λ (r : Place). (e.0, pane_of plan m r.key h) ∷ summaries plan m es) (places_exact p e.0 t)
        | Greater ↦ λ _. ap (λ (fs : List (Place × Pane X)). (e.0, pane_of plan m e.0.key e.1) ∷ fs) (put-summaries p h es)
      ] refl

  pub where-summaries : (t : Place → Bool) (es : List (Place × Kept)) → filter (λ e. t e.0) (summaries plan m es) ≡ summaries plan m (filter (λ e. t e.0) es)
  where-summaries t [] = refl
  where-summaries t (e ∷ es) =
      elim (t e.0) as (λ b. cond b ((e.0, pane_of plan m e.0.key e.1) ∷ filter (λ e. t e.0) (summaries plan m es)) (filter (λ e. t e.0) (summaries plan m es))
      ≡ summaries plan m (cond b (e ∷ filter (λ e. t e.0) es) (filter (λ e. t e.0) es))) [
        | true ↦ ap (λ (fs : List (Place × Pane X)). (e.0, pane_of plan m e.0.key e.1) ∷ fs) (where-summaries t es)
        | false ↦ where-summaries t es
      ]

  -- ---- a record

  assigned-summaries : (d : Datum) (ws : List Window) (es : List (Place × Kept)) → assigned plan d ws (summaries plan m es) ≡ summaries plan m (kept.assigned d ws es)
  assigned-summaries d [] es = refl
  assigned-summaries d (w ∷ ws) es =
      let p : Place = at d.key w in
      let h : Kept = kept.with_record d (find place_cmp p es) in
      ap (λ (v : Pane X). assigned plan d ws (put place_cmp p v (summaries plan m es)))
      (ap (with_record plan d) (find-keyed (λ p h. pane_of plan m p.key h) p es) ∙ pane-with_record plan m d.key d (find place_cmp p es))
      ∙ ap (assigned plan d ws) (put-summaries p h es)
      ∙ assigned-summaries d ws (put place_cmp p h es)

  session-summaries : (gap : ℤ) (d : Datum) (es : List (Place × Kept)) → session_with gap d (summaries plan m es) ≡ kept.session_with gap d es
  session-summaries gap d [] = refl
  session-summaries gap d (e ∷ es) =
      ap (λ (p : Place). at d.key (window (int_min e.0.start p.start) (int_max e.0.end p.end))) (session-summaries gap d es)

  session_key : (gap : ℤ) (d : Datum) (es : List (Place × Kept)) → (kept.session_with gap d es).key ≡ d.key
  session_key gap d [] = refl
  session_key gap d (e ∷ es) = refl

  module _ (lawful : IsLawful plan) where
    -- parts of one key
    abbrev OfKey : ℕ → List (Place × Kept) → Type 0
    OfKey k es = AllByRecursion (λ e. e.0.key ≡ k) es

    joined-pane : (k : ℕ) (h : Kept) (o : Option Kept) → joined_with plan (pane_of plan m k h) (option_map (pane_of plan m k) o) ≡ pane_of plan m k (joined_to h o)
    joined-pane k h None = refl
    joined-pane k h (Some g) = pane-joined plan lawful m k h g

    pub joined-summaries : (k : ℕ) (es : List (Place × Kept)) → OfKey k es → joined_all plan (summaries plan m es) ≡ option_map (pane_of plan m k) (kept.joined_all es)
    joined-summaries k [] own = refl
    joined-summaries k (e ∷ es) own = ap Some (
        (λ i. joined_with plan (pane_of plan m (own.0 i) e.1) (joined-summaries k es own.1 i))
        ∙ joined-pane k e.1 (kept.joined_all es))

    pub linked_own : (gap : ℤ) (d : Datum) (es : List (Place × Kept)) → OfKey d.key (filter (λ e. is_linked gap d e.0) es)
    linked_own gap d es =
        all-each (λ e. is_linked gap d e.0 ≡ true) (λ e. e.0.key ≡ d.key) (filter (λ e. is_linked gap d e.0) es) (λ e h. sym (same_key d.key e.0.key (and_parts _ _ h).0)) (passed (λ e. is_linked gap d e.0) es)

    merged-summaries : (gap : ℤ) (d : Datum) (es : List (Place × Kept)) → merged_session plan gap d (summaries plan m es) ≡ summaries plan m (kept.merged_session gap d es)
    merged-summaries gap d es =
        let parts : List (Place × Kept) = filter (λ e. is_linked gap d e.0) es in
        let others : List (Place × Kept) = filter (λ e. not (is_linked gap d e.0)) es in
        let p : Place = kept.session_with gap d parts in
        let h : Kept = kept.with_record d (kept.joined_all parts) in
        let split : linked gap d (summaries plan m es) ≡ summaries plan m parts = where-summaries (is_linked gap d) es in
        let rest : filter (λ e. not (is_linked gap d e.0)) (summaries plan m es) ≡ summaries plan m others = where-summaries (λ p. not (is_linked gap d p)) es in
        let place : session_with gap d (summaries plan m parts) ≡ p = session-summaries gap d parts in
        let pane : with_record plan d (joined_all plan (summaries plan m parts)) ≡ pane_of plan m p.key h =
        ap (with_record plan d) (joined-summaries d.key parts (linked_own gap d es))
        ∙ pane-with_record plan m d.key d (kept.joined_all parts)
        ∙ ap (λ (k : ℕ). pane_of plan m k h) (sym (session_key gap d parts)) in
        (λ i. put place_cmp (session_with gap d (split i)) (with_record plan d (joined_all plan (split i))) (rest i))
        ∙ (λ i. put place_cmp (place i) (pane i) (summaries plan m others))
        ∙ put-summaries p h others

    pub entered-summaries : (sh : Shape) (l : ℤ) (d : Datum) (es : List (Place × Kept)) → entered plan sh l d (summaries plan m es) ≡ summaries plan m (kept.entered sh l d es)
    entered-summaries (Fixed size) l d es = assigned-summaries d (live_windows_of (Fixed size) d.time l d.mark) es
    entered-summaries (Sliding size period) l d es = assigned-summaries d (live_windows_of (Sliding size period) d.time l d.mark) es
    entered-summaries (Session gap) l d es = merged-summaries gap d es

-- ---- firings

map-cons_option : {A B : Type 0} (f : A → B) (o : Option A) (xs : List A) → map f (cons_option o xs) ≡ cons_option (option_map f o) (map f xs)
map-cons_option f None xs = refl
map-cons_option f (Some x) xs = refl

module _ {X : Type 0} (plan : Plan X) (q : Query) (kind : Place → Pane X → Option PaneKind) (kind_of : Place → Kept → Option PaneKind)
    (same : (p : Place) (h : Kept) → kind p (pane_of plan q.mode p.key h) ≡ kind_of p h) where
  fires-summaries : (n : ℕ) (es : List (Place × Kept)) → fires q kind (summaries plan q.mode es) ≡ map (summary_fired plan) (kept.fires q n kind_of es)
  fires-summaries n [] = refl
  fires-summaries n (e ∷ es) =
      (λ i. cons_option (((ap (fired_of q.mode e.0 (pane_of plan q.mode e.0.key e.1)) (same e.0 e.1)) ∙ fired-of plan n q.mode e.0 (kind_of e.0 e.1) e.1) i) (fires-summaries n es i))
      ∙ sym (map-cons_option (summary_fired plan) (firing_of n e.0 e.1.all (firing_set q.mode e.1.all e.1.unshown) (kind_of e.0 e.1)) (kept.fires q n kind_of es))

  fired-summaries : (es : List (Place × Kept)) → all_fired plan q kind (summaries plan q.mode es) ≡ summaries plan q.mode (kept.all_fired q kind_of es)
  fired-summaries [] = refl
  fired-summaries (e ∷ es) =
      λ i. (e.0, ((ap (λ (k : Option PaneKind). fired_pane plan q.mode e.0 k (pane_of plan q.mode e.0.key e.1)) (same e.0 e.1)) ∙ pane-fired plan q.mode e.0 (kind_of e.0 e.1) e.1) i) ∷ fired-summaries es i

-- ---- the turns

module _ {X : Type 0} (plan : Plan X) (lawful : IsLawful plan) (q : Query) (w : ℤ) (d : Datum) (panes : List (Place × Kept)) where
  -- a selected record
  pub after_record-summaries : after_record plan q w d (summaries plan q.mode panes) ≡ summaries plan q.mode (kept.kept_after_record q w d panes)
  after_record-summaries =
      ap (all_fired plan q (kind_by_record q w d)) (entered-summaries plan q.mode lawful q.shape q.clock.lateness d panes)
      ∙ fired-summaries plan q (kind_by_record q w d) (kept.kind_by_record q w d) (λ p h. refl) (kept.entered q.shape q.clock.lateness d panes)

  pub fired_by_record-summaries : fired_by_record plan q w d (summaries plan q.mode panes) ≡ map (summary_fired plan) (kept.fired_by_record q w d panes)
  fired_by_record-summaries =
      ap (fires q (kind_by_record q w d)) (entered-summaries plan q.mode lawful q.shape q.clock.lateness d panes)
      ∙ fires-summaries plan q (kind_by_record q w d) (kept.kind_by_record q w d) (λ p h. refl) d.turn (kept.entered q.shape q.clock.lateness d panes)

module _ {X : Type 0} (plan : Plan X) (q : Query) (old new : ℤ) (panes : List (Place × Kept)) where
  pub same_kind : (p : Place) (h : Kept) → kind_by_watermark q old new p (pane_of plan q.mode p.key h) ≡ kept.kind_by_watermark q old new p h
  same_kind p h = ap (λ (n : ℕ). kind_on_watermark q old new p n (length h.unshown)) (counted-fired plan q.mode p.key h)

  -- a watermark
  pub at_watermark-summaries : at_watermark plan q old new (summaries plan q.mode panes) ≡ summaries plan q.mode (kept.kept_at_watermark q old new panes)
  at_watermark-summaries = fired-summaries plan q (kind_by_watermark q old new) (kept.kind_by_watermark q old new) same_kind panes

  pub fired_by_watermark-summaries : (n : ℕ) → fired_by_watermark plan q old new (summaries plan q.mode panes) ≡ map (summary_fired plan) (kept.fired_by_watermark q n old new panes)
  fired_by_watermark-summaries n = fires-summaries plan q (kind_by_watermark q old new) (kept.kind_by_watermark q old new) same_kind n panes

  pub after_watermark-summaries : after_watermark plan q old new (summaries plan q.mode panes) ≡ summaries plan q.mode (kept.kept_after_watermark q old new panes)
  after_watermark-summaries =
      ap (filter (λ e. is_live_at q new e.0)) at_watermark-summaries
      ∙ where-summaries plan q.mode (is_live_at q new) (kept.kept_at_watermark q old new panes)

-- ---- rows

module _ {X : Type 0} (plan : Plan X) (q : Query) (runs : Runs plan q) where
  -- the rows of firings
  pub rows-summaries : (fs : List Firing) → filter_map (row_of plan) (map (summary_fired plan) fs) ≡ filter_map (firings.row_of q) fs
  rows-summaries [] = refl
  rows-summaries (f ∷ fs) =
      λ i. cons_option (option_map (rows.Pane f.kind f.place.key (window_of f.place)) (runs.row f.place.key f.fired i)) (rows-summaries fs i)

  stands_alike : (p : Place) (s : Stands) → standing_row (standing_of plan q.mode p.key s) ≡ kept.standing_row q p s
  stands_alike p kept.Unfired = refl
  stands_alike p (kept.Firing window fired) = runs.row p.key fired
  stands_alike p kept.Joined = refl

  all_stand_alike : (es : List (Place × Kept)) → filter_map (λ e. standing_row e.1.stands) (summaries plan q.mode es) ≡ filter_map (λ e. kept.standing_row q e.0 e.1.stands) es
  all_stand_alike [] = refl
  all_stand_alike (e ∷ es) = λ i. cons_option (stands_alike e.0 e.1.stands i) (all_stand_alike es i)

  -- the relation
  pub relation-summaries : (es : List (Place × Kept)) → relation_of (summaries plan q.mode es) ≡ kept.relation_of q es
  relation-summaries es = ap sorted_rows (all_stand_alike es)
