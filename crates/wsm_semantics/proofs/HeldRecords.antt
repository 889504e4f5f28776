-- How many records the panes have after a turn: a selected record makes them at most one more, and a
-- watermark none.
use Rattle.std.proofs.Common.{◌≡◌, ℕ, ◌+◌, ◌≤◌, Bool, true, false, cond, List, [], ◌∷◌, ℤ, ◌<ℤ◌, Option, Some, None, refl, sym, ap, subst, ◌∙◌, arith}
use Rattle.std.proofs.lemmas.Int.{ints}
use Rattle.std.proofs.lemmas.List.Elements.{All-head, All-tail}
use Rattle.std.specs.Prelude.{All, filter, not}
use Rattle.std.specs.List.{AllByRecursion}
use Rattle.std.specs.Ordering.{eq_by_cmp}
use Rattle.std.specs.declared.cmp.Ordering.TheVariants.{Less, Equal, Greater}
use Rattle.std.specs.FinMap.Entries.{put, find, by_order, find-put}
use Rattle.wsm_record.specs.declared.words.Mode.{Mode}
use Rattle.wsm_windows.specs.declared.window.PaneKind.{PaneKind}
use Rattle.wsm_windows.specs.declared.window.Window.{Window}
use Rattle.wsm_windows.specs.declared.window.Shape.{Shape}
use Rattle.wsm_windows.specs.declared.window.Shape.TheVariants.{Fixed, Sliding, Session}
use Rattle.wsm_windows.specs.Windows.{IsShape, IsRising}
use Rattle.wsm_windows.proofs.LiveWindows.{rising_live}
use Rattle.wsm_windows.specs.Life.{live_windows_of}
use Rattle.wsm_windows.specs.declared.place.Place.{Place}
use Rattle.wsm_windows.specs.Places.{place_cmp, at}
use Rattle.wsm_windows.proofs.Places.{tie_is, places_exact, places_total}
use Rattle.wsm_semantics.specs.Query.{Datum, Query}
use Rattle.wsm_semantics.specs.Panes.{is_live_at}
use Rattle.wsm_semantics.specs.Kept.{is_linked}
use Rattle.wsm_semantics.specs.Summaries.{Plan, Pane, session_with, linked, with_record, joined_with, joined_all, assigned, merged_session, entered, fired_pane, all_fired, kind_by_record, kind_by_watermark, after_record, at_watermark, after_watermark}
use Rattle.wsm_semantics.specs.HeldRecords.{count_of, total, EachAtMost, AtMost}
use Rattle.wsm_semantics.proofs.Lists.{filter-all, all-each, put-all}

-- windows with other starts are other places
pub apart : (k : ℕ) (w v : Window) → w.start <ℤ v.start → eq_by_cmp place_cmp (at k v) (at k w) ≡ false
apart k w v less =
    elim (eq_by_cmp place_cmp (at k v) (at k w)) as (λ b. eq_by_cmp place_cmp (at k v) (at k w) ≡ b → b ≡ false) [
      | true ↦ λ e. absurd (let same : v.start ≡ w.start = ap (λ (p : Place). p.start) (tie_is (at k v) (at k w) e) in omega (arith, ints))
      | false ↦ λ e. refl
    ] refl

-- ---- totals

module _ {X : Type 0} where
  total-put : (p : Place) (h : Pane X) (es : List (Place × Pane X)) → total (put place_cmp p h es) ≤ h.count + total es
  total-put p h [] = omega arith
  total-put p h (e ∷ es) =
      let later : total (put place_cmp p h es) ≤ h.count + total es = total-put p h es in
      elim (place_cmp p e.0) as (λ o. total (by_order o ((p, h) ∷ e ∷ es) ((e.0, h) ∷ es) (e ∷ put place_cmp p h es)) ≤ h.count + (e.1.count + total es)) [
        | Less ↦ omega arith
        | Equal ↦ omega arith
        | Greater ↦ omega (arith, later)
      ]

  -- panes in two parts
  pub total-split : (t : Place → Bool) (es : List (Place × Pane X)) → total (filter (λ e. t e.0) es) + total (filter (λ e. not (t e.0)) es) ≡ total es
  total-split t [] = omega arith
  total-split t (e ∷ es) =
      let later : total (filter (λ e. t e.0) es) + total (filter (λ e. not (t e.0)) es) ≡ total es = total-split t es in
      elim (t e.0) as (λ b. total (cond b (e ∷ filter (λ e. t e.0) es) (filter (λ e. t e.0) es)) + total (cond (not b) (e ∷ filter (λ e. not (t e.0)) es) (filter (λ e. not (t e.0)) es)) ≡ e.1.count + total es) [
        | true ↦ omega (arith, later)
        | false ↦ omega (arith, later)
      ]

  pub total-where : (t : Place → Bool) (es : List (Place × Pane X)) → total (filter (λ e. t e.0) es) ≤ total es
  total-where t es = omega (arith, total-split t es)

  at_most_total : (n : ℕ) (es : List (Place × Pane X)) → total es ≤ n → EachAtMost n es
  at_most_total n [] h = tt
  at_most_total n (e ∷ es) h = (omega (arith, h), at_most_total n es (omega (arith, h)))

  pub each_later : (m n : ℕ) → m ≤ n → (es : List (Place × Pane X)) → EachAtMost m es → EachAtMost n es
  each_later m n l es h = all-each (λ e. e.1.count ≤ m) (λ e. e.1.count ≤ n) es (λ e k. omega (arith, k, l)) h

  -- where panes are at most so many together, each of them is
  pub each_of : (sh : Shape) (n : ℕ) (es : List (Place × Pane X)) → AtMost sh n es → EachAtMost n es
  each_of (Fixed size) n es h = h
  each_of (Sliding size period) n es h = h
  each_of (Session gap) n es h = at_most_total n es h

  pub at_most_later : (sh : Shape) (m n : ℕ) → m ≤ n → (es : List (Place × Pane X)) → AtMost sh m es → AtMost sh n es
  at_most_later (Fixed size) m n l es h = each_later m n l es h
  at_most_later (Sliding size period) m n l es h = each_later m n l es h
  at_most_later (Session gap) m n l es h = omega (arith, h, l)

  pub count-find : (n : ℕ) (p : Place) (es : List (Place × Pane X)) → EachAtMost n es → count_of (find place_cmp p es) ≤ n
  count-find n p [] h = omega arith
  count-find n p (e ∷ es) h =
      elim (eq_by_cmp place_cmp p e.0) as (λ b. count_of (cond b (Some e.1) (find place_cmp p es)) ≤ n) [ true ↦ h.0 | false ↦ count-find n p es h.1 ]

  -- ---- windows that a record enters

  -- the panes of some windows have room for a record more
  abbrev pub HaveRoom : ℕ → ℕ → List Window → List (Place × Pane X) → Type 0
  HaveRoom n k ws es = AllByRecursion (λ w. count_of (find place_cmp (at k w) es) ≤ n) ws

  pub have_room : (n k : ℕ) (ws : List Window) (es : List (Place × Pane X)) → EachAtMost n es → HaveRoom n k ws es
  have_room n k [] es h = tt
  have_room n k (w ∷ ws) es h = (count-find n (at k w) es h, have_room n k ws es h)

  -- a pane that is put in place leaves that of each later window
  pub still_room : (n k : ℕ) (w : Window) (h : Pane X) (ws : List Window) (es : List (Place × Pane X)) → All (λ v. w.start <ℤ v.start) ws → HaveRoom n k ws es → HaveRoom n k ws (put place_cmp (at k w) h es)
  still_room n k w h [] es l room = tt
  still_room n k w h (v ∷ ws) es l room = (
    subst (λ (o : Option (Pane X)). count_of o ≤ n)
        (sym (find-put place_cmp places_total (at k v) (at k w) h es ∙ ap (λ (b : Bool). cond b (Some h) (find place_cmp (at k v) es)) (apart k w v (All-head (λ (v : Window). w.start <ℤ v.start) v ws l))))
        room.0,
    still_room n k w h ws es (All-tail (λ (v : Window). w.start <ℤ v.start) v ws l) room.1,
  )

module _ {X : Type 0} (plan : Plan X) where
  pub count-with_record : (d : Datum) (o : Option (Pane X)) → (with_record plan d o).count ≡ count_of o + 1
  count-with_record d None = omega arith
  count-with_record d (Some h) = refl

  count-joined_with : (h : Pane X) (o : Option (Pane X)) → (joined_with plan h o).count ≡ h.count + count_of o
  count-joined_with h None = omega arith
  count-joined_with h (Some g) = refl

  pub count-joined_all : (es : List (Place × Pane X)) → count_of (joined_all plan es) ≡ total es
  count-joined_all [] = refl
  count-joined_all (e ∷ es) = count-joined_with e.1 (joined_all plan es) ∙ ap (λ (n : ℕ). e.1.count + n) (count-joined_all es)

  pub total-merged : (gap : ℤ) (d : Datum) (es : List (Place × Pane X)) → total (merged_session plan gap d es) ≤ total es + 1
  total-merged gap d es =
      let parts : List (Place × Pane X) = linked gap d es in
      let others : List (Place × Pane X) = filter (λ e. not (is_linked gap d e.0)) es in
      let h : Pane X = with_record plan d (joined_all plan parts) in
      let sum : total parts + total others ≡ total es = total-split (is_linked gap d) es in
      let put_in : total (put place_cmp (session_with gap d parts) h others) ≤ h.count + total others = total-put (session_with gap d parts) h others in
      let more : h.count ≡ count_of (joined_all plan parts) + 1 = count-with_record d (joined_all plan parts) in
      let all : count_of (joined_all plan parts) ≡ total parts = count-joined_all parts in
      omega (arith, sum, put_in, more, all)

  pub each-assigned : (n : ℕ) (d : Datum) (ws : List Window) → IsRising ws → (es : List (Place × Pane X)) → EachAtMost (n + 1) es → HaveRoom n d.key ws es → EachAtMost (n + 1) (assigned plan d ws es)
  each-assigned n d [] r es h room = h
  each-assigned n d (w ∷ ws) r es h room =
      let o : Option (Pane X) = find place_cmp (at d.key w) es in
      let v : Pane X = with_record plan d o in
      let fits : v.count ≤ n + 1 = omega (arith, count-with_record d o, room.0) in
      each-assigned n d ws r.1 (put place_cmp (at d.key w) v es)
      (put-all place_cmp places_exact (λ e. e.1.count ≤ n + 1) (at d.key w) v es fits h)
      (still_room n d.key w v ws es r.0 room.1)

  -- a selected record
  pub at_most-entered : (sh : Shape) (l : ℤ) → IsShape sh → (n : ℕ) (d : Datum) (es : List (Place × Pane X)) → AtMost sh n es → AtMost sh (n + 1) (entered plan sh l d es)
  at_most-entered (Fixed size) l ok n d es h =
      each-assigned n d (live_windows_of (Fixed size) d.time l d.mark) (rising_live (Fixed size) d.time l d.mark (live_windows_of (Fixed size) d.time l d.mark) ok refl) es (each_later n (n + 1) (omega arith) es h) (have_room n d.key (live_windows_of (Fixed size) d.time l d.mark) es h)
  at_most-entered (Sliding size period) l ok n d es h =
      each-assigned n d (live_windows_of (Sliding size period) d.time l d.mark) (rising_live (Sliding size period) d.time l d.mark (live_windows_of (Sliding size period) d.time l d.mark) ok refl) es (each_later n (n + 1) (omega arith) es h) (have_room n d.key (live_windows_of (Sliding size period) d.time l d.mark) es h)
  at_most-entered (Session gap) l ok n d es h = omega (arith, total-merged gap d es, h)

  -- ---- firings and drops

  count-fired : (m : Mode) (p : Place) (kind : Option PaneKind) (h : Pane X) → (fired_pane plan m p kind h).count ≡ h.count
  count-fired m p None h = refl
  count-fired m p (Some kind) h = refl

  module _ (q : Query) (kind : Place → Pane X → Option PaneKind) where
    total-fired : (es : List (Place × Pane X)) → total (all_fired plan q kind es) ≡ total es
    total-fired [] = refl
    total-fired (e ∷ es) = λ i. count-fired q.mode e.0 (kind e.0 e.1) e.1 i + total-fired es i

    each-fired : (n : ℕ) (es : List (Place × Pane X)) → EachAtMost n es → EachAtMost n (all_fired plan q kind es)
    each-fired n [] h = tt
    each-fired n (e ∷ es) h = (subst (λ (c : ℕ). c ≤ n) (sym (count-fired q.mode e.0 (kind e.0 e.1) e.1)) h.0, each-fired n es h.1)

    pub at_most-fired : (sh : Shape) (n : ℕ) (es : List (Place × Pane X)) → AtMost sh n es → AtMost sh n (all_fired plan q kind es)
    at_most-fired (Fixed size) n es h = each-fired n es h
    at_most-fired (Sliding size period) n es h = each-fired n es h
    at_most-fired (Session gap) n es h = subst (λ (c : ℕ). c ≤ n) (sym (total-fired es)) h

  at_most-where : (sh : Shape) (n : ℕ) (t : Place → Bool) (es : List (Place × Pane X)) → AtMost sh n es → AtMost sh n (filter (λ e. t e.0) es)
  at_most-where (Fixed size) n t es h = filter-all (λ e. e.1.count ≤ n) (λ e. t e.0) es h
  at_most-where (Sliding size period) n t es h = filter-all (λ e. e.1.count ≤ n) (λ e. t e.0) es h
  at_most-where (Session gap) n t es h = omega (arith, total-where t es, h)

  -- ---- turns

  pub at_most-after_record : (q : Query) → IsShape q.shape → (w : ℤ) (d : Datum) (n : ℕ) (es : List (Place × Pane X)) → AtMost q.shape n es → AtMost q.shape (n + 1) (after_record plan q w d es)
  at_most-after_record q ok w d n es h = at_most-fired q (kind_by_record q w d) q.shape (n + 1) (entered plan q.shape q.clock.lateness d es) (at_most-entered q.shape q.clock.lateness ok n d es h)

  pub at_most-after_watermark : (q : Query) (old new : ℤ) (n : ℕ) (es : List (Place × Pane X)) → AtMost q.shape n es → AtMost q.shape n (after_watermark plan q old new es)
  at_most-after_watermark q old new n es h =
      at_most-where q.shape n (is_live_at q new) (at_watermark plan q old new es) (at_most-fired q (kind_by_watermark q old new) q.shape n es h)
