-- What is kept of panes hangs on no record's turn.
use Rattle.std.proofs.Common.{◌≡◌, ℕ, ◌+◌, ◌&&◌, cond, List, [], ◌∷◌, ◌++◌, ℤ, Option, Some, None, refl, ap, ◌∙◌}
use Rattle.std.specs.Int.{int_max, int_min}
use Rattle.std.specs.FinMap.Entries.{put, find, where_key}
use Rattle.std.specs.Prelude.{not, nat_eq}
use Rattle.wsm_record.specs.declared.event.Value.{Value}
use Rattle.wsm_windows.specs.declared.window.Window.{Window}
use Rattle.wsm_windows.specs.declared.window.Shape.{Shape}
use Rattle.wsm_windows.specs.declared.window.Shape.TheVariants.{Fixed, Sliding, Session}
use Rattle.wsm_windows.specs.Windows.{window}
use Rattle.wsm_windows.specs.Life.{live_windows_of}
use Rattle.wsm_windows.specs.declared.place.Place.{Place}
use Rattle.wsm_windows.specs.Places.{place_cmp, at, window_of}
use Rattle.wsm_semantics.specs.Query.{Query, datum}
use Rattle.wsm_semantics.specs.Panes.{stands_in}
use Rattle.wsm_semantics.specs.Firings.{kind_on_record}
use Rattle.wsm_semantics.specs.Kept.{is_linked}
use Rattle.wsm_semantics.specs.Summaries.{Plan, Pane, with_folded, with_record, session_with, linked, joined_all, assigned, entered, all_fired, fires, kind_by_record, after_record, fired_by_record, withdrawn_entering, withdrawn_firing, withdrawn_by_record}

module _ {X : Type 0} (plan : Plan X) (m n : ℕ) (mark : ℤ) (key : ℕ) (time : ℤ) (values : List Value) where
  folded-turnless : (o : Option X) → with_folded plan (datum m mark key time values) o ≡ with_folded plan (datum n mark key time values) o
  folded-turnless None = refl
  folded-turnless (Some x) = refl

  record-turnless : (o : Option (Pane X)) → with_record plan (datum m mark key time values) o ≡ with_record plan (datum n mark key time values) o
  record-turnless None = refl
  record-turnless (Some h) = λ i. record h { count = h.count + 1; unshown = h.unshown + 1; folded = Some (folded-turnless h.folded i) }

  assigned-turnless : (ws : List Window) (es : List (Place × Pane X)) → assigned plan (datum m mark key time values) ws es ≡ assigned plan (datum n mark key time values) ws es
  assigned-turnless [] es = refl
  assigned-turnless (w ∷ ws) es =
      let o : Option (Pane X) = find place_cmp (at key w) es in
      ap (λ (h : Pane X). assigned plan (datum m mark key time values) ws (put place_cmp (at key w) h es)) (record-turnless o)
      ∙ assigned-turnless ws (put place_cmp (at key w) (with_record plan (datum n mark key time values) o) es)

  session-turnless : (gap : ℤ) (es : List (Place × Pane X)) → session_with gap (datum m mark key time values) es ≡ session_with gap (datum n mark key time values) es
  session-turnless gap [] = refl
  session-turnless gap (e ∷ es) = ap (λ (p : Place). at key (window (int_min e.0.start p.start) (int_max e.0.end p.end))) (session-turnless gap es)

  pub entered-turnless : (sh : Shape) (l : ℤ) (es : List (Place × Pane X)) → entered plan sh l (datum m mark key time values) es ≡ entered plan sh l (datum n mark key time values) es
  entered-turnless (Fixed size) l es = assigned-turnless (live_windows_of (Fixed size) time l mark) es
  entered-turnless (Sliding size period) l es = assigned-turnless (live_windows_of (Sliding size period) time l mark) es
  entered-turnless (Session gap) l es =
      let parts : List (Place × Pane X) = linked gap (datum n mark key time values) es in
      λ i. put place_cmp (session-turnless gap parts i) (record-turnless (joined_all plan parts) i) (where_key place_cmp (λ p. not (is_linked gap (datum n mark key time values) p)) es)

  stands-turnless : (sh : Shape) (l : ℤ) (v : Window) → stands_in sh l v (datum m mark key time values) ≡ stands_in sh l v (datum n mark key time values)
  stands-turnless (Fixed size) l v = refl
  stands-turnless (Sliding size period) l v = refl
  stands-turnless (Session gap) l v = refl

  kind-turnless : (q : Query) (w : ℤ) → kind_by_record q w (datum m mark key time values) ≡ (λ (p : Place) (h : Pane X). kind_by_record q w (datum n mark key time values) p h)
  kind-turnless q w = λ i p h. cond (nat_eq key p.key && stands-turnless q.shape q.clock.lateness (window_of p) i) (kind_on_record q w p.end h.unshown) None

  pub after_record-turnless : (q : Query) (w : ℤ) (es : List (Place × Pane X)) → after_record plan q w (datum m mark key time values) es ≡ after_record plan q w (datum n mark key time values) es
  after_record-turnless q w es = λ i. all_fired plan q (kind-turnless q w i) (entered-turnless q.shape q.clock.lateness es i)

  pub fired_by_record-turnless : (q : Query) (w : ℤ) (es : List (Place × Pane X)) → fired_by_record plan q w (datum m mark key time values) es ≡ fired_by_record plan q w (datum n mark key time values) es
  fired_by_record-turnless q w es = λ i. fires q (kind-turnless q w i) (entered-turnless q.shape q.clock.lateness es i)

  pub withdrawn_by_record-turnless : (q : Query) (w : ℤ) (es : List (Place × Pane X)) → withdrawn_by_record plan q w (datum m mark key time values) es ≡ withdrawn_by_record plan q w (datum n mark key time values) es
  withdrawn_by_record-turnless q w es =
      λ i. entering-turnless q.shape es i ++ withdrawn_firing (kind-turnless q w i) (entered-turnless q.shape q.clock.lateness es i)
    where
      entering-turnless : (sh : Shape) (es : List (Place × Pane X)) → withdrawn_entering plan sh (datum m mark key time values) es ≡ withdrawn_entering plan sh (datum n mark key time values) es
      entering-turnless (Fixed size) es = refl
      entering-turnless (Sliding size period) es = refl
      entering-turnless (Session gap) es = refl
