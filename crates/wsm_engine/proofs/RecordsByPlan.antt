-- A record is put in by what UPDATE gave of it as it is by the program's plan, and what fires then goes
-- by its key and time alone.
use Rattle.std.proofs.Common.{◌≡◌, ℕ, ◌+◌, ◌&&◌, cond, List, [], ◌∷◌, ◌++◌, ℤ, Option, Some, None, refl, sym, ap, ◌∙◌}
use Rattle.std.specs.Int.{int_max, int_min}
use Rattle.std.specs.FinMap.Entries.{put, find, where_key}
use Rattle.std.specs.Prelude.{not, nat_eq}
use Rattle.wsm_record.specs.declared.event.Value.{Value}
use Rattle.wsm_windows.specs.declared.window.Window.{Window}
use Rattle.wsm_windows.specs.declared.window.Shape.{Shape}
use Rattle.wsm_windows.specs.declared.window.Shape.TheVariants.{Fixed, Sliding, Session}
use Rattle.wsm_windows.specs.Windows.{window}
use Rattle.wsm_windows.specs.Life.{live_windows_of}
use Rattle.wsm_windows.specs.declared.place.Place.{Place}
use Rattle.wsm_windows.specs.Places.{place_cmp, at, window_of}
use Rattle.wsm_semantics.specs.Query.{Query, Datum}
use Rattle.wsm_semantics.specs.Panes.{stands_in}
use Rattle.wsm_semantics.specs.Firings.{kind_on_record}
use Rattle.wsm_semantics.specs.Kept.{is_linked}
use Rattle.wsm_semantics.specs.Summaries.{Plan, Pane, linked, session_with, with_folded, with_record, joined_with, joined_all, assigned, merged_session, entered, all_fired, fires, kind_by_record, after_record, fired_by_record, withdrawn_by_record, withdrawn_entering, withdrawn_firing}
use Rattle.wsm_semantics.specs.Replay.{datum}
use Rattle.wsm_program.specs.Program.{Program}
use Rattle.wsm_slots.specs.Panes.{taking}
use Rattle.wsm_machine.specs.Meaning.{plan_of, query_of, updated}
use Rattle.wsm_firing.specs.ByRecord.{fires_by_record, withdrawn_of_record}

module _ (p : Program) (m : ℤ) (k : ℕ) (t : ℤ) (vs : List Value) where
  abbrev Panes : Type 0
  Panes = List (Place × Pane (List Value))

  -- the plan of what UPDATE gave, and the record without its values
  abbrev given : Plan (List Value)
  given = taking p.header.kinds (updated p k vs)

  abbrev bare : Datum
  bare = datum 0 m k t []

  abbrev whole : Datum
  whole = datum 0 m k t vs

  folded_same : (o : Option (List Value)) → with_folded given bare o ≡ with_folded (plan_of p) whole o
  folded_same None = refl
  folded_same (Some x) = refl

  with_same : (o : Option (Pane (List Value))) → with_record given bare o ≡ with_record (plan_of p) whole o
  with_same None = refl
  with_same (Some h) = ap (λ (x : List Value). record h { count = h.count + 1; unshown = h.unshown + 1; folded = Some x }) (folded_same h.folded)

  assigned_same : (ws : List Window) (es : Panes) → assigned given bare ws es ≡ assigned (plan_of p) whole ws es
  assigned_same [] es = refl
  assigned_same (w ∷ ws) es =
      assigned_same ws _ ∙ ap (λ (h : Pane (List Value)). assigned (plan_of p) whole ws (put place_cmp (at k w) h es)) (with_same (find place_cmp (at k w) es))

  session_same : (gap : ℤ) (es : Panes) → session_with gap bare es ≡ session_with gap whole es
  session_same gap [] = refl
  session_same gap (e ∷ es) = ap (λ (r : Place). at k (window (int_min e.0.start r.start) (int_max e.0.end r.end))) (session_same gap es)

  joined_with_same : (h : Pane (List Value)) (o : Option (Pane (List Value))) → joined_with given h o ≡ joined_with (plan_of p) h o
  joined_with_same h None = refl
  joined_with_same h (Some g) = refl

  joined_same : (es : Panes) → joined_all given es ≡ joined_all (plan_of p) es
  joined_same [] = refl
  joined_same (e ∷ es) = ap (λ (h : Pane (List Value)). Some h) (joined_with_same e.1 (joined_all given es) ∙ ap (joined_with (plan_of p) e.1) (joined_same es))

  merged_same : (gap : ℤ) (es : Panes) → merged_session given gap bare es ≡ merged_session (plan_of p) gap whole es
  merged_same gap es =
      let parts : Panes = linked gap whole es in
      let rest : Panes = where_key place_cmp (λ r. not (is_linked gap whole r)) es in
      (λ i. put place_cmp (session_same gap parts i) ((with_same (joined_all given parts) ∙ ap (with_record (plan_of p) whole) (joined_same parts)) i) rest)

  pub entered_same : (sh : Shape) (l : ℤ) (es : Panes) → entered given sh l bare es ≡ entered (plan_of p) sh l whole es
  entered_same (Fixed size) l es = assigned_same (live_windows_of (Fixed size) t l m) es
  entered_same (Sliding size period) l es = assigned_same (live_windows_of (Sliding size period) t l m) es
  entered_same (Session gap) l es = merged_same gap es

  stands_same : (sh : Shape) (l : ℤ) (w : Window) → stands_in sh l w whole ≡ stands_in sh l w bare
  stands_same (Fixed size) l w = refl
  stands_same (Sliding size period) l w = refl
  stands_same (Session gap) l w = refl

  abbrev q : Query
  q = query_of p

  abbrev put_in : Panes → Panes
  put_in es = entered (plan_of p) p.header.shape p.header.clock.lateness whole es

  kind_same : kind_by_record {X = List Value} q m whole ≡ (λ r h. kind_by_record q m bare r h)
  kind_same = λ i r h. cond (nat_eq k r.key && stands_same q.shape q.clock.lateness (window_of r) i) (kind_on_record q m r.end h.unshown) None

  pub after_same : (es : Panes) → all_fired (plan_of p) (query_of p) (kind_by_record (query_of p) m (datum 0 m k t [])) (entered (plan_of p) p.header.shape p.header.clock.lateness (datum 0 m k t vs) es) ≡ after_record (plan_of p) (query_of p) m (datum 0 m k t vs) es
  after_same es = λ i. all_fired (plan_of p) q (sym kind_same i) (put_in es)

  pub fires_same : (es : Panes) → fires_by_record p m k t (entered (plan_of p) p.header.shape p.header.clock.lateness (datum 0 m k t vs) es) ≡ fired_by_record (plan_of p) (query_of p) m (datum 0 m k t vs) es
  fires_same es = λ i. fires q (sym kind_same i) (put_in es)

  pub withdrawn_same : (es : Panes) → withdrawn_entering (plan_of p) p.header.shape (datum 0 m k t vs) es ++ withdrawn_of_record p m k t (entered (plan_of p) p.header.shape p.header.clock.lateness (datum 0 m k t vs) es) ≡ withdrawn_by_record (plan_of p) (query_of p) m (datum 0 m k t vs) es
  withdrawn_same es = λ i. withdrawn_entering (plan_of p) p.header.shape whole es ++ withdrawn_firing (sym kind_same i) (put_in es)
