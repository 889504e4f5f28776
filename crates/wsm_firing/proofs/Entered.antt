-- On the turn of a record, panes fire at the windows that it was put into, and none where no count is declared.
use Rattle.std.proofs.Common.{◌≡◌, ℕ, Bool, true, false, cond, List, [], ◌∷◌, map, Option, None, Some, refl, sym, ap, subst, ◌∙◌}
use Rattle.std.specs.Prelude.{ℤ, int_lt}
use Rattle.std.specs.List.{AllByRecursion}
use Rattle.wsm_windows.specs.declared.window.PaneKind.TheVariants.{Early, Late}
use Rattle.wsm_windows.specs.declared.place.Place.{Place}
use Rattle.wsm_windows.specs.declared.window.Window.{Window}
use Rattle.wsm_windows.specs.Life.{live_windows_of}
use Rattle.wsm_windows.specs.Places.{at}
use Rattle.wsm_record.specs.declared.event.Value.{Value}
use Rattle.wsm_semantics.specs.Replay.{datum}
use Rattle.wsm_program.specs.Program.{Program}
use Rattle.wsm_machine.specs.Meaning.{plan_of, query_of}
use Rattle.wsm_semantics.specs.Query.{Query, Datum}
use Rattle.wsm_semantics.specs.Panes.{is_there}
use Rattle.wsm_semantics.specs.Firings.{is_enough, kind_on_record}
use Rattle.wsm_semantics.specs.Summaries.{Pane, Plan, all_fired, fires, kind_by_record, withdrawn_firing}
use Rattle.wsm_panes.specs.Entered.{IsToldAlone}
use Rattle.wsm_firing.specs.ByRecord.{HasEntered, is_among, kind_at, places_entered}
use Rattle.wsm_firing.proofs.SameKinds.{fires_same, fired_same}
use Rattle.wsm_firing.proofs.ByKind.{told_same}
use Rattle.wsm_firing.proofs.RetractWalk.{withdraws}

none_at_all : (a b : Bool) → cond a (cond b (cond false (Some Early) None) (cond false (Some Late) None)) None ≡ None
none_at_all true true = refl
none_at_all true false = refl
none_at_all false b = refl

module _ {X : Type 0} (q : Query) (mark : ℤ) (d : Datum) where
  same_kinds : (places : List Place) (es : List (Place × Pane X)) → AllByRecursion (λ e. is_there q e.0 d ≡ is_among places e.0) es → AllByRecursion (λ e. kind_at q mark places e.0 e.1 ≡ kind_by_record q mark d e.0 e.1) es
  same_kinds places [] h = tt
  same_kinds places (e ∷ es) h = (ap (λ (b : Bool). cond b (kind_on_record q mark e.0.end e.1.unshown) None) (sym h.0), same_kinds places es h.1)

  -- no count is declared
  pub no_kinds : q.early ≡ 0 → q.late ≡ 0 → (es : List (Place × Pane X)) → AllByRecursion (λ e. kind_by_record q mark d e.0 e.1 ≡ None) es
  no_kinds early late [] = tt
  no_kinds early late (e ∷ es) = (
    (λ i. cond (is_there q e.0 d) (cond (int_lt mark e.0.end) (cond (is_enough (early i) e.1.unshown) (Some Early) None) (cond (is_enough (late i) e.1.unshown) (Some Late) None)) None)
        ∙ none_at_all (is_there q e.0 d) (int_lt mark e.0.end),
    no_kinds early late es,
  )

-- what fires and is withdrawn at some places is what fires and is withdrawn by the record
pub record FiresAlike {X : Type 0} (plan : Plan X) (q : Query) (mark : ℤ) (d : Datum) (places : List Place) (es : List (Place × Pane X)) : Type 0 where
  pub firings : fires q (kind_at q mark places) es ≡ fires q (kind_by_record q mark d) es
  pub panes : all_fired plan q (kind_at q mark places) es ≡ all_fired plan q (kind_by_record q mark d) es
  pub withdrawn : withdrawn_firing (kind_at q mark places) es ≡ withdrawn_firing (kind_by_record q mark d) es

-- where they are those that it was put into
pub fires_alike : {X : Type 0} (plan : Plan X) (q : Query) (mark : ℤ) (d : Datum) (places : List Place) (es : List (Place × Pane X)) → AllByRecursion (λ e. is_there q e.0 d ≡ is_among places e.0) es → FiresAlike plan q mark d places es
fires_alike plan q mark d places es entered =
    let same = same_kinds q mark d places es entered in
    record {
      firings = fires_same plan q (kind_at q mark places) (kind_by_record q mark d) es same;
      panes = fired_same plan q (kind_at q mark places) (kind_by_record q mark d) es same;
      withdrawn = told_same plan q withdraws (λ p h. refl) (kind_at q mark places) (kind_by_record q mark d) es same;
    }

module _ (p : Program) (mark : ℤ) (key : ℕ) (time : ℤ) (session : Option Window) (es : List (Place × Pane (List Value))) (entered : HasEntered p mark key time session es) where
  abbrev pub AreAlike : List Place → Type 0
  AreAlike places = FiresAlike (plan_of p) (query_of p) mark (datum 0 mark key time []) places es

  alike_at : (s : Option Window) → session ≡ s → AreAlike (places_entered p mark key time s)
  alike_at s is =
      fires_alike (plan_of p) (query_of p) mark (datum 0 mark key time []) (places_entered p mark key time s) es
      (subst (λ (s : Option Window). AllByRecursion (λ e. is_there (query_of p) e.0 (datum 0 mark key time []) ≡ is_among (places_entered p mark key time s) e.0) es) is entered.among)

  -- its session
  pub alike_in_session : (w : Window) (place : Place) → session ≡ Some w → place ≡ at key w → AreAlike (place ∷ [])
  alike_in_session w place is here = subst (λ (r : Place). AreAlike (r ∷ [])) (sym here) (alike_at (Some w) is)

  -- the windows of its time that are live
  pub alike_in_windows : (ws : List Window) → session ≡ None → ws ≡ live_windows_of p.header.shape time p.header.clock.lateness mark → AreAlike (map (at key) ws)
  alike_in_windows ws is listed = subst (λ (ws : List Window). AreAlike (map (at key) ws)) (sym listed) (alike_at None is)

  -- also where the one window that the record has is told
  pub entered_alone : (alone : Option Window) → IsToldAlone p.header.shape time p.header.clock.lateness mark session alone → HasEntered p mark key time alone es
  entered_alone alone told = record {
    timely = entered.timely;
    marked = entered.marked;
    grid = λ none. entered.grid (told.sessions none);
    among = subst (λ (ws : List Window). AllByRecursion (λ e. is_there (query_of p) e.0 (datum 0 mark key time []) ≡ is_among (map (at key) ws) e.0) es) (sym told.windows) entered.among;
  }
