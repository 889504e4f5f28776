-- Panes whose kinds agree fire alike, and those with no kind don't fire.
use Rattle.std.proofs.Common.{◌≡◌, List, [], ◌∷◌, Option, None, refl}
use Rattle.std.specs.List.{AllByRecursion, cons_option}
use Rattle.wsm_windows.specs.declared.window.PaneKind.{PaneKind}
use Rattle.wsm_windows.specs.declared.place.Place.{Place}
use Rattle.wsm_semantics.specs.Query.{Query}
use Rattle.wsm_semantics.specs.Summaries.{Plan, Pane, fired_of, fires, fired_pane, all_fired}

module _ {X : Type 0} (plan : Plan X) (q : Query) where
  abbrev pub Kind : Type 0
  Kind = Place → Pane X → Option PaneKind

  abbrev pub Entries : Type 0
  Entries = List (Place × Pane X)

  pub fires_same : (k l : Kind) (es : Entries) → AllByRecursion (λ e. k e.0 e.1 ≡ l e.0 e.1) es → fires q k es ≡ fires q l es
  fires_same k l [] h = refl
  fires_same k l (e ∷ es) h = λ i. cons_option (fired_of q.mode e.0 e.1 (h.0 i)) (fires_same k l es h.1 i)

  pub fired_same : (k l : Kind) (es : Entries) → AllByRecursion (λ e. k e.0 e.1 ≡ l e.0 e.1) es → all_fired plan q k es ≡ all_fired plan q l es
  fired_same k l [] h = refl
  fired_same k l (e ∷ es) h = λ i. (e.0, fired_pane plan q.mode e.0 (h.0 i) e.1) ∷ fired_same k l es h.1 i

  pub none_fires : (k : Kind) (es : Entries) → AllByRecursion (λ e. k e.0 e.1 ≡ None) es → fires q k es ≡ []
  none_fires k [] h = refl
  none_fires k (e ∷ es) h = λ i. cons_option (fired_of q.mode e.0 e.1 (h.0 i)) (none_fires k es h.1 i)

  pub none_fired : (k : Kind) (es : Entries) → AllByRecursion (λ e. k e.0 e.1 ≡ None) es → all_fired plan q k es ≡ es
  none_fired k [] h = refl
  none_fired k (e ∷ es) h = λ i. (e.0, fired_pane plan q.mode e.0 (h.0 i) e.1) ∷ none_fired k es h.1 i
