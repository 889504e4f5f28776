-- Panes at several places fire in their order: the first one, then the others.
use Rattle.std.proofs.Common.{◌≡◌, Bool, true, false, ◌||◌, cond, T, List, [], ◌∷◌, ◌++◌, Option, None, refl, sym, ap, ◌∙◌}
use Rattle.std.proofs.lemmas.Bool.{true≢false}
use Rattle.std.specs.Prelude.{ℤ}
use Rattle.std.specs.List.{cons_option, list_any}
use Rattle.std.specs.Ordering.{eq_by_cmp, is_eq, is_gt}
use Rattle.std.specs.declared.cmp.Ordering.{Ordering}
use Rattle.std.specs.declared.cmp.Ordering.TheVariants.{Less, Equal, Greater}
use Rattle.std.specs.FinMap.Entries.{is_sorted}
use Rattle.wsm_windows.specs.declared.window.PaneKind.{PaneKind}
use Rattle.wsm_windows.specs.declared.place.Place.{Place}
use Rattle.wsm_windows.specs.Places.{place_cmp}
use Rattle.wsm_semantics.specs.Query.{Query}
use Rattle.wsm_semantics.specs.Firings.{kind_on_record}
use Rattle.wsm_semantics.specs.Summaries.{Plan, Pane, fired_of, fires, fired_pane, all_fired}
use Rattle.wsm_firing.specs.ByRecord.{kind_at}
use Rattle.wsm_firing.proofs.SameKinds.{Kind, Entries}
use Rattle.wsm_firing.proofs.AtPlace.{one}
use Rattle.wsm_firing.proofs.ByKind.{told_in_turn}

module _ {X : Type 0} (plan : Plan X) (q : Query) where
  module _ (mark : ℤ) (p : Place) (ps : List Place) (later : (r : Place) → is_gt (place_cmp r p) ≡ false → list_any (eq_by_cmp place_cmp r) ps ≡ false) where
    abbrev others : Kind plan q
    others = kind_at q mark ps

    abbrev both : Kind plan q
    both = kind_at q mark (p ∷ ps)

    not_behind : (o : Ordering) → is_eq o ≡ true → is_gt o ≡ false
    not_behind Less e = refl
    not_behind Equal e = refl
    not_behind Greater e = absurd (true≢false (sym e))

    -- a pane is at the place or at one of the others
    once : (r : Place) (h : Pane X) (g : Pane X → Option PaneKind) (a b : Bool) → (a ≡ true → b ≡ false) →
        fired_pane plan q.mode r (cond (a || b) (g h) None) h
        ≡ fired_pane plan q.mode r (cond b (g (fired_pane plan q.mode r (cond (a || false) (g h) None) h)) None) (fired_pane plan q.mode r (cond (a || false) (g h) None) h)
    once r h g true true f = absurd (true≢false (f refl))
    once r h g true false f = refl
    once r h g false b f = refl

    apart : (r : Place) → eq_by_cmp place_cmp r p ≡ true → list_any (eq_by_cmp place_cmp r) ps ≡ false
    apart r at = later r (not_behind _ at)

    -- the one at the place fires first, then the others do
    pub fired_in_turn : (es : Entries plan q) → all_fired plan q both es ≡ all_fired plan q others (all_fired plan q (one plan q mark p) es)
    fired_in_turn [] = refl
    fired_in_turn (e ∷ es) =
        λ i. (e.0, once e.0 e.1 (λ h. kind_on_record q mark e.0.end h.unshown) (eq_by_cmp place_cmp e.0 p) (list_any (eq_by_cmp place_cmp e.0) ps) (apart e.0) i) ∷ fired_in_turn es i

    -- what the one fires doesn't change what the others do
    as_before : (r : Place) (h : Pane X) (g : Pane X → Option PaneKind) (a b : Bool) → (a ≡ true → b ≡ false) →
        fired_of q.mode r h (cond b (g h) None)
        ≡ fired_of q.mode r (fired_pane plan q.mode r (cond (a || false) (g h) None) h) (cond b (g (fired_pane plan q.mode r (cond (a || false) (g h) None) h)) None)
    as_before r h g true true f = absurd (true≢false (f refl))
    as_before r h g true false f = refl
    as_before r h g false b f = refl

    others_stay : (es : Entries plan q) → fires q others es ≡ fires q others (all_fired plan q (one plan q mark p) es)
    others_stay [] = refl
    others_stay (e ∷ es) =
        λ i. cons_option (as_before e.0 e.1 (λ h. kind_on_record q mark e.0.end h.unshown) (eq_by_cmp place_cmp e.0 p) (list_any (eq_by_cmp place_cmp e.0) ps) (apart e.0) i) (others_stay es i)

    pub fires_in_turn : (es : Entries plan q) → T (is_sorted place_cmp es) → fires q both es ≡ fires q (one plan q mark p) es ++ fires q others (all_fired plan q (one plan q mark p) es)
    fires_in_turn es sorted = told_in_turn plan q (fired_of q.mode) (λ r h. refl) mark p ps later es sorted ∙ ap (λ fs. fires q (one plan q mark p) es ++ fs) (others_stay es)
