-- What fires at one place.
use Rattle.std.proofs.Common.{◌≡◌, Bool, true, false, ◌&&◌, ◌||◌, cond, T, List, [], ◌∷◌, Option, Some, None, refl, sym, ap, subst, ◌∙◌}
use Rattle.std.specs.Prelude.{ℤ, option_map}
use Rattle.std.specs.List.{AllByRecursion, cons_option}
use Rattle.std.specs.Option.{is_some}
use Rattle.std.specs.Ordering.{eq_by_cmp, is_lt, is_eq, ordering_reverse}
use Rattle.std.specs.Cmp.{tied_itself}
use Rattle.std.specs.declared.cmp.Ordering.{Ordering}
use Rattle.std.specs.declared.cmp.Ordering.TheVariants.{Less, Equal, Greater}
use Rattle.std.specs.FinMap.Entries.{put, find, is_sorted, below_all, find-put, is_sorted-put, same_entries}
use Rattle.wsm_windows.specs.declared.window.PaneKind.{PaneKind}
use Rattle.wsm_windows.specs.declared.place.Place.{Place}
use Rattle.wsm_windows.specs.Places.{place_cmp}
use Rattle.wsm_windows.proofs.Places.{places_total, places_exact, tie_is}
use Rattle.wsm_semantics.specs.Query.{Query}
use Rattle.wsm_semantics.specs.Firings.{kind_on_record}
use Rattle.wsm_semantics.specs.Summaries.{Plan, Pane, Fired, fired_count, fired_of, fires, fired_pane, all_fired}
use Rattle.wsm_semantics.proofs.Tables.{find-keyed, is_sorted-keyed}
use Rattle.wsm_slots.proofs.Order.{lesser}
use Rattle.wsm_firing.specs.ByRecord.{is_called, kind_at}
use Rattle.wsm_firing.proofs.SameKinds.{Kind, Entries, none_fires}

pub first_of : (a b : Bool) → T (a && b) → T a
first_of true b t = tt
first_of false b t = absurd t

pub second_of : (a b : Bool) → T (a && b) → T b
second_of true b t = t
second_of false b t = absurd t

no_kind_of : (kind : Option PaneKind) → is_some kind ≡ false → kind ≡ None
no_kind_of None is = refl
no_kind_of (Some kind) is = absurd (cc)

module _ {X : Type 0} (plan : Plan X) (q : Query) (mark : ℤ) (p : Place) where
  abbrev pub one : Kind plan q
  one = kind_at q mark (p ∷ [])

  -- the pane at the place fires, if it is there and has a kind
  abbrev pub after_kind : Pane X → Option PaneKind → Entries plan q → Entries plan q
  after_kind h None es = es
  after_kind h (Some kind) es = put place_cmp p (fired_pane plan q.mode p (Some kind) h) es

  -- none behind the place is at it
  pub none_behind : (x : Place) → ((r : Place) → place_cmp x r ≡ Less → place_cmp p r ≡ Less) → (es : Entries plan q) → T (below_all place_cmp x es) → AllByRecursion (λ e. one e.0 e.1 ≡ None) es
  none_behind x further [] below = tt
  none_behind x further (e ∷ es) below =
      let less : place_cmp p e.0 ≡ Less = further e.0 (lesser _ (first_of (is_lt (place_cmp x e.0)) (below_all place_cmp x es) below)) in
      let unlike : eq_by_cmp place_cmp e.0 p ≡ false = ap is_eq (places_total.antisymm e.0 p ∙ ap ordering_reverse less) in (
        ap (λ (b : Bool). cond (b || false) (kind_on_record q mark e.0.end e.1.unshown) None) unlike,
        none_behind x further es (second_of (is_lt (place_cmp x e.0)) (below_all place_cmp x es) below),
      )

  abbrev found_fires : Option (Pane X) → List (Fired X)
  found_fires None = []
  found_fires (Some h) = cons_option (fired_of q.mode p h (kind_on_record q mark p.end h.unshown)) []

  pub fires_found : (es : Entries plan q) → T (is_sorted place_cmp es) → fires q one es ≡ found_fires (find place_cmp p es)
  fires_found [] sorted = refl
  fires_found (e ∷ es) sorted =
      let first : Bool → Option (Fired X) = λ b. fired_of q.mode e.0 e.1 (cond (b || false) (kind_on_record q mark e.0.end e.1.unshown) None) in
      let turned : (o : Ordering) → place_cmp p e.0 ≡ o → eq_by_cmp place_cmp e.0 p ≡ is_eq (ordering_reverse o) = λ o is. ap is_eq (places_total.antisymm e.0 p ∙ ap ordering_reverse is) in
      let rest : fires q one es ≡ found_fires (find place_cmp p es) = fires_found es (second_of (below_all place_cmp e.0 es) (is_sorted place_cmp es) sorted) in
      elim (place_cmp p e.0) as (λ o. place_cmp p e.0 ≡ o → cons_option (first (eq_by_cmp place_cmp e.0 p)) (fires q one es) ≡ found_fires (cond (is_eq o) (Some e.1) (find place_cmp p es))) [
        | Less ↦ λ is. (λ i. cons_option (first (turned Less is i)) (rest i))
        | Equal ↦ λ is.
            let same : e.0 ≡ p = sym (places_exact p e.0 is) in
            let none : fires q one es ≡ [] =
            none_fires plan q one es (none_behind e.0 (λ r. subst (λ (x : Place). place_cmp x r ≡ Less → place_cmp p r ≡ Less) (sym same) (λ less. less)) es (first_of (below_all place_cmp e.0 es) (is_sorted place_cmp es) sorted)) in
            (λ i. cons_option (first (turned Equal is i)) (none i))
            ∙ (λ i. cons_option (fired_of q.mode (same i) e.1 (kind_on_record q mark (same i).end e.1.unshown)) [])
        | Greater ↦ λ is. (λ i. cons_option (first (turned Greater is i)) (rest i))
      ] refl

  abbrev fired_found : Option (Pane X) → Entries plan q → Entries plan q
  fired_found None es = es
  fired_found (Some h) es = after_kind h (kind_on_record q mark p.end h.unshown) es

  abbrev step : Place → Pane X → Pane X
  step r h = fired_pane plan q.mode r (one r h) h

  itself : eq_by_cmp place_cmp p p ≡ true
  itself = ap is_eq (tied_itself places_total p)

  module _ (es : Entries plan q) where
    sorted_after : T (is_sorted place_cmp es) → (h : Pane X) (k : Option PaneKind) → T (is_sorted place_cmp (after_kind h k es))
    sorted_after sorted h None = sorted
    sorted_after sorted h (Some k) = is_sorted-put place_cmp places_total p (fired_pane plan q.mode p (Some k) h) es sorted

    sorted_found : T (is_sorted place_cmp es) → (o : Option (Pane X)) → T (is_sorted place_cmp (fired_found o es))
    sorted_found sorted None = sorted
    sorted_found sorted (Some h) = sorted_after sorted h (kind_on_record q mark p.end h.unshown)

    fired_here : (h : Pane X) (k : Option PaneKind) → find place_cmp p es ≡ Some h → Some (fired_pane plan q.mode p (cond (eq_by_cmp place_cmp p p || false) k None) h) ≡ find place_cmp p (after_kind h k es)
    fired_here h None is = (λ i. Some (fired_pane plan q.mode p (cond (itself i || false) None None) h)) ∙ sym is
    fired_here h (Some k) is =
        let v : Pane X = fired_pane plan q.mode p (Some k) h in
        (λ i. Some (fired_pane plan q.mode p (cond (itself i || false) (Some k) None) h)) ∙ sym (find-put place_cmp places_total p p v es ∙ (λ i. cond (itself i) (Some v) (find place_cmp p es)))

    here : (o : Option (Pane X)) → find place_cmp p es ≡ o → option_map (step p) o ≡ find place_cmp p (fired_found o es)
    here None is = sym is
    here (Some h) is = fired_here h (kind_on_record q mark p.end h.unshown) is

    module _ (r : Place) (other : eq_by_cmp place_cmp r p ≡ false) where
      same_after : (h : Pane X) (k : Option PaneKind) → find place_cmp r es ≡ find place_cmp r (after_kind h k es)
      same_after h None = refl
      same_after h (Some k) =
          let v : Pane X = fired_pane plan q.mode p (Some k) h in
          sym (find-put place_cmp places_total r p v es ∙ (λ i. cond (other i) (Some v) (find place_cmp r es)))

      same_found : (o : Option (Pane X)) → find place_cmp r es ≡ find place_cmp r (fired_found o es)
      same_found None = refl
      same_found (Some h) = same_after h (kind_on_record q mark p.end h.unshown)

      same_pane : (o : Option (Pane X)) → option_map (step r) o ≡ o
      same_pane None = refl
      same_pane (Some h) = λ i. Some (fired_pane plan q.mode r (cond (other i || false) (kind_on_record q mark r.end h.unshown) None) h)

    each : (r : Place) → option_map (step r) (find place_cmp r es) ≡ find place_cmp r (fired_found (find place_cmp p es) es)
    each r =
        elim (eq_by_cmp place_cmp r p) as (λ b. eq_by_cmp place_cmp r p ≡ b → option_map (step r) (find place_cmp r es) ≡ find place_cmp r (fired_found (find place_cmp p es) es)) [
          | true ↦ λ t. subst (λ (x : Place). option_map (step x) (find place_cmp x es) ≡ find place_cmp x (fired_found (find place_cmp p es) es)) (sym (tie_is r p t)) (here (find place_cmp p es) refl)
          | false ↦ λ f. same_pane r f (find place_cmp r es) ∙ same_found r f (find place_cmp p es)
        ] refl

    pub fired_there : T (is_sorted place_cmp es) → all_fired plan q one es ≡ fired_found (find place_cmp p es) es
    fired_there sorted =
        same_entries place_cmp places_total places_exact (all_fired plan q one es) (fired_found (find place_cmp p es) es) (is_sorted-keyed step es sorted) (sorted_found sorted (find place_cmp p es))
        (λ r. find-keyed step r es ∙ each r)

    -- what fires and what is left, by what is found at the place
    module _ (sorted : T (is_sorted place_cmp es)) where
      pub record Fires (fs : List (Fired X)) (after : Entries plan q) : Type 0 where
        pub firings : fires q one es ≡ fs
        pub panes : all_fired plan q one es ≡ after

      found : (o : Option (Pane X)) → find place_cmp p es ≡ o → Fires (found_fires o) (fired_found o es)
      found o is = record {
        firings = fires_found es sorted ∙ ap found_fires is;
        panes = fired_there sorted ∙ ap (λ (o : Option (Pane X)). fired_found o es) is;
      }

      pub none_there : find place_cmp p es ≡ None → Fires [] es
      none_there is = found None is

      module _ (h : Pane X) (there : find place_cmp p es ≡ Some h) where
        pub no_kind : kind_on_record q mark p.end h.unshown ≡ None → Fires [] es
        no_kind is = record {
          firings = (found (Some h) there).firings ∙ ap (λ (k : Option PaneKind). cons_option (fired_of q.mode p h k) []) is;
          panes = (found (Some h) there).panes ∙ ap (λ (k : Option PaneKind). after_kind h k es) is;
        }

        pub with_kind : (k : PaneKind) → kind_on_record q mark p.end h.unshown ≡ Some k →
            Fires (record { kind = k; place = p; count = fired_count q.mode h; folded = h.folded } ∷ []) (put place_cmp p (fired_pane plan q.mode p (Some k) h) es)
        with_kind k is = record {
          firings = (found (Some h) there).firings ∙ ap (λ (k : Option PaneKind). cons_option (fired_of q.mode p h k) []) is;
          panes = (found (Some h) there).panes ∙ ap (λ (k : Option PaneKind). after_kind h k es) is;
        }

      -- none is called for
      pub not_called : (o : Option (Pane X)) → find place_cmp p es ≡ o → is_called q mark p (option_map (λ h. h.unshown) o) ≡ false → Fires [] es
      not_called None is quiet = none_there is
      not_called (Some h) is quiet = no_kind h is (no_kind_of (kind_on_record q mark p.end h.unshown) quiet)
