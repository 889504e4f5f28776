-- Fixed and sliding windows: what a selected record withdraws was written of the firings that stood for
-- those of its panes that fire.
use Rattle.std.proofs.Common.{◌≡◌, ℕ, Bool, true, false, cond, not, List, [], ◌∷◌, ◌++◌, length, ℤ, pos, ◌≤ℤ◌, Option, Some, None, is_some, refl, sym, ap, ◌∙◌}
use Rattle.std.specs.Prelude.{filter_map, option_map}
use Rattle.std.specs.Option.{IfSome}
use Rattle.std.specs.List.{list_any}
use Rattle.std.specs.FinMap.Entries.{where_key, find-where_key, is_sorted-where_key, same_entries}
use Rattle.wsm_record.specs.declared.cell.Cell.{Cell}
use Rattle.wsm_record.specs.declared.event.Value.{Value}
use Rattle.wsm_record.specs.Event.{Event, Record}
use Rattle.wsm_windows.specs.declared.window.PaneKind.{PaneKind}
use Rattle.wsm_windows.specs.declared.window.Shape.{Shape}
use Rattle.wsm_windows.specs.declared.window.Shape.TheVariants.{Fixed, Sliding, Session}
use Rattle.wsm_windows.specs.Windows.{IsShape}
use Rattle.wsm_windows.specs.declared.place.Place.{Place}
use Rattle.wsm_windows.specs.Places.{place_cmp}
use Rattle.wsm_windows.proofs.Places.{places_total, places_exact}
use Rattle.wsm_semantics.specs.Query.{Query, Datum, SessionsByEvent, mark, verdict_on, datum}
use Rattle.wsm_semantics.specs.Panes.{places, contents, held, is_live_at}
use Rattle.wsm_semantics.specs.Firings.{Firing, firings_so_far}
use Rattle.wsm_semantics.specs.StandingFirings.{standing}
use Rattle.wsm_semantics.specs.Retractions.{is_same}
use Rattle.wsm_semantics.specs.Kept.{Kept, kept, kept_in, entered, stands_in, kind_by_record, written_by, withdrawn_entering, withdrawn_firing}
use Rattle.wsm_semantics.proofs.Lists.{all-each}
use Rattle.wsm_semantics.proofs.Tables.{among, keyed, find-keyed, is_sorted-keyed, find-held, is_sorted-held}
use Rattle.wsm_semantics.proofs.Assigned.{IsAssigned}
use Rattle.wsm_semantics.proofs.Each.{filter_map-each, filter_map-filter, filter_map-map}
use Rattle.wsm_semantics.proofs.FiringsSoFar.{PlacesLaw, shows_itself}
use Rattle.wsm_semantics.proofs.ShownPanes.{kind_of}
use Rattle.wsm_semantics.proofs.AssignedTurns.{still_placed, assigned_places, stands_on, standing_on, stands_first, enters_assigned}
use Rattle.wsm_semantics.proofs.EventTurns.{record_kind}
use Rattle.wsm_semantics.proofs.StandsStill.{any_of, stands_now}
use Rattle.wsm_semantics.proofs.Withdrawn.{IsHeld, now, Loses, each_held, itself_same, fires_or, chosen_none, withdrawn-lost, IsWithdrawn}

pub none_entering : (q : Query) (shape : Shape) → IsAssigned shape → (d : Datum) (panes : List (Place × Kept)) → withdrawn_entering q shape d panes ≡ []
none_entering q (Fixed size) a d panes = refl
none_entering q (Sliding size period) a d panes = refl
none_entering q (Session gap) a d panes = absurd a

-- what is found at a place that was held, and at one of those that are held now and had records
looked : {A : Type 0} (live before after : Bool) (f : A → Unit {0}) (x y : A) → (before ≡ true → after ≡ true) →
    option_map f (cond live (cond before (Some x) None) None) ≡ option_map f (cond before (cond live (cond after (Some y) None) None) None)
looked true true after f x y h = sym (ap (λ (b : Bool). option_map f (cond b (Some y) None)) (h refl))
looked false true after f x y h = refl
looked true false after f x y h = refl
looked false false after f x y h = refl

module _ (q : Query) (ok : IsShape q.shape) (is_assigned : IsAssigned q.shape) (low : pos 0 ≤ℤ q.clock.lateness) (timely : SessionsByEvent q) (past : List Event) (k : ℕ) (t : ℤ) (vs : List Value)
    (taken : verdict_on q past (Record (Some k) t vs) ≡ None) (selects : q.selects k vs ≡ true) where
  abbrev d : Datum
  d = datum (length past) (mark q past) k t vs

  abbrev e : Event
  e = Record (Some k) t vs

  abbrev law : PlacesLaw q
  law = assigned_places q ok is_assigned

  abbrev fires : Place → Bool
  fires p = is_some (kind_of q past e p (contents q (e ∷ past) p))

  loses : (x : Place × List Datum) → IsHeld q past x → Loses q law past e (λ x. fires x.0) x
  loses x h = by_stood (standing q (firings_so_far q past) x.0 x.1) refl where
    there : among x.0 (places q (e ∷ past)) ≡ true
    there = still_placed q ok is_assigned past e x.0 h.placed

    by_stood : (o : Option Firing) → standing q (firings_so_far q past) x.0 x.1 ≡ o → IfSome o (λ f. list_any (is_same f) (now q law past e) ≡ not (fires x.0))
    by_stood None stood = tt
    by_stood (Some f) stood =
        let before : standing q (firings_so_far q past) x.0 (contents q past x.0) ≡ Some f = ap (standing q (firings_so_far q past) x.0) (sym h.all) ∙ stood in
        stands_now q law past e x.0 x.0 there h.live (shows_itself q.shape x.0) (λ d k. k) f before
        ∙ fires_or (fires x.0) (any_of (is_same f) (standing q (firings_so_far q past) x.0 (contents q (e ∷ past) x.0)))
        (ap (any_of (is_same f)) (standing_on q ok is_assigned past e x.0 there h.placed ∙ before) ∙ itself_same f)

  -- what was written of the firings that stand for the chosen ones of some panes
  abbrev chosen : (Place → Bool) → Place × List Datum → Option (Place × List Cell)
  chosen c x = cond (c x.0) (written_by q x.0 (stands_in q past x.0 x.1)) None

  -- that is, of their places
  abbrev gives : (Place → Bool) → Place → Option (Place × List Cell)
  gives c p = cond (c p) (written_by q p (stands_in q past p (contents q (e ∷ past) p))) None

  of_before : (c : Place → Bool) → filter_map (chosen c) (held q past) ≡ filter_map (λ x. gives c x.0) (held q past)
  of_before c =
      filter_map-each (chosen c) (λ x. gives c x.0) (held q past)
      (all-each (IsHeld q past) (λ x. chosen c x ≡ gives c x.0) (held q past)
      (λ x h. ap (λ s. cond (c x.0) (written_by q x.0 s) None) (ap (stands_in q past x.0) h.all ∙ sym (stands_on q ok is_assigned past e x.0 (still_placed q ok is_assigned past e x.0 h.placed) h.placed)))
      (each_held q past))

  of_after : (c : Place → Bool) → filter_map (chosen c) (held q (e ∷ past)) ≡ filter_map (λ y. gives c y.0) (held q (e ∷ past))
  of_after c =
      filter_map-each (chosen c) (λ y. gives c y.0) (held q (e ∷ past))
      (all-each (IsHeld q (e ∷ past)) (λ y. chosen c y ≡ gives c y.0) (held q (e ∷ past))
      (λ y h. ap (λ (ds : List Datum). cond (c y.0) (written_by q y.0 (stands_in q past y.0 ds)) None) h.all)
      (each_held q (e ∷ past)))

  by_after : withdrawn_firing q (kind_by_record q (mark q past) d) (entered q.shape q.clock.lateness d (kept q past)) ≡ filter_map (λ y. gives fires y.0) (held q (e ∷ past))
  by_after =
      ap (withdrawn_firing q (kind_by_record q (mark q past) d)) (enters_assigned q ok is_assigned past k t vs taken selects)
      ∙ filter_map-map _ (kept_in q past) (held q (e ∷ past))
      ∙ filter_map-each _ (λ y. gives fires y.0) (held q (e ∷ past))
      (all-each (IsHeld q (e ∷ past)) _ (held q (e ∷ past))
      (λ y h. ap (λ (o : Option PaneKind). cond (is_some o) (written_by q y.0 (stands_in q past y.0 y.1)) None) (sym (record_kind q low timely law past (enters_assigned q ok is_assigned) k t vs taken selects y (h.all, h.placed)))
      ∙ ap (λ (c : List Datum). cond (is_some (kind_of q past e y.0 c)) (written_by q y.0 (stands_in q past y.0 c)) None) h.all)
      (each_held q (e ∷ past)))

  abbrev placed : Place → List Datum → Unit {0}
  placed p c = tt

  abbrev places_of : List (Place × List Datum) → List (Place × Unit {0})
  places_of = keyed placed

  abbrev had : List (Place × List Datum)
  had = where_key place_cmp (λ p. among p (places q past)) (held q (e ∷ past))

  -- those that are held now and had records are those that were held
  same_places : places_of (held q past) ≡ places_of had
  same_places =
      same_entries place_cmp places_total places_exact _ _
      (is_sorted-keyed placed (held q past) (is_sorted-held q past))
      (is_sorted-keyed placed had (is_sorted-where_key place_cmp (λ p. among p (places q past)) (held q (e ∷ past)) (is_sorted-held q (e ∷ past))))
      (λ p.
      find-keyed placed p (held q past)
      ∙ ap (option_map (placed p)) (find-held q past p)
      ∙ looked (is_live_at q (mark q past) p) (among p (places q past)) (among p (places q (e ∷ past))) (placed p) (contents q past p) (contents q (e ∷ past) p) (still_placed q ok is_assigned past e p)
      ∙ sym (
      find-keyed placed p had
      ∙ ap (option_map (placed p)) (
      find-where_key place_cmp (λ p. among p (places q past)) p (λ x tie. ap (λ (r : Place). among r (places q past)) (sym (places_exact p x tie))) (held q (e ∷ past))
      ∙ ap (λ (o : Option (List Datum)). cond (among p (places q past)) o None) (find-held q (e ∷ past) p))))

  both : (c : Place → Bool) → filter_map (λ x. gives c x.0) (held q past) ≡ filter_map (λ y. gives c y.0) (held q (e ∷ past))
  both c =
      sym (filter_map-map (λ u. gives c u.0) (λ x. (x.0, tt)) (held q past))
      ∙ ap (filter_map (λ u. gives c u.0)) same_places
      ∙ filter_map-map (λ u. gives c u.0) (λ x. (x.0, tt)) had
      ∙ filter_map-filter (λ y. gives c y.0) (λ y. among y.0 (places q past)) (held q (e ∷ past))
      (all-each (IsHeld q (e ∷ past)) _ (held q (e ∷ past))
      (λ y h none. ap (λ s. cond (c y.0) (written_by q y.0 s) None) (stands_first q ok is_assigned past e y.0 h.placed none) ∙ chosen_none (c y.0))
      (each_held q (e ∷ past)))

  -- what it withdraws
  pub withdrawn-assigned : IsWithdrawn q past e d
  withdrawn-assigned =
      withdrawn-lost q law past e (λ x. fires x.0) (all-each (IsHeld q past) (Loses q law past e (λ x. fires x.0)) (held q past) loses (each_held q past))
      ∙ of_before fires
      ∙ both fires
      ∙ sym by_after
      ∙ sym (ap (λ ws. ws ++ withdrawn_firing q (kind_by_record q (mark q past) d) (entered q.shape q.clock.lateness d (kept q past))) (none_entering q q.shape is_assigned d (kept q past)))

  -- what was written of the firings that stand stays the same as it enters
  pub stood-assigned : filter_map (λ x. written_by q x.0 x.1.stands) (kept q past) ≡ filter_map (λ x. written_by q x.0 x.1.stands) (entered q.shape q.clock.lateness d (kept q past))
  stood-assigned =
      filter_map-map (λ x. written_by q x.0 x.1.stands) (kept_in q past) (held q past)
      ∙ of_before (λ p. true)
      ∙ both (λ p. true)
      ∙ sym (of_after (λ p. true))
      ∙ sym (filter_map-map (λ x. written_by q x.0 x.1.stands) (kept_in q past) (held q (e ∷ past)))
      ∙ sym (ap (filter_map (λ x. written_by q x.0 x.1.stands)) (enters_assigned q ok is_assigned past k t vs taken selects))
