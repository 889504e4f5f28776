-- Windows assigned by a record's time alone: where panes are, and how a selected record enters what is
-- kept of them.
use Rattle.std.proofs.Common.{◌≡◌, Bool, true, false, ◌||◌, cond, List, [], ◌∷◌, ◌++◌, map, length, ℤ, Option, Some, None, refl, sym, ap, ◌∙◌, arith}
use Rattle.std.proofs.lemmas.Bool.{true≢false, or_left, or_right}
use Rattle.std.specs.Prelude.{filter, flat_map, not, option_map}
use Rattle.std.specs.Ordering.{eq_by_cmp}
use Rattle.std.specs.FinMap.Entries.{same_entries}
use Rattle.wsm_record.specs.Event.{Event, Record}
use Rattle.wsm_windows.specs.declared.window.Window.{Window}
use Rattle.wsm_windows.specs.declared.window.Shape.{Shape}
use Rattle.wsm_windows.specs.declared.window.Shape.TheVariants.{Fixed, Sliding, Session}
use Rattle.wsm_windows.specs.Windows.{IsShape}
use Rattle.wsm_windows.specs.Life.{live_windows_of}
use Rattle.wsm_windows.proofs.LiveWindows.{rising_live}
use Rattle.wsm_windows.specs.declared.place.Place.{Place}
use Rattle.wsm_windows.specs.Places.{place_cmp, at}
use Rattle.wsm_windows.proofs.Places.{tie_is, places_total, places_exact}
use Rattle.wsm_semantics.specs.Query.{Query, Datum, mark, selected, selection_of, datum}
use Rattle.wsm_semantics.specs.Panes.{places, is_there, contents, held, is_live_at}
use Rattle.wsm_semantics.specs.Firings.{firings_so_far, is_shown, shows}
use Rattle.wsm_semantics.specs.StandingFirings.{candidates, standing}
use Rattle.wsm_semantics.specs.Kept.{Kept, Unfired, alone, with_record, assigned, entered, stands_in, kept}
use Rattle.wsm_semantics.proofs.Lists.{none_pass}
use Rattle.wsm_semantics.proofs.Tables.{among, keyed, find-keyed, is_sorted-keyed, kept_of, find-kept, is_sorted-kept, find-held, is_sorted-held}
use Rattle.wsm_semantics.proofs.Assigned.{IsAssigned, stands, on_grid, own, live_there, tied}
use Rattle.wsm_semantics.proofs.AssignedStep.{panes_filled, places-assigned, among_places, grid_of, find-entered, is_sorted-entered}
use Rattle.wsm_semantics.proofs.Each.{list_any-append}
use Rattle.wsm_semantics.proofs.Within.{wider}
use Rattle.wsm_semantics.proofs.ShownPanes.{not_shown_yet}
use Rattle.wsm_semantics.proofs.FiringsSoFar.{PlacesLaw, shows_itself}
use Rattle.wsm_semantics.proofs.StandingFirings.{joined_unfired, joined_idle, picked, picked-status}
use Rattle.wsm_semantics.proofs.StandsTurn.{TakesIn, stands-taken, status-taken, status_in}
use Rattle.wsm_semantics.proofs.KeptTurns.{kept_is}
use Rattle.wsm_semantics.proofs.Effects.{selects_one}
use Rattle.wsm_semantics.proofs.EventTurns.{EntersPanes}

pub same_shown : (shape : Shape) → IsAssigned shape → (p r : Place) → shows shape p r ≡ true → p ≡ r
same_shown (Fixed size) a p r h = tie_is p r h
same_shown (Sliding size period) a p r h = tie_is p r h
same_shown (Session gap) a p r h = absurd a

module _ (q : Query) (ok : IsShape q.shape) (is_assigned : IsAssigned q.shape) where
  -- a place that has records has them still
  pub still_placed : (past : List Event) (e : Event) (p : Place) → among p (places q past) ≡ true → among p (places q (e ∷ past)) ≡ true
  still_placed past e p h =
      let grid = grid_of q ok is_assigned past p h in
      among_places q ok is_assigned (e ∷ past) p grid
      ∙ list_any-append (is_there q p) (selection_of q past e) (selected q past)
      ∙ or_right _ _ (sym (among_places q ok is_assigned past p grid) ∙ h)

  pub assigned_places : PlacesLaw q
  assigned_places = record {
    filled = λ past. panes_filled q ok is_assigned past;
    apart = λ past p r _ _ shown d _ _. same_shown q.shape is_assigned p r shown;
    stays = λ past e p h. (p, still_placed past e p h, shows_itself q.shape p, λ d k. k);
  }

  module _ (past : List Event) (e : Event) (p : Place) (placed : among p (places q (e ∷ past)) ≡ true) where
    takes_itself : among p (places q past) ≡ true → TakesIn q past e p (p ∷ [])
    takes_itself before = record {
      each = ((before, shows_itself q.shape p, wider (is_there q p) (is_there q p) (λ d k. k) (selection_of q past e) (selected q past)), tt);
      distinct = (tt, tt);
      whole = λ r _ shown d _ _. or_left _ _ (tied r p (sym (same_shown q.shape is_assigned p r shown)));
    }

    -- what stood for a pane with records stands for it with more
    pub stands_on : among p (places q past) ≡ true → stands_in q past p (contents q (e ∷ past) p) ≡ stands_in q past p (contents q past p)
    stands_on before = stands-taken q assigned_places past e p placed (p ∷ []) (takes_itself before) ∙ joined_unfired (stands_in q past p (contents q past p))

    -- the same firing
    pub standing_on : among p (places q past) ≡ true → standing q (firings_so_far q past) p (contents q (e ∷ past) p) ≡ standing q (firings_so_far q past) p (contents q past p)
    standing_on before =
        picked-status (candidates q p (contents q (e ∷ past) p) (firings_so_far q past))
        ∙ ap picked (status-taken q assigned_places past e p placed (p ∷ []) (takes_itself before) ∙ joined_idle (status_in q past p (contents q past p)))
        ∙ sym (picked-status (candidates q p (contents q past p) (firings_so_far q past)))

    -- nothing stands for a pane that had none
    pub stands_first : among p (places q past) ≡ false → stands_in q past p (contents q (e ∷ past) p) ≡ Unfired
    stands_first none =
        stands-taken q assigned_places past e p placed []
        (record {
          each = tt;
          distinct = tt;
          whole = λ r there shown d _ _. absurd (true≢false (sym there ∙ ap (λ (p : Place). among p (places q past)) (sym (same_shown q.shape is_assigned p r shown)) ∙ none));
        })

-- ---- a selected record

pub on_shape : (shape : Shape) (l : ℤ) → IsAssigned shape → (d : Datum) (panes : List (Place × Kept)) → entered shape l d panes ≡ assigned d (live_windows_of shape d.time l d.mark) panes
on_shape (Fixed size) l a d panes = refl
on_shape (Sliding size period) l a d panes = refl
on_shape (Session gap) l a d panes = absurd a

-- what is found at a place before and after a record: the record's place or not, others' or not
looked : (d : Datum) (h : Kept) (f : List Datum → Kept) (c : List Datum) (mine others live placed : Bool) → placed ≡ (mine || others) → (mine ≡ true → live ≡ true) →
    (mine ≡ true → others ≡ true → with_record d (Some h) ≡ f c) → (mine ≡ true → others ≡ false → alone d ≡ f c) → (mine ≡ false → others ≡ true → h ≡ f c) →
    cond mine (Some (with_record d (cond live (cond others (Some h) None) None))) (cond live (cond others (Some h) None) None) ≡ option_map f (cond live (cond placed (Some c) None) None)
looked d h f c true others live placed is lives more first other =
    (λ i. Some (with_record d (cond (lives refl i) (cond others (Some h) None) None)))
    ∙ entering others more first
    ∙ sym (λ i. option_map f (cond (lives refl i) (cond (is i) (Some c) None) None))
  where
    entering : (others : Bool) → (true ≡ true → others ≡ true → with_record d (Some h) ≡ f c) → (true ≡ true → others ≡ false → alone d ≡ f c) → Some (with_record d (cond others (Some h) None)) ≡ Some (f c)
    entering true more first = ap Some (more refl refl)
    entering false more first = ap Some (first refl refl)
looked d h f c false true true placed is lives more first other = ap Some (other refl refl) ∙ sym (λ i. option_map f (cond (is i) (Some c) None))
looked d h f c false true false placed is lives more first other = refl
looked d h f c false false true placed is lives more first other = sym (λ i. option_map f (cond (is i) (Some c) None))
looked d h f c false false false placed is lives more first other = refl

module _ (q : Query) (ok : IsShape q.shape) (is_assigned : IsAssigned q.shape) where
  -- put into the panes of its windows, it is with their records, and they stand as they stood
  pub enters_assigned : EntersPanes q
  enters_assigned past k t vs taken selects =
      let d : Datum = datum (length past) (mark q past) k t vs in
      let e : Event = Record (Some k) t vs in
      let ws : List Window = live_windows_of q.shape t q.clock.lateness (mark q past) in
      let sel : selection_of q past e ≡ d ∷ [] = selects_one q past k t vs taken selects in
      let enters : entered q.shape q.clock.lateness d (kept q past) ≡ assigned d ws (kept q past) = on_shape q.shape q.clock.lateness is_assigned d (kept q past) in
      enters
      ∙ same_entries place_cmp places_total places_exact (assigned d ws (kept q past)) (keyed (kept_of q past) (held q (e ∷ past)))
      (is_sorted-entered d ws (kept q past) (is_sorted-kept q past))
      (is_sorted-keyed (kept_of q past) (held q (e ∷ past)) (is_sorted-held q (e ∷ past)))
      (λ p.
      let mine : Bool = among p (map (at k) ws) in
      let others : Bool = among p (places q past) in
      let c : List Datum = contents q past p in
      let new : Datum → Bool = λ x. not (is_shown q past p x) in
      let placed : among p (places q (e ∷ past)) ≡ (mine || others) =
      ap (among p) (places-assigned q ok is_assigned (e ∷ past) ∙ (λ i. flat_map (stands q.shape q.clock.lateness ok is_assigned) (sel i ++ selected q past)))
      ∙ list_any-append (eq_by_cmp place_cmp p) (map (at k) ws) (flat_map (stands q.shape q.clock.lateness ok is_assigned) (selected q past))
      ∙ ap (λ (ps : List Place). mine || among p ps) (sym (places-assigned q ok is_assigned past)) in
      let here : (mine ≡ true → is_there q p d ≡ true) = λ m. sym (own q.shape q.clock.lateness ok is_assigned p (on_grid q.shape q.clock.lateness ok is_assigned p d m) d) ∙ m in
      let grown : contents q (e ∷ past) p ≡ cond (is_there q p d) (d ∷ c) c = λ i. filter (is_there q p) (sel i ++ selected q past) in
      let unshown : (xs : List Datum) → filter new (d ∷ xs) ≡ d ∷ filter new xs = λ xs. ap (λ (b : Bool). cond (not b) (d ∷ filter new xs) (filter new xs)) (not_shown_yet q past p d (omega arith)) in
      find-entered d ws (rising_live q.shape t q.clock.lateness (mark q past) ws ok refl) p (kept q past)
      ∙ ap (λ (o : Option Kept). cond mine (Some (with_record d o)) o) (find-kept q past p)
      ∙ looked d (kept_of q past p c) (kept_of q past p) (contents q (e ∷ past) p) mine others (is_live_at q (mark q past) p) (among p (places q (e ∷ past))) placed
      (λ m. live_there q.shape q.clock.lateness ok is_assigned p d (here m))
      (λ m o.
      let more : contents q (e ∷ past) p ≡ d ∷ c = grown ∙ ap (λ (b : Bool). cond b (d ∷ c) c) (here m) in
      kept_is _ _ (sym more) (sym (ap (filter new) more ∙ unshown c)) (sym (stands_on q ok is_assigned past e p (placed ∙ ap (λ (b : Bool). b || others) m) o)))
      (λ m o.
      let none : c ≡ [] = none_pass (is_there q p) (selected q past) (sym (among_places q ok is_assigned past p (on_grid q.shape q.clock.lateness ok is_assigned p d m)) ∙ o) in
      let one : contents q (e ∷ past) p ≡ d ∷ [] = grown ∙ ap (λ (b : Bool). cond b (d ∷ c) c) (here m) ∙ ap (λ (xs : List Datum). d ∷ xs) none in
      kept_is _ _ (sym one) (sym (ap (filter new) one ∙ unshown [])) (sym (stands_first q ok is_assigned past e p (placed ∙ ap (λ (b : Bool). b || others) m) o)))
      (λ m o. ap (kept_of q past p) (sym (grown ∙ ap (λ (b : Bool). cond b (d ∷ c) c) (sym (own q.shape q.clock.lateness ok is_assigned p (grid_of q ok is_assigned past p o) d) ∙ m))))
      ∙ sym (
      find-keyed (kept_of q past) p (held q (e ∷ past))
      ∙ ap (option_map (kept_of q past p)) (find-held q (e ∷ past) p)
      ))
