-- An event leaves the places that were dropped before it as they were, and what stands for them. So the firings that last are those
-- that stand for all panes, whether held or dropped.
use Rattle.std.proofs.Common.{◌≡◌, ℕ, Bool, true, false, ◌&&◌, cond, not, List, [], ◌∷◌, ◌++◌, length, ℤ, pos, ◌+ℤ◌, ◌≤ℤ◌, Option, Some, None, refl, sym, ap, subst, ◌∙◌, arith}
use Rattle.std.proofs.lemmas.Int.{ints}
use Rattle.std.proofs.lemmas.Bool.{true≢false, false_from_ne_true, not-true}
use Rattle.std.specs.Prelude.{filter, int_le, int_lt, nat_lt}
use Rattle.std.specs.FinMap.Entries.{same_entries, find, find-where_key, is_sorted-where_key}
use Rattle.wsm_record.specs.declared.event.Value.{Value}
use Rattle.wsm_record.specs.Event.{Event, Record, Watermark}
use Rattle.wsm_windows.specs.declared.window.PaneKind.TheVariants.{OnTime, Final}
use Rattle.wsm_windows.specs.declared.window.Shape.{Shape}
use Rattle.wsm_windows.specs.declared.window.Shape.TheVariants.{Fixed, Sliding, Session}
use Rattle.wsm_windows.specs.Windows.{IsShape}
use Rattle.wsm_windows.specs.declared.place.Place.{Place}
use Rattle.wsm_windows.specs.Places.{place_cmp}
use Rattle.wsm_windows.proofs.Places.{places_total, places_exact}
use Rattle.wsm_semantics.specs.Query.{Query, Datum, Effect, SessionsByEvent, datum, mark, verdict_on, selection, selected, selection_of}
use Rattle.wsm_semantics.specs.Panes.{is_there, contents, places, panes, held, is_live_at}
use Rattle.wsm_semantics.specs.Firings.{Firing, firing_set, firings_so_far, kind_on, kind_on_record}
use Rattle.wsm_semantics.specs.StandingFirings.{standing}
use Rattle.wsm_semantics.specs.Retractions.{standing_for, panes_before_drops}
use Rattle.wsm_semantics.specs.LastingRows.{standing_dropped, stood_at_drop, lasting}
use Rattle.wsm_semantics.specs.Amounts.{sum_of}
use Rattle.wsm_semantics.proofs.Lists.{filter-all}
use Rattle.wsm_semantics.proofs.Tables.{among, find-with_contents, is_sorted-with_contents}
use Rattle.wsm_semantics.proofs.Each.{same_answers, all-both, passed}
use Rattle.wsm_semantics.proofs.MergedRecords.{none_held}
use Rattle.wsm_semantics.proofs.Effects.{by_effect, selects_one, selects_none}
use Rattle.wsm_semantics.proofs.Turns.{places-same, contents-same}
use Rattle.wsm_semantics.proofs.KeptTurns.{lives_there}
use Rattle.wsm_semantics.proofs.ShownPanes.{IsPane, contents_below, each_pane, kind_of, kind-selected, kind-watermark, unshown_of}
use Rattle.wsm_semantics.proofs.FiringsSoFar.{PlacesLaw}
use Rattle.wsm_semantics.proofs.StandsTurn.{stands-still}
use Rattle.wsm_semantics.proofs.Assigned.{IsAssigned}
use Rattle.wsm_semantics.proofs.AssignedTurns.{still_placed}
use Rattle.wsm_semantics.proofs.SessionTurns.{dead_stays}
use Rattle.wsm_semantics.proofs.KeptLaw as kept_law
use Rattle.wsm_semantics.proofs.KeptLaw.{gap_is_long}
use Rattle.wsm_semantics.proofs.ShownOnce.{new_have}
use Rattle.wsm_semantics.proofs.LastingLaw.{live_still}
use Rattle.wsm_semantics.proofs.Sums.{sum_of-append, sum_of-each}
use Rattle.wsm_amounts.proofs.Sums.{given, sum_of-given, sum_of-split, sum_of-both}

-- the end is over where the end and the lateness are
not_due : (old end l : ℤ) → pos 0 ≤ℤ l → int_lt old (end +ℤ l) ≡ false → int_lt old end ≡ false
not_due old end l low h = grind (arith, ints)

module _ (q : Query) (ok : IsShape q.shape) (timely : SessionsByEvent q) (low : pos 0 ≤ℤ q.clock.lateness) where
  abbrev law : PlacesLaw q
  law = kept_law.places q ok timely

  -- what stands for a place with its contents
  abbrev pub stands_for : List Event → Place × List Datum → Option Firing
  stands_for past x = standing q (firings_so_far q past) x.0 x.1

  module _ (past : List Event) where
    abbrev live : Place × List Datum → Bool
    live x = is_live_at q (mark q past) x.0

    -- the place has what it had
    abbrev IsLeft : Place → Event → Type 0
    IsLeft p e = (among p (places q (e ∷ past)) ≡ among p (places q past)) × (contents q (e ∷ past) p ≡ contents q past p)

    still_there : (p : Place) → is_live_at q (mark q past) p ≡ false → (e : Event) → among p (places q past) ≡ true → among p (places q (e ∷ past)) ≡ true
    still_there p dead e placed = of_shape q.shape refl where
      of_shape : (shape : Shape) → q.shape ≡ shape → among p (places q (e ∷ past)) ≡ true
      of_shape (Fixed size) is = still_placed q ok (subst IsAssigned (sym is) tt) past e p placed
      of_shape (Sliding size period) is = still_placed q ok (subst IsAssigned (sym is) tt) past e p placed
      of_shape (Session gap) is = dead_stays q timely gap is (gap_is_long q gap is ok) past e p placed dead

    module _ (p : Place) (dead : is_live_at q (mark q past) p ≡ false) where
      left : (e : Event) → IsLeft p e
      left = by_effect q past (λ e x. IsLeft p e) recorded (λ o t _. same (Watermark o t) (selects_none q past o t)) (λ e none. same e (ap selection none)) where
        same : (e : Event) → selection_of q past e ≡ [] → IsLeft p e
        same e none = (ap (among p) (places-same q past e none), contents-same q past e none p)

        recorded : (k : ℕ) (t : ℤ) (vs : List Value) → verdict_on q past (Record (Some k) t vs) ≡ None → q.selects k vs ≡ true → IsLeft p (Record (Some k) t vs)
        recorded k t vs taken selects =
            let e : Event = Record (Some k) t vs in
            let d : Datum = datum (length past) (mark q past) k t vs in
            let away : is_there q p d ≡ false = false_from_ne_true (is_there q p d) (λ there. true≢false (sym (lives_there q past timely k t vs taken p there) ∙ dead)) in (
              same_answers _ _ (λ placed. new_have q ok timely q.shape refl past k t vs taken selects p placed away) (still_there p dead e),
              ap (λ (ds : List Datum). filter (is_there q p) (ds ++ selected q past)) (selects_one q past k t vs taken selects) ∙ ap (λ (b : Bool). cond b (d ∷ contents q past p) (contents q past p)) away,
            )

      -- it doesn't fire
      quiet : (e : Event) → kind_of q past e p (contents q past p) ≡ None
      quiet = by_effect q past (λ e x. kind_of q past e p (contents q past p) ≡ None)
          (λ k t vs taken selects.
          let d : Datum = datum (length past) (mark q past) k t vs in
          kind-selected q past k t vs taken selects p (contents q past p)
          ∙ ap (λ (b : Bool). cond b (kind_on_record q (mark q past) p.end (length (unshown_of q past p (contents q past p)))) None) (none_held d (contents q past p) (contents_below q past p)))
          (λ o t _.
          let w : Event = Watermark o t in
          let u : List Datum = unshown_of q past p (contents q past p) in
          kind-watermark q past o t p (contents q past p)
          ∙ (λ i. cond ((not_due (mark q past) p.end q.clock.lateness low dead i && int_le p.end (mark q (w ∷ past))) && nat_lt 0 (length (firing_set q.mode (contents q past p) u))) (Some OnTime)
          (cond ((dead i && int_le (p.end +ℤ q.clock.lateness) (mark q (w ∷ past))) && nat_lt 0 (length u)) (Some Final) None)))
          (λ e none. ap (λ (x : Effect). kind_on q x p (contents q past p) (unshown_of q past p (contents q past p))) none)

    module _ (e : Event) where
      dropped_panes : filter (λ x. not (live x)) (panes q (e ∷ past)) ≡ filter (λ x. not (live x)) (panes q past)
      dropped_panes =
          let gone : Place → Bool = λ p. not (is_live_at q (mark q past) p) in
          same_entries place_cmp places_total places_exact (filter (λ x. gone x.0) (panes q (e ∷ past))) (filter (λ x. gone x.0) (panes q past))
          (is_sorted-where_key place_cmp gone (panes q (e ∷ past)) (is_sorted-with_contents (contents q (e ∷ past)) (places q (e ∷ past))))
          (is_sorted-where_key place_cmp gone (panes q past) (is_sorted-with_contents (contents q past) (places q past)))
          (λ p.
          found (e ∷ past) p
          ∙ elim (is_live_at q (mark q past) p) as (λ b. is_live_at q (mark q past) p ≡ b → cond (not b) (cond (among p (places q (e ∷ past))) (Some (contents q (e ∷ past) p)) None) None ≡ cond (not b) (cond (among p (places q past)) (Some (contents q past p)) None) None) [
            | true ↦ λ _. refl
            | false ↦ λ dead. let same = left p dead e in λ i. cond (same.0 i) (Some (same.1 i)) None
          ] refl
          ∙ sym (found past p))
        where
          found : (other : List Event) (p : Place) → find place_cmp p (filter (λ x. not (live x)) (panes q other)) ≡ cond (not (is_live_at q (mark q past) p)) (cond (among p (places q other)) (Some (contents q other p)) None) None
          found other p =
              find-where_key place_cmp (λ p. not (is_live_at q (mark q past) p)) p (λ r tie. ap (λ (x : Place). not (is_live_at q (mark q past) x)) (sym (places_exact p r tie))) (panes q other)
              ∙ ap (λ (o : Option (List Datum)). cond (not (is_live_at q (mark q past) p)) o None) (find-with_contents (contents q other) p (places q other))

      -- what stands for them stands still
      stands_still : (x : Place × List Datum) → IsPane q (e ∷ past) x → live x ≡ false → stands_for (e ∷ past) x ≡ stands_for past x
      stands_still x is dead =
          ap (λ (ds : List Datum). stands_for (e ∷ past) (x.0, ds)) is.0
          ∙ stands-still q law past e x.0 is.1 (ap (kind_of q past e x.0) (left x.0 dead e).1 ∙ quiet x.0 dead e)
          ∙ sym (ap (λ (ds : List Datum). stands_for past (x.0, ds)) is.0)

  module _ (v : Firing → ℤ) where
    -- what is given by what stands for some panes
    abbrev pub stands_worth : List Event → Place × List Datum → ℤ
    stands_worth past x = given v (stands_for past x)

    of_standing : (past : List Event) (ps : List (Place × List Datum)) → sum_of v (standing_for q past ps) ≡ sum_of (stands_worth past) ps
    of_standing past ps = sum_of-given v (stands_for past) ps

    -- the panes that were dropped
    abbrev gone_by : List Event → List (Place × List Datum) → List (Place × List Datum)
    gone_by past ps = filter (λ x. not (is_live_at q (mark q past) x.0)) ps

    of_dropped : (past : List Event) → sum_of v (stood_at_drop q past) ≡ sum_of (stands_worth past) (gone_by past (panes q past))
    of_dropped [] = refl
    of_dropped (e ∷ past) =
        let now : List (Place × List Datum) = panes q (e ∷ past) in
        sum_of-append v (stood_at_drop q past) (standing_dropped q past e)
        ∙ (λ i. (of_dropped past ∙ same) i +ℤ of_standing (e ∷ past) (gone_by (e ∷ past) (panes_before_drops q past e)) i)
        ∙ sum_of-split (stands_worth (e ∷ past)) (live past) (λ x. not (is_live_at q (mark q (e ∷ past)) x.0))
        (λ x dead. ap not (false_from_ne_true (is_live_at q (mark q (e ∷ past)) x.0) (λ lives. true≢false (sym (live_still q ok timely low past e x.0 lives) ∙ dead))))
        now
      where
        same : sum_of (stands_worth past) (gone_by past (panes q past)) ≡ sum_of (stands_worth (e ∷ past)) (gone_by past (panes q (e ∷ past)))
        same =
            let now : List (Place × List Datum) = panes q (e ∷ past) in
            ap (sum_of (stands_worth past)) (sym (dropped_panes past e))
            ∙ sym (sum_of-each (stands_worth (e ∷ past)) (stands_worth past) (gone_by past now)
            (all-both (IsPane q (e ∷ past)) (λ x. not (live past x) ≡ true) (λ x. stands_worth (e ∷ past) x ≡ stands_worth past x)
            (λ x is dead. ap (given v) (stands_still past e x is (not-true _ dead)))
            (gone_by past now) (filter-all (IsPane q (e ∷ past)) (λ x. not (live past x)) now (each_pane q (e ∷ past))) (passed (λ x. not (live past x)) now)))

    -- what the firings that last come to is what those that stand for all panes do
    pub of_lasting : (past : List Event) → sum_of v (lasting q past) ≡ sum_of (stands_worth past) (panes q past)
    of_lasting past =
        sum_of-append v (stood_at_drop q past) (standing_for q past (held q past))
        ∙ (λ i. of_dropped past i +ℤ of_standing past (held q past) i)
        ∙ sum_of-both (stands_worth past) (live past) (panes q past)
