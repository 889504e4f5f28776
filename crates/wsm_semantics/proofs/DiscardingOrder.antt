-- Windows assigned by a record's time alone, where panes discard what they showed and none fires early:
-- until a pane's end nothing shows its records, so that it fires all of them on time.
use Rattle.std.proofs.Common.{◌≡◌, ℕ, Bool, true, false, ◌&&◌, ◌||◌, cond, not, List, [], ◌∷◌, length, ℤ, pos, ◌+ℤ◌, ◌≤ℤ◌, Option, Some, None, is_some, refl, sym, ap, subst, ◌∙◌, arith}
use Rattle.std.proofs.lemmas.Int.{ints}
use Rattle.std.specs.Prelude.{int_lt, int_le, nat_lt}
use Rattle.std.specs.List.{list_any}
use Rattle.std.proofs.Math.Bool.{and-false}
use Rattle.wsm_record.specs.declared.words.Mode.{Mode}
use Rattle.wsm_record.specs.declared.words.Mode.TheVariants.{Discarding}
use Rattle.wsm_record.specs.Event.{Event, Record, Watermark}
use Rattle.wsm_windows.specs.declared.window.PaneKind.{PaneKind}
use Rattle.wsm_windows.specs.declared.window.PaneKind.TheVariants.{Early, OnTime, Late, Final}
use Rattle.wsm_windows.specs.Windows.{IsShape}
use Rattle.wsm_windows.specs.declared.place.Place.{Place}
use Rattle.wsm_admission.proofs.SourceMarks.{watermark_rises}
use Rattle.wsm_semantics.specs.Query.{Datum, datum, Query, mark, selected}
use Rattle.wsm_semantics.specs.Panes.{contents, panes}
use Rattle.wsm_semantics.specs.Firings.{firings, firing_set, is_enough, is_shown, kind_on, shows, holds}
use Rattle.wsm_semantics.specs.Order.{Permuted}
use Rattle.wsm_semantics.proofs.Decided.{less_from}
use Rattle.wsm_semantics.proofs.Assigned.{IsAssigned}
use Rattle.wsm_semantics.proofs.Each.{all_of, all-any, list_any-none}
use Rattle.wsm_semantics.proofs.AssignedTurns.{same_shown}
use Rattle.wsm_semantics.proofs.ShownPanes.{unshown_of, kind_of, kind-watermark, shown_now}
use Rattle.wsm_semantics.proofs.Effects.{by_record}
use Rattle.wsm_semantics.proofs.PanesOrder.{same_contents}
use Rattle.wsm_semantics.proofs.ReorderedHistories.{same_mark}
use Rattle.wsm_semantics.proofs.OnTimeOrder.{FiresSame, same_selected}
use Rattle.wsm_semantics.proofs.ReorderedRecords.{Shuffled}

ended_later : (t end : ℤ) → int_lt t end ≡ true → int_le end t ≡ false
ended_later t end h = grind (arith, ints)

dropped_later : (t end l : ℤ) → pos 0 ≤ℤ l → int_lt t end ≡ true → int_le (end +ℤ l) t ≡ false
dropped_later t end l low h = grind (arith, ints)

-- nothing fires before the end, where the early count is none
pub none_on_record : (early late n : ℕ) (later : Bool) → later ≡ true → early ≡ 0 → cond later (cond (is_enough early n) (Some Early) None) (cond (is_enough late n) (Some Late) None) ≡ None
none_on_record early late n later h none = ap (λ (b : Bool). cond b (cond (is_enough early n) (Some Early) None) (cond (is_enough late n) (Some Late) None)) h ∙ ap (λ (m : ℕ). cond {A = Option PaneKind} (is_enough m n) (Some Early) None) none

gates : (a b c d : Bool) → b ≡ false → d ≡ false → (x y : Bool) → cond ((a && b) && x) (Some OnTime) (cond ((c && d) && y) (Some Final) None) ≡ None
gates a b c d h k x y =
    (λ i. cond ((a && h i) && x) (Some OnTime) (cond ((c && k i) && y) (Some Final) None))
    ∙ (λ i. cond (and-false a i && x) (Some OnTime) (cond (and-false c i && y) (Some Final) None))

module _ (q : Query) (low : pos 0 ≤ℤ q.clock.lateness) (none : q.early ≡ 0) where
  idle : (past : List Event) (e : Event) (p : Place) (all : List Datum) → int_lt (mark q (e ∷ past)) p.end ≡ true → kind_of q past e p all ≡ None
  idle past (Record k t vs) p all h =
      let unshown : List Datum = unshown_of q past p all in
      by_record q past (λ x. kind_on q x p all unshown ≡ None)
      refl
      (λ k t vs.
      let d : Datum = datum (length past) (mark q past) k t vs in
      ap (λ (o : Option PaneKind). cond (holds d all) o None) (none_on_record q.early q.late (length unshown) (int_lt (mark q past) p.end) h none)
      ∙ elim (holds d all) as (λ b. cond {A = Option PaneKind} b None None ≡ None) [ true ↦ refl | false ↦ refl ])
      k t vs
  idle past (Watermark o t) p all h =
      let unshown : List Datum = unshown_of q past p all in
      let new : ℤ = mark q (Watermark o t ∷ past) in
      kind-watermark q past o t p all
      ∙ gates (int_lt (mark q past) p.end) (int_le p.end new) (int_lt (mark q past) (p.end +ℤ q.clock.lateness)) (int_le (p.end +ℤ q.clock.lateness) new)
      (ended_later new p.end h) (dropped_later new p.end q.clock.lateness low h) (nat_lt 0 (length (firing_set q.mode all unshown))) (nat_lt 0 (length unshown))

  before_it : (past : List Event) (e : Event) (end : ℤ) → int_lt (mark q (e ∷ past)) end ≡ true → int_lt (mark q past) end ≡ true
  before_it past e end h = less_from (mark q past) (mark q (e ∷ past)) end (watermark_rises q.clock q.declared past e) h

  module _ (assigned : IsAssigned q.shape) where
    -- until the watermark comes to its end, nothing shows a pane's records
    unshown_yet : (past : List Event) (p : Place) (d : Datum) → int_lt (mark q past) p.end ≡ true → is_shown q past p d ≡ false
    unshown_yet [] p d h = refl
    unshown_yet (e ∷ past) p d h =
        let now : list_any (λ f. shows q.shape p f.place && holds d f.contents) (firings q past e) ≡ false =
        shown_now q past e p d
        ∙ list_any-none (λ x. is_some (kind_of q past e x.0 x.1) && (shows q.shape p x.0 && holds d x.1)) (panes q (e ∷ past))
        (all-any (λ x. (is_some (kind_of q past e x.0 x.1) && (shows q.shape p x.0 && holds d x.1)) ≡ false) other (panes q (e ∷ past))) in
        λ i. unshown_yet past p d (before_it past e p.end h) i || now i
      where
        other : (x : Place × List Datum) → (is_some (kind_of q past e x.0 x.1) && (shows q.shape p x.0 && holds d x.1)) ≡ false
        other x =
            elim (shows q.shape p x.0) as (λ b. shows q.shape p x.0 ≡ b → (is_some (kind_of q past e x.0 x.1) && (b && holds d x.1)) ≡ false) [
              | true ↦ λ its. ap (λ (o : Option PaneKind). is_some o && holds d x.1) (idle past e x.0 x.1 (subst (λ (r : Place). int_lt (mark q (e ∷ past)) r.end ≡ true) (same_shown q.shape assigned p x.0 its) h))
              | false ↦ λ _. and-false (is_some (kind_of q past e x.0 x.1))
            ] refl

    all_unshown : (past : List Event) (p : Place) (all : List Datum) → int_lt (mark q past) p.end ≡ true → unshown_of q past p all ≡ all
    all_unshown past p all h = all_of (λ d. not (is_shown q past p d)) all (all-any (λ d. not (is_shown q past p d) ≡ true) (λ d. ap not (unshown_yet past p d h)) all)

    pub fires_unshown : q.mode ≡ Discarding → (ok : IsShape q.shape) → (past other : List Event) → Permuted q past other → FiresSame q ok past other
    fires_unshown discarding ok past other r p h =
        let h_other : int_lt (mark q other) p.end ≡ true = ap (λ (w : ℤ). int_lt w p.end) (sym (same_mark q past other r)) ∙ h in
        subst (λ (m : Mode). Shuffled (firing_set m (contents q past p) (unshown_of q past p (contents q past p))) (firing_set m (contents q other p) (unshown_of q other p (contents q other p)))) (sym discarding)
        (subst (λ (ds : List Datum). Shuffled ds (unshown_of q other p (contents q other p))) (sym (all_unshown past p (contents q past p) h))
        (subst (Shuffled (contents q past p)) (sym (all_unshown other p (contents q other p) h_other))
        (same_contents q p (selected q past) (selected q other) (same_selected q ok past other r))))
