-- Sessions that discard what they showed, where only watermarks fire: which records are unshown, as a
-- bag, goes by the events and their verdicts, and not by their order between rises of the watermark.
use Rattle.std.proofs.Common.{◌≡◌, ℕ, Bool, true, false, ◌&&◌, ◌||◌, cond, not, List, [], ◌∷◌, ◌++◌, length, ℤ, pos, Option, Some, None, is_some, refl, sym, ap, subst, ◌∙◌, arith}
use Rattle.std.specs.Prelude.{filter, nat_eq, int_lt}
use Rattle.std.specs.List.{list_any}
use Rattle.std.proofs.lemmas.Bool.{eqb-true}
use Rattle.std.proofs.Math.Bool.{and-false, or-false, and_comm}
use Rattle.wsm_record.proofs.Lists.{list_any-map}
use Rattle.wsm_record.specs.declared.event.Value.{Value}
use Rattle.wsm_record.specs.declared.words.Mode.{Mode}
use Rattle.wsm_record.specs.declared.words.Mode.TheVariants.{Discarding}
use Rattle.wsm_record.specs.Event.{Event, Record, Watermark}
use Rattle.wsm_windows.specs.declared.window.PaneKind.{PaneKind}
use Rattle.wsm_windows.specs.declared.window.PaneKind.TheVariants.{Early, Late}
use Rattle.wsm_windows.specs.declared.window.Shape.{Shape}
use Rattle.wsm_windows.specs.declared.window.Shape.TheVariants.{Session}
use Rattle.wsm_windows.specs.Windows.{window, IsShape}
use Rattle.wsm_windows.specs.declared.place.Place.{Place}
use Rattle.wsm_windows.specs.Places.{at, window_of}
use Rattle.wsm_semantics.specs.Query.{Datum, datum, Query, Effect, mark, raises, verdict_on, selected, selection_of}
use Rattle.wsm_semantics.specs.Panes.{is_there, stands_in, contents, panes}
use Rattle.wsm_semantics.specs.Firings.{firings, firings_by, firing_set, is_enough, is_shown, shows, holds, kind_on, kind_on_watermark}
use Rattle.wsm_semantics.specs.Order.{Judged, judged, is_rise, Reordered, Done, Next, Swap, Then, Permuted}
use Rattle.wsm_semantics.proofs.Lists.{all-each, filter_same}
use Rattle.wsm_semantics.proofs.Each.{all_of, all-any, all-swap, filter-append, filter-each, filter-filter, list_any-each, list_any-none}
use Rattle.wsm_semantics.proofs.Within.{new_turn}
use Rattle.wsm_semantics.proofs.MergedRecords.{selected_falls, holds-filter}
use Rattle.wsm_semantics.proofs.ShownPanes.{IsPane, each_pane, unshown_of, kind_of, kind-watermark, shown_now, not_shown_yet}
use Rattle.wsm_semantics.proofs.ReorderedRecords.{Shuffled, Empty, Through, shuffled-sym, same_length, same_filter, same_append, same_after}
use Rattle.wsm_semantics.proofs.PanesOrder.{contents_of, panes_of, same_contents, there_agrees, same_panes}
use Rattle.wsm_semantics.proofs.ReorderedHistories.{AreTold, events_of, events_judged, judged_told, reordered_told, mark_by, mark_reordered, mark_is, said, said_all, said_reordered, swapped_at, selected_said, selection_by}
use Rattle.wsm_semantics.proofs.Turns.{panes-same}
use Rattle.wsm_semantics.proofs.Effects.{by_record, effect-down, selects_none}
use Rattle.wsm_semantics.proofs.OnTimeOrder.{FiresSame}

-- some pane of a bag of records passes
any_same : (q : Query) → IsShape q.shape → (f g : Place → Bool) → ((p : Place) → f p ≡ g p) → (ds es : List Datum) → Shuffled ds es →
    list_any (λ x. f x.0) (panes_of q ds) ≡ list_any (λ x. g x.0) (panes_of q es)
any_same q ok f g agree ds es h =
    list_any-each (λ x. f x.0) (λ x. g x.0) (panes_of q ds) (all-any (λ x. f x.0 ≡ g x.0) (λ x. agree x.0) (panes_of q ds))
    ∙ sym (list_any-map {Y = Place × List Datum} (λ x. g x.0) (λ x. (x.0, contents_of q es x.0)) (panes_of q ds))
    ∙ ap (list_any (λ x. g x.0)) (sym (same_panes q ok ds es h))

-- ---- by the verdicts

module _ (q : Query) (ok : IsShape q.shape) where
  -- a place fires, where these records are unshown
  abbrev fires_of : ℤ → ℤ → List Datum → Place → Bool
  fires_of old t us p = is_some (kind_on_watermark q old t p (length (contents_of q us p)) (length (contents_of q us p)))

  -- a pane that fires has the record
  abbrev is_fired : ℤ → ℤ → List Datum → List Datum → Datum → Bool
  is_fired old t ds us d = list_any (λ x. fires_of old t us x.0 && is_there q x.0 d) (panes_of q ds)

  -- what is left unshown by a watermark
  abbrev left_at : ℤ → ℤ → List Datum → List Datum → List Datum
  left_at old t ds us = filter (λ d. not (is_fired old t ds us d)) us

  abbrev left_with : Judged → List Judged → List Datum → List Datum
  left_with (Record k t vs, why, up) xs us = said q (mark_by q xs) (Record k t vs, why, up) ++ us
  left_with (Watermark o t, why, up) xs us = cond up (left_at (mark_by q xs) (mark_by q ((Watermark o t, why, up) ∷ xs)) (said_all q xs) us) us

  -- the unshown records
  abbrev left_by : List Judged → List Datum
  left_by [] = []
  left_by (x ∷ xs) = left_with x xs (left_by xs)

  same_left_at : (old t : ℤ) (ds es us vs : List Datum) → Shuffled ds es → Shuffled us vs → Shuffled (left_at old t ds us) (left_at old t es vs)
  same_left_at old t ds es us vs h k =
      same_filter (λ d. not (is_fired old t ds us d)) (λ d. not (is_fired old t es vs d))
      (λ d e key mark time values.
      ap not (any_same q ok (λ p. fires_of old t us p && is_there q p d) (λ p. fires_of old t vs p && is_there q p e)
      (λ p i. is_some (kind_on_watermark q old t p (lengths p i) (lengths p i)) && there_agrees q p d e key mark time values i) ds es h))
      us vs k
    where
      lengths : (p : Place) → length (contents_of q us p) ≡ length (contents_of q vs p)
      lengths p = same_length (contents_of q us p) (contents_of q vs p) (same_contents q p us vs k)

  left_plain : (x : Judged) (xs : List Judged) (us : List Datum) → is_rise x ≡ false → left_with x xs us ≡ said q (mark_by q xs) x ++ us
  left_plain (Record k t vs, why, up) xs us h = refl
  left_plain (Watermark o t, why, up) xs us h = ap (λ (b : Bool). cond b (left_at (mark_by q xs) (mark_by q ((Watermark o t, why, up) ∷ xs)) (said_all q xs) us) us) h

  left_next : (x : Judged) (xs ys : List Judged) → Reordered xs ys → AreTold q xs → Shuffled (left_by xs) (left_by ys) → Shuffled (left_with x xs (left_by xs)) (left_with x ys (left_by ys))
  left_next (Record k t vs, why, up) xs ys r told h =
      let x : Judged = (Record k t vs, why, up) in
      subst (λ (m : ℤ). Shuffled (said q (mark_by q xs) x ++ left_by xs) (said q m x ++ left_by ys)) (mark_reordered q xs ys r) (same_after (said q (mark_by q xs) x) (left_by xs) (left_by ys) h)
  left_next (Watermark o t, why, up) xs ys r told h =
      let x : Judged = (Watermark o t, why, up) in
      elim up as (λ b. Shuffled (cond b (left_at (mark_by q xs) (mark_by q (x ∷ xs)) (said_all q xs) (left_by xs)) (left_by xs)) (cond b (left_at (mark_by q ys) (mark_by q (x ∷ ys)) (said_all q ys) (left_by ys)) (left_by ys))) [
        | true ↦ subst (λ (ms : ℤ × ℤ). Shuffled (left_at (mark_by q xs) (mark_by q (x ∷ xs)) (said_all q xs) (left_by xs)) (left_at ms.0 ms.1 (said_all q ys) (left_by ys)))
            (λ i. (mark_reordered q xs ys r i, mark_reordered q (x ∷ xs) (x ∷ ys) (Next x xs ys r) i))
            (same_left_at (mark_by q xs) (mark_by q (x ∷ xs)) (said_all q xs) (said_all q ys) (left_by xs) (left_by ys) (said_reordered q xs ys r told) h)
        | false ↦ h
      ]

  left_reordered : (xs ys : List Judged) → Reordered xs ys → AreTold q xs → Shuffled (left_by xs) (left_by ys)
  left_reordered _ _ Done told = Empty
  left_reordered _ _ (Next e xs ys r) told = left_next e xs ys r told.1 (left_reordered xs ys r told.1)
  left_reordered _ _ (Swap a b xs h k) told =
      let us : List Datum = left_by xs in
      let one : left_by (a ∷ b ∷ xs) ≡ said q (mark_by q (b ∷ xs)) a ++ (said q (mark_by q xs) b ++ us) = left_plain a (b ∷ xs) (left_by (b ∷ xs)) h ∙ ap (λ (ds : List Datum). said q (mark_by q (b ∷ xs)) a ++ ds) (left_plain b xs us k) in
      let two : left_by (b ∷ a ∷ xs) ≡ said q (mark_by q (a ∷ xs)) b ++ (said q (mark_by q xs) a ++ us) = left_plain b (a ∷ xs) (left_by (a ∷ xs)) k ∙ ap (λ (ds : List Datum). said q (mark_by q (a ∷ xs)) b ++ ds) (left_plain a xs us h) in
      subst (λ (ds : List Datum). Shuffled ds (left_by (b ∷ a ∷ xs))) (sym one) (subst (Shuffled (said q (mark_by q (b ∷ xs)) a ++ (said q (mark_by q xs) b ++ us))) (sym two) (swapped_at q a b xs us h k told))
  left_reordered _ _ (Then xs ys zs r s) told = Through (left_by xs) (left_by ys) (left_by zs) (left_reordered xs ys r told) (left_reordered ys zs s (reordered_told q xs ys r told))

  -- ---- of a history

  module _ (gap : ℤ) (shape : q.shape ≡ Session gap) (discarding : q.mode ≡ Discarding) (no_early : q.early ≡ 0) (no_late : q.late ≡ 0) where
    -- a place of the record's key
    abbrev its : Datum → Place
    its d = at d.key (window (pos 0) (pos 0))

    abbrev left_of : List Event → List Datum
    left_of past = filter (λ d. not (is_shown q past (its d) d)) (selected q past)

    shown_by_key : (past : List Event) (p r : Place) (d : Datum) → p.key ≡ r.key → is_shown q past p d ≡ is_shown q past r d
    shown_by_key [] p r d key = refl
    shown_by_key (e ∷ past) p r d key = λ i.
        shown_by_key past p r d key i
        || list_any (λ f. (ap (λ (s : Shape). shows s p f.place) shape ∙ ap (λ (k : ℕ). nat_eq k f.place.key) key ∙ sym (ap (λ (s : Shape). shows s r f.place) shape)) i && holds d f.contents) (firings_by (is_shown q past) q past e)

    -- the unshown records of a pane
    unshown_left : (past : List Event) (p : Place) → unshown_of q past p (contents q past p) ≡ contents_of q (left_of past) p
    unshown_left past p =
        filter-filter (λ d. not (is_shown q past p d)) (is_there q p) (selected q past)
        ∙ filter_same (λ d. is_there q p d && not (is_shown q past p d)) (λ d. not (is_shown q past (its d) d) && is_there q p d) alike (selected q past)
        ∙ sym (filter-filter (is_there q p) (λ d. not (is_shown q past (its d) d)) (selected q past))
      where
        alike : (d : Datum) → (is_there q p d && not (is_shown q past p d)) ≡ (not (is_shown q past (its d) d) && is_there q p d)
        alike d =
            elim (nat_eq d.key p.key) as (λ b. nat_eq d.key p.key ≡ b → ((b && stands_in q.shape q.clock.lateness (window_of p) d) && not (is_shown q past p d)) ≡ (not (is_shown q past (its d) d) && (b && stands_in q.shape q.clock.lateness (window_of p) d))) [
              | true ↦ λ k.
                  ap (λ (b : Bool). stands_in q.shape q.clock.lateness (window_of p) d && not b) (shown_by_key past p (its d) d (sym (eqb-true d.key p.key k)))
                  ∙ and_comm (stands_in q.shape q.clock.lateness (window_of p) d) (not (is_shown q past (its d) d))
              | false ↦ λ k. sym (and-false (not (is_shown q past (its d) d)))
            ] refl

    -- an event that fires nothing leaves what was unshown, and its own record
    left_more : (past : List Event) (e : Event) → ((p : Place) (all : List Datum) → kind_of q past e p all ≡ None) → left_of (e ∷ past) ≡ selection_of q past e ++ left_of past
    left_more past e idle =
        filter_same (λ d. not (is_shown q (e ∷ past) (its d) d)) (λ d. not (is_shown q past (its d) d)) (λ d. ap not (still d)) (selection_of q past e ++ selected q past)
        ∙ filter-append (λ d. not (is_shown q past (its d) d)) (selection_of q past e) (selected q past)
        ∙ ap (λ (ds : List Datum). ds ++ left_of past)
        (all_of (λ d. not (is_shown q past (its d) d)) (selection_of q past e)
        (all-each (λ d. d.turn ≡ length past) (λ d. not (is_shown q past (its d) d) ≡ true) (selection_of q past e) (λ d new. ap not (not_shown_yet q past (its d) d (omega arith))) (new_turn q past e)))
      where
        still : (d : Datum) → is_shown q (e ∷ past) (its d) d ≡ is_shown q past (its d) d
        still d =
            ap (λ (b : Bool). is_shown q past (its d) d || b)
            (shown_now q past e (its d) d
            ∙ list_any-none (λ x. is_some (kind_of q past e x.0 x.1) && (shows q.shape (its d) x.0 && holds d x.1)) (panes q (e ∷ past))
            (all-any (λ x. (is_some (kind_of q past e x.0 x.1) && (shows q.shape (its d) x.0 && holds d x.1)) ≡ false) (λ x. ap (λ (o : Option PaneKind). is_some o && (shows q.shape (its d) x.0 && holds d x.1)) (idle x.0 x.1)) (panes q (e ∷ past))))
            ∙ or-false (is_shown q past (its d) d)

    idle_record : (past : List Event) (k : Option ℕ) (t : ℤ) (vs : List Value) (p : Place) (all : List Datum) → kind_of q past (Record k t vs) p all ≡ None
    idle_record past k t vs p all =
        by_record q past (λ x. kind_on q x p all (unshown_of q past p all) ≡ None)
        refl
        (λ k t vs.
        let d : Datum = datum (length past) (mark q past) k t vs in
        ap (λ (o : Option PaneKind). cond (holds d all) o None)
        ((λ i. cond (int_lt (mark q past) p.end) (cond (is_enough (no_early i) n) (Some Early) None) (cond (is_enough (no_late i) n) (Some Late) None))
        ∙ none_either (int_lt (mark q past) p.end))
        ∙ none_either (holds d all))
        k t vs
      where
        n : ℕ
        n = length (unshown_of q past p all)

        none_either : (b : Bool) → cond {A = Option PaneKind} b None None ≡ None
        none_either true = refl
        none_either false = refl

    module _ (past : List Event) (o : Option ℕ) (t : ℤ) where
      abbrev w : Event
      w = Watermark o t

      abbrev old : ℤ
      old = mark q past

      abbrev new : ℤ
      new = mark q (w ∷ past)

      -- what a place does at a watermark, by the unshown records
      risen_kind : (p : Place) → is_some (kind_of q past w p (contents q past p)) ≡ fires_of old new (left_of past) p
      risen_kind p =
          let all : List Datum = contents q past p in
          let unshown : List Datum = unshown_of q past p all in
          ap is_some (kind-watermark q past o t p all)
          ∙ ap (λ (m : Mode). is_some (kind_on_watermark q old new p (length (firing_set m all unshown)) (length unshown))) discarding
          ∙ ap (λ (us : List Datum). is_some (kind_on_watermark q old new p (length us) (length us))) (unshown_left past p)

      -- a record is shown by it where a pane that fires has it
      shown_at : (d : Datum) → ((r : Place) → holds d (contents q past r) ≡ is_there q r d) →
          list_any (λ f. shows q.shape (its d) f.place && holds d f.contents) (firings q past w) ≡ is_fired old new (selected q past) (left_of past) d
      shown_at d held_by =
          shown_now q past w (its d) d
          ∙ ap (list_any (λ x. is_some (kind_of q past w x.0 x.1) && (shows q.shape (its d) x.0 && holds d x.1))) (panes-same q past w (selects_none q past o t))
          ∙ list_any-each (λ x. is_some (kind_of q past w x.0 x.1) && (shows q.shape (its d) x.0 && holds d x.1)) (λ x. fires_of old new (left_of past) x.0 && is_there q x.0 d) (panes q past)
          (all-each (IsPane q past) (λ x. (is_some (kind_of q past w x.0 x.1) && (shows q.shape (its d) x.0 && holds d x.1)) ≡ (fires_of old new (left_of past) x.0 && is_there q x.0 d)) (panes q past)
          (λ x pane.
          ap (λ (all : List Datum). is_some (kind_of q past w x.0 all) && (shows q.shape (its d) x.0 && holds d all)) pane.0
          ∙ (λ i. risen_kind x.0 i && (shows (shape i) (its d) x.0 && held_by x.0 i))
          ∙ ap (λ (b : Bool). fires_of old new (left_of past) x.0 && b) (once (nat_eq d.key x.0.key) (stands_in q.shape q.clock.lateness (window_of x.0) d)))
          (each_pane q past))
        where
          once : (a b : Bool) → (a && (a && b)) ≡ (a && b)
          once true b = refl
          once false b = refl

      left_risen : left_of (w ∷ past) ≡ left_at old new (selected q past) (left_of past)
      left_risen =
          ap (λ (ds : List Datum). filter (λ d. not (is_shown q (w ∷ past) (its d) d)) (ds ++ selected q past)) (selects_none q past o t)
          ∙ filter-each (λ d. not (is_shown q (w ∷ past) (its d) d)) (λ d. not (is_shown q past (its d) d) && not (is_fired old new (selected q past) (left_of past) d)) (selected q past)
          (all-each (λ d. (r : Place) → holds d (contents q past r) ≡ is_there q r d)
          (λ d. not (is_shown q (w ∷ past) (its d) d) ≡ (not (is_shown q past (its d) d) && not (is_fired old new (selected q past) (left_of past) d)))
          (selected q past)
          (λ d held_by. ap (λ (b : Bool). not (is_shown q past (its d) d || b)) (shown_at d held_by) ∙ neither (is_shown q past (its d) d) (is_fired old new (selected q past) (left_of past) d))
          (all-swap (λ r d. holds d (contents q past r) ≡ is_there q r d) (selected q past) (λ r. holds-filter (is_there q r) (selected q past) (selected_falls q past))))
          ∙ sym (filter-filter (λ d. not (is_fired old new (selected q past) (left_of past) d)) (λ d. not (is_shown q past (its d) d)) (selected q past))
        where
          neither : (a b : Bool) → not (a || b) ≡ (not a && not b)
          neither true b = refl
          neither false b = refl

    -- the unshown records of a history are those as it is told
    left_is : (past : List Event) → Shuffled (left_of past) (left_by (judged q past))
    left_is [] = Empty
    left_is (Record k t vs ∷ past) =
        let e : Event = Record k t vs in
        subst (λ (ds : List Datum). Shuffled ds (left_by (judged q (e ∷ past)))) (sym (left_more past e (idle_record past k t vs)))
        (same_append (selection_of q past e) (said q (mark_by q (judged q past)) (e, verdict_on q past e, raises q past e)) (left_of past) (left_by (judged q past)) (selection_by q past e (raises q past e)) (left_is past))
    left_is (Watermark o t ∷ past) =
        let w : Event = Watermark o t in
        let js : List Judged = judged q past in
        let kept : List Datum = left_by js in
        let new : ℤ = mark q (w ∷ past) in
        let new_by : ℤ = mark q (w ∷ events_of js) in
        elim (raises q past w) as (λ b. raises q past w ≡ b → Shuffled (left_of (w ∷ past)) (cond b (left_at (mark_by q js) new_by (said_all q js) kept) kept)) [
          | true ↦ λ up.
              subst (λ (ds : List Datum). Shuffled ds (left_at (mark_by q js) new_by (said_all q js) kept)) (sym (left_risen past o t))
              (subst (λ (ms : ℤ × ℤ). Shuffled (left_at (mark q past) new (selected q past) (left_of past)) (left_at ms.0 ms.1 (said_all q js) kept)) (λ i. (mark_is q past i, mark q (w ∷ sym (events_judged q past) i)))
              (same_left_at (mark q past) new (selected q past) (said_all q js) (left_of past) kept (selected_said q past) (left_is past)))
          | false ↦ λ down.
              subst (λ (ds : List Datum). Shuffled ds kept)
              (sym (left_more past w (λ p all. ap (λ (x : Effect). kind_on q x p all (unshown_of q past p all)) (effect-down q past o t down))
              ∙ ap (λ (ds : List Datum). ds ++ left_of past) (selects_none q past o t)))
              (left_is past)
        ] refl

    -- the unshown records of histories in another order are the same bag
    same_left : (past other : List Event) → Permuted q past other → Shuffled (left_of past) (left_of other)
    same_left past other r =
        Through (left_of past) (left_by (judged q past)) (left_of other) (left_is past)
        (Through (left_by (judged q past)) (left_by (judged q other)) (left_of other) (left_reordered (judged q past) (judged q other) r (judged_told q past)) (shuffled-sym (left_of other) (left_by (judged q other)) (left_is other)))

    pub sessions_fire_unshown : (past other : List Event) → Permuted q past other → FiresSame q ok past other
    sessions_fire_unshown past other r p _ =
        subst (λ (m : Mode). Shuffled (firing_set m (contents q past p) (unshown_of q past p (contents q past p))) (firing_set m (contents q other p) (unshown_of q other p (contents q other p)))) (sym discarding)
        (subst (λ (ds : List Datum). Shuffled ds (unshown_of q other p (contents q other p))) (sym (unshown_left past p))
        (subst (Shuffled (contents_of q (left_of past) p)) (sym (unshown_left other p))
        (same_contents q p (left_of past) (left_of other) (same_left past other r))))
