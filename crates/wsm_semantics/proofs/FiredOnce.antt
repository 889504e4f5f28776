-- Discarding: a record that a turn shows is in one firing set of it, as one pane shows it, and a
-- record that was shown before is in none. So over a history it is in one where it is shown.
use Rattle.std.proofs.Common.{◌≡◌, ℕ, suc, ◌+◌, Bool, true, false, ◌&&◌, ◌||◌, cond, not, List, [], ◌∷◌, length, map, Some, None, is_some, refl, sym, ap, ◌∙◌}
use Rattle.std.proofs.lemmas.Bool.{true≢false, and_parts, eqb-true}
use Rattle.std.proofs.lemmas.List.{length-append}
use Rattle.std.specs.Prelude.{filter, filter_map, nat_eq}
use Rattle.std.specs.List.{AllByRecursion, cons_option, list_any}
use Rattle.std.specs.Ordering.{is_lt}
use Rattle.std.specs.Cmp.{tied_itself}
use Rattle.std.specs.FinMap.Entries.{below_all, is_sorted}
use Rattle.std.proofs.Math.Bool.{and-false}
use Rattle.wsm_record.specs.declared.words.Mode.{Mode}
use Rattle.wsm_record.specs.declared.words.Mode.TheVariants.{Discarding}
use Rattle.wsm_record.specs.Event.{Event}
use Rattle.wsm_windows.specs.declared.place.Place.{Place}
use Rattle.wsm_windows.specs.Places.{place_cmp}
use Rattle.wsm_windows.proofs.Places.{tie_is, places_total}
use Rattle.wsm_semantics.specs.Query.{Query, Datum}
use Rattle.wsm_semantics.specs.Panes.{places, contents, panes}
use Rattle.wsm_semantics.specs.Firings.{Firing, firing_of, firing_set, firings, firings_by, firings_so_far, holds, is_shown, shows}
use Rattle.wsm_semantics.specs.FiringSets.{has_in_set, times_fired}
use Rattle.wsm_semantics.proofs.Tables.{is_sorted-with_contents}
use Rattle.wsm_semantics.proofs.Each.{all-any, as_true, filter-append, filter-each, none_of, some_of}
use Rattle.wsm_semantics.proofs.StandsTurn.{AreDistinct}
use Rattle.wsm_semantics.proofs.ShownPanes.{IsPane, ShowsOwn, each_pane, does, firings_are, kind_of, unshown_of, shown_now}
use Rattle.wsm_semantics.proofs.FiringsSoFar.{shows_back, shows_on, shown_alike}

-- once or not at all
abbrev pub once_if : Bool → ℕ
once_if b = cond b 1 0

-- ---- whether a record was shown goes by its turn

shown_by_turn : (q : Query) (past : List Event) (p : Place) (x d : Datum) → x.turn ≡ d.turn → is_shown q past p x ≡ is_shown q past p d
shown_by_turn q [] p x d h = refl
shown_by_turn q (e ∷ past) p x d h = λ i.
    shown_by_turn q past p x d h i || list_any (λ f. shows q.shape p f.place && list_any (λ y. nat_eq y.turn (h i)) f.contents) (firings_by (is_shown q past) q past e)

-- ---- what is held by the unshown records

first_held : (b : Bool) (d y : Datum) (ys : List Datum) → holds d (cond b (y ∷ ys) ys) ≡ ((b && nat_eq y.turn d.turn) || holds d ys)
first_held true d y ys = refl
first_held false d y ys = refl

spread : (before after same rest : Bool) → (same ≡ true → before ≡ after) → ((not before && same) || (not after && rest)) ≡ (not after && (same || rest))
spread before true true rest h = rw (h refl) refl
spread before false true rest h = rw (h refl) refl
spread true after false rest h = refl
spread false after false rest h = refl

-- the records that weren't shown hold a record where all do and it wasn't shown
holds_unshown : (q : Query) (past : List Event) (p : Place) (d : Datum) (ys : List Datum) → holds d (unshown_of q past p ys) ≡ (not (is_shown q past p d) && holds d ys)
holds_unshown q past p d [] = sym (and-false (not (is_shown q past p d)))
holds_unshown q past p d (y ∷ ys) =
    first_held (not (is_shown q past p y)) d y (unshown_of q past p ys)
    ∙ ap (λ (b : Bool). (not (is_shown q past p y) && nat_eq y.turn d.turn) || b) (holds_unshown q past p d ys)
    ∙ spread (is_shown q past p y) (is_shown q past p d) (nat_eq y.turn d.turn) (holds d ys) (λ same. shown_by_turn q past p y d (eqb-true y.turn d.turn same))

-- ---- one that passes

below_differs : {A : Type 0} (p : Place) (es : List (Place × A)) → below_all place_cmp p es ≡ true → AllByRecursion (λ r. p ≡ r → ⊥) (map (λ e. e.0) es)
below_differs p [] h = tt
below_differs p (e ∷ es) h =
    let parts = and_parts _ _ h in (
      λ same. true≢false (sym parts.0 ∙ ap (λ (r : Place). is_lt (place_cmp p r)) (sym same) ∙ ap is_lt (tied_itself places_total p)),
      below_differs p es parts.1,
    )

-- the places of a table are distinct
pub sorted_distinct : {A : Type 0} (es : List (Place × A)) → is_sorted place_cmp es ≡ true → AreDistinct (map (λ e. e.0) es)
sorted_distinct [] h = tt
sorted_distinct (e ∷ es) h = let parts = and_parts _ _ h in (below_differs e.0 es parts.0, sorted_distinct es parts.1)

-- of distinct places one passes at most
one_passes : (P : Place × List Datum → Type 0) (t : Place × List Datum → Bool) → ((x y : Place × List Datum) → P x → P y → t x ≡ true → t y ≡ true → x.0 ≡ y.0) →
    (xs : List (Place × List Datum)) → AllByRecursion P xs → AreDistinct (map (λ x. x.0) xs) → length (filter t xs) ≡ once_if (list_any t xs)
one_passes P t one [] all apart = refl
one_passes P t one (x ∷ xs) all apart =
    elim (t x) as (λ b. t x ≡ b → length (cond b (x ∷ filter t xs) (filter t xs)) ≡ once_if (b || list_any t xs)) [
      | true ↦ λ h. ap (λ (ys : List (Place × List Datum)). suc (length ys)) (none_of t xs (others h xs all.1 apart.0))
      | false ↦ λ h. one_passes P t one xs all.1 apart.1
    ] refl
  where
    others : t x ≡ true → (ys : List (Place × List Datum)) → AllByRecursion P ys → AllByRecursion (λ r. x.0 ≡ r → ⊥) (map (λ y. y.0) ys) → AllByRecursion (λ y. t y ≡ false) ys
    others h [] each differ = tt
    others h (y ∷ ys) each differ = (
      elim (t y) as (λ b. t y ≡ b → b ≡ false) [
        | true ↦ λ k. absurd (differ.0 (one x y all.0 each.0 h k))
        | false ↦ λ k. refl
      ] refl,
      others h ys each.1 differ.1,
    )

-- a record that is held is one of the turn
held_one : (P : Datum → Type 0) (d : Datum) (xs : List Datum) → AllByRecursion P xs → holds d xs ≡ true → (x : Datum) × P x × (x.turn ≡ d.turn)
held_one P d xs all h = let (x, is, same) = some_of P (λ x. nat_eq x.turn d.turn) xs all h in (x, is, eqb-true x.turn d.turn same)

gathered : (fires there now held : Bool) → (fires && (there && (now && held))) ≡ (now && (fires && (there && held)))
gathered true true now held = refl
gathered true false true held = refl
gathered true false false held = refl
gathered false there true held = refl
gathered false there false held = refl

module _ (q : Query) (discarding : q.mode ≡ Discarding) (own : (past : List Event) → ShowsOwn q past) where
  module _ (past : List Event) (e : Event) (p : Place) (d : Datum) where
    abbrev fires : Place × List Datum → Bool
    fires x = is_some (kind_of q past e x.0 x.1)

    -- the pane fires, shows the place and has the record
    abbrev hits : Place × List Datum → Bool
    hits x = fires x && (shows q.shape p x.0 && holds d x.1)

    counted : (xs : List (Place × List Datum)) → length (filter (has_in_set q p d) (filter_map (does q past e) xs)) ≡ length (filter (λ x. fires x && (shows q.shape p x.0 && holds d (unshown_of q past x.0 x.1))) xs)
    counted [] = refl
    counted (x ∷ xs) =
        let left : List Datum = unshown_of q past x.0 x.1 in
        let sets : List Firing = filter (has_in_set q p d) (filter_map (does q past e) xs) in
        let rest : List (Place × List Datum) = filter (λ y. fires y && (shows q.shape p y.0 && holds d (unshown_of q past y.0 y.1))) xs in
        elim (kind_of q past e x.0 x.1) as (λ o.
        length (filter (has_in_set q p d) (cons_option (firing_of (length past) x.0 x.1 (firing_set q.mode x.1 left) o) (filter_map (does q past e) xs)))
        ≡ length (cond (is_some o && (shows q.shape p x.0 && holds d left)) (x ∷ rest) rest)) [
          | None ↦ counted xs
          | Some kind ↦
              let firing : Firing = record { turn = length past; kind = kind; place = x.0; contents = x.1; fired = firing_set q.mode x.1 left } in
              ap (λ (m : Mode). length (cond (shows q.shape p x.0 && holds d (firing_set m x.1 left)) (firing ∷ sets) sets)) discarding
              ∙ elim (shows q.shape p x.0 && holds d left) as (λ b. length (cond b (firing ∷ sets) sets) ≡ length (cond b (x ∷ rest) rest)) [
                | true ↦ ap suc (counted xs)
                | false ↦ counted xs
              ]
        ]

    -- the firing set has the record where the pane has it and it wasn't shown
    in_set : (x : Place × List Datum) → (fires x && (shows q.shape p x.0 && holds d (unshown_of q past x.0 x.1))) ≡ (not (is_shown q past p d) && hits x)
    in_set x =
        elim (shows q.shape p x.0) as (λ b. shows q.shape p x.0 ≡ b → (fires x && (b && holds d (unshown_of q past x.0 x.1))) ≡ (fires x && (b && (not (is_shown q past p d) && holds d x.1)))) [
          | true ↦ λ h. ap (λ (c : Bool). fires x && c) (holds_unshown q past x.0 d x.1 ∙ ap (λ (c : Bool). not c && holds d x.1) (sym (shown_alike q past p x.0 d h)))
          | false ↦ λ h. refl
        ] refl
        ∙ gathered (fires x) (shows q.shape p x.0) (not (is_shown q past p d)) (holds d x.1)

    -- panes that show the place and have the record are one
    one_hit : (x y : Place × List Datum) → IsPane q (e ∷ past) x → IsPane q (e ∷ past) y → hits x ≡ true → hits y ≡ true → x.0 ≡ y.0
    one_hit x y is_x is_y h k =
        let (shows_x, has_x) = and_parts _ _ (and_parts (fires x) _ h).1 in
        let (shows_y, has_y) = and_parts _ _ (and_parts (fires y) _ k).1 in
        let (z, alone, turn) = held_one _ d (contents q (e ∷ past) x.0) (own (e ∷ past) x.0 is_x.1) (ap (holds d) (sym is_x.0) ∙ has_x) in
        let joint : shows q.shape x.0 y.0 ≡ true = shows_on q.shape x.0 p y.0 (shows_back q.shape p x.0 shows_x) shows_y in
        let has_z : holds z (contents q (e ∷ past) y.0) ≡ true = (λ i. list_any (λ w. nat_eq w.turn (turn i)) (sym is_y.0 i)) ∙ has_y in
        tie_is x.0 y.0 (sym (alone y.0 is_y.1) ∙ (λ i. joint i && has_z i))

    -- a turn has the record in one firing set where it shows it and it wasn't shown
    on_turn : length (filter (has_in_set q p d) (firings q past e)) ≡ cond (is_shown q past p d) 0 (once_if (list_any hits (panes q (e ∷ past))))
    on_turn =
        ap (λ (fs : List Firing). length (filter (has_in_set q p d) fs)) (firings_are q past e)
        ∙ counted (panes q (e ∷ past))
        ∙ ap (length {A = Place × List Datum}) (filter-each _ (λ x. not (is_shown q past p d) && hits x) (panes q (e ∷ past)) (all-any _ in_set (panes q (e ∷ past))))
        ∙ elim (is_shown q past p d) as (λ b. length (filter (λ x. not b && hits x) (panes q (e ∷ past))) ≡ cond b 0 (once_if (list_any hits (panes q (e ∷ past))))) [
          | true ↦ ap (length {A = Place × List Datum}) (none_of (λ x. false) (panes q (e ∷ past)) (all-any (λ x. false ≡ false) (λ x. refl) (panes q (e ∷ past))))
          | false ↦
              one_passes (IsPane q (e ∷ past)) hits one_hit (panes q (e ∷ past)) (each_pane q (e ∷ past))
              (sorted_distinct (panes q (e ∷ past)) (as_true _ (is_sorted-with_contents (contents q (e ∷ past)) (places q (e ∷ past)))))
        ]

  summed : (before now : Bool) → once_if before + cond before 0 (once_if now) ≡ once_if (before || now)
  summed true now = refl
  summed false true = refl
  summed false false = refl

  -- a record is in one firing set where it is shown, and in none where it isn't
  pub fired_where_shown : (past : List Event) (p : Place) (d : Datum) → times_fired q past p d ≡ once_if (is_shown q past p d)
  fired_where_shown [] p d = refl
  fired_where_shown (e ∷ past) p d =
      ap (length {A = Firing}) (filter-append (has_in_set q p d) (firings_so_far q past) (firings q past e))
      ∙ length-append (filter (has_in_set q p d) (firings_so_far q past)) (filter (has_in_set q p d) (firings q past e))
      ∙ (λ i. fired_where_shown past p d i + on_turn past e p d i)
      ∙ summed (is_shown q past p d) (list_any (hits past e p d) (panes q (e ∷ past)))
      ∙ ap (λ (b : Bool). once_if (is_shown q past p d || b)) (sym (shown_now q past e p d))
