-- The windows of each key, once a pane is put or left out.
use Rattle.std.proofs.Common.{◌≡◌, ◌≢◌, ◌+◌, ℕ, suc, Bool, true, false, cond, List, [], ◌∷◌, map, length, Option, Some, None, refl, sym, ap, ◌∙◌, arith}
use Rattle.std.proofs.lemmas.Bool.{true≢false, and_parts}
use Rattle.std.specs.Prelude.{filter, nat_eq}
use Rattle.std.specs.Option.{is_some}
use Rattle.std.specs.Ordering.{is_eq}
use Rattle.std.specs.declared.cmp.Ordering.{Ordering}
use Rattle.std.specs.declared.cmp.Ordering.TheVariants.{Less, Equal, Greater}
use Rattle.std.specs.FinMap.Entries.{put, find, by_order, is_sorted, length-put}
use Rattle.wsm_record.specs.declared.event.Value.{Value}
use Rattle.wsm_record.specs.declared.words.Kind.{Kind}
use Rattle.wsm_windows.specs.declared.window.Window.{Window}
use Rattle.wsm_windows.specs.declared.place.Place.{Place}
use Rattle.wsm_windows.specs.Places.{place_cmp, window_of}
use Rattle.wsm_windows.proofs.Places.{places_total}
use Rattle.wsm_semantics.specs.Query.{Datum}
use Rattle.wsm_semantics.specs.Summaries.{Pane, with_record}
use Rattle.wsm_slots.specs.Panes.{taking, windows_of_key, with_one_more}
use Rattle.wsm_slots.proofs.Order.{to_T}

-- which record it is doesn't matter, beside the values
pub any_datum : (kinds : List Kind) (values : List Value) (d : Datum) (pane : Option (Pane (List Value))) → with_one_more kinds values pane ≡ with_record (taking kinds values) d pane
any_datum kinds values d None = refl
any_datum kinds values d (Some h) = by h.folded refl where
  by : (o : Option (List Value)) → h.folded ≡ o → with_one_more kinds values (Some h) ≡ with_record (taking kinds values) d (Some h)
  by None is = rw is refl
  by (Some xs) is = rw is refl

abbrev windows_chosen : {X : Type 0} → ℕ → Bool → Place × X → List (Place × X) → List Window
windows_chosen k b f fs = map (λ e. window_of e.0) (cond b (f ∷ filter (λ e. nat_eq k e.0.key) fs) (filter (λ e. nat_eq k e.0.key) fs))

-- a pane put where one is leaves the windows of each key
pub windows_replaced : {X : Type 0} (k : ℕ) (p : Place) (v : X) (es : List (Place × X)) → is_sorted place_cmp es ≡ true → is_some (find place_cmp p es) ≡ true → windows_of_key k (put place_cmp p v es) ≡ windows_of_key k es
windows_replaced k p v [] sorted there = absurd (true≢false (sym there))
windows_replaced {X = X} k p v (e ∷ es) sorted there = by (place_cmp p e.0) refl (length-put place_cmp places_total p v (e ∷ es) (to_T _ sorted) ∙ ap (λ b. cond b (suc (length es)) (suc (length es) + 1)) there) there (windows_replaced k p v es (and_parts _ _ sorted).1) where
  by : (o : Ordering) → place_cmp p e.0 ≡ o → length (by_order o ((p, v) ∷ e ∷ es) ((e.0, v) ∷ es) (e ∷ put place_cmp p v es)) ≡ suc (length es) → is_some (cond (is_eq o) (Some e.1) (find place_cmp p es)) ≡ true
      → (is_some (find place_cmp p es) ≡ true → windows_of_key k (put place_cmp p v es) ≡ windows_of_key k es)
      → windows_of_key k (by_order o ((p, v) ∷ e ∷ es) ((e.0, v) ∷ es) (e ∷ put place_cmp p v es)) ≡ windows_of_key k (e ∷ es)
  by Less is long found rest = absurd (omega (arith, long))
  by Equal is long found rest = elim (nat_eq k e.0.key) as (λ b. windows_chosen k b ((e.0, v)) es ≡ windows_chosen k b e es) [ true ↦ refl | false ↦ refl ]
  by Greater is long found rest = elim (nat_eq k e.0.key) as (λ b. windows_chosen k b e (put place_cmp p v es) ≡ windows_chosen k b e es) [
    | true ↦ ap (λ (ws : List Window). window_of e.0 ∷ ws) (rest found)
    | false ↦ rest found
  ]
