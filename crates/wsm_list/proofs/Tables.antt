-- What an edit of the sorted list does to the map that it stands for.
use Rattle.std.proofs.Common.{◌≡◌, List, [], length, Bool, true, false, cond, None, sym, refl, ap, ◌∙◌}
use Rattle.std.specs.Prelude.{filter, not}
use Rattle.std.specs.Ordering.{eq_by_cmp}
use Rattle.std.specs.Cmp.{eq_by_cmp_equiv}
use Rattle.std.specs.declared.cmp.Ordering.TheVariants.{Equal}
use Rattle.std.specs.FinMap.{FinMap, empty, empty_of_len, entries, find, from_sorted, get, insert, is_sorted, len, put, remove, retain_keys, entries-from_sorted, entries-insert, get-from_sorted, get-remove, get-retain_keys, get-entries, len-entries, entries_sorted, same_entries_map, same_map}
use Rattle.std.specs.FinMap.Entries.{where_key, same_entries, find-where_key, is_sorted-put, is_sorted-where_key}
use Rattle.wsm_windows.specs.declared.place.Place.{Place}
use Rattle.wsm_windows.specs.Places.{place_cmp}
use Rattle.wsm_windows.proofs.Places.{places_exact, places_total}
use Rattle.wsm_list.specs.Recorded.{is_other}
use Rattle.wsm_semantics.proofs.Each.{as_true}
use Rattle.wsm_slots.proofs.Order.{to_T}

turned : {A : Type 0} (b : Bool) (x y : A) → cond (not b) x y ≡ cond b y x
turned true x y = refl
turned false x y = refl

pub alike : (p : Place → Bool) (q x : Place) → place_cmp q x ≡ Equal → p x ≡ p q
alike p q x t = ap p (sym (places_exact q x t))

abbrev pub map_of : {P : Type 0} → List (Place × P) → FinMap place_cmp P
map_of es = from_sorted es

module _ {P : Type 0} (es : List (Place × P)) (sorted : is_sorted place_cmp es ≡ true) where
  pub entries_are : entries (map_of es) ≡ es
  entries_are = entries-from_sorted place_cmp es (to_T _ sorted)

  pub get_is : (q : Place) → get (map_of es) q ≡ find place_cmp q es
  get_is q = get-from_sorted place_cmp es q (to_T _ sorted)

  pub len_is : len (map_of es) ≡ length es
  len_is = len-entries (map_of es) ∙ ap length entries_are

  pub put_sorted : (k : Place) (v : P) → is_sorted place_cmp (put place_cmp k v es) ≡ true
  put_sorted k v = as_true _ (is_sorted-put place_cmp places_total k v es (to_T _ sorted))

  pub put_is : (k : Place) (v : P) → map_of (put place_cmp k v es) ≡ insert (map_of es) k v
  put_is k v = same_entries_map _ _ (entries-from_sorted place_cmp _ (to_T _ (put_sorted k v)) ∙ sym (entries-insert places_total (map_of es) k v ∙ ap (put place_cmp k v) entries_are))

  pub kept_sorted : (p : Place → Bool) → is_sorted place_cmp (filter (λ e. p e.0) es) ≡ true
  kept_sorted p = as_true _ (is_sorted-where_key place_cmp p es (to_T _ sorted))

  pub kept_is : (p : Place → Bool) → map_of (filter (λ e. p e.0) es) ≡ retain_keys (map_of es) p
  kept_is p = same_map places_total places_exact _ _ (λ q.
      get-from_sorted place_cmp _ q (to_T _ (kept_sorted p)) ∙ find-where_key place_cmp p q (alike p q) es
      ∙ sym (get-retain_keys (map_of es) p q (alike p q) ∙ ap (λ o. cond (p q) o None) (get_is q)))

  pub others_are : (k : Place) → map_of (filter (λ e. is_other k e.0) es) ≡ remove (map_of es) k
  others_are k = kept_is (is_other k) ∙ same_map places_total places_exact _ _ (λ q.
      get-retain_keys (map_of es) (is_other k) q (alike (is_other k) q) ∙ turned (eq_by_cmp place_cmp k q) _ _
      ∙ ap (λ b. cond b None (get (map_of es) q)) ((eq_by_cmp_equiv places_total).symm k q)
      ∙ sym (get-remove places_total (map_of es) k q))

pub map_of-nil : {P : Type 0} → map_of {P = P} [] ≡ empty
map_of-nil {P = P} = empty_of_len (map_of {P = P} []) (len_is {P = P} [] refl)

-- the entries of what is left where places pass a test
pub entries_kept : {P : Type 0} (m : FinMap place_cmp P) (p : Place → Bool) → entries (retain_keys m p) ≡ where_key place_cmp p (entries m)
entries_kept m p = same_entries place_cmp places_total places_exact _ _
    (entries_sorted (retain_keys m p))
    (is_sorted-where_key place_cmp p (entries m) (entries_sorted m))
    (λ q.
    sym (get-entries (retain_keys m p) q)
    ∙ get-retain_keys m p q (alike p q)
    ∙ ap (λ o. cond (p q) o None) (get-entries m q)
    ∙ sym (find-where_key place_cmp p q (alike p q) (entries m)))

pub entries_none : {P : Type 0} → entries (empty {K = Place} {X = P} {R = place_cmp}) ≡ []
entries_none {P = P} = sym (ap entries (map_of-nil {P = P})) ∙ entries_are {P = P} [] refl
