-- The least entry behind a place, told by look-ups.
use Rattle.std.proofs.Common.{◌≡◌, ◌≢◌, true, false, T, Option, Some, None, List, [], ◌∷◌, refl, sym, ap, ◌∙◌, inl, inr}
use Rattle.std.specs.Prelude.{ℤ, slice_get}
use Rattle.std.proofs.lemmas.Bool.{cases_Bool}
use Rattle.std.proofs.lemmas.Option.{none-some, same_Some}
use Rattle.std.specs.declared.cmp.Ordering.TheVariants.{Less}
use Rattle.std.specs.FinMap.{FinMap, find, is_sorted, get, entries, get-entries, entries_sorted}
use Rattle.std.specs.FinMap.Entries.{below_all}
use Rattle.std.specs.Ordering.{is_lt, eq_by_cmp}
use Rattle.wsm_windows.specs.declared.place.Place.{Place}
use Rattle.wsm_windows.specs.Places.{place_cmp}
use Rattle.wsm_windows.proofs.Places.{tie_is}
use Rattle.wsm_slots.specs.Place.{is_kept}
use Rattle.wsm_slots.specs.Walk.{first_past, following}
use Rattle.wsm_ring.proofs.Apart.{apart_place}
use Rattle.wsm_slots.proofs.Order.{lesser, first_of_and, second_of_and}
use Rattle.wsm_semantics.proofs.Assigned.{tied}

module _ {P : Type 0} where
  -- the first entry is found, and so is what a list finds behind it
  pub find_head : (f : Place × P) (fs : List (Place × P)) → find place_cmp f.0 (f ∷ fs) ≡ Some f.1
  find_head f fs = rw (tied f.0 f.0 refl) refl

  find_more : (q : Place) (f : Place × P) (fs : List (Place × P)) → find place_cmp q fs ≢ None → find place_cmp q (f ∷ fs) ≢ None
  find_more q f fs some none = elim (cases_Bool (eq_by_cmp place_cmp q f.0)) [
    | inl tie ↦ let bad : Some f.1 ≡ None = rw tie at none in cc
    | inr apart ↦ some (rw apart at none)
  ]

  above_head : (x q : Place) (fs : List (Place × P)) → T (below_all place_cmp x fs) → find place_cmp q fs ≢ None → place_cmp x q ≡ Less
  above_head x q [] below some = absurd (some refl)
  above_head x q (f ∷ fs) below some = elim (cases_Bool (eq_by_cmp place_cmp q f.0)) [
    | inl tie ↦ rw (tie_is q f.0 tie) (lesser (place_cmp x f.0) (first_of_and (is_lt (place_cmp x f.0)) _ below))
    | inr apart ↦ above_head x q fs (second_of_and (is_lt (place_cmp x f.0)) _ below) (λ none. some (rw apart none))
  ]

  some_there : (o : Option P) (v : P) → o ≡ Some v → o ≢ None
  some_there o v is none = none-some v (sym none ∙ is)

  -- the head of a list, where it is no less than another entry that is no less than it
  head_is : (e f : Place × P) (fs : List (Place × P)) → T (below_all place_cmp f.0 fs) → find place_cmp e.0 (f ∷ fs) ≡ Some e.1 → place_cmp f.0 e.0 ≢ Less → Some f ≡ Some e
  head_is e f fs below at no_less = elim (cases_Bool (eq_by_cmp place_cmp e.0 f.0)) [
    | inl tie ↦
        let value : f.1 ≡ e.1 = same_Some _ _ (rw tie at at) in
        let place : e.0 ≡ f.0 = tie_is e.0 f.0 tie in
        λ i. Some (sym place i, value i)
    | inr apart ↦ absurd (no_less (above_head f.0 e.0 fs below (some_there _ e.1 (rw apart at at))))
  ]

  least_of : (es : List (Place × P)) (e : Place × P) → T (is_sorted place_cmp es) → find place_cmp e.0 es ≡ Some e.1 → ((q : Place) → find place_cmp q es ≢ None → place_cmp q e.0 ≢ Less) → slice_get es 0 ≡ Some e
  least_of [] e sorted at least = absurd (none-some e.1 at)
  least_of (f ∷ fs) e sorted at least = head_is e f fs (first_of_and (below_all place_cmp f.0 fs) _ sorted) at (least f.0 (some_there _ f.1 (find_head f fs)))

  none_of : (es : List (Place × P)) → ((q : Place) → find place_cmp q es ≡ None) → slice_get es 0 ≡ None
  none_of [] none = refl
  none_of (f ∷ fs) none = absurd (none-some f.1 (sym (none f.0) ∙ find_head f fs))

  following_of : (p : Place) (es : List (Place × P)) (e : Place × P) → T (is_sorted place_cmp es) → find place_cmp e.0 es ≡ Some e.1 → place_cmp p e.0 ≡ Less → ((q : Place) → find place_cmp q es ≢ None → place_cmp p q ≡ Less → place_cmp q e.0 ≢ Less) → following p es ≡ Some e
  following_of p [] e sorted at past least = absurd (none-some e.1 at)
  following_of p (f ∷ fs) e sorted at past least = elim (cases_Bool (is_lt (place_cmp p f.0))) [
    | inl behind ↦ rw behind (head_is e f fs (first_of_and (below_all place_cmp f.0 fs) _ sorted) at (least f.0 (some_there _ f.1 (find_head f fs)) (lesser (place_cmp p f.0) (rw behind tt))))
    | inr before ↦
        let other : e.0 ≢ f.0 = λ same. let bad : false ≡ true = sym before ∙ ap is_lt (ap (place_cmp p) (sym same) ∙ past) in cc in
        let rest : find place_cmp e.0 fs ≡ Some e.1 = rw (apart_place e.0 f.0 other) at at in
        rw before (following_of p fs e (second_of_and (below_all place_cmp f.0 fs) _ sorted) rest past (λ q some. least q (find_more q f fs some)))
  ]

  following_end : (p : Place) (es : List (Place × P)) → ((q : Place) → find place_cmp q es ≢ None → place_cmp p q ≢ Less) → following p es ≡ None
  following_end p [] none = refl
  following_end p (f ∷ fs) none = elim (cases_Bool (is_lt (place_cmp p f.0))) [
    | inl behind ↦ absurd (none f.0 (some_there _ f.1 (find_head f fs)) (lesser (place_cmp p f.0) (rw behind tt)))
    | inr before ↦ rw before (following_end p fs (λ q some. none q (find_more q f fs some)))
  ]

  past_of : (after : ℤ) (es : List (Place × P)) (e : Place × P) → T (is_sorted place_cmp es) → find place_cmp e.0 es ≡ Some e.1 → is_kept after e.0 ≡ true → ((q : Place) → find place_cmp q es ≢ None → is_kept after q ≡ true → place_cmp q e.0 ≢ Less) → first_past after es ≡ Some e
  past_of after [] e sorted at past least = absurd (none-some e.1 at)
  past_of after (f ∷ fs) e sorted at past least = elim (cases_Bool (is_kept after f.0)) [
    | inl kept ↦ rw kept (head_is e f fs (first_of_and (below_all place_cmp f.0 fs) _ sorted) at (least f.0 (some_there _ f.1 (find_head f fs)) kept))
    | inr gone ↦
        let other : e.0 ≢ f.0 = λ same. let bad : false ≡ true = sym gone ∙ ap (is_kept after) (sym same) ∙ past in cc in
        let rest : find place_cmp e.0 fs ≡ Some e.1 = rw (apart_place e.0 f.0 other) at at in
        rw gone (past_of after fs e (second_of_and (below_all place_cmp f.0 fs) _ sorted) rest past (λ q some. least q (find_more q f fs some)))
  ]

  pub least_first : (m : FinMap place_cmp P) (e : Place × P) → get m e.0 ≡ Some e.1 → ((q : Place) → get m q ≢ None → place_cmp q e.0 ≢ Less) → slice_get (entries m) 0 ≡ Some e
  least_first m e at least = least_of (entries m) e (entries_sorted m) (sym (get-entries m e.0) ∙ at) (λ q some. least q (λ none. some (sym (get-entries m q) ∙ none)))

  pub none_first : (m : FinMap place_cmp P) → ((q : Place) → get m q ≡ None) → slice_get (entries m) 0 ≡ None
  none_first m none = none_of (entries m) (λ q. sym (get-entries m q) ∙ none q)

  pub least_following : (m : FinMap place_cmp P) (p : Place) (e : Place × P) → get m e.0 ≡ Some e.1 → place_cmp p e.0 ≡ Less → ((q : Place) → get m q ≢ None → place_cmp p q ≡ Less → place_cmp q e.0 ≢ Less) → following p (entries m) ≡ Some e
  least_following m p e at past least = following_of p (entries m) e (entries_sorted m) (sym (get-entries m e.0) ∙ at) past (λ q some. least q (λ none. some (sym (get-entries m q) ∙ none)))

  pub none_following : (m : FinMap place_cmp P) (p : Place) → ((q : Place) → get m q ≢ None → place_cmp p q ≢ Less) → following p (entries m) ≡ None
  none_following m p none = following_end p (entries m) (λ q some. none q (λ h. some (sym (get-entries m q) ∙ h)))

  pub least_past : (m : FinMap place_cmp P) (after : ℤ) (e : Place × P) → get m e.0 ≡ Some e.1 → is_kept after e.0 ≡ true → ((q : Place) → get m q ≢ None → is_kept after q ≡ true → place_cmp q e.0 ≢ Less) → first_past after (entries m) ≡ Some e
  least_past m after e at past least = past_of after (entries m) e (entries_sorted m) (sym (get-entries m e.0) ∙ at) past (λ q some. least q (λ none. some (sym (get-entries m q) ∙ none)))
