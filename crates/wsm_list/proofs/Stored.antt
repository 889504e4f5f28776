-- What an edit of a row of slots, or of a slot, does to what is shown of them.
use Rattle.std.proofs.Common.{◌≡◌, ◌≢◌, ◌<◌, ◌≤◌, ℕ, zero, suc, true, Option, Some, None, List, [], ◌∷◌, length, set, drop, refl, sym, ap, subst, ◌∙◌, inl, inr, arith}
use Rattle.std.proofs.lemmas.Bool.{true≢false, cases_eq}
use Rattle.std.proofs.lemmas.List.{get_or-set_same, get_or-set_other}
use Rattle.std.specs.Prelude.{insert, slice_get}
use Rattle.std.specs.List.{remove}
use Rattle.std.specs.Option.{is_some}
use Rattle.wsm_slots.specs.Slots.{slot_at}
use Rattle.wsm_list.specs.Stored.{AreIn, listed, same, shown, with_entry}
use Rattle.wsm_list.proofs.SlotRows.{apart_same, listed_at, same_self}

-- ---- what is shown

some_of : {X : Type 0} (o : Option X) → is_some o ≡ true → (x : X) × (o ≡ Some x)
some_of None h = absurd (true≢false (sym h))
some_of (Some x) h = (x, refl)

module _ {X : Type 0} (os : List (Option X)) where
  shown_cons : (s : ℕ) (row : List ℕ) → is_some (slot_at os s) ≡ true → (x : X) × ((slot_at os s ≡ Some x) × (shown os (s ∷ row) ≡ x ∷ shown os row))
  shown_cons s row h = let there = some_of (slot_at os s) h in (there.0, (there.1, ap (λ o. with_entry o (shown os row)) there.1))

  pub shown_length : (row : List ℕ) → AreIn os row → length (shown os row) ≡ length row
  shown_length [] h = refl
  shown_length (s ∷ row) h = ap length (shown_cons s row h.0).1.1 ∙ ap suc (shown_length row h.1)

  pub in_row : (row : List ℕ) (i s : ℕ) → AreIn os row → slice_get row i ≡ Some s → is_some (slot_at os s) ≡ true
  in_row [] i s h at = absurd (true≢false (sym (ap is_some at)))
  in_row (r ∷ row) zero s h at = let is : r ≡ s = cc in subst (λ n. is_some (slot_at os n) ≡ true) is h.0
  in_row (r ∷ row) (suc i) s h at = in_row row i s h.1 at

  pub shown_at : (row : List ℕ) (i s : ℕ) → AreIn os row → slice_get row i ≡ Some s → slice_get (shown os row) i ≡ slot_at os s
  shown_at [] i s h at = absurd (true≢false (sym (ap is_some at)))
  shown_at (r ∷ row) zero s h at = let is : r ≡ s = cc in let here = shown_cons r row h.0 in ap (λ es. slice_get es 0) here.1.1 ∙ sym here.1.0 ∙ ap (slot_at os) is
  shown_at (r ∷ row) (suc i) s h at = ap (λ es. slice_get es (suc i)) (shown_cons r row h.0).1.1 ∙ shown_at row i s h.1 at

  -- ---- slots leave the row

  pub in_drop : (n : ℕ) (row : List ℕ) → AreIn os row → AreIn os (drop n row)
  in_drop zero row h = h
  in_drop (suc n) [] h = tt
  in_drop (suc n) (s ∷ row) h = in_drop n row h.1

  pub shown_drop : (n : ℕ) (row : List ℕ) → AreIn os row → shown os (drop n row) ≡ drop n (shown os row)
  shown_drop zero row h = refl
  shown_drop (suc n) [] h = refl
  shown_drop (suc n) (s ∷ row) h = shown_drop n row h.1 ∙ sym (ap (drop (suc n)) (shown_cons s row h.0).1.1)

  pub in_remove : (i : ℕ) (row : List ℕ) → AreIn os row → AreIn os (remove row i)
  in_remove zero [] h = tt
  in_remove (suc i) [] h = tt
  in_remove zero (s ∷ row) h = h.1
  in_remove (suc i) (s ∷ row) h = (h.0, in_remove i row h.1)

  pub shown_remove : (i : ℕ) (row : List ℕ) → AreIn os row → shown os (remove row i) ≡ remove (shown os row) i
  shown_remove zero [] h = refl
  shown_remove (suc i) [] h = refl
  shown_remove zero (s ∷ row) h = sym (ap (λ es. remove es 0) (shown_cons s row h.0).1.1)
  shown_remove (suc i) (s ∷ row) h =
      let here = shown_cons s row h.0 in
      ap (λ o. with_entry o (shown os (remove row i))) here.1.0 ∙ ap (λ es. here.0 ∷ es) (shown_remove i row h.1) ∙ sym (ap (λ es. remove es (suc i)) here.1.1)

  -- ---- a slot is written

  module _ (k : ℕ) (x : X) (within : k < length os) where
    abbrev pub written : List (Option X)
    written = set os k (Some x)

    here_then : slot_at written k ≡ Some x
    here_then = get_or-set_same os k (Some x) None within

    others_then : (s : ℕ) → s ≢ k → slot_at written s ≡ slot_at os s
    others_then s other = get_or-set_other os k s (Some x) None other

    some_then : (s : ℕ) → is_some (slot_at os s) ≡ true → is_some (slot_at written s) ≡ true
    some_then s some = elim (cases_eq s k) [
      | inl same ↦ rw same (ap is_some here_then)
      | inr other ↦ ap is_some (others_then s other) ∙ some
    ]

    pub in_written : (row : List ℕ) → AreIn os row → AreIn written row
    in_written [] h = tt
    in_written (s ∷ row) h = (some_then s h.0, in_written row h.1)

    shown_others : (row : List ℕ) → listed k row ≡ 0 → shown written row ≡ shown os row
    shown_others [] h = refl
    shown_others (s ∷ row) h =
        let apart : same s k ≡ 0 = omega (arith, h) in
        let rest : listed k row ≡ 0 = omega (arith, h) in
        λ i. with_entry (others_then s (apart_same s k apart) i) (shown_others row rest i)

    -- the entry of the slot is set
    pub shown_set : (i : ℕ) (row : List ℕ) → AreIn os row → slice_get row i ≡ Some k → listed k row ≡ 1 → shown written row ≡ set (shown os row) i x
    shown_set i [] h at once = absurd (true≢false (sym (ap is_some at)))
    shown_set zero (s ∷ row) h at once =
        let is : s ≡ k = cc in
        let one : same s k ≡ 1 = rw is (same_self k) in
        let rest : listed k row ≡ 0 = omega (arith, once, one) in
        (λ j. with_entry ((ap (slot_at written) is ∙ here_then) j) (shown_others row rest j)) ∙ sym (ap (λ es. set es 0 x) (shown_cons s row h.0).1.1)
    shown_set (suc i) (s ∷ row) h at once =
        let was = shown_cons s row h.0 in
        let some = listed_at i k row at in
        let apart : same s k ≡ 0 = omega (arith, once, some) in
        let rest : listed k row ≡ 1 = omega (arith, once, some) in
        (λ j. with_entry ((others_then s (apart_same s k apart) ∙ was.1.0) j) (shown_set i row h.1 at rest j)) ∙ sym (ap (λ es. set es (suc i) x) was.1.1)

    -- the slot comes into the row with its entry
    pub in_insert : (i : ℕ) (row : List ℕ) → AreIn os row → i ≤ length row → AreIn written (insert row i k)
    in_insert zero [] h fits = (ap is_some here_then, tt)
    in_insert zero (s ∷ row) h fits = (ap is_some here_then, in_written (s ∷ row) h)
    in_insert (suc i) [] h fits = absurd (omega (arith, fits))
    in_insert (suc i) (s ∷ row) h fits = (some_then s h.0, in_insert i row h.1 (omega (arith, fits)))

    pub shown_insert : (i : ℕ) (row : List ℕ) → AreIn os row → i ≤ length row → listed k row ≡ 0 → shown written (insert row i k) ≡ insert (shown os row) i x
    shown_insert zero [] h fits none = ap (λ o. with_entry o []) here_then
    shown_insert zero (s ∷ row) h fits none = (λ j. with_entry (here_then j) (shown_others (s ∷ row) none j)) ∙ ap (λ es. x ∷ es) (shown_cons s row h.0).1.1 ∙ sym (ap (λ es. insert es 0 x) (shown_cons s row h.0).1.1)
    shown_insert (suc i) [] h fits none = absurd (omega (arith, fits))
    shown_insert (suc i) (s ∷ row) h fits none =
        let was = shown_cons s row h.0 in
        let apart : same s k ≡ 0 = omega (arith, none) in
        let rest : listed k row ≡ 0 = omega (arith, none) in
        (λ j. with_entry ((others_then s (apart_same s k apart) ∙ was.1.0) j) (shown_insert i row h.1 (omega (arith, fits)) rest j)) ∙ sym (ap (λ es. insert es (suc i) x) was.1.1)
