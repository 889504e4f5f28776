-- What is told of the relation, row by row, and what its streams write.
use Rattle.std.proofs.Common.{◌≡◌, ◌≢◌, ◌⊎◌, ℕ, suc, ◌+◌, ◌≤◌, ◌<◌, true, false, List, [], ◌∷◌, map, length, refl, sym, ap, subst, ◌∙◌, inl, inr, arith}
use Rattle.std.specs.Prelude.{ℤ, pos, negsuc, ◌-ℤ◌, ◌<ℤ◌}
use Rattle.std.specs.Ordering.{int_eq}
use Rattle.std.proofs.lemmas.Bool.{cases_Bool}
use Rattle.std.proofs.lemmas.Int.{ints}
use Rattle.wsm_record.specs.declared.cell.Cell.{Cell}
use Rattle.wsm_record.specs.declared.words.Form.{Form}
use Rattle.wsm_record.specs.declared.words.Form.TheVariants as form
use Rattle.wsm_semantics.specs.Relation.{sorted_rows, difference}
use Rattle.wsm_semantics.specs.Relation.{stream_rows}
use Rattle.wsm_relation.specs.Rows.{count_of}
use Rattle.wsm_relation.specs.Delta.{Delta, IsChange, number_of, shifted, gains, losses, changed_rows, changed_row}
use Rattle.wsm_relation.specs.declared.changes.Side.{Side}
use Rattle.wsm_relation.specs.declared.changes.Side.TheVariants.{Gained, Lost, Standing}
use Rattle.wsm_semantics.proofs.RowBags.{count-sorted_rows, sorted_rows-in_order}
use Rattle.wsm_relation.proofs.Numbers.{is_zero, shifted-delta}
use Rattle.wsm_relation.proofs.Copies.{gains-difference, losses-difference}
use Rattle.wsm_semantics.proofs.RowsBound.{length-sorted_rows}
use Rattle.wsm_relation.proofs.ToldChanges.{length-difference, few_numbers, undone_is, number_high, number_low, one_number_more, change_less, change_more}
use Rattle.wsm_firing.specs.declared.streams.Kept.{Kept}
use Rattle.wsm_firing.specs.declared.streams.Kept.TheVariants.{Changed}
use Rattle.wsm_firing.specs.declared.streams.Kept.TheVariants as kept
use Rattle.wsm_firing.specs.Streams.{AreWithin, HasChanged, HasRoomFor, IsToldOf, relation_before, relation_kept}
use Rattle.wsm_firing.specs.StreamsKept.{HasRoomOfChanges, IsReserved, form_kept, numbers_kept, numbers_after, room_of, side_form}

abbrev pub Rows : Type 0
Rows = List (List Cell)

abbrev pub Numbers : Type 0
Numbers = List (List Cell × ℤ)

-- ---- changes

pub changed_less : (r : List Cell) (es : Numbers) (before rest : Rows) → HasChanged es before (r ∷ rest) → HasChanged (shifted r (negsuc 0) es) before rest
changed_less r es before rest h = record { ordered = h.ordered; delta = shifted-delta r (negsuc 0) es refl h.delta; change = change_less r before rest es h.delta h.change }

pub changed_more : (r : List Cell) (es : Numbers) (before rest : Rows) → HasChanged es before rest → HasChanged (shifted r (pos 1) es) before (r ∷ rest)
changed_more r es before rest h = record { ordered = h.ordered; delta = shifted-delta r (pos 1) es refl h.delta; change = change_more r before rest es h.delta h.change }

module _ (r : List Cell) (es : Numbers) (before rest : Rows) (room most : ℕ) (within : AreWithin room before (r ∷ rest)) (enough : length before + room ≤ most) where
  room_at : (n : ℕ) → (number_of r es ≡ pos 0 → n < most) → (number_of r es ≢ pos 0) ⊎ (n < most)
  room_at n less = elim (cases_Bool (int_eq (number_of r es) (pos 0))) [
    | inl none ↦ inr (less (is_zero (number_of r es) none))
    | inr other ↦ inl (λ is. let k : true ≡ false = sym (ap (λ z. int_eq z (pos 0)) is) ∙ other in cc)
  ]

  pub room_less : HasChanged es before (r ∷ rest) → (number_of r es ≢ pos 0) ⊎ (length es < most)
  room_less h = room_at (length es) (λ none.
      let next = changed_less r es before rest h in
      let few : length (shifted r (negsuc 0) es) ≤ length before + length rest = few_numbers before rest (shifted r (negsuc 0) es) next.delta next.change in
      let one : length (shifted r (negsuc 0) es) ≡ suc (length es) = one_number_more r (negsuc 0) es h.delta none in
      omega (arith, few, one, within.few_now, enough))

  pub room_more : HasChanged es before rest → (number_of r es ≢ pos 0) ⊎ (length es < most)
  room_more h = inr (let few : length es ≤ length before + length rest = few_numbers before rest es h.delta h.change in omega (arith, few, within.few_now, enough))

  pub fits_less : room ≤ 100000 → HasChanged es before (r ∷ rest) → negsuc 9223372036854775807 <ℤ number_of r es
  fits_less few h = let low = number_low before (r ∷ rest) es h.delta h.change r room within.few_before in omega (arith, ints, few, low)

  pub fits_more : room ≤ 100000 → HasChanged es before rest → number_of r es <ℤ pos 9223372036854775807
  fits_more few h = let high = number_high before rest es h.delta h.change r room (omega (arith, within.few_now)) in omega (arith, ints, few, high)

pub changed_none : (now : Rows) → HasChanged [] (sorted_rows now) now
changed_none now = record {
  ordered = sorted_rows-in_order now;
  delta = tt;
  change = λ q. let same : count_of q (sorted_rows now) ≡ count_of q now = count-sorted_rows q now in omega (arith, ints);
}

-- ---- by the side that is written

pub as_changed : (s : Side) (es : Numbers) (before now : Rows) → IsToldOf (side_form s) es before now → HasChanged es before now
as_changed Gained es before now h = h
as_changed Lost es before now h = h
as_changed Standing es before now h = h.changed

-- with what was told of the same relation before
pub as_told : (s : Side) (es fs : Numbers) (before now next : Rows) → IsToldOf (side_form s) es before now → HasChanged fs before next → IsToldOf (side_form s) fs before next
as_told Gained es fs before now next was h = h
as_told Lost es fs before now next was h = h
as_told Standing es fs before now next was h = record { none = was.none; changed = h }

room_for : (s : Side) (n rows capacity : ℕ) → HasRoomFor (side_form s) n rows capacity → rows + n ≤ capacity
room_for Gained n rows capacity h = h
room_for Lost n rows capacity h = h
room_for Standing n rows capacity h = h

-- there is room for the rows before and those now
enough_for : (s : Side) (es : Numbers) (before now : Rows) (room most : ℕ) → most ≡ room_of s room → IsToldOf (side_form s) es before now → length before ≤ room → length before + room ≤ most
enough_for Gained es before now room most is told few = omega (arith, is, few)
enough_for Lost es before now room most is told few = omega (arith, is, few)
enough_for Standing es before now room most is told few = omega (arith, is, ap length told.none)

-- ---- by the form

-- where rows are those of panes nothing is told
pub told_of_panes : (f : Form) (es : Numbers) (before now next : Rows) → f ≡ form.Panes → IsToldOf f es before now → IsToldOf f es before next
told_of_panes f es before now next panes told =
    let none : before ≡ [] = subst (λ (g : Form). IsToldOf g es before now) panes told in
    subst (λ (g : Form). IsToldOf g es before next) (sym panes) none

-- the counts alone matter
changed_same : (es : Numbers) (before now other : Rows) → ((q : List Cell) → count_of q now ≡ count_of q other) → HasChanged es before now → HasChanged es before other
changed_same es before now other same h = record { ordered = h.ordered; delta = h.delta; change = λ q. h.change q ∙ ap (λ n. pos n -ℤ pos (count_of q before)) (same q) }

pub told_same : (f : Form) (es : Numbers) (before now other : Rows) → ((q : List Cell) → count_of q now ≡ count_of q other) → IsToldOf f es before now → IsToldOf f es before other
told_same form.Panes es before now other same h = h
told_same form.Istream es before now other same h = changed_same es before now other same h
told_same form.Dstream es before now other same h = changed_same es before now other same h
told_same form.Rstream es before now other same h = record { none = h.none; changed = changed_same es before now other same h.changed }

-- what was told says what the relation before is
pub before_is : (f : Form) (es : Numbers) (before now : Rows) → IsToldOf f es before now → relation_before f es (sorted_rows now) ≡ before
before_is form.Panes es before now h = sym h
before_is form.Istream es before now h = undone_is before (sorted_rows now) es h.delta (λ q. h.change q ∙ ap (λ n. pos n -ℤ pos (count_of q before)) (sym (count-sorted_rows q now))) h.ordered
before_is form.Dstream es before now h = undone_is before (sorted_rows now) es h.delta (λ q. h.change q ∙ ap (λ n. pos n -ℤ pos (count_of q before)) (sym (count-sorted_rows q now))) h.ordered
before_is form.Rstream es before now h = sym h.none

-- ---- what is written

same_change : (es : Numbers) (before now : Rows) → HasChanged es before now → IsChange before (sorted_rows now) es
same_change es before now h = λ q. h.change q ∙ ap (λ n. pos n -ℤ pos (count_of q before)) (sym (count-sorted_rows q now))

-- a stream is what the definitions say
pub changes_written : (s : Side) (es : Numbers) (before now : Rows) (mark : ℤ) → IsToldOf (side_form s) es before now → map (changed_row s mark) (changed_rows s es) ≡ stream_rows (side_form s) mark before (sorted_rows now)
changes_written Gained es before now mark h = ap (map (changed_row Gained mark)) (gains-difference before (sorted_rows now) es h.delta (same_change es before now h) (sorted_rows-in_order now))
changes_written Lost es before now mark h = ap (map (changed_row Lost mark)) (losses-difference before (sorted_rows now) es h.delta (same_change es before now h) h.ordered)
changes_written Standing es before now mark h =
    let c = h.changed in
    ap (map (changed_row Standing mark)) (gains-difference before (sorted_rows now) es c.delta (same_change es before now c) (sorted_rows-in_order now) ∙ ap (difference (sorted_rows now)) h.none)

-- it has no more rows than there is room for
gains_few : (es : Numbers) (before now : Rows) (room : ℕ) → HasChanged es before now → AreWithin room before now → length (gains es) ≤ room
gains_few es before now room h w =
    let same : gains es ≡ difference (sorted_rows now) before = gains-difference before (sorted_rows now) es h.delta (same_change es before now h) (sorted_rows-in_order now) in
    omega (arith, ap length same, length-difference (sorted_rows now) before, length-sorted_rows now, w.few_now)

pub changes_few : (s : Side) (es : Numbers) (before now : Rows) (room : ℕ) → HasChanged es before now → AreWithin room before now → length (changed_rows s es) ≤ room
changes_few Gained es before now room h w = gains_few es before now room h w
changes_few Standing es before now room h w = gains_few es before now room h w
changes_few Lost es before now room h w =
    let same : losses es ≡ difference before (sorted_rows now) = losses-difference before (sorted_rows now) es h.delta (same_change es before now h) h.ordered in
    omega (arith, ap length same, length-difference before (sorted_rows now), w.few_before)

-- the next instant
pub told_on : (s : Side) (es : Numbers) (before now : Rows) → IsToldOf (side_form s) es before now → IsToldOf (side_form s) (numbers_after s es) (relation_kept (side_form s) before (sorted_rows now)) now
told_on Gained es before now told = changed_none now
told_on Lost es before now told = changed_none now
told_on Standing es before now told = told

-- ---- by what is kept

abbrev pub IsToldBy : Kept → Rows → Rows → Type 0
IsToldBy k before now = IsToldOf (form_kept k) (numbers_kept k) before now

module _ (k : Kept) (s : Side) (changes : Delta) (is : k ≡ Changed s changes) where
  told_by : (before now : Rows) → IsToldBy k before now → IsToldOf (side_form s) changes.numbers before now
  told_by before now told = subst (λ j. IsToldBy j before now) is told

  pub changed_by : (before now : Rows) → IsToldBy k before now → HasChanged changes.numbers before now
  changed_by before now told = as_changed s changes.numbers before now (told_by before now told)

  pub changes_lost : (row : List Cell) (t : Delta) → t ≡ record changes { numbers = shifted row (negsuc 0) changes.numbers } → (before now : Rows) → IsToldBy k before (row ∷ now) → IsToldBy (Changed s t) before now
  changes_lost row t told-is before now told =
      subst (λ (u : Delta). IsToldOf (side_form s) u.numbers before now) (sym told-is)
      (as_told s changes.numbers (shifted row (negsuc 0) changes.numbers) before (row ∷ now) now (told_by before (row ∷ now) told) (changed_less row changes.numbers before now (changed_by before (row ∷ now) told)))

  pub changes_gained : (row : List Cell) (t : Delta) → t ≡ record changes { numbers = shifted row (pos 1) changes.numbers } → (before now : Rows) → IsToldBy k before now → IsToldBy (Changed s t) before (row ∷ now)
  changes_gained row t told-is before now told =
      subst (λ (u : Delta). IsToldOf (side_form s) u.numbers before (row ∷ now)) (sym told-is)
      (as_told s changes.numbers (shifted row (pos 1) changes.numbers) before now (row ∷ now) (told_by before now told) (changed_more row changes.numbers before now (changed_by before now told)))

  pub changes_on : (t : Delta) → t ≡ record changes { numbers = numbers_after s changes.numbers } → (before now : Rows) → IsToldBy k before now → IsToldBy (Changed s t) (relation_kept (form_kept k) before (sorted_rows now)) now
  changes_on t told-is before now told =
      subst (λ (x : Delta × Kept). IsToldOf (side_form s) x.0.numbers (relation_kept (form_kept x.1) before (sorted_rows now)) now) (λ i. (sym told-is i, sym is i)) (told_on s changes.numbers before now (told_by before now told))

  pub changes_rows : (before now : Rows) (mark : ℤ) → IsToldBy k before now → map (changed_row s mark) (changed_rows s changes.numbers) ≡ stream_rows (form_kept k) mark before (sorted_rows now)
  changes_rows before now mark told = changes_written s changes.numbers before now mark (told_by before now told) ∙ ap (λ (j : Kept). stream_rows (form_kept j) mark before (sorted_rows now)) (sym is)

  pub room_of_changes : (room : ℕ) → IsReserved room k → HasRoomOfChanges s room changes
  room_of_changes room h = subst (IsReserved room) is h

  pub enough_of : (room : ℕ) (before now : Rows) → IsReserved room k → IsToldBy k before now → length before ≤ room → length before + room ≤ changes.room
  enough_of room before now h told few = enough_for s changes.numbers before now room changes.room (room_of_changes room h).enough (told_by before now told) few

  pub room_for_changes : (n rows capacity : ℕ) → HasRoomFor (form_kept k) n rows capacity → rows + n ≤ capacity
  room_for_changes n rows capacity h = room_for s n rows capacity (subst (λ j. HasRoomFor (form_kept j) n rows capacity) is h)

-- where nothing is kept nothing is told, and nothing written
module _ (k : Kept) (is : k ≡ kept.Nothing) where
  pub nothing_told : (before now next : Rows) → IsToldBy k before now → IsToldBy k before next
  nothing_told before now next told = told_of_panes (form_kept k) (numbers_kept k) before now next (ap form_kept is) told

  pub nothing_on : (before now : Rows) → IsToldBy k before now → IsToldBy k (relation_kept (form_kept k) before (sorted_rows now)) now
  nothing_on before now told = subst (λ (j : Kept). IsToldBy j (relation_kept (form_kept j) before (sorted_rows now)) now) (sym is) (subst (λ (j : Kept). IsToldBy j before now) is told)

  pub nothing_written : (before now : Rows) (mark : ℤ) → [] ≡ stream_rows (form_kept k) mark before (sorted_rows now)
  nothing_written before now mark = ap (λ (j : Kept). stream_rows (form_kept j) mark before (sorted_rows now)) (sym is)
