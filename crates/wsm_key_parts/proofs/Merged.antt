-- Rows in the order of a turn are what their parts come to as they are merged, where rows of different parts are of
-- different keys.
use Rattle.std.proofs.Common.{◌≡◌, ℕ, zero, suc, Bool, true, false, cond, List, [], ◌∷◌, ◌++◌, length, refl, sym, ap, ◌∙◌, arith}
use Rattle.std.proofs.lemmas.Cmp.{upto, on_total, then_total, nat_cmp_total}
use Rattle.std.proofs.lemmas.Bool.{true≢false}
use Rattle.std.specs.Prelude.{filter, flat_map, Some}
use Rattle.std.specs.Cmp.{IsTotalOrder}
use Rattle.std.specs.List.{AllByRecursion}
use Rattle.std.specs.Ordering.{nat_cmp, is_gt, ordering_reverse}
use Rattle.std.specs.declared.cmp.Ordering.{Ordering}
use Rattle.std.specs.declared.cmp.Ordering.TheVariants.{Less, Equal, Greater}
use Rattle.std.proofs.lemmas.Map.Lookups.{exact_unsigned}
use Rattle.wsm_windows.specs.declared.place.Place.{Place}
use Rattle.wsm_windows.specs.Places.{place_cmp}
use Rattle.wsm_windows.proofs.Places.{places_total, places_exact}
use Rattle.wsm_semantics.specs.declared.out_row.OutRow.{OutRow}
use Rattle.wsm_semantics.specs.declared.out_row.OutRow.TheVariants.{Pane, Retract, Istream, Dstream, Rstream}
use Rattle.wsm_semantics.specs.ByKey.{Keys, is_row_of}
use Rattle.wsm_semantics.proofs.Lists.{filter-all, all-each}
use Rattle.wsm_semantics.proofs.Each.{all-append, all-both, passed}
use Rattle.wsm_semantics.proofs.RowOrder.{not_behind}
use Rattle.wsm_semantics.proofs.Tables.{ordering_then_equal}
use Rattle.wsm_key_parts.specs.Merged.{rank, place_of, turn_cmp, with_row, in_order, merged}

pub turns_total : IsTotalOrder turn_cmp
turns_total = then_total (on_total rank nat_cmp_total) (on_total place_of places_total)

-- ---- rows in order

-- the row is behind none of some
abbrev pub IsFirst : OutRow → List OutRow → Type 0
IsFirst r rows = AllByRecursion (λ x. is_gt (turn_cmp r x) ≡ false) rows

abbrev pub AreInOrder : List OutRow → Type 0
AreInOrder [] = Unit {0}
AreInOrder (r ∷ rows) = IsFirst r rows × AreInOrder rows

pub all_with : (P : OutRow → Type 0) (r : OutRow) (rows : List OutRow) → P r → AllByRecursion P rows → AllByRecursion P (with_row r rows)
all_with P r [] p all = (p, tt)
all_with P r (x ∷ xs) p all =
    elim (is_gt (turn_cmp r x)) as (λ b. AllByRecursion P (cond b (x ∷ with_row r xs) (r ∷ x ∷ xs))) [
      | true ↦ (all.0, all_with P r xs p all.1)
      | false ↦ (p, all)
    ]

pub all_in_order : (P : OutRow → Type 0) (rows : List OutRow) → AllByRecursion P rows → AllByRecursion P (in_order rows)
all_in_order P [] all = tt
all_in_order P (r ∷ rows) all = all_with P r (in_order rows) all.0 (all_in_order P rows all.1)

stays_first : (p r : OutRow) (rows : List OutRow) → is_gt (turn_cmp p r) ≡ false → IsFirst r rows → IsFirst p rows
stays_first p r rows h first = all-each (λ x. is_gt (turn_cmp r x) ≡ false) (λ x. is_gt (turn_cmp p x) ≡ false) rows (λ x k. upto turns_total p r x h k) first

ordered_with : (r : OutRow) (rows : List OutRow) → AreInOrder rows → AreInOrder (with_row r rows)
ordered_with r [] order = (tt, tt)
ordered_with r (x ∷ xs) order =
    elim (is_gt (turn_cmp r x)) as (λ b. is_gt (turn_cmp r x) ≡ b → AreInOrder (cond b (x ∷ with_row r xs) (r ∷ x ∷ xs))) [
      | true ↦ λ h. (all_with (λ y. is_gt (turn_cmp x y) ≡ false) r xs (not_behind turns_total r x h) order.0, ordered_with r xs order.1)
      | false ↦ λ h. ((h, stays_first r x xs h order.0), order)
    ] refl

pub ordered : (rows : List OutRow) → AreInOrder (in_order rows)
ordered [] = tt
ordered (r ∷ rows) = ordered_with r (in_order rows) (ordered rows)

in_front : (r : OutRow) (rows : List OutRow) → IsFirst r rows → with_row r rows ≡ r ∷ rows
in_front r [] first = refl
in_front r (x ∷ xs) first = ap (λ (b : Bool). cond b (x ∷ with_row r xs) (r ∷ x ∷ xs)) first.0

-- rows in order stay as they are
pub still : (rows : List OutRow) → AreInOrder rows → in_order rows ≡ rows
still [] order = refl
still (r ∷ rows) order = ap (with_row r) (still rows order.1) ∙ in_front r rows order.0

-- ---- rows behind another

abbrev put_all : List OutRow → List OutRow → List OutRow
put_all [] rows = rows
put_all (r ∷ rs) rows = with_row r (put_all rs rows)

in_order-append : (xs ys : List OutRow) → in_order (xs ++ ys) ≡ put_all xs (in_order ys)
in_order-append [] ys = refl
in_order-append (x ∷ xs) ys = ap (with_row x) (in_order-append xs ys)

put_behind : (r : OutRow) (xs rows : List OutRow) → AllByRecursion (λ x. is_gt (turn_cmp x r) ≡ true) xs → put_all xs (r ∷ rows) ≡ r ∷ put_all xs rows
put_behind r [] rows behind = refl
put_behind r (x ∷ xs) rows behind =
    ap (with_row x) (put_behind r xs rows behind.1)
    ∙ ap (λ (b : Bool). cond b (r ∷ with_row x (put_all xs rows)) (x ∷ r ∷ put_all xs rows)) behind.0

-- ---- rows of different keys

abbrev told : Keys → ℕ → Place → Bool
told keys zero p = keys (Some p.key)
told keys (suc zero) p = keys (Some p.key)
told keys (suc (suc n)) p = false

told_is : (keys : Keys) (r : OutRow) → is_row_of keys r ≡ told keys (rank r) (place_of r)
told_is keys (Retract key window columns) = refl
told_is keys (Pane kind key window columns) = refl
told_is keys (Istream mark columns) = refl
told_is keys (Dstream mark columns) = refl
told_is keys (Rstream mark columns) = refl

-- rows that tie are of one key
tied_key : (keys : Keys) (a b : OutRow) → turn_cmp a b ≡ Equal → is_row_of keys a ≡ is_row_of keys b
tied_key keys a b tie =
    let both = ordering_then_equal (nat_cmp (rank a) (rank b)) (place_cmp (place_of a) (place_of b)) tie in
    told_is keys a
    ∙ (λ i. told keys (exact_unsigned (rank a) (rank b) both.0 i) (places_exact (place_of a) (place_of b) both.1 i))
    ∙ sym (told_is keys b)

-- a row of another part that isn't before a row is behind it
behind_by : (o : Ordering) → is_gt o ≡ false → (o ≡ Equal → ⊥) → is_gt (ordering_reverse o) ≡ true
behind_by Less h untied = refl
behind_by Equal h untied = absurd (untied refl)
behind_by Greater h untied = absurd (true≢false h)

is_behind : (keys : Keys) (r x : OutRow) → is_gt (turn_cmp r x) ≡ false → is_row_of keys r ≡ false → is_row_of keys x ≡ true → is_gt (turn_cmp x r) ≡ true
is_behind keys r x h other here =
    ap is_gt (turns_total.antisymm x r)
    ∙ behind_by (turn_cmp r x) h (λ tie. true≢false (sym here ∙ sym (tied_key keys r x tie) ∙ other))

-- ---- the merge

module _ {A : Type 0} (keys : A → Keys) where
  -- the rows of some parts, one part after the other
  abbrev pub dealt : List A → List OutRow → List OutRow
  dealt parts rows = flat_map (λ p. filter (is_row_of (keys p)) rows) parts

  -- the row is of one of some parts
  abbrev pub IsOfOne : List A → OutRow → Type 0
  IsOfOne parts r = length (filter (λ p. is_row_of (keys p) r) parts) ≡ 1

  abbrev IsOfNone : List A → OutRow → Type 0
  IsOfNone parts r = length (filter (λ p. is_row_of (keys p) r) parts) ≡ 0

  all_dealt : (P : OutRow → Type 0) (parts : List A) (rows : List OutRow) → AllByRecursion P rows → AllByRecursion P (dealt parts rows)
  all_dealt P [] rows all = tt
  all_dealt P (p ∷ ps) rows all = all-append P (filter (is_row_of (keys p)) rows) (dealt ps rows) (filter-all P (is_row_of (keys p)) rows all) (all_dealt P ps rows all)

  of_none : (r : OutRow) (rows : List OutRow) (parts : List A) → IsOfNone parts r → dealt parts (r ∷ rows) ≡ dealt parts rows
  of_none r rows [] h = refl
  of_none r rows (p ∷ ps) h =
      elim (is_row_of (keys p) r) as (λ b. length (cond b (p ∷ filter (λ p. is_row_of (keys p) r) ps) (filter (λ p. is_row_of (keys p) r) ps)) ≡ 0
      → cond b (r ∷ filter (is_row_of (keys p)) rows) (filter (is_row_of (keys p)) rows) ++ dealt ps (r ∷ rows) ≡ dealt (p ∷ ps) rows) [
        | true ↦ λ k. absurd (omega (arith, k))
        | false ↦ λ k. ap (λ (xs : List OutRow). filter (is_row_of (keys p)) rows ++ xs) (of_none r rows ps k)
      ] h

  one_less : (n : ℕ) → suc n ≡ 1 → n ≡ 0
  one_less n h = omega (arith, h)

  -- the first row comes first
  first_row : (r : OutRow) (rows : List OutRow) → IsFirst r rows → (parts : List A) → IsOfOne parts r → in_order (dealt parts (r ∷ rows)) ≡ r ∷ in_order (dealt parts rows)
  first_row r rows first [] h = absurd (omega (arith, h))
  first_row r rows first (p ∷ ps) h =
      let own : List OutRow = filter (is_row_of (keys p)) rows in
      elim (is_row_of (keys p) r) as (λ b. is_row_of (keys p) r ≡ b → length (cond b (p ∷ filter (λ p. is_row_of (keys p) r) ps) (filter (λ p. is_row_of (keys p) r) ps)) ≡ 1
      → in_order (cond b (r ∷ own) own ++ dealt ps (r ∷ rows)) ≡ r ∷ in_order (own ++ dealt ps rows)) [
        | true ↦ λ here k.
            ap (λ (xs : List OutRow). with_row r (in_order (own ++ xs))) (of_none r rows ps (one_less _ k))
            ∙ in_front r (in_order (own ++ dealt ps rows)) (all_in_order (λ x. is_gt (turn_cmp r x) ≡ false) (own ++ dealt ps rows) (all_dealt (λ x. is_gt (turn_cmp r x) ≡ false) (p ∷ ps) rows first))
        | false ↦ λ other k.
            in_order-append own (dealt ps (r ∷ rows))
            ∙ ap (put_all own) (first_row r rows first ps k)
            ∙ put_behind r own (in_order (dealt ps rows))
            (all-both (λ x. is_gt (turn_cmp r x) ≡ false) (λ x. is_row_of (keys p) x ≡ true) (λ x. is_gt (turn_cmp x r) ≡ true) (λ x after here. is_behind (keys p) r x after other here) own
            (filter-all (λ x. is_gt (turn_cmp r x) ≡ false) (is_row_of (keys p)) rows first) (passed (is_row_of (keys p)) rows))
            ∙ ap (λ (xs : List OutRow). r ∷ xs) (sym (in_order-append own (dealt ps rows)))
      ] refl h

  none_dealt : (parts : List A) → dealt parts [] ≡ []
  none_dealt [] = refl
  none_dealt (p ∷ ps) = none_dealt ps

  -- rows in order, each of one part, are what their parts are merged into
  pub merged_is : (parts : List A) (rows : List OutRow) → AreInOrder rows → AllByRecursion (IsOfOne parts) rows → merged (λ p. filter (is_row_of (keys p)) rows) parts ≡ rows
  merged_is parts [] order each = ap in_order (none_dealt parts)
  merged_is parts (r ∷ rows) order each = first_row r rows order.0 parts each.0 ∙ ap (λ (xs : List OutRow). r ∷ xs) (merged_is parts rows order.1 each.1)
