-- How many panes fire on a turn: as many as the parts fire together. Where each firing writes a row, these are counted.
use Rattle.std.proofs.Common.{◌≡◌, ℕ, suc, ◌+◌, ◌<◌, ◌≤◌, Bool, true, false, cond, List, [], ◌∷◌, ◌++◌, length, map, ℤ, pos, ◌≤ℤ◌, Option, Some, None, refl, sym, ap, ◌∙◌, arith}
use Rattle.std.proofs.lemmas.List.{length-append}
use Rattle.std.proofs.lemmas.List.Sums.{sum_by-cons}
use Rattle.std.specs.Prelude.{filter, filter_map, flat_map, unsigned_abs}
use Rattle.std.specs.List.{sum_by}
use Rattle.std.specs.Ordering.{is_gt}
use Rattle.wsm_record.specs.declared.words.Form.TheVariants.{Panes}
use Rattle.wsm_record.specs.Event.{Event}
use Rattle.wsm_windows.specs.Windows.{IsShape}
use Rattle.wsm_semantics.specs.declared.out_row.OutRow.{OutRow}
use Rattle.wsm_semantics.specs.declared.out_row.OutRow.TheVariants.{Pane, Retract, Istream, Dstream, Rstream}
use Rattle.wsm_semantics.specs.Query.{Query, SessionsByEvent, verdict_on}
use Rattle.wsm_semantics.specs.Firings.{Firing, firings, pane_rows, row_of}
use Rattle.wsm_semantics.specs.Retractions.{retract_rows}
use Rattle.wsm_semantics.specs.Relation.{turn_rows}
use Rattle.wsm_semantics.specs.ByNumber.{Numbers, row_by}
use Rattle.wsm_semantics.proofs.Each.{filter-append}
use Rattle.wsm_key_parts.specs.Merged.{rank, turn_cmp, with_row, in_order}
use Rattle.wsm_key_parts.specs.Parts.{placed, number_in, query_in, all_parts, rows_in, fired_in}
use Rattle.wsm_key_parts.proofs.TurnOrder.{turn_is, AreOf, retracted_in_order}
use Rattle.wsm_key_parts.proofs.PartTurns.{IsFed, before_by, all_rows}

abbrev is_pane : OutRow → Bool
is_pane (Pane kind key window columns) = true
is_pane (Retract key window columns) = false
is_pane (Istream mark columns) = false
is_pane (Dstream mark columns) = false
is_pane (Rstream mark columns) = false

abbrev count : List OutRow → ℕ
count rows = length (filter is_pane rows)

-- ---- how many rows of panes

abbrev one : OutRow → ℕ
one r = cond (is_pane r) 1 0

count-cons : (r : OutRow) (rows : List OutRow) → count (r ∷ rows) ≡ one r + count rows
count-cons r rows = elim (is_pane r) as (λ b. length (cond b (r ∷ filter is_pane rows) (filter is_pane rows)) ≡ cond b 1 0 + count rows) [ true ↦ omega arith | false ↦ omega arith ]

count-with : (r : OutRow) (rows : List OutRow) → count (with_row r rows) ≡ one r + count rows
count-with r [] = count-cons r []
count-with r (x ∷ xs) =
    elim (is_gt (turn_cmp r x)) as (λ b. count (cond b (x ∷ with_row r xs) (r ∷ x ∷ xs)) ≡ one r + count (x ∷ xs)) [
      | true ↦
          let a = count-cons x (with_row r xs) in
          let b = count-with r xs in
          let c = count-cons x xs in
          omega (arith, a, b, c)
      | false ↦ count-cons r (x ∷ xs)
    ]

count-in_order : (rows : List OutRow) → count (in_order rows) ≡ count rows
count-in_order [] = refl
count-in_order (r ∷ rows) = count-with r (in_order rows) ∙ ap (λ (n : ℕ). one r + n) (count-in_order rows) ∙ sym (count-cons r rows)

count-append : (xs ys : List OutRow) → count (xs ++ ys) ≡ count xs + count ys
count-append xs ys = ap (λ (rows : List OutRow). length rows) (filter-append is_pane xs ys) ∙ length-append (filter is_pane xs) (filter is_pane ys)

count-flat : {A : Type 0} (rows : A → List OutRow) (xs : List A) → count (flat_map rows xs) ≡ sum_by (λ x. count (rows x)) xs
count-flat rows [] = refl
count-flat rows (x ∷ xs) = count-append (rows x) (flat_map rows xs) ∙ ap (λ (n : ℕ). count (rows x) + n) (count-flat rows xs) ∙ sym (sum_by-cons (λ x. count (rows x)) x xs)

same_one : (number : Numbers) (r : OutRow) → is_pane (row_by number r) ≡ is_pane r
same_one number (Pane kind key window columns) = refl
same_one number (Retract key window columns) = refl
same_one number (Istream mark columns) = refl
same_one number (Dstream mark columns) = refl
same_one number (Rstream mark columns) = refl

count-by : (number : Numbers) (rows : List OutRow) → count (map (row_by number) rows) ≡ count rows
count-by number [] = refl
count-by number (r ∷ rows) =
    count-cons (row_by number r) (map (row_by number) rows)
    ∙ (λ i. cond (same_one number r i) 1 0 + count-by number rows i)
    ∙ sym (count-cons r rows)

no_pane : (r : OutRow) → rank r ≡ 0 → is_pane r ≡ false
no_pane (Pane kind key window columns) h = absurd (omega (arith, h))
no_pane (Retract key window columns) h = refl
no_pane (Istream mark columns) h = refl
no_pane (Dstream mark columns) h = refl
no_pane (Rstream mark columns) h = refl

count_none : (rows : List OutRow) → AreOf 0 rows → count rows ≡ 0
count_none [] h = refl
count_none (r ∷ rows) h = ap (λ (b : Bool). length (cond b (r ∷ filter is_pane rows) (filter is_pane rows))) (no_pane r h.0) ∙ count_none rows h.1

-- ---- where each firing writes a row

abbrev pub told : Query → Query
told q = record q { row = λ key ds. Some [] }

each_told : (q : Query) (fs : List Firing) → count (filter_map (row_of (told q)) fs) ≡ length fs
each_told q [] = refl
each_told q (f ∷ fs) = ap suc (each_told q fs)

pub count_told : (q : Query) → q.form ≡ Panes → (past : List Event) (e : Event) → count (turn_rows (told q) past e) ≡ length (firings q past e)
count_told q form past e =
    ap count (turn_is (told q) past e form)
    ∙ count-append (retract_rows q.mode (told q) past e) (pane_rows (told q) past e)
    ∙ (λ i. count_none (retract_rows q.mode (told q) past e) (retracted_in_order (told q) past e q.mode).1 i + each_told q (firings q past e) i)
    ∙ (let none : 0 + length (firings q past e) ≡ length (firings q past e) = omega arith in none)

module _ (places : List (List ℕ)) (records : ℤ) (q : Query) (ok : IsShape q.shape) (timely : SessionsByEvent q) (low : pos 0 ≤ℤ q.clock.lateness)
    (form : q.form ≡ Panes) (some : 0 < length places) (wide : unsigned_abs q.clock.records ≤ unsigned_abs records) where
  fired_there : (part : ℕ) (e : Event) (before : Option (List Event)) → fired_in places records q part e before ≡ count (rows_in places records (told q) part e before)
  fired_there part e None = refl
  fired_there part e (Some before) =
      sym (count_told (query_in places records q part) form before (placed (length places) e))
      ∙ sym (count-by (number_in (length places) (length q.declared.keys) part) (turn_rows (query_in places records (told q) part) before (placed (length places) e)))

  module _ (past : List Event) (e : Event) (taken : verdict_on q past e ≡ None) (fed : ℕ → List Event)
      (is : (part : ℕ) → IsFed places records (told q) ok timely low form (λ f key ds. refl) some wide part past (fed part)) where
    abbrev before : ℕ → Option (List Event)
    before part = before_by places records (told q) ok timely low form (λ f key ds. refl) some wide part past e taken (fed part)

    pub all_fired : sum_by (λ part. fired_in places records q part e (before part)) (all_parts places records q) ≡ length (firings q past e)
    all_fired =
        ap (λ (f : ℕ → ℕ). sum_by f (all_parts places records q)) (λ i part. fired_there part e (before part) i)
        ∙ sym (count-flat (λ part. rows_in places records (told q) part e (before part)) (all_parts places records q))
        ∙ sym (count-in_order (flat_map (λ part. rows_in places records (told q) part e (before part)) (all_parts places records q)))
        ∙ ap count (sym (all_rows places records (told q) ok timely low form (λ f key ds. refl) some wide past e taken fed is))
        ∙ count_told q form past e
