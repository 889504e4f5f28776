-- What is written is what was shown, less what was withdrawn; and so, where panes retract, what the firings that last come to.
use Rattle.std.proofs.Common.{◌≡◌, ℕ, Bool, true, false, cond, List, [], ◌∷◌, ◌++◌, ℤ, pos, ◌+ℤ◌, ◌-ℤ◌, ◌≤ℤ◌, Option, Some, None, refl, sym, ap, ◌∙◌, arith}
use Rattle.std.proofs.lemmas.Int.{ints}
use Rattle.std.specs.Prelude.{filter_map, option_map}
use Rattle.std.specs.List.{cons_option}
use Rattle.wsm_record.specs.declared.cell.Cell.{Cell}
use Rattle.wsm_record.specs.declared.words.Form.TheVariants.{Panes}
use Rattle.wsm_record.specs.declared.words.Mode.TheVariants.{Retracting}
use Rattle.wsm_record.specs.Event.{Event}
use Rattle.wsm_windows.specs.Windows.{IsShape}
use Rattle.wsm_windows.specs.declared.place.Place.{Place}
use Rattle.wsm_windows.specs.Places.{at}
use Rattle.wsm_semantics.specs.declared.out_row.OutRow.{OutRow}
use Rattle.wsm_semantics.specs.declared.out_row.OutRow.TheVariants.{Pane, Retract, Istream, Dstream, Rstream}
use Rattle.wsm_semantics.specs.Query.{Query, SessionsByEvent}
use Rattle.wsm_semantics.specs.Firings.{Firing}
use Rattle.wsm_semantics.specs.Retractions.{written_of}
use Rattle.wsm_semantics.specs.LastingRows.{rows_so_far, shown_by, withdrawn_by, lasting}
use Rattle.wsm_semantics.specs.Amounts.{sum_of, number_at, number_of, amount_in, amount_written}
use Rattle.wsm_semantics.proofs.LastingLaw.{adds_up}
use Rattle.wsm_semantics.proofs.Sums.{none_more, sum_of-append}
use Rattle.wsm_amounts.specs.Retracted.{worth, amount_shown, amount_withdrawn, IsShownLess}
use Rattle.wsm_amounts.proofs.Sums.{sum_of-bag}

more_shown : (x a s w : ℤ) → a ≡ (s -ℤ w) → (x +ℤ a) ≡ ((x +ℤ s) -ℤ w)
more_shown x a s w h = omega (arith, ints)

more_withdrawn : (x a s w : ℤ) → a ≡ (s -ℤ w) → ((pos 0 -ℤ x) +ℤ a) ≡ (s -ℤ (x +ℤ w))
more_withdrawn x a s w h = omega (arith, ints)

none_of_these : (a s w : ℤ) → a ≡ (s -ℤ w) → (pos 0 +ℤ a) ≡ (s -ℤ (pos 0 +ℤ w))
none_of_these a s w h = omega (arith, ints)

module _ (c : ℕ) (here : Place → Bool) where
  abbrev shows : List OutRow → ℤ
  shows rows = sum_of (worth c here) (filter_map shown_by rows)

  abbrev withdraws : List OutRow → ℤ
  withdraws rows = sum_of (worth c here) (filter_map withdrawn_by rows)

  shown_less : (rows : List OutRow) → sum_of (amount_in c here) rows ≡ (shows rows -ℤ withdraws rows)
  shown_less [] = refl
  shown_less (Pane kind key window columns ∷ rows) = more_shown (worth c here (at key window, columns)) (sum_of (amount_in c here) rows) (shows rows) (withdraws rows) (shown_less rows)
  shown_less (Retract key window columns ∷ rows) =
      elim (here (at key window)) as (λ b. (cond b (pos 0 -ℤ number_at c columns) (pos 0) +ℤ sum_of (amount_in c here) rows) ≡ (shows rows -ℤ (cond b (number_at c columns) (pos 0) +ℤ withdraws rows))) [
        | true ↦ more_withdrawn (number_at c columns) (sum_of (amount_in c here) rows) (shows rows) (withdraws rows) (shown_less rows)
        | false ↦ none_of_these (sum_of (amount_in c here) rows) (shows rows) (withdraws rows) (shown_less rows)
      ]
  shown_less (Istream mark columns ∷ rows) = none_more (sum_of (amount_in c here) rows) ∙ shown_less rows
  shown_less (Dstream mark columns ∷ rows) = none_more (sum_of (amount_in c here) rows) ∙ shown_less rows
  shown_less (Rstream mark columns ∷ rows) = none_more (sum_of (amount_in c here) rows) ∙ shown_less rows

pub is_shown_less : (q : Query) (c : ℕ) → IsShownLess q c
is_shown_less q c past here = shown_less c here (rows_so_far q past)

-- ---- by firings

-- what the row of a firing of some windows has in a column
abbrev pub row_worth : Query → ℕ → (Place → Bool) → Firing → ℤ
row_worth q c here f = cond (here f.place) (number_of c (q.row f.place.key f.fired)) (pos 0)

module _ (q : Query) (c : ℕ) (here : Place → Bool) where
  nothing_written : (b : Bool) (rest : ℤ) → rest ≡ (cond b (pos 0) (pos 0) +ℤ rest)
  nothing_written true rest = sym (none_more rest)
  nothing_written false rest = sym (none_more rest)

  one_written : (f : Firing) (o : Option (List Cell)) (ws : List (Place × List Cell)) →
      sum_of (worth c here) (cons_option (option_map (λ columns. (f.place, columns)) o) ws) ≡ (cond (here f.place) (number_of c o) (pos 0) +ℤ sum_of (worth c here) ws)
  one_written f None ws = nothing_written (here f.place) (sum_of (worth c here) ws)
  one_written f (Some columns) ws = refl

  of_written : (fs : List Firing) → sum_of (worth c here) (filter_map (written_of q) fs) ≡ sum_of (row_worth q c here) fs
  of_written [] = refl
  of_written (f ∷ fs) = one_written f (q.row f.place.key f.fired) (filter_map (written_of q) fs) ∙ ap (λ (s : ℤ). row_worth q c here f +ℤ s) (of_written fs)

left_over : (s w l : ℤ) → s ≡ (w +ℤ l) → (s -ℤ w) ≡ l
left_over s w l h = omega (arith, ints)

-- what is written is what the firings that last come to
pub written_lasting : (q : Query) → IsShape q.shape → SessionsByEvent q → pos 0 ≤ℤ q.clock.lateness → q.mode ≡ Retracting → q.form ≡ Panes → (c : ℕ) (here : Place → Bool) (past : List Event) →
    amount_written q past c here ≡ sum_of (row_worth q c here) (lasting q past)
written_lasting q ok timely low retracting panes c here past =
    let w : List (Place × List Cell) = filter_map withdrawn_by (rows_so_far q past) in
    let l : List (Place × List Cell) = filter_map (written_of q) (lasting q past) in
    is_shown_less q c past here
    ∙ left_over (amount_shown q past c here) (amount_withdrawn q past c here) (sum_of (row_worth q c here) (lasting q past))
    (sum_of-bag (worth c here) (filter_map shown_by (rows_so_far q past)) (w ++ l) (adds_up q ok timely low retracting panes past)
    ∙ sum_of-append (worth c here) w l
    ∙ ap (λ (s : ℤ). amount_withdrawn q past c here +ℤ s) (of_written q c here (lasting q past)))
