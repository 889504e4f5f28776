-- What stays of rows that are read by way of a function is what stays of them, by way of it.
use Rattle.std.proofs.Common.{◌≡◌, ℕ, true, false, cond, List, [], ◌∷◌, map, refl, ap, ◌∙◌}
use Rattle.wsm_record.specs.declared.words.Form.{Form}
use Rattle.wsm_record.specs.declared.words.Form.TheVariants.{Panes, Istream, Dstream, Rstream}
use Rattle.wsm_record.specs.Event.{Event}
use Rattle.wsm_semantics.specs.Query.{Query}
use Rattle.wsm_semantics.specs.Lines.{Row, events}
use Rattle.wsm_semantics.specs.FromWatermark.{Times, dropped_times}
use Rattle.wsm_keep.specs.declared.what.What.{What}
use Rattle.wsm_keep.specs.Staying.{what_of, stays, told_after, thinned, events_in, with_what, done_by, row_of, staying_for_panes, staying_for_streams, staying_for, staying, is_event, raises_by}

module _ {A B : Type 0} (f : A → B) (read : B → Row) (q : Query) where
  abbrev through : A → Row
  through a = read (f a)

  same_rows : (rows : List A) → map read (map f rows) ≡ map through rows
  same_rows [] = refl
  same_rows (a ∷ rows) = ap (λ (rs : List Row). through a ∷ rs) (same_rows rows)

  same_events : (rows : List A) → events_in read (map f rows) ≡ events_in through rows
  same_events rows = ap events (same_rows rows)

  abbrev carried : What × A → What × B
  carried d = (d.0, f d.1)

  same_what : (rows : List A) → with_what read q (map f rows) ≡ map carried (with_what through q rows)
  same_what [] = refl
  same_what (a ∷ rows) =
      ap (λ (es : List Event). (what_of q es (through a), f a) ∷ with_what read q (map f rows)) (same_events rows)
      ∙ ap (λ (ds : List (What × B)). (what_of q (events_in through rows) (through a), f a) ∷ ds) (same_what rows)

  same_thinned : (x : Times) (told : List ℕ) (ds : List (What × A)) → thinned done_by x told (map carried ds) ≡ map carried (thinned done_by x told ds)
  same_thinned x told [] = refl
  same_thinned x told (d ∷ ds) =
      elim (stays x told d.0) as (λ b. cond b (carried d ∷ thinned done_by x (told_after told d.0) (map carried ds)) (thinned done_by x told (map carried ds))
      ≡ map carried (cond b (d ∷ thinned done_by x (told_after told d.0) ds) (thinned done_by x told ds))) [
        | true ↦ ap (λ (ds : List (What × B)). carried d ∷ ds) (same_thinned x (told_after told d.0) ds)
        | false ↦ same_thinned x told ds
      ]

  same_row_of : (ds : List (What × A)) → map row_of (map carried ds) ≡ map f (map row_of ds)
  same_row_of [] = refl
  same_row_of (d ∷ ds) = ap (λ (bs : List B). f d.1 ∷ bs) (same_row_of ds)

  for_panes : (rows : List A) → staying_for_panes read q (map f rows) ≡ map f (staying_for_panes through q rows)
  for_panes rows =
      let x : Times = dropped_times q (events_in through rows) in
      ap (λ (es : List Event). map row_of (thinned done_by (dropped_times q es) [] (with_what read q (map f rows)))) (same_events rows)
      ∙ ap (λ (ds : List (What × B)). map row_of (thinned done_by x [] ds)) (same_what rows)
      ∙ ap (λ (ds : List (What × B)). map row_of ds) (same_thinned x [] (with_what through q rows))
      ∙ same_row_of (thinned done_by x [] (with_what through q rows))

  for_streams : (rows : List A) → staying_for_streams read q (map f rows) ≡ map f (staying_for_streams through q rows)
  for_streams [] = refl
  for_streams (a ∷ before) =
      elim (is_event (through a)) as (λ b. cond b (f a ∷ from (events_in read (map f before))) (staying_for_streams read q (map f before)) ≡ map f (cond b (a ∷ from_through) (staying_for_streams through q before))) [
        | true ↦ ap (λ (bs : List B). f a ∷ bs) (ap from (same_events before) ∙ by_rise (for_streams before))
        | false ↦ for_streams before
      ]
    where
      from : List Event → List B
      from es = cond (raises_by q es (through a)) (staying_for_panes read q (map f before)) (staying_for_streams read q (map f before))

      from_through : List A
      from_through = cond (raises_by q (events_in through before) (through a)) (staying_for_panes through q before) (staying_for_streams through q before)

      by_rise : staying_for_streams read q (map f before) ≡ map f (staying_for_streams through q before) → from (events_in through before) ≡ map f from_through
      by_rise again =
          elim (raises_by q (events_in through before) (through a)) as (λ b. cond b (staying_for_panes read q (map f before)) (staying_for_streams read q (map f before))
          ≡ map f (cond b (staying_for_panes through q before) (staying_for_streams through q before))) [
            | true ↦ for_panes before
            | false ↦ again
          ]

  by_form : (form : Form) (rows : List A) → staying_for form read q (map f rows) ≡ map f (staying_for form through q rows)
  by_form Panes rows = for_panes rows
  by_form Istream rows = for_streams rows
  by_form Dstream rows = for_streams rows
  by_form Rstream rows = for_streams rows

  pub staying_through : (rows : List A) → staying read q (map f rows) ≡ map f (staying through q rows)
  staying_through rows = by_form q.form rows
