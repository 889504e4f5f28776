-- Only rows that are events stay.
use Rattle.std.proofs.Common.{◌≡◌, ℕ, true, false, cond, List, [], ◌∷◌, map, Ok, Err, ap, refl}
use Rattle.std.specs.List.{AllByRecursion}
use Rattle.wsm_record.specs.declared.words.Form.{Form}
use Rattle.wsm_record.specs.declared.words.Form.TheVariants.{Panes, Istream, Dstream, Rstream}
use Rattle.wsm_record.specs.Event.{Event}
use Rattle.wsm_semantics.specs.Query.{Query}
use Rattle.wsm_semantics.specs.Lines.{Row}
use Rattle.wsm_semantics.specs.FromWatermark.{Times, dropped_times}
use Rattle.wsm_keep.specs.declared.what.What.{What}
use Rattle.wsm_keep.specs.Staying.{what_of, stays, told_after, thinned, events_in, with_what, done_by, row_of, staying_for_panes, staying_for_streams, staying_for, staying, is_event, raises_by}

module _ {A : Type 0} (read : A → Row) (q : Query) where
  abbrev AreEvents : List A → Type 0
  AreEvents rows = AllByRecursion (λ a. is_event (read a) ≡ true) rows

  left : (x : Times) (told : List ℕ) (rows : List A) → AreEvents (map row_of (thinned done_by x told (with_what read q rows)))
  left x told [] = tt
  left x told (a ∷ before) = by (λ told. left x told before) (read a) refl where
    past : List Event
    past = events_in read before

    next : What → List A
    next w = map row_of (cond (stays x told w) ((w, a) ∷ thinned done_by x (told_after told w) (with_what read q before)) (thinned done_by x told (with_what read q before)))

    by : ((told : List ℕ) → AreEvents (map row_of (thinned done_by x told (with_what read q before)))) → (r : Row) → read a ≡ r → AreEvents (next (what_of q past r))
    by again (Err why) is = again told
    by again (Ok e) is =
        let w : What = what_of q past (Ok e) in
        elim (stays x told w) as (λ b. AreEvents (map row_of (cond b ((w, a) ∷ thinned done_by x (told_after told w) (with_what read q before)) (thinned done_by x told (with_what read q before))))) [
          | true ↦ (ap is_event is, again (told_after told w))
          | false ↦ again told
        ]

  for_panes : (rows : List A) → AreEvents (staying_for_panes read q rows)
  for_panes rows = left (dropped_times q (events_in read rows)) [] rows

  for_streams : (rows : List A) → AreEvents (staying_for_streams read q rows)
  for_streams [] = tt
  for_streams (a ∷ before) = by (for_streams before) (read a) refl where
    from : AreEvents (staying_for_streams read q before) → AreEvents (cond (raises_by q (events_in read before) (read a)) (staying_for_panes read q before) (staying_for_streams read q before))
    from again = elim (raises_by q (events_in read before) (read a)) as (λ b. AreEvents (cond b (staying_for_panes read q before) (staying_for_streams read q before))) [
      | true ↦ for_panes before
      | false ↦ again
    ]

    by : AreEvents (staying_for_streams read q before) → (r : Row) → read a ≡ r
        → AreEvents (cond (is_event r) (a ∷ cond (raises_by q (events_in read before) (read a)) (staying_for_panes read q before) (staying_for_streams read q before)) (staying_for_streams read q before))
    by again (Err why) is = again
    by again (Ok e) is = (ap is_event is, from again)

  by_form : (form : Form) (rows : List A) → AreEvents (staying_for form read q rows)
  by_form Panes rows = for_panes rows
  by_form Istream rows = for_streams rows
  by_form Dstream rows = for_streams rows
  by_form Rstream rows = for_streams rows

  pub stay_events : (rows : List A) → AreEvents (staying read q rows)
  stay_events rows = by_form q.form rows
