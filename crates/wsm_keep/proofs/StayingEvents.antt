-- The rows that stay are those of the needed events.
use Rattle.std.proofs.Common.{◌≡◌, ℕ, true, false, ◌&&◌, cond, not, List, [], ◌∷◌, map, Some, None, Ok, Err, refl, ap, ◌∙◌}
use Rattle.std.specs.Prelude.{int_lt}
use Rattle.wsm_record.specs.declared.words.Form.{Form}
use Rattle.wsm_record.specs.declared.words.Form.TheVariants.{Panes, Istream, Dstream, Rstream}
use Rattle.wsm_record.specs.Event.{Event, Record, Watermark}
use Rattle.wsm_semantics.specs.Query.{Query, raises, is_taken}
use Rattle.wsm_semantics.specs.Lines.{Row, events}
use Rattle.wsm_semantics.specs.FromWatermark.{Times, dropped_times}
use Rattle.wsm_semantics.specs.Needed.{is_one_of, needed_without, needed_by_panes, needed_by_streams, needed_by, needed}
use Rattle.wsm_keep.specs.declared.what.What.{What}
use Rattle.wsm_keep.specs.declared.what.What.TheVariants.{Selected, Accepted, Idle}
use Rattle.wsm_keep.specs.Staying.{what_of, stays, told_after, thinned, events_in, with_what, done_by, row_of, staying_for_panes, staying_for_streams, staying_for, staying, is_event, raises_by}

module _ {A : Type 0} (read : A → Row) (q : Query) where
  abbrev past : List A → List Event
  past rows = events_in read rows

  module _ (x : Times) where
    abbrev left : List ℕ → List A → List A
    left told rows = map row_of (thinned done_by x told (with_what read q rows))

    -- those that are left of a row and those before it, by what it does
    abbrev next : List ℕ → A → List A → What → List A
    next told a before w = map row_of (cond (stays x told w) ((w, a) ∷ thinned done_by x (told_after told w) (with_what read q before)) (thinned done_by x told (with_what read q before)))

    reads : (a : A) (r : Row) (bs : List A) → read a ≡ r → past (a ∷ bs) ≡ events (r ∷ map read bs)
    reads a r bs is = ap (λ (r : Row). events (r ∷ map read bs)) is

    pub left_events : (told : List ℕ) (rows : List A) → past (left told rows) ≡ needed_without q x told (past rows)
    left_events told [] = refl
    left_events told (a ∷ before) = of_row (λ told. left_events told before) (read a) refl where
      of_row : ((told : List ℕ) → past (left told before) ≡ needed_without q x told (past before)) → (r : Row) → read a ≡ r → past (next told a before (what_of q (past before) r)) ≡ needed_without q x told (events (r ∷ map read before))
      of_row again (Err fault) is = again told
      of_row again (Ok (Record None t vs)) is = again told
      of_row again (Ok (Record (Some k) t vs)) is =
          elim (is_taken q (past before) e && q.selects k vs) as (λ c. past (next told a before (cond c (Selected k t) Idle)) ≡ cond (int_lt (x k) t && c) (e ∷ needed_without q x [] (past before)) (needed_without q x told (past before))) [
            | true ↦ elim (int_lt (x k) t) as (λ b. past (map row_of (cond b ((Selected k t, a) ∷ thinned done_by x [] (with_what read q before)) (thinned done_by x told (with_what read q before)))) ≡ cond (b && true) (e ∷ needed_without q x [] (past before)) (needed_without q x told (past before))) [
              | true ↦ reads a (Ok e) (left [] before) is ∙ ap (λ (es : List Event). e ∷ es) (again [])
              | false ↦ again told
            ]
            | false ↦ elim (int_lt (x k) t) as (λ b. past (left told before) ≡ cond (b && false) (e ∷ needed_without q x [] (past before)) (needed_without q x told (past before))) [
              | true ↦ again told
              | false ↦ again told
            ]
          ]
        where
          e : Event
          e = Record (Some k) t vs
      of_row again (Ok (Watermark None t)) is = again told
      of_row again (Ok (Watermark (Some s) t)) is =
          elim (is_taken q (past before) e) as (λ c. past (next told a before (cond c (Accepted s) Idle)) ≡ cond (c && not (is_one_of told s)) (e ∷ needed_without q x (s ∷ told) (past before)) (needed_without q x told (past before))) [
            | true ↦ elim (not (is_one_of told s)) as (λ b. past (map row_of (cond b ((Accepted s, a) ∷ thinned done_by x (s ∷ told) (with_what read q before)) (thinned done_by x told (with_what read q before)))) ≡ cond b (e ∷ needed_without q x (s ∷ told) (past before)) (needed_without q x told (past before))) [
              | true ↦ reads a (Ok e) (left (s ∷ told) before) is ∙ ap (λ (es : List Event). e ∷ es) (again (s ∷ told))
              | false ↦ again told
            ]
            | false ↦ again told
          ]
        where
          e : Event
          e = Watermark (Some s) t

  for_panes : (rows : List A) → past (staying_for_panes read q rows) ≡ needed_by_panes q (past rows)
  for_panes rows = left_events (dropped_times q (past rows)) [] rows

  for_streams : (rows : List A) → past (staying_for_streams read q rows) ≡ needed_by_streams q (past rows)
  for_streams [] = refl
  for_streams (a ∷ before) = of_row (for_streams before) (read a) refl where
    of_row : past (staying_for_streams read q before) ≡ needed_by_streams q (past before) → (r : Row) → read a ≡ r → past (cond (is_event r) (a ∷ cond (raises_by q (past before) r) (staying_for_panes read q before) (staying_for_streams read q before)) (staying_for_streams read q before)) ≡ needed_by_streams q (events (r ∷ map read before))
    of_row again (Err fault) is = again
    of_row again (Ok e) is =
        elim (raises q (past before) e) as (λ b. past (a ∷ cond b (staying_for_panes read q before) (staying_for_streams read q before)) ≡ e ∷ cond b (needed_by_panes q (past before)) (needed_by_streams q (past before))) [
          | true ↦ ap (λ (r : Row). events (r ∷ map read (staying_for_panes read q before))) is ∙ ap (λ (es : List Event). e ∷ es) (for_panes before)
          | false ↦ ap (λ (r : Row). events (r ∷ map read (staying_for_streams read q before))) is ∙ ap (λ (es : List Event). e ∷ es) again
        ]

  by_form : (form : Form) (rows : List A) → past (staying_for form read q rows) ≡ needed_by form q (past rows)
  by_form Panes rows = for_panes rows
  by_form Istream rows = for_streams rows
  by_form Dstream rows = for_streams rows
  by_form Rstream rows = for_streams rows

  pub staying_events : (rows : List A) → past (staying read q rows) ≡ needed q (past rows)
  staying_events rows = by_form q.form rows
