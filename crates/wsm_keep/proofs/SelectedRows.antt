-- As many of the queued rows that stay select a record as are taken of the needed events.
use Rattle.std.proofs.Common.{◌≡◌, ℕ, suc, ◌+◌, Bool, true, false, ◌&&◌, cond, not, List, [], ◌∷◌, ◌++◌, map, Some, None, Ok, Err, refl, sym, ap, ◌∙◌, arith}
use Rattle.std.proofs.lemmas.Bool.{and_parts}
use Rattle.std.specs.Prelude.{int_lt}
use Rattle.wsm_record.specs.Event.{Event, Record, Watermark}
use Rattle.wsm_admission.specs.Clock.{admitted_count, admitted_with}
use Rattle.wsm_semantics.specs.Query.{Query, is_taken, verdict_on}
use Rattle.wsm_semantics.specs.Lines.{Row, events}
use Rattle.wsm_semantics.specs.FromWatermark.{Times}
use Rattle.wsm_semantics.specs.Needed.{is_one_of, needed_without}
use Rattle.wsm_semantics.proofs.Decided.{none_is}
use Rattle.wsm_keep.specs.declared.what.What.{What}
use Rattle.wsm_keep.specs.declared.what.What.TheVariants.{Selected, Accepted, Idle}
use Rattle.wsm_keep.specs.Staying.{what_of, stays, told_after, events_in, is_event, thinned, done_by}
use Rattle.wsm_keep.specs.Holds.{Written, Queued, read, all_queued, selected_in}
use Rattle.wsm_keep.specs.Keeper.{queued_behind}
use Rattle.wsm_keep.proofs.NeededTaken.{record_taken}

one_more : (n : ℕ) → suc n ≡ n + 1
one_more n = omega arith

module _ (q : Query) (x : Times) where
  abbrev count : List Event → ℕ
  count past = admitted_count q.clock q.shape q.declared past

  abbrev needs : List ℕ → List Event → List Event
  needs told past = needed_without q x told past

  -- those that stay of a row that does this, and of those before it
  abbrev next : List ℕ → List Written → List ℕ → What → List Queued
  next told before text v = cond (stays x told v) ((v, text) ∷ thinned done_by x (told_after told v) (all_queued q before)) (thinned done_by x told (all_queued q before))

  pub selected_needed : (rows : List Written) (told : List ℕ) → selected_in (thinned done_by x told (all_queued q rows)) ≡ count (needs told (events_in read rows))
  selected_needed [] told = refl
  selected_needed (w ∷ before) told = of_row (λ told. selected_needed before told) w.0 where
    past : List Event
    past = events_in read before

    of_row : ((told : List ℕ) → selected_in (thinned done_by x told (all_queued q before)) ≡ count (needs told past)) → (r : Row) → selected_in (next told before w.1 (what_of q past r)) ≡ count (needs told (events (r ∷ map read before)))
    of_row again (Err fault) = again told
    of_row again (Ok (Record None t vs)) = again told
    of_row again (Ok (Record (Some k) t vs)) =
        elim chosen as (λ c. chosen ≡ c → selected_in (next told before w.1 (cond c (Selected k t) Idle)) ≡ count (cond (int_lt (x k) t && c) (e ∷ needs [] past) (needs told past))) [
          | true ↦ λ is. elim (int_lt (x k) t) as (λ b. selected_in (cond b ((Selected k t, w.1) ∷ thinned done_by x [] (all_queued q before)) (thinned done_by x told (all_queued q before))) ≡ count (cond (b && true) (e ∷ needs [] past) (needs told past))) [
            | true ↦
                let taken = none_is (verdict_on q past e) (and_parts (is_taken q past e) (q.selects k vs) is).0 in
                ap suc (again []) ∙ one_more (count (needs [] past)) ∙ sym (ap (admitted_with (count (needs [] past)) e) (record_taken q x past e taken))
            | false ↦ again told
          ]
          | false ↦ λ _. elim (int_lt (x k) t) as (λ b. selected_in (thinned done_by x told (all_queued q before)) ≡ count (cond (b && false) (e ∷ needs [] past) (needs told past))) [
            | true ↦ again told
            | false ↦ again told
          ]
        ] refl
      where
        e : Event
        e = Record (Some k) t vs

        chosen : Bool
        chosen = is_taken q past e && q.selects k vs
    of_row again (Ok (Watermark None t)) = again told
    of_row again (Ok (Watermark (Some s) t)) =
        elim (is_taken q past (Watermark (Some s) t)) as (λ c. selected_in (next told before w.1 (cond c (Accepted s) Idle)) ≡ count (cond (c && not (is_one_of told s)) (Watermark (Some s) t ∷ needs (s ∷ told) past) (needs told past))) [
          | true ↦ elim (not (is_one_of told s)) as (λ b. selected_in (cond b ((Accepted s, w.1) ∷ thinned done_by x (s ∷ told) (all_queued q before)) (thinned done_by x told (all_queued q before))) ≡ count (cond b (Watermark (Some s) t ∷ needs (s ∷ told) past) (needs told past))) [
            | true ↦ again (s ∷ told)
            | false ↦ again told
          ]
          | false ↦ again told
        ]

-- rows of which none is queued have no events
pub no_events : (q : Query) (newer older : List Written) → queued_behind q newer older ≡ [] → events_in read (newer ++ older) ≡ events_in read older
no_events q [] older h = refl
no_events q (w ∷ newer) older h = of_row w.0 (λ h. no_events q newer older h) h where
  of_row : (r : Row) → (queued_behind q newer older ≡ [] → events_in read (newer ++ older) ≡ events_in read older)
      → cond (is_event r) ((what_of q (events_in read (newer ++ older)) r, w.1) ∷ queued_behind q newer older) (queued_behind q newer older) ≡ [] → events (r ∷ map read (newer ++ older)) ≡ events_in read older
  of_row (Ok e) again h = absurd (cc h)
  of_row (Err fault) again h = again h
