-- Keys under other numbers, which rise as they do: the same verdicts, the same panes and firings, and the same rows.
use Rattle.std.proofs.Common.{◌≡◌, ℕ, true, ◌&&◌, cond, not, Bool, List, [], ◌∷◌, ◌++◌, map, length, ℤ, Option, Some, None, refl, sym, ap, ◌∙◌}
use Rattle.std.proofs.lemmas.List.{map-append}
use Rattle.std.specs.Prelude.{int_lt, is_none, nat_le, unsigned_abs}
use Rattle.std.specs.List.{range_with_len}
use Rattle.std.specs.Int.{int_max}
use Rattle.wsm_record.specs.declared.event.Value.{Value}
use Rattle.wsm_record.specs.Event.{Event, Record, Watermark}
use Rattle.wsm_record.specs.Schema.{fit_fields, source_count}
use Rattle.wsm_admission.specs.declared.verdict.Refusal.{Refusal}
use Rattle.wsm_admission.specs.Clock.{source_mark, marks_of, least, is_source, is_time, is_too_far_ahead, is_late, admitted_count, admitted_with, verdict_at}
use Rattle.wsm_semantics.specs.Query.{Query, datum, mark, raises, verdict_on, is_taken, Selects, Rises, Nothing, effect_of, selected, selection, selection_of}
use Rattle.wsm_semantics.specs.Panes.{panes}
use Rattle.wsm_semantics.specs.Relation.{relation, turn_rows}
use Rattle.wsm_semantics.specs.ByNumber.{Numbers, event_by, datum_by, with_keys, AreNumbers, SameByNumbers, row_by}
use Rattle.wsm_semantics.proofs.Lists.{length_each}
use Rattle.wsm_semantics.proofs.Effects.{effect_with, selection-with, selects-with, rises-with}
use Rattle.wsm_semantics.proofs.PanesOrder.{panes_of}
use Rattle.wsm_semantics.proofs.KeyParts.{first_rule}
use Rattle.wsm_semantics.proofs.Given.{filter-any}
use Rattle.wsm_semantics.proofs.Moves.{Own, by_keys, own, pane_moved}
use Rattle.wsm_semantics.proofs.MovedPanes.{panes_moved}
use Rattle.wsm_semantics.proofs.Counted.{anywhere, finds_own}
use Rattle.wsm_semantics.proofs.ImageFirings.{Both, Image, PanesAlike}
use Rattle.wsm_semantics.proofs.ImageStanding.{Told, Turn, turn_alike}
use Rattle.wsm_semantics.proofs.ImageRows.{relation_next, rows_alike}

module _ (q : Query) (number : Numbers) (keys : List (List ℕ)) (are : AreNumbers number keys q) where
  abbrev over : Query
  over = with_keys number keys q

  abbrev by_number : List Event → List Event
  by_number past = map (event_by number) past

  source_by : (s : ℕ) (past : List Event) → source_mark q.clock s (by_number past) ≡ source_mark q.clock s past
  source_by s [] = refl
  source_by s (Record key t vs ∷ past) = source_by s past
  source_by s (Watermark o t ∷ past) = ap (λ (m : ℤ). cond (is_source s o && is_time t) (int_max m t) m) (source_by s past)

  marks_by : (past : List Event) → marks_of q.clock q.declared (by_number past) ≡ marks_of q.clock q.declared past
  marks_by past = λ i. map (λ s. source_by s past i) (range_with_len 0 (source_count q.declared))

  mark_by : (past : List Event) → mark q (by_number past) ≡ mark over past
  mark_by past = ap least (marks_by past)

  key_by : (key : Option ℕ) (t : ℤ) (vs : List Value) (ms : List ℤ) (n : ℕ) → verdict_at q.clock q.shape q.declared ms n (event_by number (Record key t vs)) ≡ verdict_at q.clock q.shape over.declared ms n (Record key t vs)
  key_by None t vs ms n = refl
  key_by (Some k) t vs ms n =
      ap (λ (b : Bool). first_rule (not b) (not (fit_fields q.declared.fields vs)) (not (is_time t)) (is_too_far_ahead q.clock (least ms) t) (is_late q.clock q.shape (least ms) t) (nat_le (unsigned_abs q.clock.records) n)) (sym (are.declared k))

  judged_by : (ms : List ℤ) (n : ℕ) (e : Event) → verdict_at q.clock q.shape q.declared ms n (event_by number e) ≡ verdict_at q.clock q.shape over.declared ms n e
  judged_by ms n (Record key t vs) = key_by key t vs ms n
  judged_by ms n (Watermark o t) = refl

  counted_by : (n : ℕ) (e : Event) (v : Option Refusal) → admitted_with n (event_by number e) v ≡ admitted_with n e v
  counted_by n (Record key t vs) None = refl
  counted_by n (Record key t vs) (Some r) = refl
  counted_by n (Watermark o t) v = refl

  admitted_by : (past : List Event) → admitted_count q.clock q.shape q.declared (by_number past) ≡ admitted_count q.clock q.shape over.declared past
  admitted_by [] = refl
  admitted_by (e ∷ past) =
      (λ i. admitted_with (admitted_by past i) (event_by number e) (verdict_at q.clock q.shape q.declared (marks_by past i) (admitted_by past i) (event_by number e)))
      ∙ counted_by (admitted_count q.clock q.shape over.declared past) e (verdict_at q.clock q.shape q.declared (marks_of q.clock q.declared past) (admitted_count q.clock q.shape over.declared past) (event_by number e))
      ∙ ap (admitted_with (admitted_count q.clock q.shape over.declared past) e) (judged_by (marks_of q.clock q.declared past) (admitted_count q.clock q.shape over.declared past) e)

  verdict_by : (past : List Event) (e : Event) → verdict_on q (by_number past) (event_by number e) ≡ verdict_on over past e
  verdict_by past e =
      (λ i. verdict_at q.clock q.shape q.declared (marks_by past i) (admitted_by past i) (event_by number e))
      ∙ judged_by (marks_of q.clock q.declared past) (admitted_count q.clock q.shape over.declared past) e

  length_by : (past : List Event) → length (by_number past) ≡ length past
  length_by past = length_each (event_by number) past

  -- what an event does, its record by number
  effect_by : (past : List Event) (e : Event) → effect_of q (by_number past) (event_by number e) ≡ effect_with (datum_by number) (effect_of over past e)
  effect_by past (Record None t vs) = refl
  effect_by past (Record (Some k) t vs) =
      let e : Event = Record (Some k) t vs in
      (λ i. cond (is_none (verdict_by past e i) && q.selects (number k) vs) (Selects (datum (length_by past i) (mark_by past i) (number k) t vs)) Nothing)
      ∙ selects-with (datum_by number) (datum (length past) (mark over past) k t vs) (is_taken over past e && q.selects (number k) vs)
  effect_by past (Watermark o t) =
      let e : Event = Watermark o t in
      (λ i. cond (int_lt (mark_by past i) (mark_by (e ∷ past) i)) (Rises (mark_by past i) (mark_by (e ∷ past) i)) Nothing)
      ∙ rises-with (datum_by number) (mark over past) (mark over (e ∷ past)) (raises over past e)

  selection_by : (past : List Event) (e : Event) → selection_of q (by_number past) (event_by number e) ≡ map (datum_by number) (selection_of over past e)
  selection_by past e = ap selection (effect_by past e) ∙ selection-with (datum_by number) (effect_of over past e)

  selected_by : (past : List Event) → selected q (by_number past) ≡ map (datum_by number) (selected over past)
  selected_by [] = refl
  selected_by (e ∷ past) = (λ i. selection_by past e i ++ selected_by past i) ∙ sym (map-append (datum_by number) (selection_of over past e) (selected over past))

  -- ---- as an image

  abbrev o : Own
  o = record (own q) { declared = over.declared; selects = over.selects; row = over.row }

  abbrev image : Image q o
  image = record { moves = by_keys number are.rising; here = λ _. true; there = λ _. true; finds = finds_own q (λ _. true) (λ p r h k. refl); finds_there = finds_own over (λ _. true) (λ p r h k. refl) }

  panes_by : (past : List Event) → PanesAlike q o image (panes q (by_number past)) (panes over past)
  panes_by past =
      filter-any (panes q (by_number past))
      ∙ ap (panes_of q) (selected_by past)
      ∙ panes_moved image.moves q (selected over past)
      ∙ ap (map (pane_moved image.moves)) (sym (filter-any (panes over past)))

  both : (past : List Event) (e : Event) → Both q o image (by_number past) past (event_by number e) e
  both past e = record { turn = sym (length_by past); effect = effect_by past e; panes = panes_by (e ∷ past) }

  told : (past : List Event) → Told q o image (by_number past) past
  told [] = record { marks = sym (mark_by []); panes = panes_by []; fired = refl }
  told (e ∷ past) = (turn_alike q o image (by_number past) past (event_by number e) e (told past) (sym (mark_by (e ∷ past))) (both past e)).next

  turn_by : (past : List Event) (e : Event) → Turn q o image (by_number past) past (event_by number e) e
  turn_by past e = turn_alike q o image (by_number past) past (event_by number e) e (told past) (sym (mark_by (e ∷ past))) (both past e)

  relations_by : (past : List Event) → relation q (by_number past) ≡ relation over past
  relations_by [] = refl
  relations_by (e ∷ past) = relation_next q o image (λ key ds. refl) (by_number past) past (event_by number e) e (turn_by past e) (anywhere q (by_number past) (event_by number e)) (anywhere over past e) (relations_by past)

  rows_by : (past : List Event) (e : Event) → turn_rows q (by_number past) (event_by number e) ≡ map (row_by number) (turn_rows over past e)
  rows_by past e = rows_alike q o image (λ key ds. refl) (by_number past) past (event_by number e) e (turn_by past e) (anywhere q (by_number past) (event_by number e)) (anywhere over past e) (relations_by past)

pub same_by_numbers : (q : Query) (number : Numbers) (keys : List (List ℕ)) → AreNumbers number keys q → SameByNumbers q number keys
same_by_numbers q number keys are = record { verdict = verdict_by q number keys are; rows = rows_by q number keys are }
