-- A history in which none is refused for RECORDS, by two numbers of them: it is read and written alike.
use Rattle.std.proofs.Common.{◌≡◌, ◌≢◌, ℕ, true, List, [], ◌∷◌, ◌++◌, map, ℤ, Some, refl, sym, ap, ◌∙◌}
use Rattle.std.proofs.lemmas.List.{map-append}
use Rattle.std.specs.Prelude.{filter}
use Rattle.wsm_record.specs.Event.{Event}
use Rattle.wsm_admission.specs.declared.verdict.Refusal.TheVariants.{RecordLimit}
use Rattle.wsm_admission.specs.Clock.{marks_of, least}
use Rattle.wsm_semantics.specs.Query.{Datum, Query, effect_of, selected, selection, selection_of, verdict_on}
use Rattle.wsm_semantics.specs.Panes.{panes, held}
use Rattle.wsm_semantics.specs.Firings.{firings}
use Rattle.wsm_semantics.specs.Relation.{relation, turn_rows}
use Rattle.wsm_semantics.specs.ByKey.{HasRoom, with_records, SameByRecords}
use Rattle.wsm_semantics.specs.ByNumber.{row_by}
use Rattle.wsm_semantics.proofs.Effects.{effect_with, selection-with}
use Rattle.wsm_semantics.proofs.PanesOrder.{panes_of}
use Rattle.wsm_semantics.proofs.Given.{filter-any, map-itself}
use Rattle.wsm_semantics.proofs.Moves.{Own, firings_unmoved, moved, own, pane_moved, panes_unmoved, records_unmoved, unmoved}
use Rattle.wsm_semantics.proofs.MovedPanes.{panes_moved}
use Rattle.wsm_semantics.proofs.Counted.{anywhere, finds_own}
use Rattle.wsm_semantics.proofs.ImageFirings.{Image, PanesAlike}
use Rattle.wsm_semantics.proofs.ImageStanding.{Told, Turn, held_alike, turn_alike}
use Rattle.wsm_semantics.proofs.ImageRows.{relation_next, row_itself, rows_alike}
use Rattle.wsm_semantics.proofs.LaterMarks.{effect_alike, next_marks, verdict_alike}

module _ (q : Query) (records : ℤ) where
  abbrev other : Query
  other = with_records records q

  -- no record was refused by either number
  abbrev BothHaveRoom : List Event → Type 0
  BothHaveRoom past = HasRoom q past × HasRoom other past

  marks_same : (past : List Event) → marks_of other.clock other.declared past ≡ marks_of q.clock q.declared past
  marks_same [] = refl
  marks_same (e ∷ past) = next_marks q q.clock.start records past past (marks_same past) e

  verdict_same : (past : List Event) (e : Event) → verdict_on q past e ≢ Some RecordLimit → verdict_on other past e ≢ Some RecordLimit → verdict_on other past e ≡ verdict_on q past e
  verdict_same past e = verdict_alike q q.clock.start records past past (marks_same past) e

  does_same : (past : List Event) (e : Event) → BothHaveRoom (e ∷ past) → effect_of q past e ≡ effect_with (moved unmoved) (effect_of other past e)
  does_same past e room = effect_alike q q.clock.start records past past (marks_same past) (λ n. n) refl e (verdict_same past e room.0.0 room.1.0)

  selected_same : (past : List Event) → BothHaveRoom past → selected q past ≡ map (moved unmoved) (selected other past)
  selected_same [] room = refl
  selected_same (e ∷ past) room =
      (λ i. (ap selection (does_same past e room) ∙ selection-with (moved unmoved) (effect_of other past e)) i ++ selected_same past (room.0.1, room.1.1) i)
      ∙ sym (map-append (moved unmoved) (selection_of other past e) (selected other past))

  -- ---- as an image in which nothing is moved

  abbrev o : Own
  o = record (own q) { records = records }

  abbrev image : Image q o
  image = record { moves = unmoved; here = λ _. true; there = λ _. true; finds = finds_own q (λ _. true) (λ p r h k. refl); finds_there = finds_own other (λ _. true) (λ p r h k. refl) }

  panes_same : (past : List Event) → BothHaveRoom past → PanesAlike q o image (panes q past) (panes other past)
  panes_same past room =
      filter-any (panes q past)
      ∙ ap (panes_of q) (selected_same past room)
      ∙ panes_moved unmoved q (selected other past)
      ∙ ap (map (pane_moved unmoved)) (sym (filter-any (panes other past)))

  told : (past : List Event) → BothHaveRoom past → Told q o image past past
  told [] room = record { marks = ap least (marks_same []); panes = panes_same [] room; fired = refl }
  told (e ∷ past) room =
      (turn_alike q o image past past e e (told past (room.0.1, room.1.1)) (ap least (marks_same (e ∷ past))) (record { turn = refl; effect = does_same past e room; panes = panes_same (e ∷ past) room })).next

  turn : (past : List Event) (e : Event) → BothHaveRoom (e ∷ past) → Turn q o image past past e e
  turn past e room =
      turn_alike q o image past past e e (told past (room.0.1, room.1.1)) (ap least (marks_same (e ∷ past))) (record { turn = refl; effect = does_same past e room; panes = panes_same (e ∷ past) room })

  rows_moved : (key : ℕ) (ds : List Datum) → q.row key (map (moved unmoved) ds) ≡ q.row key ds
  rows_moved key ds = ap (q.row key) (records_unmoved ds)

  relation_same : (past : List Event) → BothHaveRoom past → relation q past ≡ relation other past
  relation_same [] room = refl
  relation_same (e ∷ past) room = relation_next q o image rows_moved past past e e (turn past e room) (anywhere q past e) (anywhere other past e) (relation_same past (room.0.1, room.1.1))

  held_same : (past : List Event) → BothHaveRoom past → held q past ≡ held other past
  held_same past room = sym (filter-any (held q past)) ∙ held_alike q o image past past (told past room) ∙ panes_unmoved (filter (λ _. true) (held other past)) ∙ filter-any (held other past)

  firings_same : (past : List Event) (e : Event) → BothHaveRoom (e ∷ past) → firings q past e ≡ firings other past e
  firings_same past e room = sym (filter-any (firings q past e)) ∙ (turn past e room).fired ∙ firings_unmoved (filter (λ _. true) (firings other past e)) ∙ filter-any (firings other past e)

  rows_same : (past : List Event) (e : Event) → BothHaveRoom (e ∷ past) → turn_rows q past e ≡ turn_rows other past e
  rows_same past e room =
      rows_alike q o image rows_moved past past e e (turn past e room) (anywhere q past e) (anywhere other past e) (relation_same past (room.0.1, room.1.1))
      ∙ map-itself (row_by (λ key. key)) row_itself (turn_rows other past e)

  pub same_by_records : SameByRecords q records
  same_by_records = record {
    verdict = λ past e room room_too. verdict_same past e room.0 room_too.0;
    held = λ past room room_too. sym (held_same past (room, room_too));
    firings = λ past e room room_too. sym (firings_same past e (room, room_too));
    rows = λ past e room room_too. sym (rows_same past e (room, room_too));
  }
