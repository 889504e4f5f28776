-- The rows of panes that a part of a history writes and withdraws: those of the whole for its keys, in their
-- order.
use Rattle.std.proofs.Common.{◌≡◌, true, false, cond, List, [], ◌∷◌, refl, sym, ap, ◌∙◌}
use Rattle.std.specs.Prelude.{filter}
use Rattle.wsm_record.specs.declared.words.Form.TheVariants.{Panes}
use Rattle.wsm_record.specs.Event.{Event}
use Rattle.wsm_semantics.specs.declared.out_row.OutRow.{OutRow}
use Rattle.wsm_semantics.specs.declared.out_row.OutRow.TheVariants.{Pane, Retract, Istream, Dstream, Rstream}
use Rattle.wsm_semantics.specs.Query.{Query}
use Rattle.wsm_semantics.specs.Relation.{turn_rows}
use Rattle.wsm_semantics.specs.ByKey.{Keys, is_of, of_keys, IgnoresTurns, is_at, is_row_of, RowsByKey}
use Rattle.wsm_semantics.specs.FromWatermark.{Step, is_row_at, rest, whole}
use Rattle.wsm_semantics.proofs.Lists.{filter_same}
use Rattle.wsm_semantics.proofs.Counted.{Owns, turn_rows_all}
use Rattle.wsm_semantics.proofs.StepTurns.{rest_is, whole_is}
use Rattle.wsm_semantics.proofs.StepRows.{turn_rows_go, turn_rows_stay}
use Rattle.wsm_semantics.proofs.KeyTurns.{is_said, steps_of}
use Rattle.wsm_semantics.proofs.KeyFirings.{MayPart, all_of_part, lacks, may_go, may_stay, owns_key}

of_place : (keys : Keys) (y : OutRow) → is_row_of keys y ≡ is_row_at (is_at keys) y
of_place keys (Pane kind key window columns) = refl
of_place keys (Retract key window columns) = refl
of_place keys (Istream mark columns) = refl
of_place keys (Dstream mark columns) = refl
of_place keys (Rstream mark columns) = refl

-- the rows of some keys, by the part of these
pub rows_by_key : (q : Query) → IgnoresTurns q → q.form ≡ Panes → (keys : Keys) → RowsByKey q keys
rows_by_key q ignores panes keys past e room =
    let part : List Event = of_keys keys past in
    let rows : List Event → List OutRow = λ es. filter (is_row_at (is_at keys)) (turn_rows q es e) in
    let steps : List Step = steps_of keys past in
    let owns : (es : List Event) → Owns q (is_at keys) es × Owns q (is_at keys) (e ∷ es) = λ es. (owns_key q keys es, owns_key q keys (e ∷ es)) in
    filter_same (is_row_of keys) (is_row_at (is_at keys)) (of_place keys) (turn_rows q past e)
    ∙ ap rows (sym (whole_is (is_of keys) past))
    ∙ elim (is_of keys e) as (λ b. is_of keys e ≡ b → rows (whole steps []) ≡ cond b (turn_rows q part e) []) [
      | true ↦ λ here.
          turn_rows_stay q q.clock.start q.clock.records (is_at keys) (is_said keys) (MayPart q keys) [] [] 0 (lacks q keys) e steps ignores (may_stay q keys past e room here) panes (λ _. owns (whole steps [])) (λ _. owns (rest steps []))
          ∙ ap rows (rest_is (is_of keys) past)
          ∙ turn_rows_all q (is_at keys) part e (all_of_part q keys past e here) panes (λ _. owns part)
      | false ↦ λ other. turn_rows_go q q.clock.start q.clock.records (is_at keys) (is_said keys) (MayPart q keys) [] [] 0 (lacks q keys) e steps (may_go q keys past e room other) panes (λ _. owns (whole steps []))
    ] refl
