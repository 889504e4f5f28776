-- The lines for rows behind others, turn by turn.
use Rattle.std.proofs.Common.{◌≡◌, ℕ, ◌+◌, ◌≤◌, suc, List, [], ◌∷◌, ◌++◌, drop, length, map, ℤ, Option, Some, None, Ok, Err, refl, sym, ap, subst, ◌∙◌, append_assoc, append-nil, length-append, arith}
use Rattle.std.proofs.Math.Seq.{drop-append_seam}
use Rattle.std.proofs.lemmas.List.{map-append}
use Rattle.wsm_record.specs.Event.{Event}
use Rattle.wsm_admission.specs.declared.verdict.Refusal.{Refusal}
use Rattle.wsm_admission.specs.declared.verdict.Refusal.TheVariants.{UnknownKey, FieldRange, TimeRange, TooFarAhead, Late, RecordLimit, NotRising, UnknownSource}
use Rattle.wsm_admission.specs.Admission.{counter}
use Rattle.wsm_semantics.specs.declared.out_row.OutRow.{OutRow}
use Rattle.wsm_semantics.specs.Query.{Query, verdict_on}
use Rattle.wsm_semantics.specs.Relation.{turn_rows}
use Rattle.wsm_semantics.specs.Lines.{Row, Line, Out, Faulty, events, refusal_lines, turn_lines, lines_so_far}
use Rattle.wsm_semantics.specs.ByKey.{HasRoom}
use Rattle.wsm_semantics.specs.FromWatermark.{begun_at, BothHaveRoom}
use Rattle.wsm_keep.specs.GoesOn.{moved, lines_behind, GoesOn}

-- the same turn by turn
abbrev turns_behind : Query → List Row → List Row → List Line
turns_behind q [] before = []
turns_behind q (row ∷ newer) before = turns_behind q newer before ++ turn_lines q (newer ++ before) row

pub events-append : (newer before : List Row) → events (newer ++ before) ≡ events newer ++ events before
events-append [] before = refl
events-append (Ok e ∷ newer) before = ap (λ (es : List Event). e ∷ es) (events-append newer before)
events-append (Err fault ∷ newer) before = events-append newer before

so_far-append : (q : Query) (newer before : List Row) → lines_so_far q (newer ++ before) ≡ lines_so_far q before ++ turns_behind q newer before
so_far-append q [] before = sym (append-nil (lines_so_far q before))
so_far-append q (row ∷ newer) before =
    ap (λ (ls : List Line). ls ++ turn_lines q (newer ++ before) row) (so_far-append q newer before)
    ∙ append_assoc (lines_so_far q before) (turns_behind q newer before) (turn_lines q (newer ++ before) row)

behind_is : (q : Query) (newer before : List Row) → lines_behind q newer before ≡ turns_behind q newer before
behind_is q newer before = ap (drop (length (lines_so_far q before))) (so_far-append q newer before) ∙ drop-append_seam (lines_so_far q before) (turns_behind q newer before)

-- ---- row numbers

moved_rows : (by : ℕ) (rs : List OutRow) → map (moved by) (map Out rs) ≡ map Out rs
moved_rows by [] = refl
moved_rows by (r ∷ rs) = ap (λ (ls : List Line). Out r ∷ ls) (moved_rows by rs)

moved_refusal : (by n : ℕ) (v : Option Refusal) → map (moved by) (refusal_lines n v) ≡ refusal_lines (n + by) v
moved_refusal by n None = refl
moved_refusal by n (Some UnknownKey) = refl
moved_refusal by n (Some FieldRange) = refl
moved_refusal by n (Some TimeRange) = refl
moved_refusal by n (Some TooFarAhead) = refl
moved_refusal by n (Some Late) = refl
moved_refusal by n (Some RecordLimit) = refl
moved_refusal by n (Some NotRising) = refl
moved_refusal by n (Some UnknownSource) = refl

moved_turn : (by n : ℕ) (v : Option Refusal) (rs : List OutRow) → map (moved by) (refusal_lines n v ++ map Out rs) ≡ refusal_lines (n + by) v ++ map Out rs
moved_turn by n v rs =
    map-append (moved by) (refusal_lines n v) (map Out rs)
    ∙ (λ i. moved_refusal by n v i ++ moved_rows by rs i)

same_number : (n a s : ℕ) → suc n + a ≤ 18446744073709551615 → suc n + s ≤ 18446744073709551615 → counter ((n + s) + 1) + a ≡ counter ((n + a) + 1) + s
same_number n a s h k = omega arith

room_before : (q : Query) (row : Row) (rows : List Row) → HasRoom q (events (row ∷ rows)) → HasRoom q (events rows)
room_before q (Ok e) rows room = room.1
room_before q (Err fault) rows room = room

-- ---- turns alike

module _ (q : Query) (records : ℤ) (all some : List Row) where
  abbrev anew : Query
  anew = begun_at q.clock.start records q

  abbrev Both : List Event → Type 0
  Both es = BothHaveRoom q q.clock.start records (es ++ events all) (es ++ events some)

  module _ (verdicts : (es : List Event) (e : Event) → Both (e ∷ es) → verdict_on anew (es ++ events some) e ≡ verdict_on q (es ++ events all) e)
      (rows : (es : List Event) (e : Event) → Both (e ∷ es) → turn_rows q (es ++ events all) e ≡ turn_rows anew (es ++ events some) e) where
    number : (newer : List Row) → suc (length newer) + length all ≤ 18446744073709551615 → suc (length newer) + length some ≤ 18446744073709551615 →
        counter (length (newer ++ some) + 1) + length all ≡ counter (length (newer ++ all) + 1) + length some
    number newer h k =
        ap (λ (n : ℕ). counter (n + 1) + length all) (length-append newer some)
        ∙ same_number (length newer) (length all) (length some) h k
        ∙ ap (λ (n : ℕ). counter (n + 1) + length some) (sym (length-append newer all))

    turn_alike : (newer : List Row) (row : Row) → suc (length newer) + length all ≤ 18446744073709551615 → suc (length newer) + length some ≤ 18446744073709551615 →
        BothHaveRoom q q.clock.start records (events (row ∷ newer ++ all)) (events (row ∷ newer ++ some)) →
        map (moved (length all)) (turn_lines anew (newer ++ some) row) ≡ map (moved (length some)) (turn_lines q (newer ++ all) row)
    turn_alike newer (Err fault) h k room = ap (λ (n : ℕ). Faulty n fault ∷ []) (number newer h k)
    turn_alike newer (Ok e) h k room =
        let es : List Event = events newer in
        let both : Both (e ∷ es) = (
          subst (λ (past : List Event). HasRoom q (e ∷ past)) (events-append newer all) room.0,
          subst (λ (past : List Event). HasRoom anew (e ∷ past)) (events-append newer some) room.1,
        ) in
        let v : verdict_on anew (events (newer ++ some)) e ≡ verdict_on q (events (newer ++ all)) e =
        ap (λ (past : List Event). verdict_on anew past e) (events-append newer some)
        ∙ verdicts es e both
        ∙ ap (λ (past : List Event). verdict_on q past e) (sym (events-append newer all)) in
        let r : turn_rows anew (events (newer ++ some)) e ≡ turn_rows q (events (newer ++ all)) e =
        ap (λ (past : List Event). turn_rows anew past e) (events-append newer some)
        ∙ sym (rows es e both)
        ∙ ap (λ (past : List Event). turn_rows q past e) (sym (events-append newer all)) in
        moved_turn (length all) (counter (length (newer ++ some) + 1)) (verdict_on anew (events (newer ++ some)) e) (turn_rows anew (events (newer ++ some)) e)
        ∙ (λ i. refusal_lines (number newer h k i) (v i) ++ map Out (r i))
        ∙ sym (moved_turn (length some) (counter (length (newer ++ all) + 1)) (verdict_on q (events (newer ++ all)) e) (turn_rows q (events (newer ++ all)) e))

    turns_alike : (newer : List Row) → length newer + length all ≤ 18446744073709551615 → length newer + length some ≤ 18446744073709551615 →
        BothHaveRoom q q.clock.start records (events (newer ++ all)) (events (newer ++ some)) →
        map (moved (length all)) (turns_behind anew newer some) ≡ map (moved (length some)) (turns_behind q newer all)
    turns_alike [] h k room = refl
    turns_alike (row ∷ newer) h k room =
        map-append (moved (length all)) (turns_behind anew newer some) (turn_lines anew (newer ++ some) row)
        ∙ (λ i. turns_alike newer (omega arith) (omega arith) (room_before q row (newer ++ all) room.0, room_before anew row (newer ++ some) room.1) i ++ turn_alike newer row h k room i)
        ∙ sym (map-append (moved (length some)) (turns_behind q newer all) (turn_lines q (newer ++ all) row))

    pub go_on : GoesOn q records all some
    go_on = record {
      lines = λ newer h k room.
          ap (map (moved (length all))) (behind_is anew newer some)
          ∙ turns_alike newer h k room
          ∙ ap (map (moved (length some))) (sym (behind_is q newer all));
    }
