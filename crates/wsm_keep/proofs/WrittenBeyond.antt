-- A run over the needed events writes as many rows as one over the history wrote for sessions that begin beyond.
use Rattle.std.proofs.Common.{◌≡◌, ◌≢◌, true, List, [], ◌∷◌, length, ℤ, pos, ◌≤ℤ◌, Option, Some, None, refl, sym, ap, subst, ◌∙◌, map, ℕ}
use Rattle.std.proofs.lemmas.Bool.{true≢false}
use Rattle.std.specs.List.{AllByRecursion}
use Rattle.wsm_record.specs.declared.words.Form.{Form}
use Rattle.wsm_record.specs.Event.{Event}
use Rattle.wsm_windows.specs.declared.window.Shape.{Shape}
use Rattle.wsm_windows.specs.declared.window.Shape.TheVariants.{Fixed, Sliding, Session}
use Rattle.wsm_windows.specs.Windows.{IsShape}
use Rattle.wsm_admission.specs.declared.verdict.Refusal.{Refusal}
use Rattle.wsm_admission.specs.declared.verdict.Refusal.TheVariants.{RecordLimit}
use Rattle.wsm_semantics.specs.Query.{Datum, Query, SessionsByEvent, verdict_on}
use Rattle.wsm_semantics.specs.Sessions.{sessions}
use Rattle.wsm_semantics.specs.Summaries.{IsLawful, Plan, Runs, columns, folded_of, with_folded}
use Rattle.wsm_semantics.specs.ByKey.{HasRoom, IgnoresTurns, at_turn}
use Rattle.wsm_semantics.specs.FromWatermark.{PartsNoSession, Times, dropped_times, is_beside}
use Rattle.wsm_semantics.specs.Needed.{needed_by, needed_without}
use Rattle.wsm_semantics.specs.LastingRows.{rows_so_far}
use Rattle.wsm_semantics.proofs.Lists.{length_each}
use Rattle.wsm_semantics.proofs.LaterParts.{over_parts_none}
use Rattle.wsm_keep.specs.WrittenBeyond.{WritesBeyond, WritesSessions, are_sessions, rows_beyond}
use Rattle.wsm_keep.proofs.NeededTaken.{AllTaken, all_taken}
use Rattle.wsm_keep.proofs.TakenEvents.{taken, taken_needs, taken_room, taken_rows, taken_times}
use Rattle.wsm_keep.proofs.BeyondRows.{beyond_alone}
use Rattle.wsm_keep.proofs.RisesTogether.{as_many}

session_of : (s : Shape) → are_sessions s ≡ true → (gap : ℤ) × (s ≡ Session gap)
session_of (Fixed size) h = absurd (true≢false (sym h))
session_of (Sliding size period) h = absurd (true≢false (sym h))
session_of (Session gap) h = (gap, refl)

no_limit : (v : Option Refusal) → v ≡ None → v ≢ Some RecordLimit
no_limit None h = λ k. absurd (cc k)
no_limit (Some r) h = λ k. absurd (cc h)

roomy : (q : Query) (x : Times) (past : List Event) → AllTaken q x past → HasRoom q past
roomy q x [] all = tt
roomy q x (e ∷ past) all = (no_limit (verdict_on q past e) all.0, roomy q x past all.1)

-- what records are folded to, and so their row, hangs on no turn
module _ {X : Type 0} (plan : Plan X) where
  folded_turned : (f : ℕ → ℕ) (ds : List Datum) → folded_of plan (map (at_turn f) ds) ≡ folded_of plan ds
  folded_turned f [] = refl
  folded_turned f (d ∷ ds) = ap (λ (x : Option X). Some (with_folded plan d x)) (folded_turned f ds)

  turns_ignored : (q : Query) → Runs plan q → IgnoresTurns q
  turns_ignored q runs f key ds =
      sym (runs.row key (map (at_turn f) ds))
      ∙ (λ i. columns plan key (length_each (at_turn f) ds i) (folded_turned f ds i))
      ∙ runs.row key ds

pub writes_beyond : {X : Type 0} (plan : Plan X) → IsLawful plan → (q : Query) → Runs plan q → IsShape q.shape → SessionsByEvent q → pos 0 ≤ℤ q.clock.lateness → WritesSessions q → (past : List Event) → WritesBeyond q past
writes_beyond plan lawful q runs ok timely low writes past =
    let (gap, is) = session_of q.shape writes.shape in
    let x : Times = dropped_times q past in
    let some : List Event = taken q past in
    let room : HasRoom q some = taken_room q past in
    let none : PartsNoSession q x some = λ gap is key. subst (λ (ts : List ℤ). AllByRecursion (λ w. is_beside gap (x key) w ≡ true) (sessions gap ts)) (sym (taken_times q key past)) (over_parts_none q ok past gap is key) in
    ap (λ (f : Form). length (rows_so_far q (needed_by f q past))) writes.form
    ∙ sym (ap (λ (es : List Event). length (rows_so_far q es)) (taken_needs q x past []))
    ∙ as_many plan lawful q runs ok timely low writes.form x some room (roomy q x (needed_without q x [] some) (all_taken q x some []))
    ∙ ap length (
    sym (beyond_alone q gap is ok x writes.form timely (turns_ignored plan q runs) some room none)
    ∙ ap (rows_beyond x) (taken_rows plan lawful q runs ok timely low writes.form past))
