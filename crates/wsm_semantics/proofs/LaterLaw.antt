-- The law from a watermark on, and where two histories begin: with the same marks, or the second with the watermark of the
-- first as its START.
use Rattle.std.proofs.Common.{◌≡◌, ℕ, ◌+◌, Bool, List, [], ◌∷◌, ◌++◌, map, length, ℤ, pos, ◌≤ℤ◌, ◌+ℤ◌, refl, sym, ap, subst, arith}
use Rattle.std.specs.List.{range_with_len}
use Rattle.wsm_record.specs.Event.{Event}
use Rattle.wsm_record.specs.Schema.{source_count}
use Rattle.wsm_record.specs.declared.words.Mode.TheVariants.{Retracting}
use Rattle.wsm_windows.specs.declared.window.Shape.{Shape}
use Rattle.wsm_windows.specs.declared.window.Shape.TheVariants.{Fixed, Sliding, Session}
use Rattle.wsm_windows.specs.Windows.{IsShape}
use Rattle.wsm_windows.specs.declared.place.Place.{Place}
use Rattle.wsm_admission.specs.Clock.{source_mark, marks_of, least}
use Rattle.wsm_semantics.specs.Query.{Query, SessionsByEvent, mark, selected}
use Rattle.wsm_semantics.specs.ByKey.{IgnoresTurns}
use Rattle.wsm_semantics.specs.FromWatermark.{begun_at, Step, Stays, Goes, Times, whole, rest, LeavesOut, EndsBy, BeginAlike, is_after, is_beyond, HasNoSessions, MayLeaveOut, RetractsNoSessions, SameFor, SameRowsFor, SameAfter, SameRowsAfter, SameBeyond, SameRowsBeyond, SameOnceSettled}
use Rattle.wsm_semantics.proofs.Lists.{all-each}
use Rattle.wsm_semantics.proofs.Assigned.{IsAssigned}
use Rattle.wsm_semantics.proofs.AssignedTurns.{same_shown}
use Rattle.wsm_semantics.proofs.SelectedRecords.{IsSelected, each_selected}
use Rattle.wsm_semantics.proofs.Counted.{Owns, owns_shown}
use Rattle.wsm_semantics.proofs.ImageStanding.{held_alike}
use Rattle.wsm_semantics.proofs.StepImage.{Lacks, begun, image_at, told_at, turn_at}
use Rattle.wsm_semantics.proofs.StepRows.{pane_rows_stay, turn_rows_stay}
use Rattle.wsm_semantics.proofs.LaterMarks.{mark_alike, mark_of_steps}
use Rattle.wsm_semantics.proofs.LaterTurns.{is_new, rooms_before}
use Rattle.wsm_semantics.proofs.LaterParts.{rest_parted}
use Rattle.wsm_semantics.proofs.LaterPanes.{Lates, after_lates, beyond_lates, after_covers, beyond_covers, parted_none}
use Rattle.wsm_semantics.proofs.LaterFirings.{Serves, WithRoom, lacks_old, none_fired, old_none}
use Rattle.wsm_semantics.proofs.LaterSettled.{LateOnceSettled, live_after, live_beyond, same_once_settled}

-- no record that was selected is further ahead of the watermark than the skew
ends_by : (q : Query) (past : List Event) → EndsBy q (λ key. mark q past +ℤ q.clock.skew) past
ends_by q past = all-each (IsSelected q (mark q past)) (λ d. d.time ≤ℤ (mark q past +ℤ q.clock.skew)) (selected q past) (λ d is. is.near) (each_selected q past)

-- with the same marks
pub begun_by_marks : (q : Query) (start records : ℤ) (older other : List Event) (longer : ℕ) → marks_of (begun_at start records q).clock q.declared other ≡ marks_of q.clock q.declared older → length older ≡ length other + longer →
    BeginAlike q start records (λ key. mark q older +ℤ q.clock.skew) older other longer
begun_by_marks q start records older other longer marks turns = record {
  marks = marks;
  turns = turns;
  before = ends_by q older;
  before_other = subst (λ (w : ℤ). EndsBy (begun_at start records q) (λ key. w +ℤ q.clock.skew) other) (mark_alike q start records older other marks) (ends_by (begun_at start records q) other);
}

-- one source alone
one_mark : (g : ℕ → ℤ) (n : ℕ) → n ≡ 1 → map (λ s. least (map g (range_with_len 0 n))) (range_with_len 0 n) ≡ map g (range_with_len 0 n)
one_mark g n one = subst (λ (n : ℕ). map (λ s. least (map g (range_with_len 0 n))) (range_with_len 0 n) ≡ map g (range_with_len 0 n)) (sym one) refl

none_before : (n : ℕ) → n ≡ 0 + n
none_before n = omega arith

pub begun_alone : (q : Query) → source_count q.declared ≡ 1 → (records : ℤ) (older : List Event) → BeginAlike q (mark q older) records (λ key. mark q older +ℤ q.clock.skew) older [] (length older)
begun_alone q one records older =
    begun_by_marks q (mark q older) records older [] (length older) (one_mark (λ s. source_mark q.clock s older) (source_count q.declared) one) (none_before (length older))

-- where windows don't merge each tells of itself alone
owns_apart : (q : Query) (late : Place → Bool) → RetractsNoSessions q → q.mode ≡ Retracting → (past : List Event) → Owns q late past
owns_apart q late apart retracts = of_shape q.shape refl where
  own : IsAssigned q.shape → (past : List Event) → Owns q late past
  own assigned = owns_shown q late (λ p r shown. ap late (sym (same_shown q.shape assigned p r shown)))

  of_shape : (shape : Shape) → q.shape ≡ shape → (past : List Event) → Owns q late past
  of_shape (Fixed size) is = own (subst IsAssigned (sym is) tt)
  of_shape (Sliding size period) is = own (subst IsAssigned (sym is) tt)
  of_shape (Session gap) is = absurd (apart gap is retracts)

-- ---- the law

-- where both have all events
pub followed : (x : Times) (events older : List Event) → (whole (map Stays events) older ≡ events ++ older) × (rest (map Stays events) older ≡ events ++ older) × LeavesOut x (map Stays events)
followed x [] older = (refl, refl, tt)
followed x (e ∷ events) older = let after = followed x events older in (ap (λ (past : List Event). e ∷ past) after.0, ap (λ (past : List Event). e ∷ past) after.1, after.2)

module _ (q : Query) (ok : IsShape q.shape) (timely : SessionsByEvent q) (start records : ℤ) (x : Times) (late : Place → Bool) (May : List Step → Type 0) (older other : List Event) (longer : ℕ) (serves : Serves q start records x late May older other longer) where
  abbrev MayHere : List Step → Type 0
  MayHere = WithRoom q start records May older other

  lacks : Lacks q start records late (is_new x) MayHere older other longer
  lacks = lacks_old q ok timely start records x late May older other longer serves

  pub same_for : SameFor late May q start records older other longer
  same_for = record {
    mark = λ steps may. mark_of_steps q start records x older other serves.begun.marks steps (serves.out steps may);
    verdict = λ steps e may rooms. lacks.verdict e steps (may, rooms);
    held = λ steps may rooms. held_alike q (begun q start records) (image_at q start records late (is_new x) MayHere older other longer lacks steps) (whole steps older) (rest steps other)
        (told_at q start records late (is_new x) MayHere older other longer lacks steps (may, rooms));
    firings = λ steps e may rooms. (turn_at q start records late (is_new x) MayHere older other longer lacks e steps (may, rooms)).fired;
    gone = λ steps e may. old_none q x late serves.lates (whole steps older) e (serves.out (Goes e ∷ steps) may).0;
  }

  pub same_rows_for : IgnoresTurns q → SameRowsFor late May q start records older other
  same_rows_for ignores =
      let anew : Query = begun_at start records q in
      record {
        panes = λ steps e may rooms. pane_rows_stay q start records late (is_new x) MayHere older other longer lacks e steps ignores (may, rooms);
        rows = λ apart panes_alone steps e may rooms. turn_rows_stay q start records late (is_new x) MayHere older other longer lacks e steps ignores (may, rooms) panes_alone
            (λ retracts. (owns_apart q late apart retracts (whole steps older), owns_apart q late apart retracts (e ∷ whole steps older)))
            (λ retracts. (owns_apart anew late apart retracts (rest steps other), owns_apart anew late apart retracts (e ∷ rest steps other)));
      }

-- ---- windows that begin late enough

pub after_serves : (q : Query) → IsShape q.shape → (start records : ℤ) (x : Times) (older other : List Event) (longer : ℕ) → BeginAlike q start records x older other longer → Serves q start records x (is_after q x) (LeavesOut x) older other longer
after_serves q ok start records x older other longer begun =
    let anew : Query = begun_at start records q in
    let lates : Lates x (is_after q x) = after_lates q ok x in
    record {
      begun = begun;
      lates = lates;
      out = λ steps may. may;
      covered = λ steps may. (after_covers q ok x (selected q (whole steps older)), after_covers anew ok x (selected anew (rest steps other)));
      stays = λ e steps may. may;
      goes = λ e steps may. may.1;
      before = (none_fired q x (is_after q x) lates (after_covers q ok x) older begun.before, none_fired anew x (is_after q x) lates (after_covers anew ok x) other begun.before_other);
    }

pub same_after : (q : Query) → IsShape q.shape → SessionsByEvent q → (start records : ℤ) (x : Times) (older other : List Event) (longer : ℕ) → BeginAlike q start records x older other longer → SameAfter q start records x older other longer
same_after q ok timely start records x older other longer begun = same_for q ok timely start records x (is_after q x) (LeavesOut x) older other longer (after_serves q ok start records x older other longer begun)

pub same_rows_after : (q : Query) → IsShape q.shape → SessionsByEvent q → IgnoresTurns q → (start records : ℤ) (x : Times) (older other : List Event) (longer : ℕ) → BeginAlike q start records x older other longer → SameRowsAfter q start records x older other
same_rows_after q ok timely ignores start records x older other longer begun = same_rows_for q ok timely start records x (is_after q x) (LeavesOut x) older other longer (after_serves q ok start records x older other longer begun) ignores

-- ---- sessions that a time doesn't part

pub both_empty : (q : Query) (records : ℤ) (x : Times) → BeginAlike q q.clock.start records x [] [] 0
both_empty q records x = record { marks = refl; turns = refl; before = tt; before_other = tt }

pub beyond_serves : (q : Query) → IsShape q.shape → (records : ℤ) (x : Times) → Serves q q.clock.start records x (is_beyond x) (MayLeaveOut q q.clock.start records x) [] [] 0
beyond_serves q ok records x =
    let anew : Query = begun_at q.clock.start records q in
    record {
      begun = both_empty q records x;
      lates = beyond_lates x;
      out = λ steps may. may.0;
      covered = λ steps may. (
        beyond_covers q ok x (selected q (whole steps [])) may.1,
        beyond_covers anew ok x (selected anew (rest steps [])) (rest_parted q ok q.clock.start records x (both_empty q records x) steps may.0 may.2 may.1),
      );
      stays = λ e steps may. (may.0, parted_none q ok x (whole steps []) e may.1, rooms_before q q.clock.start records [] [] e steps may.2);
      goes = λ e steps may. (may.0.1, parted_none q ok x (whole steps []) e may.1, (may.2.0.1, may.2.1));
      before = (refl, refl);
    }

pub same_beyond : (q : Query) → IsShape q.shape → SessionsByEvent q → (records : ℤ) (x : Times) → SameBeyond q records x
same_beyond q ok timely records x = same_for q ok timely q.clock.start records x (is_beyond x) (MayLeaveOut q q.clock.start records x) [] [] 0 (beyond_serves q ok records x)

pub same_rows_beyond : (q : Query) → IsShape q.shape → SessionsByEvent q → IgnoresTurns q → (records : ℤ) (x : Times) → SameRowsBeyond q records x
same_rows_beyond q ok timely ignores records x = same_rows_for q ok timely q.clock.start records x (is_beyond x) (MayLeaveOut q q.clock.start records x) [] [] 0 (beyond_serves q ok records x) ignores

-- ---- once all begins late enough

pub settled_after : (q : Query) → IsShape q.shape → HasNoSessions q → pos 0 ≤ℤ q.clock.lateness → IgnoresTurns q → (start records : ℤ) (x : Times) (older other : List Event) (longer : ℕ) → BeginAlike q start records x older other longer →
    SameOnceSettled (LeavesOut x) q start records x older other longer
settled_after q ok none low ignores start records x older other longer begun =
    let timely : SessionsByEvent q = λ gap is. absurd (none gap is) in
    same_once_settled q ok timely low start records x (is_after q x) (LeavesOut x) older other longer (after_serves q ok start records x older other longer begun)
    (record {
      first = λ steps may m settled p placed live. live_after q ok x (whole steps older) p placed m settled live none;
      second = λ steps may m settled p placed live. live_after (begun_at start records q) ok x (rest steps other) p placed m settled live none;
    })
    ignores

pub beyond_live : (q : Query) → IsShape q.shape → (records : ℤ) (x : Times) → LateOnceSettled q q.clock.start records x (is_beyond x) (MayLeaveOut q q.clock.start records x) [] []
beyond_live q ok records x = record {
  first = λ steps may m settled p placed live. live_beyond q ok x (whole steps []) p placed m settled live may.1;
  second = λ steps may m settled p placed live.
      live_beyond (begun_at q.clock.start records q) ok x (rest steps []) p placed m settled live (rest_parted q ok q.clock.start records x (both_empty q records x) steps may.0 may.2 may.1);
}

pub settled_beyond : (q : Query) → IsShape q.shape → SessionsByEvent q → pos 0 ≤ℤ q.clock.lateness → IgnoresTurns q → (records : ℤ) (x : Times) → SameOnceSettled (MayLeaveOut q q.clock.start records x) q q.clock.start records x [] [] 0
settled_beyond q ok timely low ignores records x =
    same_once_settled q ok timely low q.clock.start records x (is_beyond x) (MayLeaveOut q q.clock.start records x) [] [] 0 (beyond_serves q ok records x) (beyond_live q ok records x) ignores
