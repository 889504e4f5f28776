-- Where lateness is counted from a record's own time, each window of a selected record was live before its turn.
use Rattle.std.proofs.Common.{◌≡◌, Bool, true, false, List, [], ◌∷◌, ℤ, ◌+ℤ◌, Some, subst, arith}
use Rattle.std.proofs.lemmas.Int.{ints}
use Rattle.std.specs.Prelude.{int_lt}
use Rattle.std.specs.List.{AllByRecursion}
use Rattle.wsm_record.specs.Event.{Event}
use Rattle.wsm_windows.specs.declared.window.Window.{Window}
use Rattle.wsm_windows.specs.Windows.{has_inside}
use Rattle.wsm_admission.specs.Clock.{admitted_count, is_late_by}
use Rattle.wsm_admission.proofs.Taken.{taken_record}
use Rattle.wsm_semantics.specs.Query.{Query, mark, selection, selected, selection_of}
use Rattle.wsm_semantics.specs.LiveRecords.{IsLiveEverywhere, AllLive}
use Rattle.wsm_semantics.proofs.Each.{all-append}
use Rattle.wsm_semantics.proofs.Effects.{by_effect}

-- a window that has a time inside lives as long as the time isn't late
pub live_inside : (mark t l : ℤ) (w : Window) → int_lt (t +ℤ l) mark ≡ false → has_inside t w ≡ true → int_lt mark (w.end +ℤ l) ≡ true
live_inside mark t l w prompt h = grind (arith, ints)

module _ (q : Query) (late : q.clock.from_window ≡ false) where
  live_one : (e : Event) (past : List Event) → AllByRecursion (IsLiveEverywhere q) (selection_of q past e)
  live_one e past =
      by_effect q past (λ e x. AllByRecursion (IsLiveEverywhere q) (selection x))
      (λ k t vs taken _.
      let admitted = taken_record q.clock q.shape q.declared (mark q past) (admitted_count q.clock q.shape q.declared past) (Some k) t vs taken in
      let prompt : int_lt (t +ℤ q.clock.lateness) (mark q past) ≡ false = subst (λ (by : Bool). is_late_by by q.shape q.clock.lateness (mark q past) t ≡ false) late admitted.prompt in
      (λ w inside. live_inside (mark q past) t q.clock.lateness w prompt inside, tt))
      (λ o t _. tt)
      (λ e _. tt)
      e

  pub all_live : AllLive q
  all_live [] = tt
  all_live (e ∷ past) = all-append (IsLiveEverywhere q) (selection_of q past e) (selected q past) (live_one e past) (all_live past)
