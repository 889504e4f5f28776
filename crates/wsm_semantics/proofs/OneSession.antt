-- How many sessions a record stands in, and how many it is linked to.
use Rattle.std.proofs.Common.{◌≡◌, false, ◌&&◌, cond, List, ◌∷◌, map, length, ℤ, pos, ◌+ℤ◌, ◌≤ℤ◌, sym, ap, ◌∙◌}
use Rattle.std.specs.Prelude.{Bool, filter, int_lt}
use Rattle.wsm_record.specs.Event.{Event}
use Rattle.wsm_windows.specs.declared.window.Window.{Window}
use Rattle.wsm_windows.specs.declared.window.Shape.TheVariants.{Session}
use Rattle.wsm_windows.specs.Windows.{has_inside}
use Rattle.wsm_windows.specs.Places.{at}
use Rattle.wsm_semantics.specs.Query.{Query, Datum, mark, selected}
use Rattle.wsm_semantics.specs.Sessions.{sessions, links}
use Rattle.wsm_semantics.specs.Panes.{of_key, contents}
use Rattle.wsm_semantics.specs.Kept.{kept, kept_in, is_linked}
use Rattle.wsm_semantics.proofs.Lists.{filter_same, length_each}
use Rattle.wsm_semantics.proofs.Each.{itself}
use Rattle.wsm_semantics.proofs.SessionTimes.{exactly_one}
use Rattle.wsm_semantics.proofs.SessionPlaces.{sessions_of}
use Rattle.wsm_semantics.proofs.SessionJoin.{at_each}
use Rattle.wsm_semantics.proofs.SessionStep.{ws, kept_linked}

module _ (gap : ℤ) (long : pos 1 ≤ℤ gap) where
  -- a record stands in one session, itself among the records
  pub stands_in_one : (d : Datum) (ds : List Datum) → length (filter (has_inside d.time) (sessions gap (map (λ x. x.time) (of_key d.key (d ∷ ds))))) ≡ 1
  stands_in_one d ds =
      ap (λ (b : Bool). length (filter (has_inside d.time) (sessions gap (map (λ x. x.time) (cond b (d ∷ of_key d.key ds) (of_key d.key ds)))))) (itself d.key)
      ∙ (exactly_one gap long (d.time ∷ map (λ x. x.time) (of_key d.key ds))).0

-- as many panes that are held are linked to a record as sessions
pub as_many_linked : (q : Query) (gap : ℤ) → pos 1 ≤ℤ gap → q.shape ≡ Session gap → (past : List Event) (d : Datum) → int_lt (d.time +ℤ q.clock.lateness) (mark q past) ≡ false →
    length (filter (λ e. is_linked gap d e.0) (kept q past)) ≡ length (filter (λ w. is_linked gap d (at d.key w)) (sessions gap (map (λ x. x.time) (of_key d.key (selected q past)))))
as_many_linked q gap long is past d prompt =
    let on : List Window = ws q gap is long past d prompt in
    ap length (kept_linked q gap is long past d prompt)
    ∙ length_each (kept_in q past) (at_each (contents q past) d.key on)
    ∙ length_each (λ w. (at d.key w, contents q past (at d.key w))) on
    ∙ ap length (filter_same (links gap d.time) (λ w. is_linked gap d (at d.key w)) (λ w. ap (λ (b : Bool). b && links gap d.time w) (sym (itself d.key))) (sessions_of gap (selected q past) d.key))
