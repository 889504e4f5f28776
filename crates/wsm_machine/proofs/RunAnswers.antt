-- What the code's answers come to: runs that ended tell the query's selection, what is folded and the
-- row; and what a turn costs by the panes that are held is what it costs by the history.
use Rattle.std.proofs.Common.{◌≡◌, ℕ, ◌+◌, ◌*◌, ◌≤◌, Bool, true, false, ◌&&◌, cond, List, [], ◌∷◌, map, reverse, length, ℤ, Some, None, Ok, IsTrue, refl, sym, ap, subst, ◌∙◌, arith}
use Rattle.std.proofs.lemmas.Int.{ints}
use Rattle.std.proofs.lemmas.List.{reverse-reverse}
use Rattle.std.specs.Prelude.{pos, ◌≤ℤ◌, filter, nat_lt}
use Rattle.wsm_record.specs.declared.event.Value.{Value}
use Rattle.wsm_record.specs.declared.words.Mode.{Mode}
use Rattle.wsm_record.specs.declared.words.Mode.TheVariants.{Discarding, Accumulating, Retracting}
use Rattle.wsm_record.specs.Event.{Event, Record}
use Rattle.wsm_windows.specs.declared.window.Shape.{Shape}
use Rattle.wsm_windows.specs.declared.window.Shape.TheVariants.{Fixed, Sliding, Session}
use Rattle.wsm_fold.specs.Accumulators.{SumsFit}
use Rattle.wsm_semantics.specs.Query.{Query, Datum, datum, Selects, Nothing, mark, is_taken, selected}
use Rattle.wsm_semantics.specs.Panes.{windows_among}
use Rattle.wsm_semantics.specs.Firings.{Firing}
use Rattle.wsm_semantics.specs.Kept.{Kept, kept, is_linked}
use Rattle.wsm_semantics.specs.Summaries.{Pane, fired_count, summaries, summary_fired}
use Rattle.wsm_semantics.proofs.Lists.{length_each}
use Rattle.wsm_semantics.proofs.Images.{where-summaries}
use Rattle.wsm_program.specs.Program.{Program, is_program}
use Rattle.wsm_program.specs.declared.program.Costs.{Costs}
use Rattle.wsm_rules.specs.Rules.{judge}
use Rattle.wsm_record.specs.declared.cell.Cell.{Cell}
use Rattle.wsm_record.specs.declared.cell.Cell.TheVariants as cells
use Rattle.wsm_windows.specs.declared.place.Place.{Place}
use Rattle.wsm_machine.specs.declared.outcome.Outcome.TheVariants.{Done}
use Rattle.wsm_machine.specs.Meaning.{where_run, update_run, fire_run, is_done, top_is_true, cells_below, selects, updated, row, query_of, plan_of, joins_two, joins_sessions, joins_kept, CountsSessions, effect_cost, record_cost, record_cost_by, fire_steps, pane_cost, pane_cost_by, windows_entered}
use Rattle.wsm_machine.specs.Sound.{AreFoldsOf, IsSoundPane, IsDatumInRange}
use Rattle.wsm_machine.proofs.EndedRuns.{values_are}
use Rattle.wsm_machine.proofs.QueryFolds.{folded_is}
use Rattle.wsm_machine.proofs.SoundAccumulators.{record_fits}

-- ---- answers

module _ (p : Program) (key : ℕ) where
  -- WHERE left a truth
  pub keeps_is : (values : List Value) (b : Bool) → (where_run p key values).outcome ≡ Done → (where_run p key values).stack ≡ cells.Bool b ∷ [] → selects p key values ≡ b
  keeps_is values b done left = λ i. is_done (done i) && top_is_true (left i)

  -- UPDATE folded values
  pub updated_is : (values vs : List Value) → (update_run p key values).folds ≡ map Some vs → updated p key values ≡ vs
  updated_is values vs folds = values_are (update_run p key values).folds vs (updated p key values) folds refl

  -- FIRE left a row and a truth
  pub row_is : (n : ℕ) (held : List Value) (b : Bool) (columns : List Cell) → (fire_run p key n held).outcome ≡ Done → (fire_run p key n held).stack ≡ cells.Bool b ∷ reverse columns
      → row p key n held ≡ cond b (Some columns) None
  row_is n held b columns done left =
      (λ i. cond (is_done (done i) && top_is_true (left i)) (Some (cells_below (left i))) None)
      ∙ ap (λ (cs : List Cell). cond b (Some cs) None) (reverse-reverse columns)

-- a record is folded into a sound pane in 64 bits, where it has fewer records than the program allows
pub pane_fits : (p : Program) (costs : Costs) → judge p ≡ Ok costs → IsTrue (is_program p) → (d : Datum) → IsDatumInRange p d → (n : ℕ) (h : Pane (List Value)) (held : List Value) →
    IsSoundPane p h → h.count ≤ n → pos (n + 1) ≤ℤ p.header.clock.records → h.folded ≡ Some held → SumsFit p.header.kinds held (updated p d.key d.values)
pane_fits p costs judged lawful d ranged n h held sound few room is =
    record_fits p costs judged lawful (fired_count p.header.mode h) held d ranged (subst (AreFoldsOf p (fired_count p.header.mode h)) is sound.folds)
    (least (fired_count p.header.mode h) (at_most p.header.mode))
  where
    at_most : (m : Mode) → fired_count m h ≤ n
    at_most Accumulating = few
    at_most Discarding = omega (arith, sound.unshown, few)
    at_most Retracting = few

    least : (m : ℕ) → m ≤ n → pos (m + 1) ≤ℤ p.header.clock.records
    least m l = omega (arith, ints, room, l)

-- ---- costs

linked_as_kept : (p : Program) (sh : Shape) (d : Datum) (es : List (Place × Kept)) → joins_sessions sh d (summaries (plan_of p) p.header.mode es) ≡ joins_kept sh d es
linked_as_kept p (Fixed size) d es = refl
linked_as_kept p (Sliding size period) d es = refl
linked_as_kept p (Session gap) d es =
    ap (λ (n : ℕ). nat_lt 1 n)
    (ap length (where-summaries (plan_of p) p.header.mode (is_linked gap d) es)
    ∙ length_each (λ (e : Place × Kept). (e.0, _)) (filter (λ e. is_linked gap d e.0) es))

-- an admitted record costs as much by the panes that are held as by the history
pub cost_is : (p : Program) (counts : CountsSessions (query_of p)) (past : List Event) (key : ℕ) (time : ℤ) (values : List Value) → is_taken (query_of p) past (Record (Some key) time values) ≡ true →
    record_cost_by p (summaries (plan_of p) p.header.mode (kept (query_of p) past)) (datum (length past) (mark (query_of p) past) key time values) ≡ record_cost p past (Record (Some key) time values)
cost_is p counts past key time values taken =
    let q : Query = query_of p in
    let d : Datum = datum (length past) (mark q past) key time values in
    let first : ℕ = (where_run p key values).steps in
    elim (selects p key values) as (λ b. selects p key values ≡ b →
    first + cond b (windows_entered p.header.shape d.time p.header.clock.lateness d.mark * (update_run p key values).steps + cond (joins_sessions p.header.shape d (summaries (plan_of p) p.header.mode (kept q past))) (length p.header.kinds) 0) 0
    ≡ first + cond b (length (windows_among p.header.shape p.header.clock.lateness (d ∷ selected q past) d) * (update_run p key values).steps + cond (joins_two p.header.shape (selected q past) d) (length p.header.kinds) 0) 0) [
      | true ↦ λ selects. λ i. first + ((sym (counts.stands_in past key time values taken selects)) i * (update_run p key values).steps
          + cond ((linked_as_kept p p.header.shape d (kept q past) ∙ sym (counts.joins_them past key time values taken selects)) i) (length p.header.kinds) 0)
      | false ↦ λ other. refl
    ] refl
    ∙ ap (effect_cost p (selected q past)) (sym (λ i. cond (taken i && true) (Selects d) Nothing))

-- a firing costs as much
pub fired_cost_is : (p : Program) (f : Firing) → pane_cost_by p (summary_fired (plan_of p) f) ≡ pane_cost p f
fired_cost_is p f = ap (fire_steps p f.place.key (length f.fired)) (folded_is p f.fired)
