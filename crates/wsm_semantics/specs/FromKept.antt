-- What follows on a history hangs on what is kept of it: on the marks of the sources, and on how many records each held
-- pane has, how many of these weren't shown, what they are folded to, and which row stands for it. So a history may be put in
-- the place of another of which the same is kept. How long panes are held and what stands are this project's own rules.
use Rattle.std.specs.Prelude.{◌≡◌, List, ◌∷◌, ◌++◌, map, ℤ}
use Rattle.wsm_record.specs.declared.words.Form.TheVariants as form
use Rattle.wsm_record.specs.Event.{Event}
use Rattle.wsm_admission.specs.Clock.{marks_of}
use Rattle.wsm_semantics.specs.Query.{Query, verdict_on}
use Rattle.wsm_semantics.specs.Firings.{firings}
use Rattle.wsm_semantics.specs.Relation.{relation, turn_rows}
use Rattle.wsm_semantics.specs.Kept.{kept}
use Rattle.wsm_semantics.specs.Summaries.{Plan, summaries, summary_fired}
use Rattle.wsm_semantics.specs.FromWatermark.{begun_at, BothHaveRoom}

-- the same is kept of two histories, the second by a query that is begun anew
pub record KeepAlike {X : Type 0} (plan : Plan X) (q : Query) (start records : ℤ) (past other : List Event) : Type 0 where
  pub marks : marks_of (begun_at start records q).clock q.declared other ≡ marks_of q.clock q.declared past
  pub panes : summaries plan q.mode (kept q past) ≡ summaries plan q.mode (kept (begun_at start records q) other)

-- then it is the same after any events, each of which has the same verdict, fires the same windows, over as many records that are
-- folded to the same, and writes the same rows; those of streams where the relation was the same
pub record FollowAlike {X : Type 0} (plan : Plan X) (q : Query) (start records : ℤ) (past other : List Event) : Type 0 where
  pub kept : (events : List Event) → BothHaveRoom q start records (events ++ past) (events ++ other) → KeepAlike plan q start records (events ++ past) (events ++ other)
  pub verdict : (events : List Event) (e : Event) → BothHaveRoom q start records (e ∷ events ++ past) (e ∷ events ++ other) → verdict_on (begun_at start records q) (events ++ other) e ≡ verdict_on q (events ++ past) e
  pub firings : (events : List Event) (e : Event) → BothHaveRoom q start records (e ∷ events ++ past) (e ∷ events ++ other) →
      map (summary_fired plan) (firings q (events ++ past) e) ≡ map (summary_fired plan) (firings (begun_at start records q) (events ++ other) e)
  pub rows : q.form ≡ form.Panes → (events : List Event) (e : Event) → BothHaveRoom q start records (e ∷ events ++ past) (e ∷ events ++ other) → turn_rows q (events ++ past) e ≡ turn_rows (begun_at start records q) (events ++ other) e
  pub streams : relation q past ≡ relation (begun_at start records q) other → (events : List Event) (e : Event) → BothHaveRoom q start records (e ∷ events ++ past) (e ∷ events ++ other) →
      turn_rows q (events ++ past) e ≡ turn_rows (begun_at start records q) (events ++ other) e
