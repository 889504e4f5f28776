-- Records that come after the times of their keys, and the room of two histories.
use Rattle.std.proofs.Common.{◌≡◌, ℕ, Bool, true, false, ◌&&◌, cond, List, [], ◌∷◌, length, ℤ, ◌≤ℤ◌, Some, None, refl, ap}
use Rattle.std.specs.Prelude.{filter, int_lt}
use Rattle.std.specs.List.{AllByRecursion}
use Rattle.wsm_record.specs.Event.{Event, Record, Watermark}
use Rattle.wsm_semantics.specs.ByKey.{at_turn}
use Rattle.wsm_semantics.specs.Query.{Datum, Query, datum, mark, is_taken, Selects, Nothing, effect_of, selection, selection_of}
use Rattle.wsm_semantics.specs.FromWatermark.{begun_at, Step, Stays, whole, rest, Times, IsRecordUpTo, LeavesOut, BeginAlike, BothHaveRoom}
use Rattle.wsm_semantics.proofs.Lists.{all-each}
use Rattle.wsm_semantics.proofs.Decided.{not_less}
use Rattle.wsm_semantics.proofs.Each.{none_of}
use Rattle.wsm_semantics.proofs.Effects.{effect_with}
use Rattle.wsm_semantics.proofs.LaterMarks.{effect_alike, marks_of_steps, verdict_of_steps}

-- ---- records after some time

abbrev pub is_new : Times → Datum → Bool
is_new x d = int_lt (x d.key) d.time

pub none_new : (x : Times) (ds : List Datum) → AllByRecursion (λ d. d.time ≤ℤ x d.key) ds → filter (is_new x) ds ≡ []
none_new x ds h = none_of (is_new x) ds (all-each (λ d. d.time ≤ℤ x d.key) (λ d. is_new x d ≡ false) ds (λ d k. not_less (x d.key) d.time k) h)

-- a record with a time up to it is none
pub selects_old : (q : Query) (x : Times) (past : List Event) (e : Event) → IsRecordUpTo x e → filter (is_new x) (selection_of q past e) ≡ []
selects_old q x past (Record None t vs) h = refl
selects_old q x past (Watermark o t) h = absurd h
selects_old q x past (Record (Some k) t vs) h =
    let d : Datum = datum (length past) (mark q past) k t vs in
    elim (is_taken q past (Record (Some k) t vs) && q.selects k vs) as (λ b. filter (is_new x) (selection (cond b (Selects d) Nothing)) ≡ []) [
      | true ↦ ap (λ (b : Bool). cond b (d ∷ []) []) (not_less (x k) t h)
      | false ↦ refl
    ]

module _ (q : Query) (start records : ℤ) (older other : List Event) where
  abbrev pub Rooms : List Step → Type 0
  Rooms steps = BothHaveRoom q start records (whole steps older) (rest steps other)

  pub rooms_before : (e : Event) (steps : List Step) → Rooms (Stays e ∷ steps) → Rooms steps
  rooms_before e steps rooms = (rooms.0.1, rooms.1.1)

module _ (q : Query) (start records : ℤ) (x : Times) (older other : List Event) (longer : ℕ) (begun : BeginAlike q start records x older other longer) where
  abbrev anew : Query
  anew = begun_at start records q

  abbrev HaveRoom : List Step → Type 0
  HaveRoom steps = Rooms q start records older other steps

  -- an event that both have does there what it does in the first
  pub does_alike : (f : ℕ → ℕ) (steps : List Step) → LeavesOut x steps → (e : Event) → HaveRoom (Stays e ∷ steps) → f (length (rest steps other)) ≡ length (whole steps older) →
      effect_of q (whole steps older) e ≡ effect_with (at_turn f) (effect_of anew (rest steps other) e)
  does_alike f steps out e rooms now =
      effect_alike q start records (whole steps older) (rest steps other) (marks_of_steps q start records x older other begun.marks steps out) f now e
      (verdict_of_steps q start records x older other begun.marks steps out e rooms.0 rooms.1)
