-- What a record does to panes whose windows are sessions.
use Rattle.std.specs.Prelude.{◌≡◌, ◌⊎◌, ℕ, ◌<◌, true, List, [], ◌∷◌, filter, nat_eq, ℤ, Option, Some, None, IsSome}
use Rattle.std.specs.FinMap as map
use Rattle.wsm_record.specs.declared.event.Value.{Value}
use Rattle.wsm_record.specs.declared.words.Kind.{Kind}
use Rattle.wsm_windows.specs.declared.window.Window.{Window}
use Rattle.wsm_windows.specs.declared.place.Place.{Place}
use Rattle.wsm_windows.specs.Places.{window_of}
use Rattle.wsm_fold.specs.Fold.{joins}
use Rattle.wsm_semantics.specs.Summaries.{Pane, joined, linked, merged_session, session_with}
use Rattle.wsm_slots.specs.Panes.{taking, CanJoin, CanRecord, record_of, Panes, PaneMap, with_one_more}

abbrev pub first_two : List (Place × Pane (List Value)) → Option (Pane (List Value) × Pane (List Value))
first_two (e ∷ f ∷ es) = Some (e.1, f.1)
first_two _ = None

-- the panes that a record is linked to can be joined, and what they come to can take it
abbrev pub CanJoinAll : List Kind → List Value → List (Place × Pane (List Value)) → Type 0
CanJoinAll kinds values [] = Unit {0}
CanJoinAll kinds values (e ∷ []) = CanRecord kinds values e.1
CanJoinAll kinds values (e ∷ f ∷ es) = CanJoin kinds e.1 f.1 × CanRecord kinds values (joined (taking kinds values) e.1 f.1)

-- the two sessions that a record of a key and a time joins, or the one that it is linked to
abbrev pub parts_of : ℤ → ℕ → ℤ → Panes → Panes
parts_of gap key time es = linked gap (record_of key time) es

-- the session that it comes to with them
abbrev pub session_of : ℤ → ℕ → ℤ → Panes → Window
session_of gap key time es = window_of (session_with gap (record_of key time) (parts_of gap key time es))

-- sessions with the record, which is folded by these values
abbrev pub with_merged : List Kind → List Value → ℤ → ℕ → ℤ → Panes → Panes
with_merged kinds values gap key time es = merged_session (taking kinds values) gap (record_of key time) es

-- the panes of a key
abbrev pub of_key : ℕ → Panes → Panes
of_key key es = filter (λ e. nat_eq e.0.key key) es

-- the panes but those at two places
abbrev pub without : Place → Place → PaneMap → PaneMap
without first second panes = map.remove (map.remove panes first) second

-- a record can join the panes at two places, and what they come to with it can be put to another
pub record CanJoinAt (kinds : List Kind) (values : List Value) (first second to : Place) (panes : PaneMap) (room : ℕ) : Type 0 where
  pub here : IsSome (map.get panes first)
  pub there : IsSome (map.get (map.remove panes first) second)
  pub joins : (v w : Pane (List Value)) → map.get panes first ≡ Some v → map.get (map.remove panes first) second ≡ Some w
      → CanJoin kinds v w × CanRecord kinds values (joined (taking kinds values) v w)
  pub fits : (map.contains_key (without first second panes) to ≡ true) ⊎ (map.len (without first second panes) < room)

-- it joined them
abbrev pub JoinedAt : List Kind → List Value → Place → Place → Place → PaneMap → PaneMap → Type 0
JoinedAt kinds values first second to old new =
    (v w : Pane (List Value)) → map.get old first ≡ Some v → map.get (map.remove old first) second ≡ Some w
    → new ≡ map.insert (without first second old) to (with_one_more kinds values (Some (joined (taking kinds values) v w)))
