use Rattle.std.proofs.Common.{pos, ℕ, false, ◌≡◌, List, [], ◌∷◌, ap, refl, subst, sym, ◌∙◌, SFits, w64, to_z-of_z}
use Rattle.std.specs.Prelude.{IfSome, Option, filter, nat_eq}
use Rattle.std.specs.FinMap as map
use Rattle.std.specs.FinMap.{FinMap}
use Rattle.wsm_record.specs.declared.event.Value.{Value}
use Rattle.wsm_windows.specs.Places.{at, place_cmp, window_of}
use Rattle.wsm_semantics.specs.Replay.{datum}
use Rattle.wsm_semantics.specs.Sessions.{links, session_of, with_session}
use Rattle.wsm_semantics.specs.Summaries.{Pane, merged_session, session_with, linked}
use Rattle.wsm_windows.specs.declared.window.Window.{Window}
use Rattle.wsm_sessions.specs.declared.placed.Linked.TheVariants as linked_to
use Rattle.wsm_sessions.specs.Placing.{those_linked}
use Rattle.wsm_slots.specs.Panes.{CanRecord, taking, windows_of_key}
use Rattle.wsm_list.proofs.Merged.{Puts, admits_it, merged_fits, merged_is, merged_others, merged_windows, session_place}
use Rattle.wsm_list.proofs.Moved.{none_absent, none_joined, none_puts, one_absent, one_joined, one_puts, one_takes, one_there, two_can, two_joined, two_put, two_puts}
use Rattle.wsm_list.proofs.joining.enter_session.Goals as goal
use Rattle.wsm_list.proofs.joining.enter_session.Goals.{After-at-place}

pub enter-entry-requires-clause-admits : goal.enter-entry-requires-clause-admits
enter-entry-requires-clause-admits c =
    let time : SFits w64 c.args.time = c.ranges.time in
    let plan = taking c.args.kinds.now c.args.values.now in
    simp to_z-of_z (admits_it plan c.args.sessions.now.gap c.args.key c.args.time c.args.table.now.panes c.args.sessions.now.windows c.requires.agree c.requires.gap c.requires.times.0 c.requires.times.1 c.args.sessions.now.room c.requires.live)

-- the place of the session that the record is in
place_is : (c : After-at-place) → c.at-place.result ≡ at c.args.key (session_of c.args.sessions.now.gap c.args.time (filter (links c.args.sessions.now.gap c.args.time) c.args.sessions.now.windows))
place_is c =
    let time : SFits w64 c.args.time = c.ranges.time in
    c.at-place.ensures ∙ ap (at c.args.key) (simp to_z-of_z at c.enter-entry.ensures.session)

-- the sessions that it is linked to
linked_are : (c : After-at-place) → those_linked c.enter-entry.result.linked ≡ filter (links c.args.sessions.now.gap c.args.time) c.args.sessions.now.windows
linked_are c =
    let time : SFits w64 c.args.time = c.ranges.time in
    simp to_z-of_z at c.enter-entry.ensures.linked

session_is : (c : After-at-place) → c.enter-entry.result.session ≡ window_of (session_with c.args.sessions.now.gap (datum 0 (pos 0) c.args.key c.args.time []) (linked c.args.sessions.now.gap (datum 0 (pos 0) c.args.key c.args.time []) (map.entries c.args.table.now.panes)))
session_is c =
    let time : SFits w64 c.args.time = c.ranges.time in
    simp to_z-of_z at c.enter-entry.ensures.session ∙ sym (ap window_of (session_place (taking c.args.kinds.now c.args.values.now) c.args.sessions.now.gap c.args.key c.args.time c.args.table.now.panes c.args.sessions.now.windows c.requires.agree))

windows_are : (c : After-at-place) → c.enter-entry.new.self.windows ≡ with_session c.args.sessions.now.gap c.args.time c.args.sessions.now.windows
windows_are c =
    let time : SFits w64 c.args.time = c.ranges.time in
    ap (λ s. s.windows) (simp to_z-of_z at c.enter-entry.ensures.windows)

-- what stands once a pane was put in the place of those that the record is linked to
module _ (c : After-at-place) (new left : FinMap place_cmp (Pane (List Value))) (pane : Option (Pane (List Value))) (v : Pane (List Value))
    (puts : Puts (taking c.args.kinds.now c.args.values.now) c.args.sessions.now.gap c.args.key c.args.time c.args.table.now.panes c.args.sessions.now.windows c.requires.agree left c.at-place.result pane v)
    (put : new ≡ map.insert left c.at-place.result v) where
  entries_are : map.entries new ≡ merged_session (taking c.args.kinds.now c.args.values.now) c.args.sessions.now.gap (datum 0 (pos 0) c.args.key c.args.time []) (map.entries c.args.table.now.panes)
  entries_are = ap map.entries put ∙ merged_is (taking c.args.kinds.now c.args.values.now) c.args.sessions.now.gap c.args.key c.args.time c.args.table.now.panes c.args.sessions.now.windows c.requires.agree left c.at-place.result pane v puts

  agrees : windows_of_key c.args.key (map.entries new) ≡ c.enter-entry.new.self.windows
  agrees =
      ap (windows_of_key c.args.key) entries_are
      ∙ merged_windows (taking c.args.kinds.now c.args.values.now) c.args.sessions.now.gap c.args.key c.args.time c.args.table.now.panes c.args.sessions.now.windows c.requires.agree c.requires.gap c.requires.times.0 c.requires.times.1
      ∙ sym (windows_are c)

  others_stay : (k : ℕ) → nat_eq c.args.key k ≡ false → windows_of_key k (map.entries new) ≡ windows_of_key k (map.entries c.args.table.now.panes)
  others_stay k other =
      ap (windows_of_key k) entries_are ∙ merged_others (taking c.args.kinds.now c.args.values.now) c.args.sessions.now.gap c.args.key c.args.time c.args.table.now.panes c.args.sessions.now.windows c.requires.agree k other

-- ---- it is linked to none

none : (c : After-at-place) → c.enter-entry.result.linked ≡ linked_to.None → [] ≡ filter (links c.args.sessions.now.gap c.args.time) c.args.sessions.now.windows
none c is = ap those_linked (sym is) ∙ linked_are c

pub enter-requires-clause-admits : goal.enter-requires-clause-admits
enter-requires-clause-admits c =
    let s = (goal.at.enter-requires-clause-admits c).After-at-place in
    rw c.rebuilt_place.ensures (merged_fits (taking c.args.kinds.now c.args.values.now) c.args.sessions.now.gap c.args.key c.args.time c.args.table.now.panes c.args.sessions.now.windows c.requires.agree _ _ _ _ (none_puts c.args.kinds.now c.args.values.now c.args.sessions.now.gap c.requires.gap c.args.key c.args.time c.args.table.now.panes c.args.sessions.now.windows c.requires.agree c.at-place.result (place_is s) (none s c.in-None.is)) c.args.table.now.room c.requires.room)

pub enter-requires-clause-takes : goal.enter-requires-clause-takes
enter-requires-clause-takes c =
    let s = (goal.at.enter-requires-clause-takes c).After-at-place in
    rw c.rebuilt_place.ensures (subst (λ o. IfSome o (CanRecord c.args.kinds.now c.args.values.now)) (sym (none_absent c.args.kinds.now c.args.values.now c.args.sessions.now.gap c.requires.gap c.args.key c.args.time c.args.table.now.panes c.args.sessions.now.windows c.requires.agree c.at-place.result (place_is s) (none s c.in-None.is))) tt)

pub returns-in-None-clause-panes : goal.returns-in-None-clause-panes
returns-in-None-clause-panes c =
    let s = (goal.at.returns-in-None-clause-panes c).After-at-place in
    entries_are s _ _ _ _ (none_puts c.args.kinds.now c.args.values.now c.args.sessions.now.gap c.requires.gap c.args.key c.args.time c.args.table.now.panes c.args.sessions.now.windows c.requires.agree c.at-place.result (place_is s) (none s c.in-None.is)) (rw c.rebuilt_place.ensures at c.enter.ensures.panes)

pub returns-in-None-clause-session : goal.returns-in-None-clause-session
returns-in-None-clause-session c = session_is (goal.at.returns-in-None-clause-session c).After-at-place

pub returns-in-None-clause-joined : goal.returns-in-None-clause-joined
returns-in-None-clause-joined c =
    let s = (goal.at.returns-in-None-clause-joined c).After-at-place in
    none_joined c.args.kinds.now c.args.values.now c.args.sessions.now.gap c.requires.gap c.args.key c.args.time c.args.table.now.panes c.args.sessions.now.windows c.requires.agree c.at-place.result (place_is s) (none s c.in-None.is)

pub returns-in-None-clause-agree : goal.returns-in-None-clause-agree
returns-in-None-clause-agree c =
    let s = (goal.at.returns-in-None-clause-agree c).After-at-place in
    agrees s _ _ _ _ (none_puts c.args.kinds.now c.args.values.now c.args.sessions.now.gap c.requires.gap c.args.key c.args.time c.args.table.now.panes c.args.sessions.now.windows c.requires.agree c.at-place.result (place_is s) (none s c.in-None.is)) (rw c.rebuilt_place.ensures at c.enter.ensures.panes)

pub returns-in-None-clause-others : goal.returns-in-None-clause-others
returns-in-None-clause-others c k other =
    let s = (goal.at.returns-in-None-clause-others c).After-at-place in
    others_stay s _ _ _ _ (none_puts c.args.kinds.now c.args.values.now c.args.sessions.now.gap c.requires.gap c.args.key c.args.time c.args.table.now.panes c.args.sessions.now.windows c.requires.agree c.at-place.result (place_is s) (none s c.in-None.is)) (rw c.rebuilt_place.ensures at c.enter.ensures.panes) k other

-- ---- it is linked to one

one : (c : After-at-place) (w : Window) → c.enter-entry.result.linked ≡ linked_to.One w → w ∷ [] ≡ filter (links c.args.sessions.now.gap c.args.time) c.args.sessions.now.windows
one c w is = ap those_linked (sym is) ∙ linked_are c

pub enter_moved-slot-requires : goal.enter_moved-slot-requires
enter_moved-slot-requires c =
    let s = (goal.at.enter_moved-slot-requires c).After-at-place in
    record {
      wide = c.requires.values.wide;
      types = c.requires.values.types;
      there = one_there c.args.kinds.now c.args.values.now c.args.sessions.now.gap c.requires.gap c.args.key c.args.time c.args.table.now.panes c.args.sessions.now.windows c.requires.agree c.at-place.result (place_is s) c.in-One.window (one s c.in-One.window c.in-One.is) c.at.result c.at.ensures;
      takes = one_takes c.args.kinds.now c.args.values.now c.args.sessions.now.gap c.requires.gap c.args.key c.args.time c.args.table.now.panes c.args.sessions.now.windows c.requires.agree c.at-place.result (place_is s) c.in-One.window (one s c.in-One.window c.in-One.is) c.at.result c.at.ensures c.requires.joins;
      absent = one_absent c.args.kinds.now c.args.values.now c.args.sessions.now.gap c.requires.gap c.args.key c.args.time c.args.table.now.panes c.args.sessions.now.windows c.requires.agree c.at-place.result (place_is s) c.in-One.window (one s c.in-One.window c.in-One.is) c.at.result c.at.ensures;
    }

pub returns-in-One-clause-panes : goal.returns-in-One-clause-panes
returns-in-One-clause-panes c =
    let s = (goal.at.returns-in-One-clause-panes c).After-at-place in
    entries_are s _ _ _ _ (one_puts c.args.kinds.now c.args.values.now c.args.sessions.now.gap c.requires.gap c.args.key c.args.time c.args.table.now.panes c.args.sessions.now.windows c.requires.agree c.at-place.result (place_is s) c.in-One.window (one s c.in-One.window c.in-One.is) c.at.result c.at.ensures) c.enter_moved-slot.ensures.panes

pub returns-in-One-clause-session : goal.returns-in-One-clause-session
returns-in-One-clause-session c = session_is (goal.at.returns-in-One-clause-session c).After-at-place

pub returns-in-One-clause-joined : goal.returns-in-One-clause-joined
returns-in-One-clause-joined c =
    let s = (goal.at.returns-in-One-clause-joined c).After-at-place in
    one_joined c.args.kinds.now c.args.values.now c.args.sessions.now.gap c.requires.gap c.args.key c.args.time c.args.table.now.panes c.args.sessions.now.windows c.requires.agree c.at-place.result (place_is s) c.in-One.window (one s c.in-One.window c.in-One.is) c.at.result c.at.ensures

pub returns-in-One-clause-agree : goal.returns-in-One-clause-agree
returns-in-One-clause-agree c =
    let s = (goal.at.returns-in-One-clause-agree c).After-at-place in
    agrees s _ _ _ _ (one_puts c.args.kinds.now c.args.values.now c.args.sessions.now.gap c.requires.gap c.args.key c.args.time c.args.table.now.panes c.args.sessions.now.windows c.requires.agree c.at-place.result (place_is s) c.in-One.window (one s c.in-One.window c.in-One.is) c.at.result c.at.ensures) c.enter_moved-slot.ensures.panes ∙ ap (λ s. s.windows) (sym c.note.ensures)

pub returns-in-One-clause-others : goal.returns-in-One-clause-others
returns-in-One-clause-others c k other =
    let s = (goal.at.returns-in-One-clause-others c).After-at-place in
    others_stay s _ _ _ _ (one_puts c.args.kinds.now c.args.values.now c.args.sessions.now.gap c.requires.gap c.args.key c.args.time c.args.table.now.panes c.args.sessions.now.windows c.requires.agree c.at-place.result (place_is s) c.in-One.window (one s c.in-One.window c.in-One.is) c.at.result c.at.ensures) c.enter_moved-slot.ensures.panes k other

-- ---- it is linked to two

two : (c : After-at-place) (w v : Window) → c.enter-entry.result.linked ≡ linked_to.Two w v → w ∷ v ∷ [] ≡ filter (links c.args.sessions.now.gap c.args.time) c.args.sessions.now.windows
two c w v is = ap those_linked (sym is) ∙ linked_are c

pub enter_joined-requires-clause-can : goal.enter_joined-requires-clause-can
enter_joined-requires-clause-can c =
    let s = (goal.at.enter_joined-requires-clause-can c).After-at-place in
    rw c.rebuilt_place-in-Two.ensures (two_can c.args.kinds.now c.args.values.now c.args.sessions.now.gap c.requires.gap c.args.key c.args.time c.args.table.now.panes c.args.sessions.now.windows c.requires.agree c.at-place.result (place_is s) c.in-Two.first c.in-Two.second (two s c.in-Two.first c.in-Two.second c.in-Two.is) (at c.args.key c.in-Two.first) (at c.args.key c.in-Two.second) refl refl c.requires.joins c.args.table.now.room c.requires.room)

pub returns-in-Two-clause-panes : goal.returns-in-Two-clause-panes
returns-in-Two-clause-panes c =
    let s = (goal.at.returns-in-Two-clause-panes c).After-at-place in
    entries_are s _ _ _ _ (two_puts c.args.kinds.now c.args.values.now c.args.sessions.now.gap c.requires.gap c.args.key c.args.time c.args.table.now.panes c.args.sessions.now.windows c.requires.agree c.at-place.result (place_is s) c.in-Two.first c.in-Two.second (two s c.in-Two.first c.in-Two.second c.in-Two.is) (at c.args.key c.in-Two.first) (at c.args.key c.in-Two.second) refl refl) (two_put c.args.kinds.now c.args.values.now c.args.sessions.now.gap c.requires.gap c.args.key c.args.time c.args.table.now.panes c.args.sessions.now.windows c.requires.agree c.at-place.result (place_is s) c.in-Two.first c.in-Two.second (two s c.in-Two.first c.in-Two.second c.in-Two.is) (at c.args.key c.in-Two.first) (at c.args.key c.in-Two.second) refl refl _ (rw c.rebuilt_place-in-Two.ensures at c.enter_joined.ensures.panes))

pub returns-in-Two-clause-session : goal.returns-in-Two-clause-session
returns-in-Two-clause-session c = session_is (goal.at.returns-in-Two-clause-session c).After-at-place

pub returns-in-Two-clause-joined : goal.returns-in-Two-clause-joined
returns-in-Two-clause-joined c =
    let s = (goal.at.returns-in-Two-clause-joined c).After-at-place in
    two_joined c.args.kinds.now c.args.values.now c.args.sessions.now.gap c.requires.gap c.args.key c.args.time c.args.table.now.panes c.args.sessions.now.windows c.requires.agree c.at-place.result (place_is s) c.in-Two.first c.in-Two.second (two s c.in-Two.first c.in-Two.second c.in-Two.is) (at c.args.key c.in-Two.first) (at c.args.key c.in-Two.second) refl refl

pub returns-in-Two-clause-agree : goal.returns-in-Two-clause-agree
returns-in-Two-clause-agree c =
    let s = (goal.at.returns-in-Two-clause-agree c).After-at-place in
    agrees s _ _ _ _ (two_puts c.args.kinds.now c.args.values.now c.args.sessions.now.gap c.requires.gap c.args.key c.args.time c.args.table.now.panes c.args.sessions.now.windows c.requires.agree c.at-place.result (place_is s) c.in-Two.first c.in-Two.second (two s c.in-Two.first c.in-Two.second c.in-Two.is) (at c.args.key c.in-Two.first) (at c.args.key c.in-Two.second) refl refl) (two_put c.args.kinds.now c.args.values.now c.args.sessions.now.gap c.requires.gap c.args.key c.args.time c.args.table.now.panes c.args.sessions.now.windows c.requires.agree c.at-place.result (place_is s) c.in-Two.first c.in-Two.second (two s c.in-Two.first c.in-Two.second c.in-Two.is) (at c.args.key c.in-Two.first) (at c.args.key c.in-Two.second) refl refl _ (rw c.rebuilt_place-in-Two.ensures at c.enter_joined.ensures.panes))

pub returns-in-Two-clause-others : goal.returns-in-Two-clause-others
returns-in-Two-clause-others c k other =
    let s = (goal.at.returns-in-Two-clause-others c).After-at-place in
    others_stay s _ _ _ _ (two_puts c.args.kinds.now c.args.values.now c.args.sessions.now.gap c.requires.gap c.args.key c.args.time c.args.table.now.panes c.args.sessions.now.windows c.requires.agree c.at-place.result (place_is s) c.in-Two.first c.in-Two.second (two s c.in-Two.first c.in-Two.second c.in-Two.is) (at c.args.key c.in-Two.first) (at c.args.key c.in-Two.second) refl refl) (two_put c.args.kinds.now c.args.values.now c.args.sessions.now.gap c.requires.gap c.args.key c.args.time c.args.table.now.panes c.args.sessions.now.windows c.requires.agree c.at-place.result (place_is s) c.in-Two.first c.in-Two.second (two s c.in-Two.first c.in-Two.second c.in-Two.is) (at c.args.key c.in-Two.first) (at c.args.key c.in-Two.second) refl refl _ (rw c.rebuilt_place-in-Two.ensures at c.enter_joined.ensures.panes)) k other

-- ---- for how much there is room

pub returns-in-None-clause-keeps : goal.returns-in-None-clause-keeps
returns-in-None-clause-keeps c = record { room = ap (λ r. r.0) c.enter.ensures.room; widths = ap (λ r. r.1) c.enter.ensures.room }
