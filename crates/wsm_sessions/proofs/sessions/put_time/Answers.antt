use Rattle.std.proofs.Common.{◌≡◌, ◌∙◌, ◌<◌, ◌⊎◌, ◌+ℤ◌, ℕ, Bool, true, false, List, inl, inr, sym, ap, SFits, w64, to_z-of_z}
use Rattle.std.proofs.lemmas.Bool.{true≢false}
use Rattle.std.proofs.lemmas.Option.{get_or_from_slice_get}
use Rattle.std.specs.Prelude.{insert, slice_set}
use Rattle.std.specs.Int.{int_max, int_min}
use Rattle.wsm_windows.specs.declared.window.Window.{Window}
use Rattle.wsm_windows.specs.Windows.{window}
use Rattle.wsm_sessions.proofs.SessionEdits.{apart_of, begun, extended, joined}
use Rattle.wsm_sessions.proofs.sessions.put_time.Goals as goal

-- room is left where the time is linked to none
room_left : (b : Bool) (n m : ℕ) → (b ≡ true) ⊎ (n < m) → b ≡ false → n < m
room_left b n m (inl l) h = absurd (true≢false (sym l ∙ h))
room_left b n m (inr r) h = r

pub insert-requires-clause-at : goal.insert-requires-clause-at
insert-requires-clause-at c =
    let h = begun c.args.gap c.requires.gap_low c.args.time _ (apart_of c.args.gap c.requires.gap_low c.args.windows.now.items c.requires.sessions) c.in-New.i (sym c.requires.found ∙ c.in-New.is) in
    h.0

pub insert-requires-clause-room : goal.insert-requires-clause-room
insert-requires-clause-room c =
    let h = begun c.args.gap c.requires.gap_low c.args.time _ (apart_of c.args.gap c.requires.gap_low c.args.windows.now.items c.requires.sessions) c.in-New.i (sym c.requires.found ∙ c.in-New.is) in
    room_left _ _ _ c.requires.room h.1.0

pub returns-in-New-clause-items : goal.returns-in-New-clause-items
returns-in-New-clause-items c =
    let time : SFits w64 c.args.time = c.ranges.time in
    let gap : SFits w64 c.args.gap = c.ranges.gap in
    let ws : List Window = c.args.windows.now.items in
    let h = begun c.args.gap c.requires.gap_low c.args.time _ (apart_of c.args.gap c.requires.gap_low c.args.windows.now.items c.requires.sessions) c.in-New.i (sym c.requires.found ∙ c.in-New.is) in
    let alone : c.alone.result ≡ window c.args.time (c.args.time +ℤ c.args.gap) = simp to_z-of_z at c.alone.ensures in
    c.insert.ensures.items ∙ ap (insert ws c.in-New.i) alone ∙ h.1.1

pub get-requires : goal.get-requires
get-requires c =
    let h = extended c.args.gap c.requires.gap_low c.args.time _ (apart_of c.args.gap c.requires.gap_low c.args.windows.now.items c.requires.sessions) c.in-Extends.i (sym c.requires.found ∙ c.in-Extends.is) in
    h.0

pub set-requires : goal.set-requires
set-requires c =
    let h = extended c.args.gap c.requires.gap_low c.args.time _ (apart_of c.args.gap c.requires.gap_low c.args.windows.now.items c.requires.sessions) c.in-Extends.i (sym c.requires.found ∙ c.in-Extends.is) in
    h.0

pub returns-in-Extends-clause-items : goal.returns-in-Extends-clause-items
returns-in-Extends-clause-items c =
    let time : SFits w64 c.args.time = c.ranges.time in
    let gap : SFits w64 c.args.gap = c.ranges.gap in
    let ws : List Window = c.args.windows.now.items in
    let h = extended c.args.gap c.requires.gap_low c.args.time _ (apart_of c.args.gap c.requires.gap_low c.args.windows.now.items c.requires.sessions) c.in-Extends.i (sym c.requires.found ∙ c.in-Extends.is) in
    let longer : c.extended.result ≡ window (int_min c.get.result.start c.args.time) (int_max c.get.result.end (c.args.time +ℤ c.args.gap)) = simp to_z-of_z at c.extended.ensures in
    let read = sym (get_or_from_slice_get ws c.in-Extends.i c.get.result c.get.result c.get.ensures) in
    c.set.ensures.items ∙ ap (slice_set ws c.in-Extends.i) (longer ∙ ap (λ (w : Window). window (int_min w.start c.args.time) (int_max w.end (c.args.time +ℤ c.args.gap))) read) ∙ h.1 c.get.result

pub join-requires : goal.join-requires
join-requires c =
    let h = joined c.args.gap c.requires.gap_low c.args.time _ (apart_of c.args.gap c.requires.gap_low c.args.windows.now.items c.requires.sessions) c.in-Joins.i (sym c.requires.found ∙ c.in-Joins.is) in
    h.0

pub returns-in-Joins-clause-items : goal.returns-in-Joins-clause-items
returns-in-Joins-clause-items c =
    let h = joined c.args.gap c.requires.gap_low c.args.time _ (apart_of c.args.gap c.requires.gap_low c.args.windows.now.items c.requires.sessions) c.in-Joins.i (sym c.requires.found ∙ c.in-Joins.is) in
    c.join.ensures.items ∙ h.1
