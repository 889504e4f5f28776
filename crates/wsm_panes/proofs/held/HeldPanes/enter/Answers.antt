use Rattle.std.proofs.Common.{rules, ◌≡◌, ◌≢◌, List, Option, None, [], ◌∷◌, ◌≤◌, ◌*◌, ℤ, pos, ◌≤ℤ◌, Some, arith, refl, sym, ap, ◌∙◌, filter, length, SFits, w64}
use Rattle.std.proofs.lemmas.Int.{ints, to_z-of_z}
use Rattle.std.proofs.lemmas.Nat.{mul-le}
use Rattle.std.specs.Prelude.{IfSome, int_lt}
use Rattle.std.specs.FinMap as map
use Rattle.wsm_windows.specs.declared.window.Shape.{Shape}
use Rattle.wsm_windows.specs.declared.window.Shape.TheVariants.{Session}
use Rattle.wsm_windows.specs.Windows.{IsShape, greatest_span, period_of, size_of, windows_of}
use Rattle.wsm_windows.specs.Life.{is_live, live_windows_of}
use Rattle.wsm_semantics.specs.Replay.{datum}
use Rattle.wsm_semantics.specs.Summaries.{assigned}
use Rattle.wsm_ring.specs.declared.ring.Ring.{Ring}
use Rattle.wsm_windows.specs.declared.window.Window.{Window}
use Rattle.wsm_panes.specs.Entered.{IsToldAlone}
use Rattle.wsm_slots.specs.Panes.{taking}
use Rattle.wsm_panes.proofs.Enters.{entered_assigned, few_values, joins_can, room_can, live_can, no_session, none_joined, windows_are, windows_can, windows_grid, wide_values, key_of, keys_written}
use Rattle.wsm_ring.proofs.Rows.{ending_past}
use Rattle.wsm_panes.proofs.held.HeldPanes.enter.Goals as goal
use Rattle.wsm_panes.proofs.held.HeldPanes.enter.Goals.{in-Sessions, in-Grid}

pub enter_session-joined-requires-clause-values : goal.enter_session-joined-requires-clause-values
enter_session-joined-requires-clause-values c = record {
  few = few_values _ _ _ _ _ _ _ c.requires;
  wide = wide_values _ _ _ _ _ _ _ (rw (← c.self.view_is, c.in-Sessions.is) at c.requires);
  types = c.requires.types;
}

pub enter_session-joined-requires-clause-joins : goal.enter_session-joined-requires-clause-joins
enter_session-joined-requires-clause-joins c =
    let time : SFits w64 c.args.time = c.ranges.time in
    let h = rw c.in-Sessions.is at c.self.invariant.tables in
    let can = rw (← c.self.view_is, c.in-Sessions.is, h.shape_is) at c.requires in
    let of = key_of h.gap c.self.inside.keys c.self.inside.live c.args.key (map.entries c.in-Sessions.list.panes) c.in-Sessions.sessions.items.items h.of_keys can.declared c.index_mut-sessions.result.now c.index_mut-sessions.ensures.value in
    simp to_z-of_z (rw of.same_gap (joins_can _ _ _ _ _ _ _ can h.gap refl))

pub enter_session-joined-requires-clause-room : goal.enter_session-joined-requires-clause-room
enter_session-joined-requires-clause-room c =
    let time : SFits w64 c.args.time = c.ranges.time in
    let h = rw c.in-Sessions.is at c.self.invariant.tables in
    let can = rw (← c.self.view_is, c.in-Sessions.is, h.shape_is) at c.requires in
    let of = key_of h.gap c.self.inside.keys c.self.inside.live c.args.key (map.entries c.in-Sessions.list.panes) c.in-Sessions.sessions.items.items h.of_keys can.declared c.index_mut-sessions.result.now c.index_mut-sessions.ensures.value in
    simp to_z-of_z (rw (of.same_gap, h.room) (room_can _ _ _ _ _ _ _ can h.gap refl))

pub enter_session-joined-requires-clause-live : goal.enter_session-joined-requires-clause-live
enter_session-joined-requires-clause-live c =
    let time : SFits w64 c.args.time = c.ranges.time in
    let h = rw c.in-Sessions.is at c.self.invariant.tables in
    let can = rw (← c.self.view_is, c.in-Sessions.is, h.shape_is) at c.requires in
    let of = key_of h.gap c.self.inside.keys c.self.inside.live c.args.key (map.entries c.in-Sessions.list.panes) c.in-Sessions.sessions.items.items h.of_keys can.declared c.index_mut-sessions.result.now c.index_mut-sessions.ensures.value in
    simp to_z-of_z (rw (of.same_gap, of.room) (live_can _ _ _ _ _ _ _ can h.gap refl))

-- the live windows of a record, as those of the ring that end past a time
live_in_ring : (shape : Shape) (r : Ring) (time lateness mark past : ℤ) → ((gap : ℤ) → shape ≢ Session gap) → IsShape shape → r.size ≡ size_of shape → r.period ≡ period_of shape →
    ((size period : ℤ) → pos 1 ≤ℤ size → size ≤ℤ greatest_span → filter (λ w. int_lt past w.end) (windows_of size period time) ≡ filter (λ w. is_live w lateness mark) (windows_of size period time)) →
    live_windows_of shape time lateness mark ≡ ending_past r time past
live_in_ring shape r time lateness mark past grid ok size period live =
    ap (filter (λ w. is_live w lateness mark)) (windows_grid shape grid time)
    ∙ sym (live (size_of shape) (period_of shape) (omega (arith, ints, ok.period_low, ok.period_high)) ok.size_high)
    ∙ (λ i. filter (λ w. int_lt past w.end) (windows_of (sym size i) (sym period i) time))

pub enter_windows-windows-requires : goal.enter_windows-windows-requires
enter_windows-windows-requires c =
    let a = c.self.inside in
    let ring = c.in-Grid.ring in
    let h = rw c.in-Grid.is at c.self.invariant.tables in
    let time : SFits w64 c.args.time = c.ranges.time in
    let past_fits : SFits w64 c.live_past-past.result = search rules in
    let z = to_z-of_z w64 c.args.time time in
    let l = to_z-of_z w64 c.args.lateness c.ranges.lateness in
    let m = to_z-of_z w64 c.args.mark c.ranges.mark in
    let p = to_z-of_z w64 c.live_past-past.result past_fits in
    let can = rw (← c.self.view_is, c.in-Grid.is) at c.requires in
    let whole = (can.apart h.grid).ring in
    let some : 1 * 1 ≤ a.keys * a.live = mul-le 1 1 a.keys a.live whole.keys whole.bound in
    let same = h.ring_is (omega (arith, some)) in
    let live = rw (z, l, m) at c.live_past-past.ensures.live in
    let windows = rw (live_in_ring a.shape ring.ring c.args.time c.args.lateness c.args.mark c.live_past-past.result h.grid c.self.invariant.shape (ap (λ (r : Ring). r.size) same) (ap (λ (r : Ring). r.period) same) live) at (windows_can _ _ _ _ _ _ _ can h.grid) in
    rw (z, p) (record {
      size = rw same c.self.invariant.shape.size_high;
      timely = can.timely;
      marked = c.live_past-past.ensures.time;
      after = rw z at c.live_past-past.ensures.after;
      wide = wide_values _ _ _ _ _ _ _ can;
      types = can.types;
      can = rw (← same) at windows;
    })

pub invariant_of-self : goal.invariant_of-self
invariant_of-self c =
    let a = c.self.inside in
    let time : SFits w64 c.args.time = c.ranges.time in
    elim c.match-self.branch [
      | in-Sessions w ↦
          let h = rw w.in-Sessions.is at c.self.invariant.tables in
          let can = rw (← c.self.view_is) at c.requires in
          let of = key_of h.gap c.self.inside.keys c.self.inside.live c.args.key (map.entries w.in-Sessions.list.panes) w.in-Sessions.sessions.items.items h.of_keys can.declared w.index_mut-sessions.result.now w.index_mut-sessions.ensures.value in
          rw w.self-inside-is (record {
            shape = c.self.invariant.shape;
            tables = record {
              gap = h.gap;
              shape_is = h.shape_is;
              room = w.enter_session-joined.ensures.keeps.room ∙ h.room;
              of_keys =
                  keys_written h.gap a.keys a.live c.args.key (map.entries w.in-Sessions.list.panes) (map.entries w.enter_session-joined.new.table.panes) w.in-Sessions.sessions.items.items w.enter_session-joined.new.sessions h.of_keys
                  (record {
                    same_gap = ap (λ s. s.gap) w.enter_session-joined.ensures.sessions ∙ of.same_gap;
                    room = ap (λ s. s.room) w.enter_session-joined.ensures.sessions ∙ of.room;
                    windows = w.enter_session-joined.ensures.agree;
                    times = (c.args.time ∷ of.times.0, simp to_z-of_z at w.enter_session-joined.ensures.fits of.times.0 of.times.1);
                  })
                  w.enter_session-joined.ensures.others;
            };
          })
      | in-Grid w ↦
          let h = rw w.in-Grid.is at c.self.invariant.tables in
          let whole = ((rw (← c.self.view_is) at c.requires).apart h.grid).ring in
          let some : 1 * 1 ≤ a.keys * a.live = mul-le 1 1 a.keys a.live whole.keys whole.bound in
          rw w.self-inside-is (record {
            shape = c.self.invariant.shape;
            tables = record {
              grid = h.grid;
              ring_is = λ roomy. w.enter_windows-windows.ensures.enters.keeps.ring ∙ h.ring_is roomy;
              none = λ zero. absurd (omega (arith, some, zero));
            };
          })
    ]

pub returns-clause-panes : goal.returns-clause-panes
returns-clause-panes c =
    let a = c.self.inside in
    let time : SFits w64 c.args.time = c.ranges.time in
    elim c.match-self.branch [
      | in-Sessions w ↦
          let h = rw w.in-Sessions.is at c.self.invariant.tables in
          let can = rw (← c.self.view_is) at c.requires in
          let of = key_of h.gap c.self.inside.keys c.self.inside.live c.args.key (map.entries w.in-Sessions.list.panes) w.in-Sessions.sessions.items.items h.of_keys can.declared w.index_mut-sessions.result.now w.index_mut-sessions.ensures.value in
          rw (w.self-inside-is, ← c.self.view_is, w.in-Sessions.is, h.shape_is) (rw of.same_gap at (simp to_z-of_z at w.enter_session-joined.ensures.panes))
      | in-Grid w ↦
          let ring = w.in-Grid.ring in
          let h = rw w.in-Grid.is at c.self.invariant.tables in
          let past_fits : SFits w64 w.live_past-past.result = search rules in
          let z = to_z-of_z w64 c.args.time time in
          let l = to_z-of_z w64 c.args.lateness c.ranges.lateness in
          let m = to_z-of_z w64 c.args.mark c.ranges.mark in
          let p = to_z-of_z w64 w.live_past-past.result past_fits in
          let whole = ((rw (← c.self.view_is) at c.requires).apart h.grid).ring in
          let some : 1 * 1 ≤ a.keys * a.live = mul-le 1 1 a.keys a.live whole.keys whole.bound in
          let same = h.ring_is (omega (arith, some)) in
          let live = rw (z, l, m) at w.live_past-past.ensures.live in
          let windows : live_windows_of a.shape c.args.time c.args.lateness c.args.mark ≡ ending_past ring.ring c.args.time w.live_past-past.result =
          live_in_ring a.shape ring.ring c.args.time c.args.lateness c.args.mark w.live_past-past.result h.grid c.self.invariant.shape (ap (λ (r : Ring). r.size) same) (ap (λ (r : Ring). r.period) same) live in
          let plan = taking c.args.kinds.now c.args.values.now in
          let d = datum 0 c.args.mark c.args.key c.args.time [] in
          rw (w.self-inside-is, ← c.self.view_is, w.in-Grid.is)
          (rw (z, p) at w.enter_windows-windows.ensures.enters.panes
          ∙ ap (λ ws. assigned plan d ws (map.entries ring.panes)) (sym windows)
          ∙ sym (entered_assigned plan a.shape c.args.lateness h.grid d (map.entries ring.panes)))
    ]

pub returns-clause-windows : goal.returns-clause-windows
returns-clause-windows c =
    let a = c.self.inside in
    let time : SFits w64 c.args.time = c.ranges.time in
    elim c.match-self.branch [
      | in-Sessions w ↦
          let h = rw w.in-Sessions.is at c.self.invariant.tables in
          rw (w.result-is, ← c.self.view_is, h.shape_is) refl
      | in-Grid w ↦
          let ring = w.in-Grid.ring in
          let h = rw w.in-Grid.is at c.self.invariant.tables in
          let past_fits : SFits w64 w.live_past-past.result = search rules in
          let z = to_z-of_z w64 c.args.time time in
          let l = to_z-of_z w64 c.args.lateness c.ranges.lateness in
          let m = to_z-of_z w64 c.args.mark c.ranges.mark in
          let p = to_z-of_z w64 w.live_past-past.result past_fits in
          let whole = ((rw (← c.self.view_is) at c.requires).apart h.grid).ring in
          let some : 1 * 1 ≤ a.keys * a.live = mul-le 1 1 a.keys a.live whole.keys whole.bound in
          let same = h.ring_is (omega (arith, some)) in
          let live = rw (z, l, m) at w.live_past-past.ensures.live in
          let windows = live_in_ring a.shape ring.ring c.args.time c.args.lateness c.args.mark w.live_past-past.result h.grid c.self.invariant.shape (ap (λ (r : Ring). r.size) same) (ap (λ (r : Ring). r.period) same) live in
          rw (w.result-is, ← c.self.view_is) (rw (z, p) at w.enter_windows-windows.ensures.count ∙ ap length (sym windows) ∙ sym (windows_are a.shape c.args.time c.args.lateness c.args.mark h.grid))
    ]

pub returns-clause-joined : goal.returns-clause-joined
returns-clause-joined c =
    let time : SFits w64 c.args.time = c.ranges.time in
    elim c.match-self.branch [
      | in-Sessions w ↦
          let h = rw w.in-Sessions.is at c.self.invariant.tables in
          let can = rw (← c.self.view_is) at c.requires in
          let of = key_of h.gap c.self.inside.keys c.self.inside.live c.args.key (map.entries w.in-Sessions.list.panes) w.in-Sessions.sessions.items.items h.of_keys can.declared w.index_mut-sessions.result.now w.index_mut-sessions.ensures.value in
          rw (w.result-is, ← c.self.view_is, w.in-Sessions.is, h.shape_is) (rw of.same_gap at (simp to_z-of_z at w.enter_session-joined.ensures.joined))
      | in-Grid w ↦
          let h = rw w.in-Grid.is at c.self.invariant.tables in
          rw (w.result-is, ← c.self.view_is, w.in-Grid.is) (none_joined c.self.inside.shape h.grid _ _)
    ]

pub returns-clause-session : goal.returns-clause-session
returns-clause-session c =
    let time : SFits w64 c.args.time = c.ranges.time in
    elim c.match-self.branch [
      | in-Sessions w ↦
          let h = rw w.in-Sessions.is at c.self.invariant.tables in
          let can = rw (← c.self.view_is) at c.requires in
          let of = key_of h.gap c.self.inside.keys c.self.inside.live c.args.key (map.entries w.in-Sessions.list.panes) w.in-Sessions.sessions.items.items h.of_keys can.declared w.index_mut-sessions.result.now w.index_mut-sessions.ensures.value in
          rw (w.result-is, ← c.self.view_is, w.in-Sessions.is, h.shape_is) (ap Some (w.rebuilt_window.ensures ∙ (rw of.same_gap at (simp to_z-of_z at w.enter_session-joined.ensures.session))))
      | in-Grid w ↦
          let h = rw w.in-Grid.is at c.self.invariant.tables in
          rw (w.result-is, ← c.self.view_is, w.in-Grid.is) (no_session c.self.inside.shape h.grid _ _)
    ]

-- what is told alone is the only window of a record without a session
told_alone : (shape : Shape) (time lateness mark : ℤ) (ws : List Window) (alone : Option Window) → live_windows_of shape time lateness mark ≡ ws → IfSome alone (λ w. ws ≡ w ∷ []) → IsToldAlone shape time lateness mark None alone
told_alone shape time lateness mark ws None live only = record { windows = refl; sessions = λ none. refl }
told_alone shape time lateness mark ws (Some w) live only = record { windows = sym (live ∙ only); sessions = λ some. refl }

pub returns-clause-alone : goal.returns-clause-alone
returns-clause-alone c =
    let a = c.self.inside in
    let time : SFits w64 c.args.time = c.ranges.time in
    elim c.match-self.branch [
      | in-Sessions w ↦ rw w.result-is (record { windows = refl; sessions = λ none. none })
      | in-Grid w ↦
          let ring = w.in-Grid.ring in
          let h = rw w.in-Grid.is at c.self.invariant.tables in
          let past_fits : SFits w64 w.live_past-past.result = search rules in
          let z = to_z-of_z w64 c.args.time time in
          let l = to_z-of_z w64 c.args.lateness c.ranges.lateness in
          let m = to_z-of_z w64 c.args.mark c.ranges.mark in
          let p = to_z-of_z w64 w.live_past-past.result past_fits in
          let whole = ((rw (← c.self.view_is) at c.requires).apart h.grid).ring in
          let some : 1 * 1 ≤ a.keys * a.live = mul-le 1 1 a.keys a.live whole.keys whole.bound in
          let same = h.ring_is (omega (arith, some)) in
          let live = rw (z, l, m) at w.live_past-past.ensures.live in
          let windows = live_in_ring a.shape ring.ring c.args.time c.args.lateness c.args.mark w.live_past-past.result h.grid c.self.invariant.shape (ap (λ (r : Ring). r.size) same) (ap (λ (r : Ring). r.period) same) live in
          rw (w.result-is, ← c.self.view_is)
          (told_alone a.shape c.args.time c.args.lateness c.args.mark (ending_past ring.ring c.args.time w.live_past-past.result) w.enter_windows-windows.result.1 windows (rw (z, p) at w.enter_windows-windows.ensures.alone))
    ]
