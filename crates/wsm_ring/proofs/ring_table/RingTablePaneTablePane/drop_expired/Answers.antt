use Rattle.std.proofs.Common.{◌≡◌, ℕ, SFits, w64, to_z, of_z, rules, ap, arith, ◌∙◌}
use Rattle.std.specs.FinMap as map
use Rattle.std.proofs.lemmas.Int.{to_z-of_z}
use Rattle.wsm_slots.specs.Place.{is_kept}
use Rattle.wsm_ring.specs.Ring.{AreBetween, kept_slot}
use Rattle.wsm_slots.specs.Slots.{slot_at}
use Rattle.wsm_ring.proofs.Placed.{panes_kept, placed_kept}
use Rattle.wsm_ring.proofs.ring_table.RingTablePaneTablePane.drop_expired.Goals as goal

pub clear_expired-first-requires-clause-between :
    goal.clear_expired-first-requires-clause-between
clear_expired-first-requires-clause-between c =
    let first : SFits w64 c.self.inside.first = search rules in
    let last : SFits w64 c.self.inside.last = search rules in
    let zf : to_z w64 (of_z w64 c.self.inside.first) ≡ c.self.inside.first = to_z-of_z w64 c.self.inside.first first in
    let zl : to_z w64 (of_z w64 c.self.inside.last) ≡ c.self.inside.last = to_z-of_z w64 c.self.inside.last last in
    rw (zf, zl) c.self.invariant.between

pub invariant_of-self : goal.invariant_of-self
invariant_of-self c =
    let a = c.self.inside in
    let limit : SFits w64 c.args.limit = c.ranges.limit in
    let last : SFits w64 a.last = search rules in
    let first : SFits w64 c.clear_expired-first.result.0 = search rules in
    let z : to_z w64 (of_z w64 c.clear_expired-first.result.0) ≡ c.clear_expired-first.result.0 = to_z-of_z w64 c.clear_expired-first.result.0 first in
    let zl : to_z w64 (of_z w64 a.last) ≡ a.last = to_z-of_z w64 a.last last in
    let zm : to_z w64 (of_z w64 c.args.limit) ≡ c.args.limit = to_z-of_z w64 c.args.limit limit in
    let kept : (i : ℕ) → slot_at c.clear_expired-first.new.slots.slots i ≡ kept_slot c.args.limit (slot_at a.slots.slots i) = rw zm at c.clear_expired-first.ensures.kept in
    let between : AreBetween c.clear_expired-first.result.0 a.last c.clear_expired-first.new.slots.slots = rw zl at c.clear_expired-first.ensures.between in
    rw z (record {
      ring = c.self.invariant.ring;
      slots = c.clear_expired-first.ensures.cleared.size ∙ c.self.invariant.slots;
      placed = placed_kept a.ring c.args.limit a.slots.slots c.clear_expired-first.new.slots.slots c.self.invariant.placed kept;
      between = between;
      grid = c.clear_expired-first.ensures.first;
      first = first;
      last = c.self.invariant.last;
      row = c.self.invariant.row;
      len = omega (arith, c.clear_expired-first.ensures.cleared.len, c.self.invariant.len);
    })

pub returns-clause-panes : goal.returns-clause-panes
returns-clause-panes c =
    let a = c.self.inside in
    let zm : to_z w64 (of_z w64 c.args.limit) ≡ c.args.limit = to_z-of_z w64 c.args.limit c.ranges.limit in
    let kept : (i : ℕ) → slot_at c.clear_expired-first.new.slots.slots i ≡ kept_slot c.args.limit (slot_at a.slots.slots i) = rw zm at c.clear_expired-first.ensures.kept in
    panes_kept a.ring c.args.limit a.slots.slots c.clear_expired-first.new.slots.slots c.self.invariant.placed kept
    ∙ ap (λ t. map.retain_keys t.panes (is_kept c.args.limit)) c.self.view_is
