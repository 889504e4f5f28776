use Rattle.std.proofs.Common.{◌≡◌, None, pos, ◌*◌, ◌+ℤ◌, length, replicate, ◌∙◌, SFits, w64, rules, ap, arith, sym}
use Rattle.std.specs.Int.{int_div_euclid}
use Rattle.std.proofs.lemmas.Int.{ints}
use Rattle.std.proofs.lemmas.List.{length-replicate}
use Rattle.wsm_slots.specs.Slots.{AreFree}
use Rattle.wsm_slots.proofs.Entry.{free_replicate}
use Rattle.wsm_ring.proofs.Placed.{panes_free, held_free}
use Rattle.wsm_ring.proofs.Rings.{zero_on_grid}
use Rattle.wsm_ring.proofs.Rows.{zero_row}
use Rattle.wsm_ring.proofs.ring_table.RingTable.open.Goals as goal

pub invariant_of-result : goal.invariant_of-result
invariant_of-result c =
    let n = c.args.ring.bound * c.args.ring.keys in
    let new : c.in_ok-open.field-0.slots ≡ replicate n None = ap (λ s. s.slots) c.in_ok-open.ensures in
    let free : AreFree c.in_ok-open.field-0.slots = rw new (free_replicate n) in
    let size : SFits w64 c.args.ring.size = search rules in
    let sum : pos 0 +ℤ c.args.ring.size ≡ c.args.ring.size = omega (arith, ints) in
    record {
      ring = c.requires.ring;
      slots = ap length new ∙ length-replicate n None;
      placed = λ i e at. absurd (free i e at);
      between = λ i e at. absurd (free i e at);
      grid = (int_div_euclid (pos 0) c.args.ring.period, zero_on_grid c.args.ring.period c.requires.ring.period_low);
      first = search rules;
      last = rw sum size;
      row = record { grid = (int_div_euclid (pos 0) c.args.ring.period, zero_on_grid c.args.ring.period c.requires.ring.period_low); slot = sym (zero_row c.args.ring c.requires.ring) };
      len = sym (ap length (held_free c.in_ok-open.field-0.slots free));
    }

pub returns : goal.returns
returns c =
    let n = c.args.ring.bound * c.args.ring.keys in
    let new = ap (λ s. s.slots) c.in_ok-open.ensures in
    let panes = panes_free c.in_ok-open.field-0.slots (rw new (free_replicate n)) in
    let widths = ap (λ s. s.widths) c.in_ok-open.ensures in
    λ i. record { panes = panes i; ring = c.args.ring; widths = widths i }
