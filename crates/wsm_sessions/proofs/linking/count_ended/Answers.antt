use Rattle.std.proofs.Common.{◌≡◌, ◌+◌, ◌-◌, ◌/◌, ◌<◌, suc, true, false, ap, get_or, length, sym, ◌∙◌, inr, SFits, w64, to_z-of_z, arith}
use Rattle.std.proofs.lemmas.Option.{get_or_from_slice_get}
use Rattle.std.specs.Prelude.{int_le}
use Rattle.wsm_windows.specs.declared.window.Window.{Window}
use Rattle.wsm_sessions.specs.Placing.{is_ended_at}
use Rattle.wsm_sessions.proofs.Ended.{ended_count, ended_nth}
use Rattle.wsm_sessions.proofs.linking.count_ended.Goals as goal

pub loop-low-preserved-then-ends_by : goal.loop-low-preserved-then-ends_by
loop-low-preserved-then-ends_by c =
    let time : SFits w64 c.args.time = c.ranges.time in
    let ws = c.args.windows.now.items in
    let middle = c.loop-low.low + (c.loop-low.high - c.loop-low.low) / 2 in
    let w = c.get.result in
    let inside : middle < length ws = omega (arith, c.loop-low-test.true, c.loop-low.invariant.within) in
    let read : get_or ws middle w ≡ w = get_or_from_slice_get ws middle w w c.get.ensures in
    let told : int_le w.end c.args.time ≡ true = sym (simp to_z-of_z at c.ends_by.ensures) ∙ c.if-ends_by.true in
    let next : middle + 1 ≡ suc middle = omega arith in
    simp to_z-of_z (record {
      low = ap (is_ended_at c.args.time ws) next ∙ sym (ended_nth c.args.time ws middle w inside) ∙ ap (λ (v : Window). int_le v.end c.args.time) read ∙ told;
      high = simp to_z-of_z at c.loop-low.invariant.high;
      order = omega (arith, c.loop-low-test.true);
      within = c.loop-low.invariant.within;
    })

pub loop-low-preserved : goal.loop-low-preserved
loop-low-preserved c =
    let time : SFits w64 c.args.time = c.ranges.time in
    let ws = c.args.windows.now.items in
    let middle = c.loop-low.low + (c.loop-low.high - c.loop-low.low) / 2 in
    let w = c.get.result in
    let inside : middle < length ws = omega (arith, c.loop-low-test.true, c.loop-low.invariant.within) in
    let read : get_or ws middle w ≡ w = get_or_from_slice_get ws middle w w c.get.ensures in
    let told : int_le w.end c.args.time ≡ false = sym (simp to_z-of_z at c.ends_by.ensures) ∙ c.if-ends_by.false in
    simp to_z-of_z (record {
      low = simp to_z-of_z at c.loop-low.invariant.low;
      high = inr (sym (ended_nth c.args.time ws middle w inside) ∙ ap (λ (v : Window). int_le v.end c.args.time) read ∙ told);
      order = omega (arith, c.loop-low-test.true);
      within = omega (arith, inside);
    })

pub returns-clause-count : goal.returns-clause-count
returns-clause-count c =
    let time : SFits w64 c.args.time = c.ranges.time in
    let ws = c.args.windows.now.items in
    let same : c.loop-low.high ≡ c.loop-low.low = omega (arith, c.loop-low-test.false, c.loop-low.invariant.order) in
    let low : is_ended_at c.args.time ws c.loop-low.low ≡ true = simp to_z-of_z at c.loop-low.invariant.low in
    ended_count c.args.time ws c.requires c.loop-low.low (omega (arith, c.loop-low.invariant.order, c.loop-low.invariant.within)) low (rw same at (simp to_z-of_z at c.loop-low.invariant.high))
