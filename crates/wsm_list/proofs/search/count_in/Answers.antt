use Rattle.std.proofs.Common.{◌<◌, ◌≤◌, ◌+◌, ◌-◌, ◌/◌, length, sym, ap, ◌∙◌, arith}
use Rattle.std.specs.Ordering.{is_gt}
use Rattle.wsm_windows.specs.Places.{place_cmp}
use Rattle.wsm_windows.proofs.Places.{places_total}
use Rattle.wsm_list.specs.Search.{before}
use Rattle.wsm_list.specs.Stored.{shown}
use Rattle.wsm_list.proofs.Sorted.{before_within, passes_gt, stops}
use Rattle.wsm_list.proofs.StoredEdits.{entry_there, length_is, place_there}
use Rattle.wsm_list.proofs.search.count_in.Goals as goal
use Rattle.wsm_list.proofs.search.count_in.Goals.{then-is_before, else-is_before, else-size-gt0-via-then-size-gt0+else-is_before-2, else-size-gt0-via-else-size-gt0}

pub loop-size-init : goal.loop-size-init
loop-size-init c =
    let es = shown c.args.slots.now.slots c.args.numbers.now in
    let long = length_is _ _ c.requires in
    record {
      low = omega arith;
      high = omega (arith, before_within place_cmp es c.args.place, long);
      within = omega arith;
    }

pub loop-size-preserved : goal.loop-size-preserved
loop-size-preserved c =
    let es = shown c.args.slots.now.slots c.args.numbers.now in
    let h = c.loop-size.invariant in
    let half = c.loop-size.size / 2 in
    let at = c.loop-size.low + half - 1 in
    let more : 1 < c.loop-size.size = c.loop-size-test.true in
    let within : at < length c.args.numbers.now = omega (arith, h.within, more) in
    let long = length_is _ _ c.requires in
    let e = entry_there _ _ c.requires at within in
    let is = ap (λ p. is_gt (place_cmp c.args.place p)) (place_there _ _ c.requires at _ e within c.place_of.ensures) in
    elim c.if-is_before.branch [
      | then-is_before w ↦
          let past : at < before place_cmp c.args.place es = passes_gt place_cmp places_total es at e c.args.place (rw c.requires.sorted tt) (omega (arith, within, long)) (is ∙ sym c.is_before.ensures ∙ w.if-is_before.true) in
          let low = w.low-is in
          record {
            low = omega (arith, low, past, more);
            high = omega (arith, low, h.high, more);
            within = omega (arith, low, h.within, more);
          }
      | else-is_before w ↦
          let stop : before place_cmp c.args.place es ≤ at = stops place_cmp es at e c.args.place (omega (arith, within, long)) (is ∙ sym c.is_before.ensures ∙ w.if-is_before.false) in
          let low = w.low-is in
          record {
            low = omega (arith, low, h.low);
            high = omega (arith, low, stop, more);
            within = omega (arith, low, h.within, more);
          }
    ]

pub returns-then-is_before-2-clause-count : goal.returns-then-is_before-2-clause-count
returns-then-is_before-2-clause-count c =
    let es = shown c.args.slots.now.slots c.args.numbers.now in
    let h = c.loop-size.invariant in
    let at = c.loop-size.low in
    let within : at < length c.args.numbers.now = omega (arith, h.within, c.if-size-gt0.true) in
    let long = length_is _ _ c.requires in
    let e = entry_there _ _ c.requires at within in
    let is = ap (λ p. is_gt (place_cmp c.args.place p)) (place_there _ _ c.requires at _ e within c.place_of-then-size-gt0.ensures) in
    let past : at < before place_cmp c.args.place es = passes_gt place_cmp places_total es at e c.args.place (rw c.requires.sorted tt) (omega (arith, within, long)) (is ∙ sym c.is_before-then-size-gt0.ensures ∙ c.if-is_before-2.true) in
    omega (arith, past, h.high, c.loop-size-test.false)

pub returns-else-size-gt0-clause-count : goal.returns-else-size-gt0-clause-count
returns-else-size-gt0-clause-count c =
    let es = shown c.args.slots.now.slots c.args.numbers.now in
    let h = c.loop-size.invariant in
    let at = c.loop-size.low in
    elim c.else-size-gt0.branch [
      | else-size-gt0-via-then-size-gt0+else-is_before-2 w ↦
          let within : at < length c.args.numbers.now = omega (arith, h.within, w.if-size-gt0.true) in
          let long = length_is _ _ c.requires in
          let e = entry_there _ _ c.requires at within in
          let is = ap (λ p. is_gt (place_cmp c.args.place p)) (place_there _ _ c.requires at _ e within w.place_of-then-size-gt0.ensures) in
          let stop : before place_cmp c.args.place es ≤ at = stops place_cmp es at e c.args.place (omega (arith, within, long)) (is ∙ sym w.is_before-then-size-gt0.ensures ∙ w.if-is_before-2.false) in
          omega (arith, stop, h.low)
      | else-size-gt0-via-else-size-gt0 w ↦ omega (arith, h.low, h.high, w.if-size-gt0.false)
    ]
