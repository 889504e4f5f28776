use Rattle.std.proofs.Common.{◌≤◌, ◌≡◌, ◌<◌, ◌+◌, ◌-◌, ◌/◌, true, false, length, get_or, drop, SFits, w64, to_z-of_z, ap, ◌∙◌, arith}
use Rattle.std.specs.Prelude.{slice_get}
use Rattle.wsm_record.proofs.Lists.{not-false, not-true}
use Rattle.wsm_slots.specs.Place.{is_kept}
use Rattle.wsm_list.specs.Stored.{shown}
use Rattle.wsm_list.proofs.Ended.{ended, ended_left, ended_passes, ended_stops, ended_within, past_nth}
use Rattle.wsm_list.proofs.StoredEdits.{entry_there, length_is, place_there}
use Rattle.wsm_list.proofs.search.ended.Goals as goal

pub loop-low-init : goal.loop-low-init
loop-low-init c =
    let time : SFits w64 c.args.time = c.ranges.time in
    let es = shown c.args.slots.now.slots c.args.row.now.row in
    simp to_z-of_z (record { low = omega arith; high = omega (arith, ended_within c.args.time es, length_is _ _ c.requires, c.len-high.ensures); within = omega (arith, c.len-high.ensures) })

pub loop-low-preserved-then-expires : goal.loop-low-preserved-then-expires
loop-low-preserved-then-expires c =
    let time : SFits w64 c.args.time = c.ranges.time in
    let es = shown c.args.slots.now.slots c.args.row.now.row in
    let middle = c.loop-low.low + (c.loop-low.high - c.loop-low.low) / 2 in
    let within : middle < length c.args.row.now.row = omega (arith, c.loop-low.invariant.within) in
    let e = entry_there _ _ c.requires middle within in
    let gone : is_kept c.args.time (get_or es middle e).0 ≡ false = ap (is_kept c.args.time) (place_there _ _ c.requires middle _ e within c.place_at.ensures) ∙ not-true c.expires.result _ (simp to_z-of_z at c.expires.ensures) c.if-expires.true in
    let past : middle < ended c.args.time es = ended_passes c.args.time es middle e (rw c.requires.sorted tt) (omega (arith, within, length_is _ _ c.requires)) gone in
    simp to_z-of_z (record { low = omega (arith, past); high = simp to_z-of_z at c.loop-low.invariant.high; within = c.loop-low.invariant.within })

pub loop-low-preserved : goal.loop-low-preserved
loop-low-preserved c =
    let time : SFits w64 c.args.time = c.ranges.time in
    let es = shown c.args.slots.now.slots c.args.row.now.row in
    let middle = c.loop-low.low + (c.loop-low.high - c.loop-low.low) / 2 in
    let within : middle < length c.args.row.now.row = omega (arith, c.loop-low.invariant.within) in
    let e = entry_there _ _ c.requires middle within in
    let kept : is_kept c.args.time (get_or es middle e).0 ≡ true = ap (is_kept c.args.time) (place_there _ _ c.requires middle _ e within c.place_at.ensures) ∙ not-false c.expires.result _ (simp to_z-of_z at c.expires.ensures) c.if-expires.false in
    simp to_z-of_z (record { low = simp to_z-of_z at c.loop-low.invariant.low; high = ended_stops c.args.time es middle e (omega (arith, within, length_is _ _ c.requires)) kept; within = omega (arith, within) })

pub returns : goal.returns
returns c =
    let time : SFits w64 c.args.time = c.ranges.time in
    let es = shown c.args.slots.now.slots c.args.row.now.row in
    let low : c.loop-low.low ≤ ended c.args.time es = simp to_z-of_z at c.loop-low.invariant.low in
    let high : ended c.args.time es ≤ c.loop-low.high = simp to_z-of_z at c.loop-low.invariant.high in
    let here : ended c.args.time es ≡ c.loop-low.low = omega (arith, low, high) in
    record {
      within = omega (arith, c.loop-low.invariant.within);
      next = past_nth c.args.time es ∙ ap (slice_get es) here;
      left = ended_left c.args.time es (rw c.requires.sorted tt) ∙ ap (λ n. drop n es) here;
    }
