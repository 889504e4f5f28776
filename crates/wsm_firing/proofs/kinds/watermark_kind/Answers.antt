use Rattle.std.proofs.Common.{refl, sym, ◌∙◌, SFits, w64, to_z-of_z, arith}
use Rattle.std.proofs.lemmas.Int.{ints, fits_signed_from_abs}
use Rattle.wsm_firing.proofs.Triggered.{kind_of_numbers}
use Rattle.wsm_firing.proofs.kinds.watermark_kind.Goals as goal

pub on_watermark-requires-clause-lateness : goal.on_watermark-requires-clause-lateness
on_watermark-requires-clause-lateness c =
    let fits : SFits w64 c.args.header.now.clock.lateness = fits_signed_from_abs w64 c.args.header.now.clock.lateness (grind (arith, ints, c.requires.lateness.low, c.requires.lateness.high)) in
    rw (to_z-of_z fits) c.requires.lateness

pub returns : goal.returns
returns c = λ q mode waits.
    let old : SFits w64 c.args.old = c.ranges.old in
    let new : SFits w64 c.args.new = c.ranges.new in
    let lateness : SFits w64 c.args.header.now.clock.lateness = fits_signed_from_abs w64 c.args.header.now.clock.lateness (grind (arith, ints, c.requires.lateness.low, c.requires.lateness.high)) in
    let end : SFits w64 c.args.place.end = fits_signed_from_abs w64 c.args.place.end (grind (arith, ints, c.requires.placed.apart, c.requires.placed.low, c.requires.placed.high)) in
    kind_of_numbers q c.args.old c.args.new c.args.place c.args.pane.now c.on_watermark.result
    (λ all missed a m.
    simp to_z-of_z at (c.on_watermark.ensures q c.args.place all missed (record {
      ends = simp to_z-of_z refl;
      combines = mode;
      waits = simp to_z-of_z waits;
    }) (a ∙ sym c.count.ensures) (m ∙ sym c.unshown.ensures)))
