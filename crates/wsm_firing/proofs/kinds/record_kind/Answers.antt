use Rattle.std.proofs.Common.{◌≡◌, sym, ap, ◌∙◌, SFits, w64, to_z-of_z, arith}
use Rattle.std.proofs.lemmas.Int.{ints, fits_signed_from_abs}
use Rattle.std.specs.Prelude.{unsigned_abs}
use Rattle.wsm_program.specs.Program.{Program, Header}
use Rattle.wsm_program.specs.View.{header_of}
use Rattle.wsm_machine.specs.Meaning.{query_of}
use Rattle.wsm_firing.proofs.Headers.{IsLawfulFiring, lawful_firing}
use Rattle.wsm_firing.proofs.kinds.record_kind.Goals as goal

pub returns : goal.returns
returns c =
    let p : Program = c.args.verified.now in
    let mark : SFits w64 c.args.mark = c.ranges.mark in
    let end : SFits w64 c.args.place.end = c.requires in
    let header : header_of c.header-header.result.now ≡ p.header = c.header-header.ensures.header ∙ ap (λ (p : Program). p.header) c.program.ensures.program in
    let is : IsLawfulFiring (header_of c.header-header.result.now) = lawful_firing c.program.result.now _ c.header-header.ensures.header c.header-header.ensures.lawful in
    let early : SFits w64 c.header-header.result.now.early = fits_signed_from_abs w64 c.header-header.result.now.early (grind (arith, ints, is.early.low, is.early.high)) in
    let late : SFits w64 c.header-header.result.now.late = fits_signed_from_abs w64 c.header-header.result.now.late (grind (arith, ints, is.late.low, is.late.high)) in
    simp to_z-of_z at (c.on_record.ensures (query_of p) (record {
      early = ap (λ (h : Header). unsigned_abs h.early) (sym header) ∙ sym (simp to_z-of_z at c.unsigned_abs.ensures.value);
      late = ap (λ (h : Header). unsigned_abs h.late) (sym header) ∙ sym (simp to_z-of_z at c.unsigned_abs-2.ensures.value);
    }))
