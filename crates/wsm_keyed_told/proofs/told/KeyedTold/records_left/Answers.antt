use Rattle.std.proofs.Common.{rules, ◌≡◌, ◌∙◌, ◌-◌, SFits, w64, to_z-of_z, ap}
use Rattle.std.specs.Prelude.{unsigned_abs}
use Rattle.wsm_program.specs.Program.{Header, Program}
use Rattle.wsm_program.specs.View.{header_of}
use Rattle.wsm_part_programs.specs.Names.{of_names}
use Rattle.wsm_head.specs.StandsFor.{taken}
use Rattle.wsm_keyed_told.proofs.ByNames.{fits_any}
use Rattle.wsm_keyed_told.proofs.told.KeyedTold.records_left.Goals as goal

pub returns-clause-left : goal.returns-clause-left
returns-clause-left c = λ p past serves all named.
    let old = c.args.self.now in
    let admitted : c.totals.result.admitted ≡ taken (of_names p all) past = ap (λ t. t.admitted) (c.totals.ensures p all past (fits_any p old.names old.parts past serves.parts all named)) in
    let header : header_of c.header.result.now ≡ p.header = c.header.ensures.header ∙ ap (λ (m : Program). m.header) serves.parts.program in
    let fits : SFits w64 c.header.result.now.clock.records = search rules in
    c.saturating_sub.ensures ∙ (λ i. (c.unsigned_abs.ensures.value ∙ ap unsigned_abs (to_z-of_z fits) ∙ ap (λ (h : Header). unsigned_abs h.clock.records) header) i - admitted i)
