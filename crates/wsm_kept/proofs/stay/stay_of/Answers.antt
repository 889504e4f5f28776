use Rattle.std.proofs.Common.{◌≡◌, ◌∙◌, ◌++◌, SFits, w64, map, to_z-of_z, sym, ap, arith}
use Rattle.std.proofs.lemmas.Int.{ints, fits_signed_from_abs}
use Rattle.std.specs.Prelude.{codes, unsigned_abs, ℤ, pos, ◌≤ℤ◌}
use Rattle.wsm_semantics.specs.Query.{Query}
use Rattle.wsm_program.specs.Program.{Header, Program}
use Rattle.wsm_program.specs.View.{header_of}
use Rattle.wsm_rules.proofs.Lawful.{IsLawful, lawful_seen}
use Rattle.wsm_machine.specs.Meaning.{query_of}
use Rattle.wsm_keep.specs.declared.keeper.Remains.{Remains}
use Rattle.wsm_keep.specs.Holds.{read, text_of}
use Rattle.wsm_keep.specs.Staying.{row_of, staying}
use Rattle.wsm_kept.specs.Kept.{kept_rows, written}
use Rattle.wsm_kept.specs.Own.{HasStaying}
use Rattle.wsm_kept.specs.Texts.{rows_text}
use Rattle.wsm_kept.proofs.Counted.{of_sessions}
use Rattle.wsm_kept.proofs.Passed.{text_kept}
use Rattle.wsm_kept.proofs.stay.stay_of.Goals as goal

size_fits : (n : ℤ) → pos 1 ≤ℤ n → n ≤ℤ pos 1000000000000 → SFits w64 n
size_fits n low high = fits_signed_from_abs w64 n (grind (arith, ints, low, high))

pub returns : goal.returns
returns c = λ past is.
    let p : Program = c.args.verified in
    let q : Query = query_of p in
    let remains : Remains = c.in_ok-remains.remains in
    let are = c.in_ok-remains.ensures in
    let texts : map row_of remains.queue ≡ map text_of (staying read q (written q past)) = are.texts p (written q past) is.fits in
    let text : c.in_ok-text.text.items ≡ codes "kept\n" ++ rows_text (kept_rows q past) = c.in_ok-text.ensures ∙ text_kept q past (map row_of remains.queue) texts in
    let has : HasStaying p past remains =
    record {
      whole = is.fits.lawful;
      texts = texts;
      selected = are.selected p (written q past) is.fits;
      written = λ counted. are.written p (written q past) (of_sessions p counted).form is.fits (is.begun counted);
    } in
    let header : header_of c.header.result.now ≡ p.header = c.header.ensures.header ∙ ap (λ (m : Program). m.header) c.program.ensures.program in
    let good : IsLawful (header_of c.header.result.now) = lawful_seen c.program.result.now (header_of c.header.result.now) c.header.ensures.header c.header.ensures.lawful in
    let fits : SFits w64 c.header.result.now.clock.records = size_fits c.header.result.now.clock.records good.records.0 good.records.1 in
    record {
      text = text;
      own = c.in_ok-own.ensures past has (c.deref.ensures.value ∙ text);
      records = sym (c.unsigned_abs-records.ensures.value ∙ ap unsigned_abs (to_z-of_z fits) ∙ ap (λ (h : Header). unsigned_abs h.clock.records) header);
    }
