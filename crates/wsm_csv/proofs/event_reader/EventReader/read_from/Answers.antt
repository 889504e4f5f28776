use Rattle.std.proofs.Common.{◌≡◌, ◌∙◌, sym, ap, subst, drop, Some, List, ℕ}
use Rattle.std.proofs.lemmas.Result.{err_from_is_err_and}
use Rattle.csv.specs.Records.{fields_of}
use Rattle.wsm_record.specs.Schema.{Declared}
use Rattle.wsm_csv.specs.declared.row.Tag.{Tag}
use Rattle.wsm_csv.specs.declared.row.Tag.TheVariants.{Record, Watermark}
use Rattle.wsm_csv.specs.Tags.{row_tag}
use Rattle.wsm_csv.specs.KeyedRows.{said_from}
use Rattle.wsm_csv.proofs.CellLemmas.{TagDecides, row_tag-decides}
use Rattle.wsm_csv.proofs.KeyedLemmas.{mark_from}
use Rattle.wsm_csv.proofs.event_reader.EventReader.read_from.Goals as goal

decides : (d : Declared) (cells : List (List ℕ)) (t k : Tag) → Some t ≡ row_tag cells → t ≡ k → TagDecides d cells (Some k)
decides d cells t k e h = subst (TagDecides d cells) (sym e ∙ ap Some h) (row_tag-decides d cells)

pub returns-in_err-read_watermark-in-Some-Watermark-clause-fault :
    goal.returns-in_err-read_watermark-in-Some-Watermark-clause-fault
returns-in_err-read_watermark-in-Some-Watermark-clause-fault c =
    let is = decides c.args.schema.now (fields_of c.args.row.now) _ Watermark c.in-Some-Watermark.ensures c.in-Some-Watermark.field-0-is in
    let p = err_from_is_err_and c.from_residual-in_err-read_watermark-in-Some-Watermark.result c.from_residual-in_err-read_watermark-in-Some-Watermark.ensures.1 in
    rw (p.1, p.2) (is ∙ (c.in_err-read_watermark-in-Some-Watermark).ensures.fault)

pub returns-in_ok-self-in-Some-Record-clause-event : goal.returns-in_ok-self-in-Some-Record-clause-event
returns-in_ok-self-in-Some-Record-clause-event c =
    let is = decides c.args.schema.now (fields_of c.args.row.now) _ Record c.in-Some-Record.ensures c.in-Some-Record.field-0-is in
    ap (said_from c.args.from) is.0 ∙ (c.in_ok-self-in-Some-Record).ensures.event

pub returns-in_err-self-in-Some-Record-clause-fault : goal.returns-in_err-self-in-Some-Record-clause-fault
returns-in_err-self-in-Some-Record-clause-fault c =
    let is = decides c.args.schema.now (fields_of c.args.row.now) _ Record c.in-Some-Record.ensures c.in-Some-Record.field-0-is in
    let p = err_from_is_err_and c.from_residual.result c.from_residual.ensures.1 in
    rw (p.1, p.2, is.0) (c.in_err-self-in-Some-Record).ensures.fault

pub returns-in_err-self-in-Some-Record-clause-memory : goal.returns-in_err-self-in-Some-Record-clause-memory
returns-in_err-self-in-Some-Record-clause-memory c refused =
    (decides c.args.schema.now (fields_of c.args.row.now) _ Record c.in-Some-Record.ensures c.in-Some-Record.field-0-is).1

pub returns-in_ok-read_watermark-in-Some-Watermark-clause-event :
    goal.returns-in_ok-read_watermark-in-Some-Watermark-clause-event
returns-in_ok-read_watermark-in-Some-Watermark-clause-event c =
    let d = c.args.schema.now in
    let cells = fields_of c.args.row.now in
    ap (said_from c.args.from) (decides d cells _ Watermark c.in-Some-Watermark.ensures c.in-Some-Watermark.field-0-is)
    ∙ mark_from c.args.from d.sources (drop 1 cells) _ (c.in_ok-read_watermark-in-Some-Watermark).ensures.event

pub returns-in-None-clause-fault : goal.returns-in-None-clause-fault
returns-in-None-clause-fault c =
    subst (TagDecides c.args.schema.now (fields_of c.args.row.now)) (sym c.in-None.ensures) (row_tag-decides c.args.schema.now (fields_of c.args.row.now))
