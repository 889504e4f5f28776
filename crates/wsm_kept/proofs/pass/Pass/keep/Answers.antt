use Rattle.csv.specs.Records.{fields_of}
use Rattle.wsm_machine.specs.Meaning.{query_of}
use Rattle.wsm_csv.specs.Cells.{event_of_cells}
use Rattle.wsm_kept.specs.Kept.{written}
use Rattle.wsm_kept.proofs.Passed.{kept_other, told_none, told_some}
use Rattle.wsm_kept.proofs.pass.Pass.keep.Goals as goal

pub returns-in-Some-clause-cutter : goal.returns-in-Some-clause-cutter
returns-in-Some-clause-cutter c = λ p past tells rows keeps.
    c.keep_event.ensures.cutter p past (told_some (query_of p) (written (query_of p) past) (event_of_cells p.header.schema (fields_of c.args.row.now)) c.args.told c.in-Some.judged c.in-Some.is tells) rows keeps

pub returns-in-None-clause-cutter : goal.returns-in-None-clause-cutter
returns-in-None-clause-cutter c = λ p past tells rows keeps.
    let cells = fields_of c.args.row.now in
    kept_other p c.args.self.now.is_counted c.args.self.now.cutter past cells (told_none (query_of p) (written (query_of p) past) (event_of_cells p.header.schema cells) c.args.told c.in-None.is tells) keeps
