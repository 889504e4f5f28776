use Rattle.std.proofs.Common.{◌≡◌, ◌∙◌, ap, length, arith, rules, true}
use Rattle.std.proofs.lemmas.List.{length-map}
use Rattle.std.proofs.lemmas.Result.{on_ok_weaker}
use Rattle.std.specs.Prelude.{Ok, Some}
use Rattle.wsm_parts.specs.Csv.{cells_of, only_if, picked}
use Rattle.wsm_parts.specs.Spans.{span_text, texts_of}
use Rattle.wsm_lines.specs.Key.{declared_by, key_by}
use Rattle.wsm_lines.specs.Said.{clock_by, event_by, identifier_by, taken_row}
use Rattle.wsm_lines.specs.Scalar.{cells}
use Rattle.wsm_lines.proofs.FaultLemmas.{events_as, faults_as, taken_row_of}
use Rattle.wsm_lines.proofs.rows.read_row.Goals as goal

pub returns-clause-event : goal.returns-clause-event
returns-clause-event c =
    let text = c.args.text.now in
    let columns = c.args.header.now.columns.items in
    let count = c.args.header.now.count in
    let spans = c.find_cells.new.spans.items in
    let whole : c.in_ok-find_cells.field-0 ≡ true = grind arith in
    let row : cells_of c.args.separator text ≡ Some (texts_of text spans) = c.in_ok-find_cells.ensures ∙ ap (λ w. only_if w (texts_of text spans)) whole in
    let long : length (texts_of text spans) ≡ count = length-map spans (span_text text) ∙ omega arith in
    let read : c.read.new.self ≡ picked columns (texts_of text spans) = search rules in
    let taken : taken_row columns count (cells_of c.args.separator text) ≡ Ok (cells c.read.new.self) = taken_row_of columns count _ (texts_of text spans) c.read.new.self row long read in
    events_as c.read_taken.result _ _ _ (ap (event_by c.args.source.now (declared_by c.args.lookup)) taken) c.read_taken.ensures.event

pub returns-clause-identifier : goal.returns-clause-identifier
returns-clause-identifier c =
    let text = c.args.text.now in
    let columns = c.args.header.now.columns.items in
    let count = c.args.header.now.count in
    let spans = c.find_cells.new.spans.items in
    let whole : c.in_ok-find_cells.field-0 ≡ true = grind arith in
    let row : cells_of c.args.separator text ≡ Some (texts_of text spans) = c.in_ok-find_cells.ensures ∙ ap (λ w. only_if w (texts_of text spans)) whole in
    let long : length (texts_of text spans) ≡ count = length-map spans (span_text text) ∙ omega arith in
    let read : c.read.new.self ≡ picked columns (texts_of text spans) = search rules in
    let taken : taken_row columns count (cells_of c.args.separator text) ≡ Ok (cells c.read.new.self) = taken_row_of columns count _ (texts_of text spans) c.read.new.self row long read in
    events_as c.read_taken.result _ _ _ (ap (identifier_by c.args.source.now) taken) c.read_taken.ensures.identifier

pub returns-clause-key : goal.returns-clause-key
returns-clause-key c = λ later.
    let text = c.args.text.now in
    let columns = c.args.header.now.columns.items in
    let count = c.args.header.now.count in
    let spans = c.find_cells.new.spans.items in
    let whole : c.in_ok-find_cells.field-0 ≡ true = grind arith in
    let row : cells_of c.args.separator text ≡ Some (texts_of text spans) = c.in_ok-find_cells.ensures ∙ ap (λ w. only_if w (texts_of text spans)) whole in
    let long : length (texts_of text spans) ≡ count = length-map spans (span_text text) ∙ omega arith in
    let read : c.read.new.self ≡ picked columns (texts_of text spans) = search rules in
    let taken : taken_row columns count (cells_of c.args.separator text) ≡ Ok (cells c.read.new.self) = taken_row_of columns count _ (texts_of text spans) c.read.new.self row long read in
    events_as c.read_taken.result _ _ _ (ap (key_by c.args.source.now) taken) (c.read_taken.ensures.key later)

pub returns-clause-clock : goal.returns-clause-clock
returns-clause-clock c =
    let text = c.args.text.now in
    let columns = c.args.header.now.columns.items in
    let count = c.args.header.now.count in
    let spans = c.find_cells.new.spans.items in
    let whole : c.in_ok-find_cells.field-0 ≡ true = grind arith in
    let row : cells_of c.args.separator text ≡ Some (texts_of text spans) = c.in_ok-find_cells.ensures ∙ ap (λ w. only_if w (texts_of text spans)) whole in
    let long : length (texts_of text spans) ≡ count = length-map spans (span_text text) ∙ omega arith in
    let read : c.read.new.self ≡ picked columns (texts_of text spans) = search rules in
    let taken : taken_row columns count (cells_of c.args.separator text) ≡ Ok (cells c.read.new.self) = taken_row_of columns count _ (texts_of text spans) c.read.new.self row long read in
    on_ok_weaker c.read_taken.result (λ held. ap (clock_by c.args.source.now) taken ∙ ap Ok held) c.read_taken.ensures.clock

pub returns-clause-fault : goal.returns-clause-fault
returns-clause-fault c =
    let text = c.args.text.now in
    let columns = c.args.header.now.columns.items in
    let count = c.args.header.now.count in
    let spans = c.find_cells.new.spans.items in
    let whole : c.in_ok-find_cells.field-0 ≡ true = grind arith in
    let row : cells_of c.args.separator text ≡ Some (texts_of text spans) = c.in_ok-find_cells.ensures ∙ ap (λ w. only_if w (texts_of text spans)) whole in
    let long : length (texts_of text spans) ≡ count = length-map spans (span_text text) ∙ omega arith in
    let read : c.read.new.self ≡ picked columns (texts_of text spans) = search rules in
    let taken : taken_row columns count (cells_of c.args.separator text) ≡ Ok (cells c.read.new.self) = taken_row_of columns count _ (texts_of text spans) c.read.new.self row long read in
    faults_as c.read_taken.result _ _ (ap (event_by c.args.source.now (declared_by c.args.lookup)) taken) c.read_taken.ensures.fault
