use Rattle.std.proofs.Common.{◌≡◌, ◌∙◌, ◌++◌, ℕ, List, false, Bool, Ok, Err, Some, sym, ap, subst}
use Rattle.std.proofs.lemmas.Result.{on_ok_weaker}
use Rattle.std.specs.Prelude.{◌&&◌, is_err, length, nat_lt}
use Rattle.csv.specs.Records.{fields_of}
use Rattle.wsm_csv.specs.Cells.{event_of_cells}
use Rattle.wsm_csv.specs.EventReader.{event_read}
use Rattle.wsm_turns.specs.Turns.{spoken}
use Rattle.wsm_row_watermarks.specs.declared.turns.RowTurns.{RowTurns}
use Rattle.wsm_row_watermarks.specs.Fits.{Goes, spoken_read}
use Rattle.wsm_row_watermarks.specs.Lines.{Said, line_of, taken_of}
use Rattle.wsm_row_watermarks.specs.Turns.{is_left_out, is_unread, row_turn}
use Rattle.wsm_row_watermarks.proofs.turns.RowTurns.take_text.Goals as goal

-- a row that was read
pub returns-in-Ok : goal.returns-in-Ok
returns-in-Ok c = λ w s begins.
    let old = c.args.self.now in
    let text = c.args.text.now in
    let taken = taken_of old.once text in
    let line = line_of w.declared old.once (Some text) in
    let n = old.counts.lines in
    let mid : RowTurns = record old { handed = record old.handed { line = c.read.new.line }; row = c.read.new.self; events = c.read-2.new.self } in
    let cells : fields_of c.cells.result.now ≡ taken.cells = ap fields_of c.cells.ensures ∙ c.in_ok-read.ensures.cells in
    let declared : c.schema.result.now ≡ w.declared = c.schema.ensures ∙ begins.holds.told.declared in
    let event : event_of_cells w.declared taken.cells ≡ Ok (event_read c.read-2.new.self) = (λ i. event_of_cells (sym declared i) (sym cells i)) ∙ c.in-Ok.ensures.event in
    let said : line.said ≡ Ok (spoken_read mid) = λ i. spoken (sym c.in_ok-read.ensures.identifier i) (event i) in
    let read : is_unread line ≡ false = ap (λ (x : Said). is_err x && nat_lt 0 (length line.text)) said in
    on_ok_weaker c.serve.result (λ goes.
    subst (λ (b : Bool). Goes w old c.serve.new.self (row_turn w s n line) b (is_left_out w s line.said)) (sym read)
    (record { holds = goes.holds; text = goes.text; once = goes.once; lines = goes.lines; unread = goes.unread; doubles = goes.doubles }))
    (c.serve.ensures w s line said (record {
      holds = record { told = record { declared = begins.holds.told.declared; shape = begins.holds.told.shape; marks = begins.holds.told.marks; latest = begins.holds.told.latest }; waiting = begins.holds.waiting; remembers = begins.holds.remembers };
      line = c.in_ok-read.ensures.text ∙ ap (λ (l : List ℕ). l ++ taken.text) begins.line;
      number = begins.number;
      few = begins.few;
    }))

-- none was
pub returns-in-Err-Fault : goal.returns-in-Err-Fault
returns-in-Err-Fault c = λ w s begins.
    let old = c.args.self.now in
    let text = c.args.text.now in
    let taken = taken_of old.once text in
    let line = line_of w.declared old.once (Some text) in
    let n = old.counts.lines in
    let why = c.in-Err-Fault.field-0-0 in
    let cells : fields_of c.cells.result.now ≡ taken.cells = ap fields_of c.cells.ensures ∙ c.in_ok-read.ensures.cells in
    let declared : c.schema.result.now ≡ w.declared = c.schema.ensures ∙ begins.holds.told.declared in
    let fault = rw c.in-Err-Fault.field-0-is at c.in-Err-Fault.ensures.fault in
    let event : event_of_cells w.declared taken.cells ≡ Err why = (λ i. event_of_cells (sym declared i) (sym cells i)) ∙ fault in
    let said : line.said ≡ Err why = ap (spoken taken.identifier) event in
    let stays : is_left_out w s line.said ≡ false = ap (is_left_out w s) said in
    on_ok_weaker c.refuse.result (λ goes.
    subst (λ (b : Bool). Goes w old c.refuse.new.self (row_turn w s n line) (is_unread line) b) (sym stays)
    (record { holds = goes.holds; text = goes.text; once = goes.once; lines = goes.lines; unread = goes.unread; doubles = goes.doubles }))
    (c.refuse.ensures w s line why said (record {
      holds = record { told = record { declared = begins.holds.told.declared; shape = begins.holds.told.shape; marks = begins.holds.told.marks; latest = begins.holds.told.latest }; waiting = begins.holds.waiting; remembers = begins.holds.remembers };
      line = c.in_ok-read.ensures.text ∙ ap (λ (l : List ℕ). l ++ taken.text) begins.line;
      number = begins.number;
      few = begins.few;
    }))
