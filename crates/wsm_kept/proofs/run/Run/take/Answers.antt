use Rattle.std.proofs.Common.{◌≡◌, ◌∙◌, ◌∷◌, Ok, Err, map, sym, ap, subst}
use Rattle.csv.specs.Records.{fields_of}
use Rattle.wsm_record.specs.Schema.{Declared}
use Rattle.wsm_admission.specs.Clock.{fits_declared}
use Rattle.wsm_record.specs.Event.{Event}
use Rattle.wsm_semantics.specs.Lines.{Row, events}
use Rattle.wsm_semantics.specs.Relation.{turn_rows}
use Rattle.wsm_machine.specs.Meaning.{query_of}
use Rattle.wsm_program.specs.Program.{Program}
use Rattle.wsm_csv.specs.Cells.{event_of_cells}
use Rattle.wsm_csv.specs.EventReader.{event_read}
use Rattle.wsm_keep.specs.Holds.{read}
use Rattle.wsm_kept.specs.Run.{Fits}
use Rattle.wsm_kept.proofs.run.Run.take.Goals as goal

pub feed-requires : goal.feed-requires
feed-requires c = c.in-Ok.ensures.fits ∙ ap (λ (d : Declared). fits_declared d (event_read c.read.new.self)) c.schema.ensures

pub returns-in-Ok-clause-fits : goal.returns-in-Ok-clause-fits
returns-in-Ok-clause-fits c = λ p before fits.
    let mid = record c.args.self.now { events = c.read.new.self } in
    let cells = fields_of c.args.row.now in
    let same : Fits p mid before = record { engine = fits.engine; counts = fits.counts } in
    let schema : c.schema.result.now ≡ p.header.schema = c.schema.ensures ∙ ap (λ (p : Program). p.header.schema) fits.engine.program in
    let is : event_of_cells p.header.schema cells ≡ Ok (event_read c.read.new.self) = ap (λ (d : Declared). event_of_cells d cells) (sym schema) ∙ c.in-Ok.ensures.event in
    subst (λ (r : Row). Fits p c.feed.new.self (r ∷ before)) (sym is) (c.feed.ensures.fits p before same)

abbrev event_in : Event → Row → Event
event_in e (Ok event) = event
event_in e (Err why) = e

pub returns-in-Ok-clause-rows : goal.returns-in-Ok-clause-rows
returns-in-Ok-clause-rows c = λ p before fits. λ e next.
    let mid = record c.args.self.now { events = c.read.new.self } in
    let cells = fields_of c.args.row.now in
    let same : Fits p mid before = record { engine = fits.engine; counts = fits.counts } in
    let schema : c.schema.result.now ≡ p.header.schema = c.schema.ensures ∙ ap (λ (p : Program). p.header.schema) fits.engine.program in
    let is : event_of_cells p.header.schema cells ≡ Ok (event_read c.read.new.self) = ap (λ (d : Declared). event_of_cells d cells) (sym schema) ∙ c.in-Ok.ensures.event in
    c.feed.ensures.rows p before same ∙ ap (λ (r : Row). turn_rows (query_of p) (events before) (event_in e r)) (sym is ∙ next)

pub returns-in-Ok-clause-told : goal.returns-in-Ok-clause-told
returns-in-Ok-clause-told c = λ p before fits.
    let mid = record c.args.self.now { events = c.read.new.self } in
    let cells = fields_of c.args.row.now in
    let same : Fits p mid (map read before) = record { engine = fits.engine; counts = fits.counts } in
    let schema : c.schema.result.now ≡ p.header.schema = c.schema.ensures ∙ ap (λ (p : Program). p.header.schema) fits.engine.program in
    let is : event_of_cells p.header.schema cells ≡ Ok (event_read c.read.new.self) = ap (λ (d : Declared). event_of_cells d cells) (sym schema) ∙ c.in-Ok.ensures.event in
    record { event = event_read c.read.new.self; is = is; told = c.feed.ensures.told p before same }
