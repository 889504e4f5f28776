use Rattle.std.proofs.Common.{rules, ◌≡◌, ◌∷◌, List, refl, sym, subst}
use Rattle.csv.specs.Records.{fields_of}
use Rattle.csv.specs.Writing.{default_writer, row_text}
use Rattle.wsm_record.specs.Event.{Event}
use Rattle.wsm_machine.specs.Meaning.{query_of}
use Rattle.wsm_keep.specs.Begins.{HasBegun}
use Rattle.wsm_keep.specs.Holds.{Written, read}
use Rattle.wsm_keep.specs.Staying.{events_in}
use Rattle.wsm_kept.specs.Kept.{written}
use Rattle.wsm_kept.specs.Pass.{KeepsWritten}
use Rattle.wsm_kept.proofs.Counted.{keeps_event}
use Rattle.wsm_kept.proofs.pass.Pass.keep_event.Goals as goal

pub returns-then-not-takes-clause-cutter : goal.returns-then-not-takes-clause-cutter
returns-then-not-takes-clause-cutter c = λ p past turn rows keeps.
    let cells = fields_of c.args.row.now in
    let text = row_text default_writer cells in
    let old = c.args.self.now in
    let mid = c.tell_rows.new.self in
    let e : Event = turn.event in
    let before : List Written = written (query_of p) past in
    let told : KeepsWritten p old.is_counted mid.cutter before e = c.in_ok-tell_rows.ensures.told p before e (rows e turn.is) keeps in
    keeps_event p old.is_counted mid.cutter c.pass_over.new.self past cells e text turn.is refl told
    (c.pass_over.ensures.fits p before e text told.fits turn.told)
    (λ panes begun. subst (HasBegun (query_of p) (e ∷ events_in read before)) (sym (λ i. (c.pass_over.ensures.begins i).items)) begun)

pub returns-clause-cutter : goal.returns-clause-cutter
returns-clause-cutter c = λ p past turn rows keeps.
    let cells = fields_of c.args.row.now in
    let text : c.deref.result.now ≡ row_text default_writer cells = search rules in
    let old = c.args.self.now in
    let mid = c.tell_rows.new.self in
    let e : Event = turn.event in
    let before : List Written = written (query_of p) past in
    let told : KeepsWritten p old.is_counted mid.cutter before e = c.in_ok-tell_rows.ensures.told p before e (rows e turn.is) keeps in
    keeps_event p old.is_counted mid.cutter c.take.new.self past cells e c.deref.result.now turn.is text told
    (c.in_ok-take.ensures.fits p before e told.fits turn.told)
    (λ panes begun. c.in_ok-take.ensures.begun p before e panes told.fits turn.told begun)
