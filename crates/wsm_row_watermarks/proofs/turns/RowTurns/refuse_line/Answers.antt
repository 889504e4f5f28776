use Rattle.std.proofs.Common.{◌∙◌, ◌++◌, ℕ, List, None, refl, ap}
use Rattle.std.proofs.lemmas.Result.{on_ok_weaker}
use Rattle.std.specs.Prelude.{codes}
use Rattle.wsm_record.specs.declared.event.RowFault.TheVariants.{BadTag}
use Rattle.wsm_row_watermarks.specs.Lines.{line_of}
use Rattle.wsm_row_watermarks.proofs.turns.RowTurns.refuse_line.Goals as goal

pub returns : goal.returns
returns c = λ w s begins.
    let old = c.args.self.now in
    let line = line_of w.declared old.once None in
    on_ok_weaker c.refuse.result (λ goes. record { holds = goes.holds; text = goes.text; once = goes.once; lines = goes.lines; unread = goes.unread; doubles = goes.doubles })
    (c.refuse.ensures w s line BadTag refl (record {
      holds = record { told = record { declared = begins.holds.told.declared; shape = begins.holds.told.shape; marks = begins.holds.told.marks; latest = begins.holds.told.latest }; waiting = begins.holds.waiting; remembers = begins.holds.remembers };
      line = c.in_ok-extend_from_slice.ensures.items ∙ ap (λ (l : List ℕ). l ++ codes "unread") begins.line;
      number = begins.number;
      few = begins.few;
    }))
