use Rattle.std.proofs.Common.{rules, SFits, w64, to_z, of_z, to_z-of_z, refl, sym, ap, ◌∙◌}
use Rattle.wsm_keep.specs.declared.keeper.Keeper.{Keeper}
use Rattle.wsm_keep.specs.declared.what.What.{What}
use Rattle.wsm_keep.specs.Keeper.{queued_if}
use Rattle.wsm_keep.proofs.Behind.{next_for_panes}
use Rattle.wsm_keep.proofs.Cuts.{settings_of, not_taken}
use Rattle.wsm_keep.proofs.keeper.Keeper.pass_over.Goals as goal

pub returns-clause-fits : goal.returns-clause-fits
returns-clause-fits c = λ q rows e text lawful fits told.
    let old = c.args.self.now in
    let new : Keeper = record old { before = to_z w64 (of_z w64 c.args.judged.mark) } in
    let mark : SFits w64 c.args.judged.mark = search rules in
    let (panes, idle) = not_taken old.form c.args.judged.what c.requires in
    record {
      of = settings_of q old new (record { shape = refl; lateness = refl; form = refl }) fits.of;
      queues = next_for_panes q lawful.shape lawful.timely old rows fits.queues e text c.args.judged told new (sym fits.of.form ∙ panes) refl (to_z-of_z mark) (ap (λ (w : What). queued_if w text old.queue) (sym idle));
    }
