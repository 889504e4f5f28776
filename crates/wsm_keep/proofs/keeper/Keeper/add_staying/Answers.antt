use Rattle.std.proofs.Common.{◌≡◌, ◌++◌, ℕ, List, length, map, ap, ◌∙◌}
use Rattle.std.proofs.lemmas.Result.{IfOk-weaker}
use Rattle.wsm_keep.specs.declared.keeper.Keeper.{Keeper}
use Rattle.wsm_keep.specs.Holds.{read}
use Rattle.wsm_keep.specs.Items.{joined}
use Rattle.wsm_keep.specs.Keeper.{AreAdded}
use Rattle.wsm_keep.specs.Staying.{row_of, staying}
use Rattle.wsm_keep.proofs.Cuts.{added_is, always_ok}
use Rattle.wsm_keep.proofs.keeper.Keeper.add_staying.Goals as goal

pub returns-clause-fits : goal.returns-clause-fits
returns-clause-fits c = λ q rows lawful fits. always_ok c.count_of.result (c.in_ok-cut.ensures.cut q rows lawful fits).fits

pub returns-clause-added : goal.returns-clause-added
returns-clause-added c = λ q rows lawful fits.
    let k : Keeper = c.cut.new.self in
    let old : List ℕ = c.args.texts.now.items in
    let new : List ℕ = c.add_texts-2.new.text.items in
    let are : new ≡ (old ++ joined (map row_of k.queue)) ++ joined (map row_of k.since) =
    c.in_ok-add_texts-2.ensures ∙ ap (λ (t : List ℕ). t ++ joined (map row_of k.since)) c.in_ok-add_texts.ensures in
    IfOk-weaker c.count_of.result (λ count. count ≡ length (k.since ++ k.queue)) (AreAdded old new (staying read q rows))
    (added_is q k rows (c.in_ok-cut.ensures.cut q rows lawful fits) old new are) c.count_of.ensures
