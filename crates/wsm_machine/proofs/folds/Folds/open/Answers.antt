use Rattle.std.proofs.lemmas.List.{take-replicate}
use Rattle.wsm_machine.proofs.folds.Folds.open.Goals as goal

pub returns : goal.returns
returns c = take-replicate c.args.len 16 _ c.requires
