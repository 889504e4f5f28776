use Rattle.std.proofs.Common.{rules}
use Rattle.wsm_keep.proofs.Items.{selected_of}
use Rattle.wsm_keep.proofs.queue.Queue.selected.Goals as goal

pub returns : goal.returns
returns c = search (rules, selected_of c.self.inside.texts.items c.self.inside.items.items)
