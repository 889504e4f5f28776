use Rattle.std.proofs.Common.{rules, ◌≡◌, length, sym, ap, ◌∙◌}
use Rattle.wsm_keep.proofs.Items.{queue_of-length}
use Rattle.wsm_keep.proofs.queue.Queue.len.Goals as goal

pub returns : goal.returns
returns c =
    let is : c.len.result ≡ length c.self.inside.items.items = search rules in
    is ∙ sym (queue_of-length c.self.inside.texts.items c.self.inside.items.items) ∙ ap length c.self.view_is
