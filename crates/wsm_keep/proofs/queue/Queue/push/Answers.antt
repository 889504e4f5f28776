use Rattle.std.proofs.Common.{rules, ◌≡◌, ◌∙◌, ◌∷◌, ◌++◌, List, length, ap}
use Rattle.wsm_keep.specs.Holds.{Queued}
use Rattle.wsm_keep.specs.Items.{queue_of}
use Rattle.wsm_keep.proofs.Texts.{item_added}
use Rattle.wsm_keep.proofs.queue.Queue.push.Goals as goal

pub returns : goal.returns
returns c =
    let from : c.len-start.result ≡ length c.self.inside.texts.items = search rules in
    let to : c.len-end.result ≡ length (c.self.inside.texts.items ++ c.args.text.now) = search rules in
    (λ i. queue_of (c.in_ok-extend_from_slice.ensures.items i) (c.in_ok-push.ensures.items i))
    ∙ item_added c.self.inside.texts.items c.args.text.now c.self.inside.items.items c.self.invariant (record { what = c.args.what; start = c.len-start.result; end = c.len-end.result }) from to
    ∙ ap (λ (queue : List Queued). (c.args.what, c.args.text.now) ∷ queue) c.self.view_is
