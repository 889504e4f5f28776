use Rattle.std.proofs.Common.{◌≡◌, ◌∷◌, ◌+◌, List, take, get_or, sym, subst, arith}
use Rattle.wsm_keep.specs.declared.queue.Item.{Item}
use Rattle.wsm_keep.specs.Holds.{Queued}
use Rattle.wsm_keep.specs.Items.{item_of, queue_of}
use Rattle.wsm_keep.specs.OfKeys.{AreOfKeys}
use Rattle.wsm_keep.proofs.Items.{no_item, queue_of-next}
use Rattle.wsm_keep.proofs.sessions.sessions_of_keys.Goals as goal

pub loop-item-preserved : goal.loop-item-preserved
loop-item-preserved c = λ texts.
    let items : List Item = c.args.items.now in
    let i = c.loop-item.item-index in
    let item : Item = get_or items i no_item in
    let more : queue_of texts (take (i + 1) items) ≡ item_of texts item ∷ queue_of texts (take i items) = queue_of-next texts items i no_item (omega (arith, c.loop-item-test.true)) in
    subst (λ (queue : List Queued). AreOfKeys c.args.parting.gap c.place.new.keys.items queue) (sym more)
    (c.in_ok-place.ensures c.args.parting.gap (queue_of texts (take i items)) (item_of texts item).1 (c.loop-item.invariant texts))
