use Rattle.std.proofs.Common.{◌++◌, ℕ, List, map, take, get_or, sym, ap, ◌∙◌, append-nil, append_assoc, arith}
use Rattle.wsm_keep.specs.declared.queue.Item.{Item}
use Rattle.wsm_keep.specs.Items.{item_of, joined, queue_of}
use Rattle.wsm_keep.specs.Staying.{row_of}
use Rattle.wsm_keep.proofs.Items.{joined-next, no_item}
use Rattle.wsm_keep.proofs.queue.add_all.Goals as goal

pub loop-item-init : goal.loop-item-init
unfolding joined
loop-item-init c = sym (append-nil c.args.text.now.items)

pub loop-item-preserved : goal.loop-item-preserved
loop-item-preserved c =
    let texts : List ℕ = c.args.texts.now in
    let items : List Item = c.args.items.now in
    let i = c.loop-item.item-index in
    let text : List ℕ = (item_of texts (get_or items i no_item)).1 in
    c.in_ok-extend_from_slice.ensures.items
    ∙ ap (λ (t : List ℕ). t ++ text) c.loop-item.invariant
    ∙ append_assoc c.args.text.now.items (joined (map row_of (queue_of texts (take i items)))) text
    ∙ ap (λ (t : List ℕ). c.args.text.now.items ++ t) (sym (joined-next texts items i no_item (omega (arith, c.loop-item-test.true))))
