use Rattle.std.proofs.Common.{◌≡◌, ◌++◌, ◌∷◌, [], ◌<◌, List, map, take, length, get_or, sym, ap, ◌∙◌, append_assoc, arith}
use Rattle.std.proofs.lemmas.List.{map-append, take_more}
use Rattle.std.proofs.lemmas.List.Elements.{All-push, All-same}
use Rattle.wsm_keep.specs.declared.queue.Item.{Item}
use Rattle.wsm_keep.specs.Items.{Lies, behind}
use Rattle.wsm_keep.proofs.Items.{no_item}
use Rattle.wsm_keep.proofs.queue.add_behind.Goals as goal

pub loop-item-preserved : goal.loop-item-preserved
loop-item-preserved c =
    let newer : List Item = c.args.newer.now in
    let front = c.args.front in
    let n = c.loop-item.item-index in
    let old : List Item = c.args.items.now.items in
    let so_far : List Item = c.loop-item.items.items in
    let within : n < length newer = omega (arith, c.loop-item-test.true) in
    let item : Item = behind front (get_or newer n no_item) in
    let one : c.push.new.self.items ≡ so_far ++ item ∷ [] = c.in_ok-push.ensures.items ∙ ap (λ (i : Item). so_far ++ i ∷ []) c.item_behind.ensures in
    let (are, lie) = c.loop-item.invariant in (
      one
          ∙ ap (λ (items : List Item). items ++ item ∷ []) are
          ∙ append_assoc old (map (behind front) (take n newer)) (item ∷ [])
          ∙ ap (λ (items : List Item). old ++ items) (sym (ap (map (behind front)) (take_more newer n no_item within) ∙ map-append (behind front) (take n newer) (get_or newer n no_item ∷ []))),
      λ texts before more. All-same (Lies texts) c.push.new.self.items (so_far ++ item ∷ []) one (All-push (Lies texts) so_far item (lie texts before more) (more n no_item within)),
    )
