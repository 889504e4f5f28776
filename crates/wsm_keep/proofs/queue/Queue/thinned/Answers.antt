use Rattle.std.proofs.Common.{rules, ◌≡◌, ◌++◌, ◌∷◌, [], ℕ, true, false, List, map, Some, sym, ap, ◌∙◌, append-nil}
use Rattle.std.proofs.lemmas.List.Elements.{All-pop, All-push, All-same}
use Rattle.std.proofs.lemmas.Result.{IfOk-weaker}
use Rattle.wsm_semantics.specs.FromWatermark.{Times}
use Rattle.wsm_keep.specs.declared.queue.Item.{Item}
use Rattle.wsm_keep.specs.Items.{Lies, item_of, queue_of, times_of}
use Rattle.wsm_keep.specs.Staying as spec
use Rattle.wsm_keep.specs.Staying.{done_by, told_after}
use Rattle.wsm_keep.proofs.Items.{left_of, one_goes, one_stays, queue_of-reverse}
use Rattle.wsm_keep.proofs.queue.Queue.thinned.Goals as goal

pub loop-item-preserved-in-Continue-branch-2 : goal.loop-item-preserved-in-Continue-branch-2
loop-item-preserved-in-Continue-branch-2 c =
    let texts : List ℕ = c.self.inside.texts.items in
    let x : Times = times_of c.args.firsts.now in
    let item : Item = c.in-Some.item in
    let kept : List Item = c.loop-item.kept.items in
    let told : List ℕ = c.loop-item.told.items in
    let rest : List Item = c.pop.new.self.items in
    let was : c.loop-item.items.items ≡ rest ++ item ∷ [] = search rules in
    let stay : spec.stays x told item.what ≡ true = search rules in
    let tells : c.tell.new.told.items ≡ told_after told item.what = search rules in
    let more : c.push.new.self.items ≡ kept ++ item ∷ [] = search rules in
    let (all, lie, left) = c.loop-item.invariant in
    let (rest_lie, lies) = All-pop (Lies texts) c.loop-item.items.items rest (Some item) was left in (
      (λ i. left_of texts x (more i) (tells i) rest)
          ∙ one_stays texts x kept rest told item stay
          ∙ sym (ap (left_of texts x kept told) was)
          ∙ all,
      All-same (Lies texts) c.push.new.self.items (kept ++ item ∷ []) more (All-push (Lies texts) kept item lie lies),
      rest_lie,
    )

pub loop-item-preserved : goal.loop-item-preserved
loop-item-preserved c =
    let texts : List ℕ = c.self.inside.texts.items in
    let x : Times = times_of c.args.firsts.now in
    let item : Item = c.in-Some.item in
    let kept : List Item = c.loop-item.kept.items in
    let told : List ℕ = c.loop-item.told.items in
    let rest : List Item = c.pop.new.self.items in
    let was : c.loop-item.items.items ≡ rest ++ item ∷ [] = search rules in
    let goes : spec.stays x told item.what ≡ false = search rules in
    let (all, lie, left) = c.loop-item.invariant in (
      one_goes texts x kept rest told item goes
          ∙ sym (ap (left_of texts x kept told) was)
          ∙ all,
      lie,
      (All-pop (Lies texts) c.loop-item.items.items rest (Some item) was left).0,
    )

pub returns : goal.returns
returns c =
    let texts : List ℕ = c.self.inside.texts.items in
    let x : Times = times_of c.args.firsts.now in
    let kept : List Item = c.loop-item.kept.items in
    let told : List ℕ = c.loop-item.told.items in
    let empty : c.loop-item.items.items ≡ [] = search rules in
    let (all, lie, left) = c.loop-item.invariant in
    let are : queue_of texts c.reverse.new.self.items ≡ spec.thinned done_by x [] c.args.self =
    ap (queue_of texts) c.reverse.ensures.items
    ∙ queue_of-reverse texts kept
    ∙ sym (append-nil (map (item_of texts) kept))
    ∙ ap (left_of texts x kept told) (sym empty)
    ∙ all in
    IfOk-weaker c.packed.result (λ q. q ≡ queue_of texts c.reverse.new.self.items) (λ q. q ≡ spec.thinned done_by x [] c.args.self) (λ q is. is ∙ are) c.packed.ensures
