use Rattle.std.proofs.Common.{rules, ◌≡◌, ◌++◌, ℕ, List, map, length, ap, ◌∙◌}
use Rattle.std.proofs.lemmas.Result.{on_ok_weaker}
use Rattle.wsm_keep.specs.declared.queue.Item.{Item}
use Rattle.wsm_keep.specs.Items.{behind, queue_of}
use Rattle.wsm_keep.proofs.Texts.{all_added}
use Rattle.wsm_keep.proofs.queue.Queue.append.Goals as goal

pub returns : goal.returns
returns c =
    let texts : List ℕ = c.self.inside.texts.items in
    let newer : List ℕ = c.newer.inside.texts.items in
    let items : List Item = c.self.inside.items.items in
    let more : List Item = c.newer.inside.items.items in
    let from : c.len-front.result ≡ length texts = search rules in
    let all : c.extend_from_slice.new.self.items ≡ texts ++ newer = search rules in
    on_ok_weaker c.add_behind.result
    (λ (are : c.add_behind.new.items.items ≡ items ++ map (behind c.len-front.result) c.deref-2.result.now).
    (λ i. queue_of (all i) (are i))
    ∙ ap (λ (moved : List Item). queue_of (texts ++ newer) (items ++ map (behind c.len-front.result) moved)) c.deref-2.ensures.value
    ∙ ap (λ (front : ℕ). queue_of (texts ++ newer) (items ++ map (behind front) more)) from
    ∙ all_added texts newer items c.self.invariant more
    ∙ (λ i. c.newer.view_is i ++ c.self.view_is i))
    (c.add_behind.ensures.items)
