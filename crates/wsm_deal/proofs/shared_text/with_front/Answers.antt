use Rattle.std.proofs.Common.{◌≡◌, ◌≤◌, ◌+◌, ◌∙◌, ◌++◌, List, ℕ, ap, arith, length, take, take-take}
use Rattle.std.proofs.Math.Seq.{take-append-add}
use Rattle.wsm_deal.proofs.shared_text.with_front.Goals as goal

pub returns : goal.returns
returns c =
    let start = c.args.text.items in
    let (items, len, room) = c.loop-place.invariant in
    let end : c.len.result + c.args.count ≡ length start + c.args.count = omega (arith, c.len.ensures, c.args.text.ok.0) in
    let whole : c.args.count ≤ c.loop-place.place = omega (arith, c.loop-place-test.false, c.requires.0) in
    c.truncate.ensures.items
    ∙ ap (λ (n : ℕ). take n c.loop-place.text.items) end
    ∙ ap (take (length start + c.args.count)) items
    ∙ take-append-add start (take c.loop-place.place c.args.block.now) c.args.count
    ∙ ap (λ (t : List ℕ). start ++ t) (take-take c.args.count c.loop-place.place c.args.block.now whole)
