use Rattle.std.proofs.Common.{◌≡◌, ◌<◌, ◌+◌, length, set, sym, ap, ◌∙◌, arith, length-set}
use Rattle.wsm_program.specs.Instructions.{opposite_test}
use Rattle.wsm_rules.specs.Labels.{narrowed}
use Rattle.wsm_verifier.specs.Turning.{joined_at}
use Rattle.wsm_verifier.proofs.PassKept.{tested_same, tested_apart, joined_is, jump_within}
use Rattle.wsm_verifier.proofs.pass.carry_tested.Goals as goal

pub returns-then-target-place : goal.returns-then-target-place
returns-then-target-place c =
    let within = jump_within c.args.test c.args.target c.args.place (length c.args.labels.now) c.requires.jumps in
    joined_is c.args.target c.args.state c.args.labels.now _ c.join.new.self within c.join.ensures
    ∙ sym (tested_same c.args.test c.args.target c.args.place c.args.state c.args.labels.now (omega arith))

pub returns : goal.returns
returns c =
    let x = c.args.test in
    let s = c.args.state in
    let labels = c.args.labels.now in
    let next = c.args.place + 1 in
    let t = c.args.target in
    let within = jump_within x t c.args.place (length labels) c.requires.jumps in
    let behind : next < length (set labels t c.join-2.new.self) = let same = length-set labels t c.join-2.new.self in grind (arith, c.requires.ends, c.requires.place, same) in
    let there : c.narrow.new.self ≡ narrowed (opposite_test x) s = c.narrow.ensures ∙ ap (λ y. narrowed y c.in_ok-other.other) c.opposite.ensures ∙ ap (narrowed (opposite_test x)) c.in_ok-other.ensures in
    let other : set labels t c.join-2.new.self ≡ joined_at t (narrowed (opposite_test x) s) labels =
    joined_is t c.narrow.new.self labels _ c.join-2.new.self within c.join-2.ensures ∙ ap (λ u. joined_at t u labels) there in
    joined_is next c.narrow-2.new.self (set labels t c.join-2.new.self) _ c.join-3.new.self behind c.join-3.ensures
    ∙ ap (λ u. joined_at next u (set labels t c.join-2.new.self)) c.narrow-2.ensures
    ∙ ap (joined_at next (narrowed x s)) other
    ∙ sym (tested_apart x t c.args.place next s labels (omega arith) (let apart = c.if-target-place.false in omega arith))
