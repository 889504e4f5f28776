use Rattle.std.proofs.Common.{◌≡◌, ◌+◌, ◌-◌, ◌<◌, ◌≤◌, ap, refl, set, ◌∙◌, arith, get_or}
use Rattle.wsm_tiers.proofs.Shifted.{shifted_back, shifted_on}
use Rattle.wsm_tiers.proofs.list.shift_within.Goals as goal
use Rattle.wsm_tiers.proofs.list.shift_within.Goals.{then-from-to, else-from-to}

pub returns-clause-items : goal.returns-clause-items
returns-clause-items g c =
    let items = c.args.items.now.items in
    let from = c.args.from in
    let to = c.args.to in
    let s = c.index-item.result.now in
    elim c.if-from-to.branch [
      | then-from-to w ↦
          let first : from < to = omega (arith, w.if-from-to.true) in
          let count : from + (to + 1 - (from + 1)) ≡ to = omega (arith, first) in
          ap (λ ns. set ns to s) (λ i. (w.items-is i).items)
          ∙ shifted_on items from to s c.requires.from c.requires.to w.copy_within.new.self.items (omega (arith, w.copy_within.ensures.len, w.copy_within.new.self.ok.0, c.args.items.now.ok.0)) from to (omega (arith, first))
          (λ k before. w.copy_within.ensures.by_index.1 k s before)
          (λ k after fit. w.copy_within.ensures.by_index.2 k s (omega (arith, after, count)))
          refl
          refl
          (λ k after before.
          let place : from + 1 + (k - from) ≡ k + 1 = omega (arith, after) in
          w.copy_within.ensures.by_index.0 k s after (omega (arith, before, count)) ∙ ap (λ j. get_or items j s) place)
      | else-from-to w ↦
          let first : to ≤ from = omega (arith, w.if-from-to.false) in
          let count : to + 1 + (from - to) ≡ from + 1 = omega (arith, first) in
          ap (λ ns. set ns to s) (λ i. (w.items-is i).items)
          ∙ shifted_back items from to s c.requires.from c.requires.to w.copy_within-else-from-to.new.self.items (omega (arith, w.copy_within-else-from-to.ensures.len, w.copy_within-else-from-to.new.self.ok.0, c.args.items.now.ok.0)) (to + 1) (from + 1) (omega (arith, first))
          (λ k before. w.copy_within-else-from-to.ensures.by_index.1 k s before)
          (λ k after fit. w.copy_within-else-from-to.ensures.by_index.2 k s (omega (arith, after, count)))
          refl
          refl
          (λ k after before.
          let place : to + (k + 1 - (to + 1)) ≡ k = omega (arith, after) in
          w.copy_within-else-from-to.ensures.by_index.0 (k + 1) s (omega (arith, after)) (omega (arith, before, count)) ∙ ap (λ j. get_or items j s) place)
    ]
