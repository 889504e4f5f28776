use Rattle.std.proofs.Common.{rules, ◌≡◌, ◌-ℤ◌, ℤ, pos, SFits, w64, to_z-of_z, sym, ap, ◌∙◌}
use Rattle.std.proofs.lemmas.Int as int
use Rattle.wsm_windows.specs.declared.window.Shape.{Shape}
use Rattle.wsm_windows.specs.Windows as windows
use Rattle.wsm_semantics.specs.FromWatermark.{dropped_time}
use Rattle.wsm_keep.specs.Holds.{times_in}
use Rattle.wsm_keep.proofs.cut.firsts_at.Goals as goal

pub returns-in-Fixed : goal.returns-in-Fixed
returns-in-Fixed c = λ key.
    let first : SFits w64 c.first_start.result = search rules in
    let size : SFits w64 c.in-Fixed.size = search rules in
    let expired : SFits w64 c.args.expired = c.ranges.expired in
    let is : c.first_start.result ≡ windows.first_start c.in-Fixed.size c.in-Fixed.size c.args.expired = simp int.to_z-of_z at c.first_start.ensures in
    c.alike.ensures key
    ∙ ap (λ (n : ℤ). n -ℤ pos 1) (to_z-of_z first ∙ is)
    ∙ ap (λ (s : Shape). dropped_time s c.args.expired (times_in key c.args.queue.now)) (sym c.in-Fixed.is)

pub returns-in-Sliding : goal.returns-in-Sliding
returns-in-Sliding c = λ key.
    let first : SFits w64 c.first_start-in-Sliding.result = search rules in
    let size : SFits w64 c.in-Sliding.size = search rules in
    let period : SFits w64 c.in-Sliding.period = search rules in
    let expired : SFits w64 c.args.expired = c.ranges.expired in
    let is : c.first_start-in-Sliding.result ≡ windows.first_start c.in-Sliding.size c.in-Sliding.period c.args.expired = simp int.to_z-of_z at c.first_start-in-Sliding.ensures in
    c.alike-in-Sliding.ensures key
    ∙ ap (λ (n : ℤ). n -ℤ pos 1) (to_z-of_z first ∙ is)
    ∙ ap (λ (s : Shape). dropped_time s c.args.expired (times_in key c.args.queue.now)) (sym c.in-Sliding.is)
