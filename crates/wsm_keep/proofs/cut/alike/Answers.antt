use Rattle.std.proofs.Common.{◌-ℤ◌, ℤ, pos, List, unwrap_or, slice_get, w64, to_z, of_z, to_z-of_z, ap, ◌∙◌}
use Rattle.wsm_keep.proofs.cut.alike.Goals as goal

pub returns : goal.returns
returns c = λ key.
    ap (λ (each : List ℤ). unwrap_or (slice_get each key) (to_z w64 (of_z w64 c.args.first)) -ℤ pos 1) c.new.ensures.items
    ∙ ap (λ (n : ℤ). n -ℤ pos 1) (to_z-of_z c.ranges.first)
