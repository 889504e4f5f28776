use Rattle.std.proofs.Common.{◌≡◌, of_z, w64, SFits, rules, ◌-ℤ◌, ◌<ℤ◌, ◌∙◌, sym, arith}
use Rattle.std.proofs.lemmas.Int.{ints, to_z-of_z}
use Rattle.std.proofs.lemmas.Bool.Decides.{nat_tests}
use Rattle.wsm_ring.proofs.Rings.{le_from, less_from}
use Rattle.wsm_ring.proofs.ring.Ring.is_alone.Goals as goal
use Rattle.wsm_ring.proofs.ring.Ring.is_alone.Goals.{then-self, else-self}

pub returns-then-row-time : goal.returns-then-row-time
returns-then-row-time c = elim c.if-self.branch [
  | then-self w ↦ λ h.
      let time : SFits w64 c.args.time = c.ranges.time in
      let past : SFits w64 c.args.past = c.ranges.past in
      let size : SFits w64 c.args.self.size = search rules in
      let period : SFits w64 c.args.self.period = search rules in
      let start : SFits w64 c.args.row.start = search rules in
      let before : SFits w64 (c.args.past -ℤ c.args.self.size) = search rules in
      let late : (c.args.past -ℤ c.args.self.size) <ℤ c.args.row.start = less_from _ _ (simp to_z-of_z at h) in
      let same : of_z w64 c.args.self.size ≡ of_z w64 c.args.self.period = w.if-self.true in
      record { fixed = omega (arith, ints, same); inside = le_from _ _ (simp to_z-of_z at (sym w.value-is ∙ c.if-row-time.true)); lasting = omega (arith, ints, late) }
  | else-self w ↦ λ h. absurd (grind (arith, nat_tests))
]
