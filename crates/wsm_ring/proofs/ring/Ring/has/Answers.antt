use Rattle.std.proofs.Common.{◌≡◌, pos, of_z, w64, SFits, rules, Some, ◌*ℤ◌, ◌+ℤ◌, ◌∙◌, sym, arith}
use Rattle.std.specs.Int.{int_rem_euclid, int_div_euclid}
use Rattle.std.proofs.lemmas.Int.{ints, to_z-of_z}
use Rattle.std.proofs.lemmas.Bool.{eqb-true}
use Rattle.std.proofs.lemmas.Bool.Decides.{nat_tests}
use Rattle.std.specs.Option.{SomeIff, option_eq}
use Rattle.std.specs.Ordering.{int_eq}
use Rattle.wsm_ring.proofs.Rings.{on_grid, Decides-ends}
use Rattle.wsm_ring.proofs.ring.Ring.has.Goals as goal
use Rattle.wsm_ring.proofs.ring.Ring.has.Goals.{then-place-self, else-place-self}

pub returns-then-rem_euclid-eq0 : goal.returns-then-rem_euclid-eq0
returns-then-rem_euclid-eq0 c = elim c.if-place-self.branch [
  | then-place-self w ↦
      let start : SFits w64 c.args.place.start = search rules in
      let end : SFits w64 c.args.place.end = search rules in
      let period : SFits w64 c.args.self.period = search rules in
      let size : SFits w64 c.args.self.size = search rules in
      let rem : SFits w64 w.rem_euclid.result = search rules in
      let value : w.rem_euclid.result ≡ int_rem_euclid c.args.place.start c.args.self.period = simp to_z-of_z at w.rem_euclid.ensures.value in
      let none : of_z w64 w.rem_euclid.result ≡ 0 = eqb-true _ _ (sym w.value-is ∙ c.if-rem_euclid-eq0.true) in
      let zero : w.rem_euclid.result ≡ pos 0 = omega (arith, ints) in
      let grid : c.args.place.start ≡ int_div_euclid c.args.place.start c.args.self.period *ℤ c.args.self.period = on_grid c.args.place.start c.args.self.period c.requires.period_low (sym value ∙ zero) in
      let sum : SomeIff c.checked_add.result (SFits w64 (c.args.place.start +ℤ c.args.self.size)) (c.args.place.start +ℤ c.args.self.size) = simp to_z-of_z at c.checked_add.ensures in
      let test : c.eq.result ≡ option_eq int_eq c.checked_add.result (Some c.args.place.end) = simp to_z-of_z at c.eq.ensures in
      let ends = Decides-ends c.checked_add.result (c.args.place.start +ℤ c.args.self.size) c.args.place.end sum end in
      (λ is. record { key = w.if-place-self.true; start = grid; end = ends.0 (sym test ∙ is) }, λ of. test ∙ ends.1 of.end)
  | else-place-self w ↦ absurd (grind (arith, nat_tests))
]
