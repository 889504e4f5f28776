use Rattle.std.proofs.Common.{◌≡◌, ◌∙◌, ◌<◌, ap, arith, length, rules, to_z, of_z, w64}
use Rattle.std.proofs.lemmas.Int.{to_z-of_z}
use Rattle.wsm_doubles.specs.Entries.{Tabled}
use Rattle.wsm_doubles.specs.Memory.{live, may_count}
use Rattle.wsm_doubles.proofs.Left.{kept_more, kept_same, left_all}
use Rattle.wsm_doubles.proofs.table.Table.live.Goals as goal
use Rattle.wsm_doubles.proofs.table.Table.live.Goals.{then-not-is_late+in_ok-push, else-not-is_late}

pub loop-number-init : goal.loop-number-init
loop-number-init c = c.in_ok-kept.ensures

pub push-requires-clause-buckets : goal.push-requires-clause-buckets
push-requires-clause-buckets c = omega (arith, c.requires, ap (λ (t : Tabled). t.buckets) c.loop-number.invariant)

pub loop-number-preserved : goal.loop-number-preserved
loop-number-preserved c =
    let moment = c.args.moment in
    let below : c.loop-number.number < length c.self.inside.entries = omega (arith, c.loop-number-test.true, c.len-number-end.ensures) in
    let is : to_z w64 (of_z w64 c.time-time.result) ≡ c.time-time.result = to_z-of_z w64 c.time-time.result (search rules) in
    elim c.if-not-is_late.branch [
      | then-not-is_late+in_ok-push w ↦ kept_more moment.clock moment.shape moment.mark c.self.inside.entries c.loop-number.number below c.args.buckets c.time-time.result _ c.is_late.result c.time-time.ensures is c.is_late.ensures
          c.loop-number.kept c.if-not-is_late.kept w.text.result.now _ w.text.ensures is w.if-not-is_late.true c.loop-number.invariant (w.kept-is ∙ w.in_ok-push.ensures.added)
      | else-not-is_late w ↦ kept_same moment.clock moment.shape moment.mark c.self.inside.entries c.loop-number.number below c.args.buckets c.time-time.result _ c.is_late.result c.time-time.ensures is c.is_late.ensures
          c.loop-number.kept c.if-not-is_late.kept w.if-not-is_late.false c.loop-number.invariant w.kept-is
    ]

pub returns : goal.returns
returns c =
    let moment = c.args.moment in
    let all : c.loop-number.number ≡ length c.self.inside.entries = omega (arith, c.loop-number-test.false, c.loop-number.auto.number-end, c.len-number-end.ensures) in
    c.loop-number.invariant
    ∙ (λ i. record { entries = left_all (may_count moment.clock moment.shape moment.mark) c.self.inside.entries c.loop-number.number all i; buckets = c.args.buckets })
    ∙ ap (λ (t : Tabled). record { entries = live moment.clock moment.shape moment.mark t.entries; buckets = c.args.buckets }) c.self.view_is
