use Rattle.std.proofs.Common.{◌≡◌, ◌≤◌, ◌∙◌, ap, ap₂, arith, length, length-take-le, refl, sym, take}
use Rattle.std.proofs.lemmas.List.{take-take}
use Rattle.wsm_sums.specs.Crc.{sum_behind}
use Rattle.wsm_follow.specs.Logs.{bytes_of}
use Rattle.wsm_follow.proofs.SumLemmas.{sum_more, sum_none}
use Rattle.wsm_follow.proofs.sums.sum_between.Goals as goal

pub bytes-init : goal.bytes-init
bytes-init g c = record {
  same_logs = refl;
  begun = omega arith;
  within = omega (arith, c.requires);
  sum = λ known is. c.new-sum.ensures ∙ sum_none known c.args.start;
}

pub bytes-preserved : goal.bytes-preserved
bytes-preserved g c =
    let kept = c.bytes.invariant in
    let room = c.read_at.new.room in
    let count = c.in_ok-count.count in
    let used = c.min-used.result in
    let fewer : used ≤ count = omega (arith, c.min-used.ensures) in
    let long : length (take count room) ≡ count = length-take-le count room c.in_ok-count.ensures.within in
    let same : take used room ≡ take used (take count room) = sym (take-take used count room fewer) in
    record {
      same_logs = c.in_ok-count.ensures.logs ∙ kept.same_logs;
      begun = omega (arith, kept.begun);
      within = omega (arith, c.min-used.ensures, kept.within, c.bytes-test.true);
      sum = λ known is. c.add.ensures ∙ ap₂ sum_behind (kept.sum known is) same
          ∙ sum_more known (take count room) c.args.start c.bytes.at used kept.begun (omega (arith, fewer, long))
          (c.in_ok-count.ensures.bytes known (ap (bytes_of c.args.file) kept.same_logs ∙ is));
    }
