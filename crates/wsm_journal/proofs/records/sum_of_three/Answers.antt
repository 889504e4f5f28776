use Rattle.std.proofs.Common.{◌++◌}
use Rattle.wsm_sums.specs.Crc.{sum_behind}
use Rattle.wsm_sums.proofs.Sums.{sum_behind-append}
use Rattle.wsm_journal.proofs.records.sum_of_three.Goals as goal

pub returns : goal.returns
returns c =
    let one = sum_behind-append 0 c.args.first.now (c.args.second.now ++ c.args.third.now) in
    let two = sum_behind-append (sum_behind 0 c.args.first.now) c.args.second.now c.args.third.now in
    cc
