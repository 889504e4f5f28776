use Rattle.std.proofs.Common.{w64}
use Rattle.std.specs.Int.{w128}
use Rattle.std.proofs.lemmas.Int.{to_z-of_z}
use Rattle.wsm_interval.proofs.SoundNarrowing.{narrow_holds, hull_narrowed}
use Rattle.wsm_interval.proofs.Wide.{wider}
use Rattle.wsm_interval.proofs.interval.Interval.narrow.Goals as goal

pub returns : goal.returns
returns c =
    let same = rw (to_z-of_z w64 c.args.c c.ranges.c, to_z-of_z w128 c.args.c (wider c.args.c c.ranges.c)) at c.left_by.ensures in
    record {
      formula = same;
      kept = λ n h e. rw same (narrow_holds c.args.self c.args.comparison c.args.c n h e);
      whole = rw same (hull_narrowed c.args.self c.args.comparison c.args.c);
    }
