use Rattle.std.proofs.Common.{◌≡◌, vec_len}
use Rattle.wsm_follow.proofs.follower.Followed.judged.Given as goal

-- files are looked at, and nothing is changed
abbrev pub invariant-each : goal.invariant-each
invariant-each g l = let logs = g.F.Folder.logs in logs l.folder ≡ logs l.fn.folder

abbrev pub decreases-each : goal.decreases-each
decreases-each g l = vec_len l.files
