use Rattle.std.proofs.Common.{◌≡◌, ◌≤◌, ◌-◌, ℕ, List, Some, drop, take}
use Rattle.wsm_sums.specs.Crc.{sum_of}
use Rattle.wsm_follow.specs.Logs.{bytes_of}
use Rattle.wsm_follow.proofs.sums.sum_between.Given as goal

-- the sum so far is that of the bytes so far
abbrev pub invariant-bytes : goal.invariant-bytes
invariant-bytes g l =
    let logs = g.F.Folder.logs in
    record {
      same_logs : logs l.folder ≡ logs l.fn.folder;
      begun : l.fn.start ≤ l.at;
      within : l.at ≤ l.fn.end;
      sum : (known : List ℕ) → bytes_of l.fn.file (logs l.fn.folder) ≡ Some known → l.sum ≡ sum_of (take (l.at - l.fn.start) (drop l.fn.start known));
    }

abbrev pub decreases-bytes : goal.decreases-bytes
decreases-bytes g l = l.fn.end - l.at
