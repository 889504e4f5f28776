use Rattle.std.proofs.Common.{◌≡◌, ◌≤◌, ◌-◌, ◌^◌, ℕ, List, Some, length}
use Rattle.wsm_follow.specs.Logs.{bytes_of}
use Rattle.wsm_follow.specs.Reads.{most_of, text_of}
use Rattle.wsm_follow.proofs.LinesRead.{ReadsPart}
use Rattle.wsm_follow.proofs.reading.Reading.read.Given as goal

-- what was read so far has no line feed
abbrev pub invariant-bytes : goal.invariant-bytes
invariant-bytes g l =
    let logs = g.F.Folder.logs in
    record {
      same_logs : logs l.folder ≡ logs l.fn.folder;
      most : most_of l.self ≡ most_of l.fn.self;
      begun : l.fn.start ≤ l.at;
      short : length (text_of l.self) ≤ most_of l.self;
      part : (known : List ℕ) → bytes_of l.fn.file (logs l.fn.folder) ≡ Some known → ReadsPart (most_of l.self) known l.fn.start l.at (text_of l.self);
    }

abbrev pub decreases-bytes : goal.decreases-bytes
decreases-bytes g l = 2 ^ 64 - l.at
