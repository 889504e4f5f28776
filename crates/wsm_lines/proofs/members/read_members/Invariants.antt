use Rattle.std.proofs.Common.{◌≡◌, ℕ, ◌≤◌, length}
use Rattle.json.specs.Json.{members, value, parse_map}
use Rattle.json.proofs.Trees.{members_before}
use Rattle.wsm_lines.specs.Members.{passing}
use Rattle.wsm_lines.proofs.members.read_members.Given as goal

-- those that pass stand behind those that were found
abbrev pub invariant-loop-found : goal.invariant-loop-found
invariant-loop-found l =
    (n : ℕ) × (length l.reader ≤ n)
    × (parse_map (passing l.filter.buckets) (members (value l.depth) (length l.initial.reader) l.initial.reader) ≡ parse_map (members_before l.found.items) (parse_map (passing l.filter.buckets) (members (value l.depth) n l.reader)))

abbrev pub decreases-loop-found : goal.decreases-loop-found
decreases-loop-found l = length l.reader
