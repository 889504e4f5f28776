use Rattle.std.proofs.Common.{◌≡◌, ◌+◌, ◌≤◌, length, map}
use Rattle.wsm_deal.specs.Keys.{keys_behind, keys_of_text, lines_of}
use Rattle.wsm_deal.proofs.shares.names_of.Given as goal

-- the lines that are left come to the same behind the names so far, which are one a line
abbrev pub invariant-loop-rest : goal.invariant-loop-rest
invariant-loop-rest l = (keys_behind (map (λ v. v.items) l.names.keys) (lines_of l.rest) ≡ keys_of_text l.fn.text) × (l.line ≡ length l.names.keys) × (l.line + length l.rest ≤ length l.fn.text)

abbrev pub decreases-loop-rest : goal.decreases-loop-rest
decreases-loop-rest l = length l.rest
