use Rattle.std.proofs.Common.{◌≡◌, map, take}
use Rattle.wsm_check.specs.Seen.{seen_folding}
use Rattle.wsm_compiler.proofs.headers.kinds.Given as goal

abbrev pub invariant-loop-folding : goal.invariant-loop-folding
invariant-loop-folding l = l.kinds.items ≡ map (λ f. f.kind) (map seen_folding (take l.folding-index l.foldings))
