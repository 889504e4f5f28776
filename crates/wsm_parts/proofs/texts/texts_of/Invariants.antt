use Rattle.std.proofs.Common.{◌≡◌, ◌++◌, drop, map}
use Rattle.wsm_parts.specs.Spans.{texts_of}
use Rattle.wsm_parts.proofs.texts.texts_of.Given as goal

-- the texts so far, and those of the cells that are left
abbrev pub invariant-loop-span : goal.invariant-loop-span
invariant-loop-span l = texts_of l.line l.spans ≡ map (λ v. v.items) l.items.items ++ texts_of l.line (drop l.span-index l.spans)
