use Rattle.std.proofs.Common.{◌≡◌, ◌++◌}
use Rattle.wsm_tokens.specs.Read.{count}
use Rattle.wsm_explain.specs.Parts.{spans_from, spans_of}
use Rattle.wsm_explain.proofs.parts.spans_of.Given as goal

-- the parts so far, and those from the open one on
abbrev pub invariant-loop-reader : goal.invariant-loop-reader
invariant-loop-reader l = l.spans.items ++ spans_from l.part l.reader ≡ spans_of l.text

abbrev pub decreases-loop-reader : goal.decreases-loop-reader
decreases-loop-reader l = count l.reader
