use Rattle.std.proofs.Common.{◌∙◌, [], ap, sym, subst}
use Rattle.wsm_lines.specs.Key.{are_same}
use Rattle.wsm_lines.specs.Reader.{Follows}
use Rattle.wsm_named_lines.proofs.ByNames.{apart_from_memory}
use Rattle.wsm_named_lines.proofs.lines.NamedLines.read_first.Goals as goal
use Rattle.wsm_named_lines.proofs.lines.NamedLines.read_first.Goals.{in-Ok, in-Err-Fault, in-Err-Memory}

pub invariant_of-self : goal.invariant_of-self
invariant_of-self c = ap (λ s. are_same s.key.names) c.read_unnamed.ensures.source ∙ c.self.invariant

pub returns-clause-follows : goal.returns-clause-follows
returns-clause-follows c = λ s follows.
    let inside = subst (λ r. Follows s [] r.reader) (sym c.self.view_is) follows in
    elim c.match-read_unnamed.branch [
      | in-Ok w ↦ rw w.result-is (w.in-Ok.ensures.follows s [] inside (λ e. cc))
      | in-Err-Fault w ↦ rw w.result-is (c.read_unnamed.ensures.follows s [] inside (apart_from_memory c.read_unnamed.result w.in-Err-Fault.field-0 w.in-Err-Fault.field-0-0 w.in-Err-Fault.is w.in-Err-Fault.field-0-is))
      | in-Err-Memory w ↦ rw w.result-is tt
    ]
