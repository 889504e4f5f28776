use Rattle.std.proofs.Common.{◌≡◌, drop}
use Rattle.wsm_verifier.proofs.state.State.replace.Given as goal

-- the values taken so far are gone
abbrev pub invariant-loop : goal.invariant-loop
invariant-loop l = record {
  left : l.self-inside.stack.items ≡ drop l.counter l.fn.self.stack;
  folded : l.self-inside.folded.items ≡ l.fn.self.folded;
  fields : l.self-inside.fields.items ≡ l.fn.self.fields;
}
