use Rattle.std.proofs.Common.{◌≡◌, drop}
use Rattle.wsm_values.specs.Rfc3339.{behind}
use Rattle.wsm_values.proofs.rfc3339.behind.Given as goal

-- the letters that are left stand at the front of the text that is left
abbrev pub invariant-loop-letter : goal.invariant-loop-letter
invariant-loop-letter l = behind l.form l.text ≡ behind (drop l.letter-index l.form) l.rest
