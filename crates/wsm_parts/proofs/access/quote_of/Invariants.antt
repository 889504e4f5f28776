use Rattle.std.proofs.Common.{◌≡◌, drop, false}
use Rattle.wsm_parts.specs.Access.{quote_from}
use Rattle.wsm_parts.proofs.access.quote_of.Given as goal

-- it stands among the bytes that are left, if anywhere
abbrev pub invariant-loop-i : goal.invariant-loop-i
invariant-loop-i l = quote_from 0 false l.text ≡ quote_from l.i l.escaped (drop l.i l.text)
