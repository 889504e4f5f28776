use Rattle.std.proofs.Common.{◌≡◌, drop, true}
use Rattle.wsm_journal.specs.Reading.{later_from}
use Rattle.wsm_journal.proofs.reading.is_damaged.Given as goal

-- one is whole at the places that are left, if at any
abbrev pub invariant-loop-i : goal.invariant-loop-i
invariant-loop-i l = later_from l.last l.text 0 true l.text ≡ later_from l.last l.text l.i l.begins (drop l.i l.text)
