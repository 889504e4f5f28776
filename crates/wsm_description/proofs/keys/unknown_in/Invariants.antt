use Rattle.std.proofs.Common.{◌≡◌}
use Rattle.toml.specs.View.{members_view}
use Rattle.wsm_description.specs.Keys.{unknown_in}
use Rattle.wsm_description.proofs.keys.unknown_in.Given as goal

abbrev pub invariant-loop-key : goal.invariant-loop-key
invariant-loop-key l = unknown_in l.kind (members_view l.key-iterator) ≡ unknown_in l.fn.kind (members_view l.fn.table.entries)
