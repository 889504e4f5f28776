use Rattle.std.proofs.Common.{◌≡◌, drop}
use Rattle.wsm_source.specs.KeyBinding.{prefixes_from, prefixes_of}
use Rattle.wsm_source.proofs.key_binding.prefixes_of.Given as goal

abbrev pub invariant-loop-entry : goal.invariant-loop-entry
invariant-loop-entry l = prefixes_from l.schema.keys l.bound.items (drop l.entry-index l.entries) ≡ prefixes_of l.schema.keys l.entries
