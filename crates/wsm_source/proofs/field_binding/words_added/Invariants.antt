use Rattle.std.proofs.Common.{◌≡◌, drop}
use Rattle.wsm_source.specs.FieldBinding.{words_added}
use Rattle.wsm_source.proofs.field_binding.words_added.Given as goal

abbrev pub invariant-loop-entry : goal.invariant-loop-entry
invariant-loop-entry l = words_added l.section l.names l.table (drop l.entry-index l.words) ≡ words_added l.section l.names l.initial.table l.words
