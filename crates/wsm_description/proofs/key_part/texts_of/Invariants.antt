use Rattle.std.proofs.Common.{◌≡◌, []}
use Rattle.toml.specs.View.{members_view}
use Rattle.wsm_description.specs.KeyPart.{texts_from}
use Rattle.wsm_description.proofs.key_part.texts_of.Given as goal

abbrev pub invariant-loop-key : goal.invariant-loop-key
invariant-loop-key l =
    texts_from l.section l.entries.items (members_view l.key-iterator) ≡ texts_from l.fn.section [] (members_view l.fn.table.entries)
