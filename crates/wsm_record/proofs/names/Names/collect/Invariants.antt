use Rattle.std.proofs.Common.{◌≡◌, true, take, drop, []}
use Rattle.wsm_record.specs.Name.{repeats_after}
use Rattle.wsm_record.specs.Schema.{are_names_after}
use Rattle.wsm_record.proofs.names.Names.collect.Given as goal

-- the names so far were taken, and a name that stands twice is still to come
abbrev pub invariant-loop-name : goal.invariant-loop-name
invariant-loop-name l = record {
  taken : l.list ≡ take l.name-index l.names;
  lawful : are_names_after [] l.list ≡ true;
  repeated : repeats_after (take l.name-index l.names) (drop l.name-index l.names) ≡ repeats_after [] l.names;
}
