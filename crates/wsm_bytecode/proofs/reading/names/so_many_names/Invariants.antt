use Rattle.std.proofs.Common.{◌≡◌, ◌-◌, [], length}
use Rattle.wsm_bytecode.specs.Steps.{names_after}
use Rattle.wsm_bytecode.proofs.Loop.{with_front}
use Rattle.wsm_bytecode.proofs.reading.names.so_many_names.Given as goal

abbrev pub invariant-loop : goal.invariant-loop
invariant-loop l = record {
  read : with_front l.names (names_after l.names (l.count - l.counter) l.rest) ≡ names_after [] l.count l.bytes;
  long : length l.names ≡ l.counter;
}
