use Rattle.wsm_bytecode.proofs.Spelled.{named}
use Rattle.wsm_bytecode.proofs.writing.schema.put_type.Goals as goal

pub put_names-requires : goal.put_names-requires
put_names-requires c = named c.in-Enum.names (rw c.in-Enum.is at c.requires)
