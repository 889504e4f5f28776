use Rattle.wsm_program.proofs.Lawful.{program_header}
use Rattle.wsm_bytecode.proofs.writing.encode.Goals as goal

pub put_header-requires : goal.put_header-requires
put_header-requires c = rw c.header.ensures.header (program_header c.args.program.now c.header.ensures.lawful)
