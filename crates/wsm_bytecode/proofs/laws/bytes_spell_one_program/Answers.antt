use Rattle.wsm_bytecode.proofs.Reader.{one_program}
use Rattle.wsm_bytecode.proofs.laws.bytes_spell_one_program.Goals as goal

pub returns : goal.returns
returns c = one_program
