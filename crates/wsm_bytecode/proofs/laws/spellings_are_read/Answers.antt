use Rattle.wsm_bytecode.specs.declared.version.Version.TheVariants.{One}
use Rattle.wsm_bytecode.proofs.CodedProgram.{decode_again, decode_written}
use Rattle.wsm_bytecode.proofs.laws.spellings_are_read.Goals as goal

pub returns-clause-written : goal.returns-clause-written
returns-clause-written c = decode_written

pub returns-clause-first : goal.returns-clause-first
returns-clause-first c = decode_again One
