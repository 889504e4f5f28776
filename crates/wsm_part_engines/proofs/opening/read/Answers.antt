use Rattle.std.proofs.Common.{◌≡◌, Ok, ap, ◌∙◌, Result}
use Rattle.wsm_program.specs.declared.refusal.DecodeRefusal.{DecodeRefusal}
use Rattle.wsm_program.specs.Program.{Program}
use Rattle.wsm_bytecode.specs.Reading.{decode}
use Rattle.wsm_bytecode.proofs.CodedProgram.{decode_written}
use Rattle.wsm_part_engines.proofs.opening.read.Goals as goal

same_ok : (p q : Program) (read : Result Program DecodeRefusal) → read ≡ Ok p → read ≡ Ok q → p ≡ q
same_ok p q read h k = cc

pub returns-in-Ok-verify : goal.returns-in-Ok-verify
returns-in-Ok-verify c = λ p lawful spelled.
    c.in-Ok-verify.ensures.kept ∙ same_ok c.in-Ok.program p (decode c.args.bytes.now) c.in-Ok.ensures.exact (ap decode spelled ∙ decode_written p lawful)
