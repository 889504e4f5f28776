use Rattle.std.specs.Prelude.{pos, string_bytes}
use Rattle.wsm_program.specs.declared.instr.Instr.TheVariants.{PushInt}
use Rattle.wsm_bytecode.proofs.Lines.{lines_go_on}
use Rattle.wsm_bytecode.proofs.listing.list_section.Goals as goal

pub loop-place-preserved : goal.loop-place-preserved
loop-place-preserved c =
    lines_go_on c.args.id c.loop-place.place-counter c.args.instrs.now (PushInt (pos 0)) (string_bytes c.loop-place.listing) (string_bytes c.write.new.self) _ c.loop-place-test.true c.loop-place.invariant c.in_ok-write.ensures.bytes
