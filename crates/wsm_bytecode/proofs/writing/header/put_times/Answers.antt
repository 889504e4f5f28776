use Rattle.std.proofs.lemmas.Result.{on_ok_weaker}
use Rattle.wsm_bytecode.proofs.Spelled.{clock_added}
use Rattle.wsm_bytecode.proofs.writing.header.put_times.Goals as goal

pub returns : goal.returns
returns c =
    on_ok_weaker c.put_two-2.result
    (λ last. clock_added c.args.clock c.requires c.args.out.now.items c.put_two.new.out.items c.put_two-2.new.out.items c.in_ok-put_two.ensures last)
    c.put_two-2.ensures
