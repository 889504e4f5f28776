use Rattle.std.proofs.Common.{[], sym}
use Rattle.std.proofs.lemmas.Option.{get_or_from_slice_get}
use Rattle.wsm_saved_turns.proofs.Named.{one_there}
use Rattle.wsm_saved_turns.proofs.names.save_name.Goals as goal

pub returns-in-Some-clause-text : goal.returns-in-Some-clause-text
returns-in-Some-clause-text c =
    let it = get_or_from_slice_get c.args.names.now.names c.args.number c.in-Some.name.now [] (sym c.in-Some.ensures) in
    rw it c.save_bytes.ensures.text

pub returns-in-Some-clause-fits : goal.returns-in-Some-clause-fits
returns-in-Some-clause-fits c =
    let it = get_or_from_slice_get c.args.names.now.names c.args.number c.in-Some.name.now [] (sym c.in-Some.ensures) in
    rw it c.save_bytes.ensures.fits

pub returns-in-None-clause-text : goal.returns-in-None-clause-text
returns-in-None-clause-text c = absurd (one_there c.args.names.now.names c.args.number c.requires c.in-None.ensures)

pub returns-in-None-clause-fits : goal.returns-in-None-clause-fits
returns-in-None-clause-fits c = absurd (one_there c.args.names.now.names c.args.number c.requires c.in-None.ensures)
