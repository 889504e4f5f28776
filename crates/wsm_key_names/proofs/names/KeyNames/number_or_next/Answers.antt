use Rattle.std.proofs.Common.{sym}
use Rattle.wsm_key_names.proofs.LearnedNames.{teaches_nothing}
use Rattle.wsm_key_names.proofs.names.KeyNames.number_or_next.Goals as goal

pub returns-in-Some-clause-names : goal.returns-in-Some-clause-names
returns-in-Some-clause-names c = sym (teaches_nothing c.args.most c.args.self.now c.args.name.now c.in-Some.number (sym c.in-Some.ensures))
