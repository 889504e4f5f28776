use Rattle.std.proofs.Common.{sym, ◌∙◌}
use Rattle.wsm_verifier.specs.Trying.{setting_of}
use Rattle.wsm_verifier.proofs.FirstRules.{by_operands, by_results}
use Rattle.wsm_verifier.proofs.rules.Setting.first_rule.Goals as goal

pub returns-in-Some : goal.returns-in-Some
returns-in-Some c = sym (by_operands (setting_of c.args.self.now) c.args.place c.args.instr c.args.state.now c.in-Some.rule (sym c.in-Some.ensures))

pub returns-in-None : goal.returns-in-None
returns-in-None c = c.result_rule.ensures ∙ sym (by_results (setting_of c.args.self.now) c.args.place c.args.instr c.args.state.now (sym c.in-None.ensures))
