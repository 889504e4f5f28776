use Rattle.std.proofs.Common.{rules, ◌≡◌, length}
use Rattle.wsm_verifier.specs.Trying.{setting_of}
use Rattle.wsm_verifier.proofs.Judgements.{visits_seen, fault_seen, passed_as, refused_as, folded_as}
use Rattle.wsm_verifier.proofs.judging.judge_in.Goals as goal

pub returns-clause-passed : goal.returns-clause-passed
returns-clause-passed c =
    let kinds : c.len-accumulators.result ≡ length c.args.program.now.header.kinds = search rules in
    passed_as c.in_ok-judge_section.field-0 _ _ (fault_seen c.args.program.now c.args.id c.args.ranges.now (setting_of c.setting-setting.result) c.section.result.now c.len-accumulators.result c.args.fields.now c.setting-setting.ensures c.section.ensures.instructions kinds c.requires) c.in_ok-judge_section.ensures.passed

pub returns-clause-folded : goal.returns-clause-folded
returns-clause-folded c =
    let kinds : c.len-accumulators.result ≡ length c.args.program.now.header.kinds = search rules in
    folded_as c.in_ok-judge_section.field-0 c.args.program.now.header.kinds _ _ c.len-accumulators.result (visits_seen c.args.program.now c.args.id c.args.ranges.now (setting_of c.setting-setting.result) c.section.result.now c.len-accumulators.result c.args.fields.now c.setting-setting.ensures c.section.ensures.instructions kinds c.requires) kinds c.in_ok-judge_section.ensures.accumulators c.in_ok-judge_section.ensures.folded

pub returns-clause-refused : goal.returns-clause-refused
returns-clause-refused c =
    let kinds : c.len-accumulators.result ≡ length c.args.program.now.header.kinds = search rules in
    refused_as c.in_ok-judge_section.field-0 _ _ (fault_seen c.args.program.now c.args.id c.args.ranges.now (setting_of c.setting-setting.result) c.section.result.now c.len-accumulators.result c.args.fields.now c.setting-setting.ensures c.section.ensures.instructions kinds c.requires) c.in_ok-judge_section.ensures.refused
