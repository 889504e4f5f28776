use Rattle.std.proofs.Common.{arith}
use Rattle.wsm_program.specs.Program.{section}
use Rattle.wsm_program.specs.View.{header_of}
use Rattle.wsm_program.specs.declared.SectionId.TheVariants.{Where, Update, Fire}
use Rattle.wsm_rules.proofs.Longest.{longest_path_is}
use Rattle.wsm_rules.proofs.Lawful.{lawful_seen, short_seen, span_seen, live_few, product_few}
use Rattle.wsm_verifier.proofs.costs.needed.Goals as goal

pub longest_path-requires : goal.longest_path-requires
longest_path-requires c = short_seen c.args.program.now Where _ c.section.ensures.instructions c.section.ensures.lawful

pub longest_path-requires-2 : goal.longest_path-requires-2
longest_path-requires-2 c = short_seen c.args.program.now Update _ c.section-2.ensures.instructions c.section-2.ensures.lawful

pub longest_path-requires-3 : goal.longest_path-requires-3
longest_path-requires-3 c = short_seen c.args.program.now Fire _ c.section-3.ensures.instructions c.section-3.ensures.lawful

pub live_bound-live-requires-clause-shape : goal.live_bound-live-requires-clause-shape
live_bound-live-requires-clause-shape c = (lawful_seen c.args.program.now (header_of c.header-header.result.now) c.header-header.ensures.header c.header-header.ensures.lawful).shape

pub live_bound-live-requires-clause-skew : goal.live_bound-live-requires-clause-skew
live_bound-live-requires-clause-skew c = span_seen _ (lawful_seen c.args.program.now (header_of c.header-header.result.now) c.header-header.ensures.header c.header-header.ensures.lawful).skew

pub live_bound-live-requires-clause-lateness : goal.live_bound-live-requires-clause-lateness
live_bound-live-requires-clause-lateness c = span_seen _ (lawful_seen c.args.program.now (header_of c.header-header.result.now) c.header-header.ensures.header c.header-header.ensures.lawful).lateness

pub windows_of_a_record-requires : goal.windows_of_a_record-requires
windows_of_a_record-requires c = (lawful_seen c.args.program.now (header_of c.header-header.result.now) c.header-header.ensures.header c.header-header.ensures.lawful).shape

pub overflow_mul-result : goal.overflow_mul-result
overflow_mul-result c = omega (arith, product_few _ _ 1000000000001 1000 c.windows_of_a_record.ensures.few c.in_ok-update.ensures.short)

pub overflow_add-result : goal.overflow_add-result
overflow_add-result c = omega (arith, product_few _ _ 1000000000001 1000 c.windows_of_a_record.ensures.few c.in_ok-update.ensures.short, c.in_ok-selection.ensures.short)

pub overflow_add-result-2 : goal.overflow_add-result-2
overflow_add-result-2 c =
    let kinds = (lawful_seen c.args.program.now (header_of c.header-header.result.now) c.header-header.ensures.header c.header-header.ensures.lawful).kinds in
    omega (arith, product_few _ _ 1000000000001 1000 c.windows_of_a_record.ensures.few c.in_ok-update.ensures.short, c.in_ok-selection.ensures.short, c.join_steps-joining.ensures.few, c.len.ensures, kinds)

pub overflow_mul-result-2 : goal.overflow_mul-result-2
overflow_mul-result-2 c =
    let l = lawful_seen c.args.program.now (header_of c.header-header.result.now) c.header-header.ensures.header c.header-header.ensures.lawful in
    let few = live_few c.header-header.result.now.shape _ _ l.shape (span_seen _ l.skew) (span_seen _ l.lateness) in
    omega (arith, product_few c.key_count.result c.live_bound-live.result 1000 3000000000002 c.key_count.ensures.most (omega (arith, few, c.live_bound-live.ensures.bound)))

pub returns-in_err-selection-clause-longest : goal.returns-in_err-selection-clause-longest
returns-in_err-selection-clause-longest c = λ id. longest_path_is (section c.args.program.now id)

pub returns-in_err-update-clause-longest : goal.returns-in_err-update-clause-longest
returns-in_err-update-clause-longest c = λ id. longest_path_is (section c.args.program.now id)

pub returns-in_err-per_pane-clause-longest : goal.returns-in_err-per_pane-clause-longest
returns-in_err-per_pane-clause-longest c = λ id. longest_path_is (section c.args.program.now id)

pub returns-clause-longest : goal.returns-clause-longest
returns-clause-longest c = λ id. longest_path_is (section c.args.program.now id)
