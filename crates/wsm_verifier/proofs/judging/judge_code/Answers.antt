use Rattle.std.proofs.Common.{rules, arith, ◌≡◌, None, length, map, to_z, of_z, w64, subst, sym, ap, ◌∙◌}
use Rattle.wsm_program.specs.declared.SectionId.TheVariants.{Where, Update, Fire}
use Rattle.wsm_rules.specs.Rules.{fault_in, folded_from, known_range, ranges_of, ranges_with, ranges_of_record, ranges_of_pane, update_visits}
use Rattle.wsm_rules.proofs.FoldedRanges.{length-folded_from}
use Rattle.wsm_verifier.proofs.Judgements.{sums_stay, code_passed, refused_by}
use Rattle.std.proofs.lemmas.List.{length-map}
use Rattle.wsm_record.specs.Fields.{field_seen}
use Rattle.wsm_program.specs.View.{header_of}
use Rattle.wsm_rules.proofs.Lawful.{lawful_seen}
use Rattle.wsm_verifier.proofs.judging.judge_code.Goals as goal

pub known_fields-requires : goal.known_fields-requires
known_fields-requires c =
    let few = (lawful_seen c.args.program.now (header_of c.header-header.result.now) c.header-header.ensures.header c.header-header.ensures.lawful).fields in
    let same : length c.fields.result.now ≡ length c.header-header.result.now.schema.fields = sym (length-map c.fields.result.now field_seen) ∙ ap length c.fields.ensures in
    omega (arith, few, same)

pub accumulator_ranges-requires-clause-long : goal.accumulator_ranges-requires-clause-long
accumulator_ranges-requires-clause-long c =
    let kinds : c.deref-3.result.now ≡ c.args.program.now.header.kinds = search rules in
    ap length (c.deref-4.ensures.value ∙ c.in_ok-folded.ensures.folded) ∙ length-folded_from 0 c.args.program.now.header.kinds _ ∙ ap length (sym kinds)

pub accumulator_ranges-requires-clause-stay : goal.accumulator_ranges-requires-clause-stay
accumulator_ranges-requires-clause-stay c =
    let kinds : c.deref-3.result.now ≡ c.args.program.now.header.kinds = search rules in
    let records : to_z w64 (of_z w64 c.header-header.result.now.clock.records) ≡ c.args.program.now.header.clock.records = search rules in
    let read : c.ranges_with-of_record.result ≡ ranges_of_record c.args.program.now = c.ranges_with-of_record.ensures ∙ ap (ranges_with c.args.program.now) c.new.ensures.items in
    let folded : c.deref-4.result.now ≡ folded_from 0 c.args.program.now.header.kinds (update_visits c.args.program.now) = search rules in
    let passed : fault_in c.args.program.now Update (ranges_of_record c.args.program.now) ≡ None = subst (λ r. fault_in c.args.program.now Update r ≡ None) read c.in_ok-folded.ensures.passed in
    λ a. rw (records, kinds, folded) (sums_stay c.args.program.now passed a)

pub returns-in_err-judge_in-2-clause-refused : goal.returns-in_err-judge_in-2-clause-refused
returns-in_err-judge_in-2-clause-refused c =
    let read : c.ranges_with-of_record.result ≡ ranges_of_record c.args.program.now = c.ranges_with-of_record.ensures ∙ ap (ranges_with c.args.program.now) c.new.ensures.items in
    let selected : fault_in c.args.program.now Where (ranges_of_record c.args.program.now) ≡ None = subst (λ r. fault_in c.args.program.now Where r ≡ None) read c.in_ok-judge_in.ensures.passed in
    let updated : fault_in c.args.program.now Update (ranges_of_record c.args.program.now) ≡ None = subst (λ r. fault_in c.args.program.now Update r ≡ None) read c.in_ok-folded.ensures.passed in
    let ranges : c.deref-5.result.now ≡ ranges_of c.args.program.now = search rules in
    let known : c.ranges_with-of_pane.result ≡ ranges_of_pane c.args.program.now (update_visits c.args.program.now) = c.ranges_with-of_pane.ensures ∙ ap (ranges_with c.args.program.now) (c.in_ok-known_ranges.ensures ∙ ap (map known_range) ranges) in
    let same = code_passed c.args.program.now selected updated ∙ ap (fault_in c.args.program.now Fire) (sym known) in
    refused_by c.from_residual-in_err-judge_in-2.result c.in_err-judge_in-2.field-0.0 _ _ c.from_residual-in_err-judge_in-2.ensures.1 (sym same) c.in_err-judge_in-2.ensures.refused

pub returns-clause-passed : goal.returns-clause-passed
returns-clause-passed c =
    let read : c.ranges_with-of_record.result ≡ ranges_of_record c.args.program.now = c.ranges_with-of_record.ensures ∙ ap (ranges_with c.args.program.now) c.new.ensures.items in
    let selected : fault_in c.args.program.now Where (ranges_of_record c.args.program.now) ≡ None = subst (λ r. fault_in c.args.program.now Where r ≡ None) read c.in_ok-judge_in.ensures.passed in
    let updated : fault_in c.args.program.now Update (ranges_of_record c.args.program.now) ≡ None = subst (λ r. fault_in c.args.program.now Update r ≡ None) read c.in_ok-folded.ensures.passed in
    let ranges : c.deref-5.result.now ≡ ranges_of c.args.program.now = search rules in
    let known : c.ranges_with-of_pane.result ≡ ranges_of_pane c.args.program.now (update_visits c.args.program.now) = c.ranges_with-of_pane.ensures ∙ ap (ranges_with c.args.program.now) (c.in_ok-known_ranges.ensures ∙ ap (map known_range) ranges) in
    code_passed c.args.program.now selected updated ∙ subst (λ r. fault_in c.args.program.now Fire r ≡ None) known c.in_ok-judge_in-2.ensures.passed
