use Rattle.std.proofs.Common.{rules, List, refl, sym, ap, subst, ◌∙◌, arith, SFits, w64, to_z-of_z}
use Rattle.wsm_relation.specs.Rows.{passed}
use Rattle.wsm_relation.specs.Delta.{IsDelta, rows_of, steps_in}
use Rattle.wsm_relation.proofs.Numbers.{Entry}
use Rattle.wsm_relation.proofs.Entries.{drop-steps_in}
use Rattle.wsm_relation.proofs.Merging.{behind-place, number-place, passed-dropped, delta-dropped, some-there}
use Rattle.wsm_relation.proofs.finding.number_at.Goals as goal

pub first_number-requires-clause-delta : goal.first_number-requires-clause-delta
first_number-requires-clause-delta c =
    let es = steps_in c.args.rows.now c.args.steps.now in
    subst IsDelta (sym (ap (steps_in c.args.rows.now) c.split_at.ensures.back ∙ drop-steps_in c.args.rows.now c.args.at c.args.steps.now)) (delta-dropped c.args.at es c.requires.delta)

pub first_number-requires-clause-first : goal.first_number-requires-clause-first
first_number-requires-clause-first c =
    let row = c.args.row.now in
    ap (λ (l : List Entry). passed row (rows_of l)) (behind-place c.args.rows.now c.args.steps.now c.split_at.result.1.now c.args.at row row refl c.requires.at c.split_at.ensures.back)
    ∙ passed-dropped row (steps_in c.args.rows.now c.args.steps.now)

pub returns-clause-number : goal.returns-clause-number
returns-clause-number c =
    let own : SFits w64 c.first_number.result = search rules in
    to_z-of_z own
    ∙ number-place c.args.rows.now c.args.steps.now c.split_at.result.1.now c.args.at c.args.row.now c.args.row.now refl c.requires.at c.split_at.ensures.back c.first_number.result c.first_number.ensures

pub returns-clause-there : goal.returns-clause-there
returns-clause-there c = λ some.
    let own : SFits w64 c.first_number.result = search rules in
    omega (arith, c.split_at.ensures.back_len, some-there c.args.rows.now c.split_at.result.1.now c.args.row.now c.first_number.result c.first_number.ensures (λ none. some (to_z-of_z own ∙ none)))
