use Rattle.std.proofs.Common.{rules, ◌≡◌, Bool, ◌&&◌, ◌∙◌, sym, ap}
use Rattle.wsm_record.specs.declared.words.CellType.TheVariants as types
use Rattle.wsm_machine.specs.Step.{type_of, is_type}
use Rattle.wsm_machine.proofs.Returns.{row_tested, no_row}
use Rattle.wsm_machine.proofs.results.are_row.Goals as goal

pub returns-then-are_types : goal.returns-then-are_types
returns-then-are_types c =
    let last = c.in-Some.last.now in
    let test : is_type types.Bool c.ty.result ≡ c.eq.result = search rules in
    sym (
    row_tested c.args.columns.now c.args.cells.now c.in-Some.row.now last c.in-Some.ensures.cases.0
    ∙ ap (λ (b : Bool). b && is_type types.Bool (type_of last)) (sym c.are_types.ensures ∙ c.if-are_types.true)
    ∙ ap (is_type types.Bool) (sym c.ty.ensures)
    ∙ test
    )

pub returns-else-are_types : goal.returns-else-are_types
returns-else-are_types c =
    let last = c.in-Some.last.now in
    c.if-are_types.false
    ∙ sym (
    row_tested c.args.columns.now c.args.cells.now c.in-Some.row.now last c.in-Some.ensures.cases.0
    ∙ ap (λ (b : Bool). b && is_type types.Bool (type_of last)) (sym c.are_types.ensures ∙ c.if-are_types.false)
    )

pub returns-in-None : goal.returns-in-None
returns-in-None c = sym (no_row c.args.columns.now c.args.cells.now c.in-None.ensures.cases)
