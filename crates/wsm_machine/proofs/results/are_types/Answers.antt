use Rattle.std.proofs.Common.{rules, ◌≡◌, ◌<◌, ◌∙◌, ℕ, pos, Bool, List, length, map, get_or, false, true, ap, sym, arith}
use Rattle.std.proofs.lemmas.List.{length-map}
use Rattle.std.proofs.Math.ListN.{get_or-map}
use Rattle.wsm_record.specs.declared.words.CellType.{CellType}
use Rattle.wsm_record.specs.declared.words.CellType.TheVariants as types
use Rattle.wsm_record.specs.declared.cell.Cell.{Cell}
use Rattle.wsm_record.specs.declared.cell.Cell.TheVariants as cells
use Rattle.wsm_machine.specs.Step.{type_of, is_type}
use Rattle.wsm_machine.proofs.Pairs.{unequal, fails_at, passes_at}
use Rattle.wsm_machine.proofs.Tested.{types_tested}
use Rattle.wsm_machine.proofs.results.are_types.Goals as goal

pub returns-then-types-cells : goal.returns-then-types-cells
returns-then-types-cells c =
    sym (unequal types_tested c.args.types.now (map type_of c.args.cells.now) (λ e. c.if-types-cells.true (e ∙ length-map c.args.cells.now type_of)))

-- the test of a type and a value that were read
test_at : (ts : List CellType) (cs : List Cell) (i : ℕ) (t : CellType) (d : Cell) (b : Bool) → t ≡ type_of (get_or cs i d) → is_type (get_or ts i types.Int) t ≡ b
    → is_type (get_or ts i types.Int) (get_or (map type_of cs) i (type_of d)) ≡ b
test_at ts cs i t d b read e = ap (is_type (get_or ts i types.Int)) (get_or-map type_of cs i d ∙ sym read) ∙ e

pub returns-then-ne : goal.returns-then-ne
returns-then-ne c =
    let ts = c.args.types.now in
    let cs = c.args.cells.now in
    let i = c.loop-i.i in
    let within : i < length (map type_of cs) = rw (length-map cs type_of) (omega arith) in
    let test : is_type (get_or ts i types.Int) c.ty.result ≡ false = search rules in
    let unfit = test_at ts cs i c.ty.result (cells.Int (pos 0)) false c.ty.ensures test in
    sym (fails_at types_tested ts (map type_of cs) i types.Int types.Int (omega arith) within unfit c.loop-i.invariant)

pub loop-i-preserved : goal.loop-i-preserved
loop-i-preserved c =
    let ts = c.args.types.now in
    let cs = c.args.cells.now in
    let i = c.loop-i.i in
    let within : i < length (map type_of cs) = rw (length-map cs type_of) (omega arith) in
    let test : is_type (get_or ts i types.Int) c.ty.result ≡ true = search rules in
    let fits = test_at ts cs i c.ty.result (cells.Int (pos 0)) true c.ty.ensures test in
    passes_at types_tested ts (map type_of cs) i types.Int types.Int (omega arith) within fits c.loop-i.invariant
