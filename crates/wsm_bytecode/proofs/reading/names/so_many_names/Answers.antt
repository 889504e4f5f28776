use Rattle.std.proofs.Common.{◌≡◌, ◌∙◌, ◌++◌, Bool, if◌then◌else◌, List, [], ◌∷◌, ap, arith, length-append}
use Rattle.std.proofs.lemmas.Result.{err_from_is_err_and}
use Rattle.wsm_record.proofs.Lists.{not-false, not-true}
use Rattle.wsm_program.specs.Program.{Name}
use Rattle.wsm_bytecode.specs.Steps.{names_after}
use Rattle.wsm_bytecode.proofs.Loop.{name_goes_on, name_stops, name_repeats, names_done}
use Rattle.wsm_bytecode.proofs.reading.names.so_many_names.Goals as goal

pub returns-in_err-name : goal.returns-in_err-name
returns-in_err-name c =
    let p = err_from_is_err_and c.from_residual-in_err-name.result c.from_residual-in_err-name.ensures.1 in
    rw (p.1, p.2) (name_stops c.loop.names c.args.count c.loop.counter c.loop.rest.now (names_after [] c.args.count c.args.bytes.now) c.loop-test.true c.loop.invariant.read c.in_err-name.field-0.0 c.in_err-name.ensures)

pub returns-then-not-branch : goal.returns-then-not-branch
returns-then-not-branch c =
    let found = not-false _ _ c.in_ok-add.ensures.new c.if-not-branch.true in
    name_repeats c.loop.names c.args.count c.loop.counter c.loop.rest.now (names_after [] c.args.count c.args.bytes.now) c.loop-test.true c.loop.invariant.read c.in_ok-name.name c.in_ok-name.after.now c.in_ok-name.ensures found

pub loop-preserved : goal.loop-preserved
loop-preserved c =
    let absent = not-true _ _ c.in_ok-add.ensures.new c.if-not-branch.false in
    let names : List Name = c.loop.names in
    let name : Name = c.in_ok-name.name in
    let grown : c.add.new.self ≡ names ++ name ∷ [] = c.in_ok-add.ensures.names ∙ ap (λ (b : Bool). if b then names ++ name ∷ [] else names) c.if-not-branch.false in
    record {
      read = rw grown (name_goes_on names c.args.count c.loop.counter c.loop.rest.now (names_after [] c.args.count c.args.bytes.now) c.loop-test.true c.loop.invariant.read name c.in_ok-name.after.now c.in_ok-name.ensures absent);
      long = rw grown (omega (arith, length-append names (name ∷ []), c.loop.invariant.long));
    }

pub returns : goal.returns
returns c = names_done c.loop.names c.args.count c.loop.counter c.loop.rest.now (names_after [] c.args.count c.args.bytes.now) (omega (arith, c.loop-test.false)) c.loop.invariant.read
