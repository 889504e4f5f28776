use Rattle.std.proofs.Common.{◌≡◌, ℕ, ◌≤◌, pos, length, sym, ap, subst, ◌∙◌, SFits, w64, IsTrue, arith}
use Rattle.wsm_semantics.specs.Summaries.{computed_over, fired_count}
use Rattle.wsm_semantics.proofs.Lists.{length_each}
use Rattle.wsm_program.specs.declared.instr.SectionId.TheVariants.{Fire}
use Rattle.wsm_program.specs.Program.{Program, is_program}
use Rattle.wsm_program.specs.View.{header_of}
use Rattle.wsm_machine.specs.Inputs.{Inputs}
use Rattle.wsm_machine.specs.InRange.{in_range}
use Rattle.wsm_machine.specs.Step.{type_of}
use Rattle.wsm_firing.proofs.Headers.{lawful_firing, count_fits}
use Rattle.wsm_firing.proofs.FireRuns.{read, same_inputs, steps_are, columns_are, if_row}
use Rattle.wsm_firing.proofs.run.run.Goals as goal

pub overflow_cast-inputs : goal.overflow_cast-inputs
overflow_cast-inputs c =
    let p : Program = c.args.verified.now in
    let header : header_of c.header-header.result.now ≡ p.header = c.header-header.ensures.header ∙ ap (λ (p : Program). p.header) c.program.ensures.program in
    let count : c.computed_over.result ≡ fired_count p.header.mode c.args.pane.now = c.computed_over.ensures ∙ (λ i. computed_over (header i).mode (c.count.ensures i) (c.unshown.ensures i)) in
    let whole : IsTrue (is_program p) = subst (λ (p : Program). IsTrue (is_program p)) c.program.ensures.program c.header-header.ensures.lawful in
    subst (λ (n : ℕ). SFits w64 (pos n)) (sym count) (count_fits p whole c.args.due.spot.place.key (fired_count p.header.mode c.args.pane.now) c.requires.held c.requires.ranged)

pub fire-fired-requires : goal.fire-fired-requires
fire-fired-requires c =
    let p : Program = c.args.verified.now in
    let key : ℕ = c.args.due.spot.place.key in
    let n : ℕ = fired_count p.header.mode c.args.pane.now in
    let header : header_of c.header-header.result.now ≡ p.header = c.header-header.ensures.header ∙ ap (λ (p : Program). p.header) c.program.ensures.program in
    let count : c.computed_over.result ≡ n = c.computed_over.ensures ∙ (λ i. computed_over (header i).mode (c.count.ensures i) (c.unshown.ensures i)) in
    let whole : IsTrue (is_program p) = subst (λ (p : Program). IsTrue (is_program p)) c.program.ensures.program c.header-header.ensures.lawful in
    let accs : c.unwrap.result.now ≡ c.requires.held = read (λ values. values.now) c.folded.result c.unwrap.result c.requires.held c.args.pane.now.folded c.unwrap.ensures c.folded.ensures c.requires.folded in
    let same = same_inputs key n c.computed_over.result c.unwrap.result.now c.requires.held count accs (count_fits p whole key n c.requires.held c.requires.ranged) in
    subst (λ (i : Inputs). IsTrue (in_range p Fire i)) (sym same) c.requires.ranged

pub returns : goal.returns
returns c =
    let p : Program = c.args.verified.now in
    let key : ℕ = c.args.due.spot.place.key in
    let n : ℕ = fired_count p.header.mode c.args.pane.now in
    let header : header_of c.header-header.result.now ≡ p.header = c.header-header.ensures.header ∙ ap (λ (p : Program). p.header) c.program.ensures.program in
    let count : c.computed_over.result ≡ n = c.computed_over.ensures ∙ (λ i. computed_over (header i).mode (c.count.ensures i) (c.unshown.ensures i)) in
    let whole : IsTrue (is_program p) = subst (λ (p : Program). IsTrue (is_program p)) c.program.ensures.program c.header-header.ensures.lawful in
    let accs : c.unwrap.result.now ≡ c.requires.held = read (λ values. values.now) c.folded.result c.unwrap.result c.requires.held c.args.pane.now.folded c.unwrap.ensures c.folded.ensures c.requires.folded in
    let same = same_inputs key n c.computed_over.result c.unwrap.result.now c.requires.held count accs (count_fits p whole key n c.requires.held c.requires.ranged) in
    let emits = c.fire-fired.result.emits in let columns = c.fire-fired.result.columns.now in
    let most : length p.header.columns ≤ 16 = (lawful_firing c.program.result.now _ (ap (λ (p : Program). p.header) (sym c.program.ensures.program)) c.header-header.ensures.lawful).columns in
    let wide : length columns ≡ length p.header.columns = sym (length_each type_of columns) ∙ ap length c.fire-fired.ensures.types in
    record {
      ran = record {
        row = c.written.ensures ∙ columns_are p key n c.args.pane.now.folded c.requires.held c.requires.folded _ same emits columns c.fire-fired.ensures.done c.fire-fired.ensures.row;
        steps = steps_are p key n c.args.pane.now.folded c.requires.held c.requires.folded _ same c.fire-fired.result.steps c.fire-fired.ensures.steps;
      };
      wide = if_row (λ cells. cells.now) (λ cells. length cells ≡ length p.header.columns) emits columns c.written.result c.written.ensures wide;
      few = if_row (λ cells. cells.now) (λ cells. length cells ≤ 16) emits columns c.written.result c.written.ensures (omega (arith, most, wide));
    }
