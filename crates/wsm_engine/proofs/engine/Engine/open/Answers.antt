use Rattle.std.proofs.Common.{◌≡◌, ℕ, [], List, refl, sym, ap, subst, ◌∙◌}
use Rattle.wsm_record.specs.declared.cell.Cell.{Cell}
use Rattle.wsm_admission.specs.Clock.{IsWithinLimits}
use Rattle.wsm_admission.specs.Admission as admission
use Rattle.wsm_semantics.specs.declared.out_row.OutRow.{OutRow}
use Rattle.wsm_program.specs.Program.{Header, Program}
use Rattle.wsm_program.specs.View.{header_of}
use Rattle.wsm_engine.specs.Meaning.{Fits}
use Rattle.wsm_engine.proofs.HeldByHistory.{Panes}
use Rattle.wsm_engine.proofs.Limits.{clock_within}
use Rattle.wsm_engine.proofs.engine.Engine.open.Goals as goal
use Rattle.wsm_engine.proofs.engine.Engine.open.Goals.{After-header-header}

-- nothing is kept before the first event
fits_none : (p : Program) (a : admission.State) (es : Panes) (related : List (List Cell)) (rows : List OutRow) (room : ℕ) → a.clock ≡ p.header.clock → admission.Fits p.header.shape p.header.schema a [] → es ≡ [] → related ≡ []
    → Fits (record { program = p; machine = record { admission = a; panes = es; relation = related; fed = 0; fired = 0 }; rows = rows; room = room }) []
fits_none p a es related rows room clock fits none empty = record { clock = clock; admission = fits; panes = none; relation = λ _. empty; fed = refl; fired = refl }

-- what the program declares
declared : (c : After-header-header) → header_of c.header-header.result.now ≡ c.args.verified.header
declared c = c.header-header.ensures.header ∙ ap (λ (p : Program). p.header) c.program.ensures.program

pub new-admission-requires : goal.new-admission-requires
new-admission-requires c = subst (λ (h : Header). IsWithinLimits h.clock) (sym (declared (goal.at.new-admission-requires c).After-header-header)) (clock_within c.args.verified c.in-Ok.ensures.program.lawful)

pub invariant_of-result : goal.invariant_of-result
invariant_of-result c =
    let is = declared (goal.at.invariant_of-result c).After-header-header in
    record {
      operator = c.in-Ok.ensures.program;
      history = (
        [],
        fits_none c.args.verified c.new-admission.result _ _ _ _ (ap (λ (s : admission.State). s.clock) c.new-admission.ensures.opened ∙ ap (λ (h : Header). h.clock) is)
            (subst (λ (h : Header). admission.Fits c.args.verified.header.shape h.schema c.new-admission.result []) is (c.new-admission.ensures.fits c.args.verified.header.shape)) c.in-Ok.ensures.panes c.in-Ok.ensures.relation,
      );
    }

pub returns-clause-fits : goal.returns-clause-fits
returns-clause-fits c =
    let is = declared (goal.at.returns-clause-fits c).After-header-header in
    fits_none c.args.verified c.new-admission.result _ _ _ _ (ap (λ (s : admission.State). s.clock) c.new-admission.ensures.opened ∙ ap (λ (h : Header). h.clock) is)
    (subst (λ (h : Header). admission.Fits c.args.verified.header.shape h.schema c.new-admission.result []) is (c.new-admission.ensures.fits c.args.verified.header.shape)) c.in-Ok.ensures.panes c.in-Ok.ensures.relation
