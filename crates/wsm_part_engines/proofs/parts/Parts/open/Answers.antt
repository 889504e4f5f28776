use Rattle.std.proofs.Common.{replicate, [], ap, sym, subst, ◌∙◌}
use Rattle.wsm_record.specs.Schema.{source_count}
use Rattle.wsm_admission.specs.Clock.{IsWithinLimits}
use Rattle.wsm_admission.specs.Admission.{Fits, State}
use Rattle.wsm_program.specs.Program.{Header}
use Rattle.wsm_engine.proofs.Limits.{clock_within}
use Rattle.wsm_part_engines.specs.Answers.{MayBeRun}
use Rattle.wsm_part_engines.specs.Follows.{AllFollow}
use Rattle.wsm_part_engines.proofs.parts.Parts.open.Goals as goal

pub new-front-requires : goal.new-front-requires
new-front-requires c = subst (λ (h : Header). IsWithinLimits h.clock) (sym c.header.ensures.header) (clock_within c.into_program-program.result c.header.ensures.lawful)

pub invariant_of-result : goal.invariant_of-result
invariant_of-result c =
    let may : MayBeRun c.into_program-program.result = c.in_default.ensures in
    let opened = c.new-front.ensures.opened in
    record {
      lawful = c.header.ensures.lawful;
      panes = may.panes;
      keyless = may.keyless;
      clock = ap (λ (s : State). s.clock) opened ∙ ap (λ (h : Header). h.clock) c.header.ensures.header;
      history = ([], subst (λ (h : Header). Fits c.into_program-program.result.header.shape h.schema c.new-front.result []) c.header-2.ensures.header (c.new-front.ensures.fits c.into_program-program.result.header.shape));
      marks = c.in_ok-engines.ensures.marks
          ∙ sym (ap (λ (s : State). s.marks) opened ∙ (λ i. replicate (source_count (c.header-2.ensures.header i).schema) ((c.header.ensures.header i).clock.start)));
      few = c.in_ok-engines.ensures.few;
      engines = c.in_ok-engines.ensures.engines;
      follow = subst (AllFollow c.new-front.result) (sym c.in_ok-engines.ensures.slots) (λ part. tt);
    }
