use Rattle.std.proofs.Common.{◌∙◌, [], SFits, ap, refl, rules, subst, w64}
use Rattle.std.proofs.lemmas.Int.{to_z-of_z}
use Rattle.wsm_record.specs.Schema.{Declared}
use Rattle.wsm_admission.specs.declared.clock.Clock.{Clock}
use Rattle.wsm_admission.specs.Admission.{Fits, State}
use Rattle.wsm_row_watermarks.proofs.handed.Handed.new.Goals as goal

pub returns-clause-serves : goal.returns-clause-serves
returns-clause-serves c = λ w declared clock shape.
    let whole : SFits w64 c.args.times.clock.start = search rules in record {
      declared = declared;
      shape = shape;
      marks = record {
        clock = ap (λ (s : State). s.clock) c.new.ensures.opened ∙ clock;
        fits = subst (λ (d : Declared). Fits w.shape d c.new.result []) declared (c.new.ensures.fits w.shape);
        first = to_z-of_z w64 c.args.times.clock.start whole ∙ ap (λ (a : Clock). a.start) clock;
      };
      latest = refl;
    }
