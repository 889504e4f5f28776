-- Worked rows.
use Rattle.std.specs.Prelude.{◌≡◌, refl}
use Rattle.wsm_record.specs.declared.words.Mode.TheVariants.{Discarding, Accumulating, Retracting}
use Rattle.wsm_semantics.specs.Summaries.{computed_over}

accumulating_computes_over_all : computed_over Accumulating 3 1 ≡ 3
accumulating_computes_over_all = refl

retracting_computes_over_all : computed_over Retracting 3 1 ≡ 3
retracting_computes_over_all = refl

discarding_computes_over_the_unshown : computed_over Discarding 3 1 ≡ 1
discarding_computes_over_the_unshown = refl
