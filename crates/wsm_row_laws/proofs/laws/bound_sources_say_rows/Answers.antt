use Rattle.std.proofs.Common.{ℕ, List}
use Rattle.std.proofs.lemmas.Result.{IfOk-weaker}
use Rattle.wsm_source.specs.Binding.{bound}
use Rattle.wsm_row_laws.proofs.BoundSources.{bound_fit}
use Rattle.wsm_row_laws.specs.SaidRows.{AreSayable, said}
use Rattle.wsm_row_laws.proofs.Sayable.{SourceFits, are_sayable}
use Rattle.wsm_row_laws.proofs.laws.bound_sources_say_rows.Goals as goal

pub returns : goal.returns
returns c = λ x d zone file t. IfOk-weaker (bound x d zone file) (SourceFits d) (λ s. (lines : List (List ℕ)) → AreSayable d (said s d lines)) (λ s fits lines. are_sayable d s lines fits) (bound_fit x d zone file t)
