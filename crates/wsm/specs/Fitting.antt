-- Which texts are run and which are rejected, by the ranges of their queries.
use Rattle.std.specs.Prelude.{◌≡◌, ℕ, Bool, true, false, List, None, Result, Ok, Err}
use Rattle.wsm_semantics.specs.declared.ending.Totals.{Totals}
use Rattle.wsm_query.specs.Tree.{Query}
use Rattle.wsm_compiler.specs.Ranges.{ranges_fit}
use Rattle.wsm_inputs.specs.declared.end.End.{End}
use Rattle.wsm_inputs.specs.declared.end.End.TheVariants as ends
use Rattle.wsm_inputs.specs.declared.input.Input.{Input}
use Rattle.wsm_inputs.specs.declared.input.Input.TheVariants as input
use Rattle.wsm_inputs.specs.TextOf.{IsTextOf}

-- the text says a query, and where that has no BUDGET its ranges fit or don't
abbrev pub SaysOfRanges : List ℕ → Bool → Type 0
SaysOfRanges text fit = (q : Query) × IsTextOf text q × (q.budget ≡ None → ranges_fit q ≡ fit)

-- where a run ends well the ranges of the text's query fit, and where it is rejected they don't
abbrev pub ByRanges : List ℕ → Result Totals End → Type 0
ByRanges text (Ok totals) = SaysOfRanges text true
ByRanges text (Err (ends.Rejected why)) = SaysOfRanges text false
ByRanges text (Err end) = Unit {0}

-- the same of an input that is a text; of a program nothing is said here
abbrev pub InputByRanges : Input → Result Totals End → Type 0
InputByRanges (input.Text text) result = ByRanges text.now result
InputByRanges (input.Program bytes) result = Unit {0}
