-- How a run over a log ends early.
use Rattle.std.specs.Prelude.{◌≡◌, ℕ, List, Option, Result, Ok, Err}
use Rattle.wsm_semantics.specs.Query.{Query}
use Rattle.wsm_semantics.specs.declared.ending.Totals.{Totals}
use Rattle.wsm_lines.specs.declared.source.Source.{Source}
use Rattle.wsm_log_rows.specs.declared.end.LogEnd.{LogEnd}
use Rattle.wsm_turns.specs.declared.clocks.Clocks.{Clocks}
use Rattle.wsm_log_text.specs.declared.totals.LogTotals.{LogTotals}
use Rattle.wsm_intake.specs.Run.{LogBroken}
use Rattle.wsm_inputs.specs.declared.end.End.{End}
use Rattle.wsm_ends.specs.Ends.{end_of_log}

-- how a run ended, with the numbers of its last line alone
abbrev pub totals_in : Result LogTotals End → Result Totals End
totals_in (Ok end) = Ok end.totals
totals_in (Err why) = Err why

-- a beginning of what the source and the query mean was written
abbrev pub LogStops : Option (List ℕ) → Source → Option Clocks → Option (List ℕ) → Option (List ℕ) → Query → End → Type 0
LogStops known s clocks old new q end = (e : LogEnd) × (end ≡ end_of_log e) × LogBroken known s clocks old new q e
