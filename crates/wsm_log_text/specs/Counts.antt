-- What is counted of a run over a log, beside the numbers of its last line.
use Rattle.std.specs.Prelude.{List, Option}
use Rattle.wsm_admission.specs.Admission.{counter}
use Rattle.wsm_semantics.specs.Query.{Query}
use Rattle.wsm_turns.specs.declared.clocks.Clocks.{Clocks}
use Rattle.wsm_turns.specs.Heard.{heard, left_count, silent_count}
use Rattle.wsm_turns.specs.Turns.{kept, setting_of}
use Rattle.wsm_log_text.specs.declared.totals.LogCounts.{LogCounts}
use Rattle.wsm_log_text.specs.LogText.{Said}

-- how many records were left out, how many had no voice, and what the clocks came to behind the last line
abbrev pub counts_of : Query → Option Clocks → List Said → LogCounts
counts_of q clocks lines = let w = setting_of clocks q in
    record { doubles = counter (left_count w lines); silent = counter (silent_count lines); heard = heard clocks (kept w lines) }
