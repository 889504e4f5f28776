-- What a run over a log writes without clocks and identifiers, beside what a run over the rows of its lines writes.
use Rattle.std.specs.Prelude.{◌≡◌, ◌+◌, ℕ, List, ◌++◌, length, map, None, Ok, Err, codes}
use Rattle.std.specs.Fmt.{decimal}
use Rattle.wsm_record.specs.Event.{Event}
use Rattle.wsm_record.specs.Schema.{Declared}
use Rattle.wsm_semantics.specs.Query.{Query}
use Rattle.wsm_semantics.specs.Lines.{end_line, turn_lines}
use Rattle.wsm_semantics.specs.Text.{line_text, lines_text}
use Rattle.wsm_lines.specs.Fault.{fault_word}
use Rattle.wsm_lines.specs.declared.fault.LineFault.{LineFault}
use Rattle.wsm_lines.specs.declared.source.Source.{Source}
use Rattle.wsm_log_rows.specs.Rows.{Said}
use Rattle.wsm_turns.specs.Turns.{spoken}
use Rattle.wsm_log_text.specs.LogText as texts
use Rattle.wsm_log_text.specs.LogText.{end_text, turn_text}
use Rattle.wsm_row_laws.specs.SaidRows.{row_said, said}

-- what a line says, with no identifier
abbrev pub plain : Said → texts.Said
plain x = spoken None x

-- by a source without identifiers no line has one
abbrev pub AreWithout : Source → Declared → List (List ℕ) → Type 0
AreWithout s d lines = texts.said s None d lines ≡ map plain (said s d lines)

abbrev pub refused_text : ℕ → List ℕ → List ℕ
refused_text number word = codes "refused," ++ decimal number ++ codes "," ++ word ++ codes "\n"

-- of a line that says an event both write the same; of one that says none both tell its number, each with a word of its own
pub record WritesAlike (q : Query) (before : List Said) (x : Said) : Type 0 where
  pub event : (e : Event) → x ≡ Ok e → turn_text q None (map plain before) (plain x) ≡ lines_text q.declared (turn_lines q (map row_said before) (Ok e))
  pub fault : (why : LineFault) → x ≡ Err why → turn_text q None (map plain before) (plain x) ≡ refused_text (length before + 1) (fault_word why)
  pub row_fault : (why : LineFault) → x ≡ Err why → lines_text q.declared (turn_lines q (map row_said before) (row_said x)) ≡ refused_text (length before + 1) (codes "BadTag")

-- and at the end both write the same
abbrev pub EndsAlike : Query → List Said → Type 0
EndsAlike q lines = end_text q None (map plain lines) ≡ line_text q.declared (end_line q (map row_said lines))
