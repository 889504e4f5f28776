-- What an accepted query's program writes is what the query means.
use Rattle.std.specs.Prelude.{◌≡◌, ℕ, true, List, Ok}
use Rattle.wsm_semantics.specs.Lines.{Row, all_lines}
use Rattle.wsm_machine.specs.Meaning.{query_of}
use Rattle.wsm_query.specs.Tree.{Query}
use Rattle.wsm_query.specs.Parse.{parse}
use Rattle.wsm_check.specs.Checks.{IsChecked}
use Rattle.wsm_compiler.specs.Accepted.{states_enough}
use Rattle.wsm_compiler.specs.Ranges.{ranges_fit}
use Rattle.wsm_compiler.specs.Program.{program_of}
use Rattle.wsm_compiler.specs.Means.{meant}
use Rattle.wsm_compiler.specs.SameMeaning.{IsAccepted}

-- for every input the query that the program stands for has the lines of the one that the text means
abbrev pub SameLines : Query → Type 0
SameLines q = IsAccepted q → (rows : List Row) → all_lines (query_of (program_of q)) rows ≡ all_lines (meant q) rows

-- so a text that is read and checked, whose ranges fit, and which states enough has the lines that it means
abbrev pub TextMeans : List ℕ → Query → Type 0
TextMeans text q = parse text ≡ Ok q → IsChecked q → ranges_fit q ≡ true → states_enough (program_of q) ≡ true →
    (rows : List Row) → all_lines (query_of (program_of q)) rows ≡ all_lines (meant q) rows
