-- That the program of a checked query is one that may be read: what reading program bytes asks holds of it.
use Rattle.std.specs.Prelude.{◌≡◌, ℕ, true, List, Ok}
use Rattle.wsm_program.specs.Program.{is_program}
use Rattle.wsm_query.specs.Tree.{Query}
use Rattle.wsm_query.specs.Parse.{parse}
use Rattle.wsm_check.specs.Checks.{IsChecked}
use Rattle.wsm_check.specs.Spelt.{IsSpelt}
use Rattle.wsm_compiler.specs.Program.{program_of}

-- names are names and numbers have 64 bits in every query that is read of a text
abbrev pub ParsedIsSpelt : List ℕ → Query → Type 0
ParsedIsSpelt text q = parse text ≡ Ok q → IsSpelt q

abbrev pub IsLawful : Query → Type 0
IsLawful q = IsChecked q → IsSpelt q → is_program (program_of q) ≡ true
