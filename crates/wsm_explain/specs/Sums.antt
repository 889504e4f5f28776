-- The sums by which rows, tables and the folder of a live run know a query. This project's own rule.
use Rattle.std.specs.Prelude.{◌≡◌, ℕ, Bool, true, false, List, [], ◌++◌, cond, codes, Ok}
use Rattle.wsm_program.specs.Program.{Program}
use Rattle.wsm_bytecode.specs.Spelling.{spelling}
use Rattle.wsm_inputs.specs.declared.input.Input.{Input}
use Rattle.wsm_inputs.specs.declared.input.Input.TheVariants as input
use Rattle.wsm_inputs.specs.Inputs.{judged}
use Rattle.wsm_tokens.specs.Tokens.{Token, Tokens, Then, End, Bad, tokens}
use Rattle.wsm_tokens.specs.Read.{begins}
use Rattle.wsm_tokens.specs.Written.{token_text}
use Rattle.wsm_sums.specs.Crc.{sum_of}

-- a blank in front of each token but the first
abbrev pub gap : Bool → List ℕ
gap is_first = cond is_first [] (codes " ")

-- the number behind RECORDS is left out, so that more records may be admitted
abbrev pub told_token : Bool → Token → List ℕ
told_token is_behind_records t = cond is_behind_records [] (token_text t)

unfoldable pub told_from : (is_first is_behind_records : Bool) → Tokens → List ℕ
told_from is_first is_behind_records (Then t at rest) =
    (gap is_first ++ told_token is_behind_records t) ++ told_from false (begins (codes "RECORDS") (Then t at rest)) rest
told_from is_first is_behind_records (End at) = []
told_from is_first is_behind_records (Bad fault at) = []

abbrev pub told : List ℕ → List ℕ
told text = told_from true false (tokens text)

abbrev pub text_sum : List ℕ → ℕ
text_sum text = sum_of (told text)

-- the bytes of an input's program, in the version that is written
abbrev pub IsSpelt : Input → List ℕ → Type 0
IsSpelt i bytes = (p : Program) × (judged i ≡ Ok p) × (bytes ≡ spelling p)

-- that of an input: of a program's bytes in the version that is written
abbrev pub IsInputSum : Input → ℕ → Type 0
IsInputSum (input.Text text) sum = sum ≡ text_sum text.now
IsInputSum (input.Program bytes) sum = (newest : List ℕ) × IsSpelt (input.Program bytes) newest × (sum ≡ sum_of newest)

-- a hyphen stands behind the source where lines come on standard input
abbrev pub fed_mark : Bool → List ℕ
fed_mark is_fed = cond is_fed (codes "-") []

-- that of a live run: of the program and its source, and the mark of its lines
abbrev pub IsLiveSum : Input → List ℕ → Bool → ℕ → Type 0
IsLiveSum i source is_fed sum = (newest : List ℕ) × IsSpelt i newest × (sum ≡ sum_of (newest ++ (source ++ fed_mark is_fed)))
