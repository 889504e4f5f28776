-- What a value of `Rows` stands for.
use Rattle.std.specs.Prelude.{◌≡◌, ◌||◌, ◌==◌, ℕ, Bool, true, cond, ◌++◌, List, [], ◌∷◌, Option, Some, None, Result, MatchResult, ⊤}
use Rattle.std.specs.Bool.{MatchBool}
use Rattle.csv.specs.Reading.{Reached, Ready, default_config, has_failed, is_flexible, reader_config, reader_state, reader_trim, source_of, strip_bom}
use Rattle.csv.specs.Records.{fields_of}
use Rattle.csv.specs.Reading.{error_kind, is_io}
use Rattle.csv.specs.declared.error.Error.{Error}
use Rattle.csv.specs.declared.reader.Reader.{Reader}
use Rattle.csv.specs.declared.reader.Trim.TheVariants as trim
use Rattle.csv.specs.declared.parser.State.TheVariants as st
use Rattle.wsm_csv.specs.Records.{AreAll, AreFirst}
use Rattle.wsm_csv.specs.declared.rows.Rows.{Rows}
use Rattle.wsm_csv.specs.declared.rows.ReadEnd.{ReadEnd}
use Rattle.wsm_csv.specs.declared.rows.ReadEnd.TheVariants as ends

-- the cells of the row that was read last
abbrev pub cells_of : {R : Type 0} → Rows R → List (List ℕ)
cells_of r = fields_of r.row

-- what csv said where it ended the rows
abbrev pub error_of : {R : Type 0} → Rows R → Option Error
error_of r = r.error

-- a read failed where csv says so; else there was no memory, or no turn was left
abbrev pub read_end : Option Error → ReadEnd
read_end None = ends.Memory
read_end (Some e) = cond (is_io (error_kind e)) ends.Failed ends.Memory

-- for how many more rows there are turns
abbrev pub turns_left : {R : Type 0} → Rows R → ℕ
turns_left r = r.left

-- nothing more is read: the reading failed, or no turn is left
abbrev pub has_ended : {R : Type 0} → Rows R → Bool
has_ended r = has_failed r.reader || (r.left == 0)

-- these rows were read of the known bytes, and the reader has the rest of them
abbrev pub HasRest : {R : Type 0} → (R → Option (List ℕ)) → Option (List ℕ) → List (List (List ℕ)) → Reader R → Type 0
HasRest remaining None rows r = ⊤
HasRest remaining (Some bytes) rows r = (rest : List ℕ) × (source_of remaining r ≡ Some rest) × Reached default_config st.StartRecord (strip_bom bytes) rows (reader_state r) rest

-- these rows were read so far, of a reader that had these bytes
pub record Follows {R : Type 0} (remaining : R → Option (List ℕ)) (known : Option (List ℕ)) (rows : List (List (List ℕ))) (r : Rows R) : Type 0 where
  pub plain : reader_trim r.reader ≡ trim.None
  pub flexible : is_flexible r.reader ≡ true
  pub config : reader_config r.reader ≡ default_config
  pub ready : Ready r.reader
  pub rest : HasRest remaining known rows r.reader

-- where a row was found it is the next one; where none was, all have been read; and an error ends the reading
abbrev pub Advances : {R : Type 0} → (R → Option (List ℕ)) → Option (List ℕ) → List (List (List ℕ)) → Rows R → Result Bool ReadEnd → Type 0
Advances remaining known rows new result = MatchResult result
    (λ found. MatchBool found (Follows remaining known (rows ++ cells_of new ∷ []) new) (AreAll known rows))
    (λ _. AreFirst known rows × (has_ended new ≡ true))
