-- A row of the table of instructions: what an instruction is, whatever its argument.
use Rattle.std.specs.Prelude.{ℕ, Bool, true, false, not, List}
use Rattle.wsm_program.specs.declared.instr.SectionId.{SectionId}
use Rattle.wsm_program.specs.declared.instr.SectionId.TheVariants.{Where, Update, Fire}
use Rattle.wsm_program.specs.declared.row.SectionSet.{SectionSet}
use Rattle.wsm_program.specs.declared.row.SectionSet.TheVariants as sets

pub record Row : Type 0 where
  pub code : ℕ
  pub name : List ℕ
  pub stands : SectionSet
  pub divides : Bool  -- its right operand must not be 0

-- in the order of the table's columns
abbrev pub row_of : ℕ → List ℕ → SectionSet → Bool → Row
row_of code name stands divides = record { code = code; name = name; stands = stands; divides = divides }

abbrev pub is_fire : SectionId → Bool
is_fire Where = false
is_fire Update = false
is_fire Fire = true

abbrev pub is_update : SectionId → Bool
is_update Where = false
is_update Update = true
is_update Fire = false

-- the section is one of these
abbrev pub has : SectionSet → SectionId → Bool
has sets.All s = true
has sets.OfRecord s = not (is_fire s)
has sets.Update s = is_update s
has sets.Fire s = is_fire s
