-- A run over rows, and what is kept of it: what the protocol asks of both.
use Rattle.std.specs.Prelude.{◌≡◌, ℕ, List, [], ◌++◌, Bool, true}

-- bytes of a row that is read, or of a line that is written
abbrev pub Text : Type 0
Text = List ℕ

-- what a run writes for rows, and what it keeps of them
pub record Run : Type 0 where
  pub told : List Text → List Text  -- the lines that one run over all rows writes for them
  pub resumed : List Text → List Text → List Text  -- those that a run which begins with a head writes for the rows behind it
  pub cut : List Text → List Text → List Text  -- the head that takes the place of a head and of rows behind it
  pub stands : List Text → List Text → Bool  -- whether a head stands for rows

-- No row writes no line. A run that begins with a head writes what one run over all rows writes behind those that the head stands for;
-- and what is cut stands for as much.
pub record IsRun (r : Run) : Type 0 where
  pub none_told : r.told [] ≡ []
  pub none_stands : r.stands [] [] ≡ true
  pub resumes : (head rows more : List Text) → r.stands head rows ≡ true → r.told (rows ++ more) ≡ r.told rows ++ r.resumed head more
  pub cuts : (head rows more : List Text) → r.stands head rows ≡ true → r.stands (r.cut head more) (rows ++ more) ≡ true
