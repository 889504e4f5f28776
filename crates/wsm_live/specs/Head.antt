-- What a journal's head says, row by row.
--     live,1,NAME,SUM
--     cut,COUNT,SUM,TEXT
-- NAME are 16 bytes that were drawn as the journal was begun, and the first SUM is of all that says what is written for lines. The
-- second row is there where lines were cut, for which the head stands: COUNT lines were handed out for them, the second SUM is of those,
-- and TEXT says what they came to.
use Rattle.std.specs.Prelude.{◌≡◌, ℕ, ◌-◌, ◌^◌, ◌&&◌, nat_eq, nat_lt, List, [], ◌∷◌, ◌++◌, Bool, true, false, Option, Some, None, option_and_then, drop, take, length, codes, if◌then◌else◌}
use Rattle.std.specs.Fmt.{decimal}
use Rattle.std.specs.List.{starts_with}
use Rattle.std.specs.Option.{option_map_or}
use Rattle.wsm_numbered.specs.Numbered.{sum_over}
use Rattle.wsm_journal.specs.Reading.{number_of}
use Rattle.wsm_live.specs.Told.{Turn, told}

-- ---- which journal it is

abbrev pub head_row : (name : List ℕ) → (sum : ℕ) → List ℕ
head_row name sum = codes "live,1," ++ (name ++ (44 ∷ (decimal sum ++ 10 ∷ [])))

-- a name has as many bytes, and no line feed
abbrev pub name_in : List ℕ → List ℕ
name_in rows = take 16 (drop 7 rows)

-- these rows begin as those of such a head, whatever name they have
abbrev pub is_headed : (head rows : List ℕ) → Bool
is_headed head rows = starts_with nat_eq rows (take 7 head) && starts_with nat_eq (drop 23 rows) (drop 23 head)

-- of such rows the first, which is as long as that row, and what stands behind it
abbrev pub own_row : (head rows : List ℕ) → List ℕ
own_row head rows = take (length head) rows

abbrev pub behind_row : (head rows : List ℕ) → List ℕ
behind_row head rows = drop (length head) rows

-- ---- lines that were cut

-- how many lines were handed out for them, the sum of those, and what they came to
pub record Cut : Type 0 where
  pub count : ℕ
  pub sum : ℕ
  pub text : List ℕ

abbrev pub cut_with : (count sum : ℕ) → List ℕ → Cut
cut_with count sum text = record { count = count; sum = sum; text = text }

-- the row up to its text
abbrev pub cut_front : (count sum : ℕ) → List ℕ
cut_front count sum = codes "cut," ++ (decimal count ++ (44 ∷ (decimal sum ++ (44 ∷ []))))

abbrev pub cut_row : (count sum : ℕ) → List ℕ → List ℕ
cut_row count sum text = cut_front count sum ++ (text ++ 10 ∷ [])

-- all bytes but the last one
abbrev pub without_last : List ℕ → List ℕ
without_last text = take (length text - 1) text

abbrev pub cut_if : ℕ → ℕ × List ℕ → Option Cut
cut_if count sum = if nat_lt sum.0 (2 ^ 32) then Some (cut_with count sum.0 (without_last sum.1)) else None

-- what such a row says, if it is one
abbrev pub cut_of : List ℕ → Option Cut
cut_of row = if starts_with nat_eq row (codes "cut,") then option_and_then (λ count. option_and_then (cut_if count.0) (number_of count.1)) (number_of (drop 4 row)) else None

-- nothing, or such a row
abbrev pub is_readable : List ℕ → Bool
is_readable [] = true
is_readable (byte ∷ row) = option_map_or (λ _. true) (cut_of (byte ∷ row)) false

-- it says what these lines, the newest first, came to, and how many lines were handed out for them
pub record CutStates {B : Type 0} (turn : B → Turn) (states : List ℕ → B → List (List ℕ) → Type 0) (by : B) (before : List (List ℕ)) (cut : Cut) : Type 0 where
  pub text : states cut.text by before
  pub count : cut.count ≡ length (told (turn by) before)
  pub sum : cut.sum ≡ sum_over 0 (told (turn by) before)

abbrev pub IfCut : (Cut → Type 0) → Option Cut → Type 0
IfCut P None = ⊥
IfCut P (Some cut) = P cut

-- what stands behind a head's row stands for these lines: for none where nothing stands there
abbrev pub StandsFor : {B : Type 0} → (B → Turn) → (List ℕ → B → List (List ℕ) → Type 0) → B → List (List ℕ) → List ℕ → Type 0
StandsFor turn states by before [] = before ≡ []
StandsFor turn states by before (byte ∷ row) = IfCut (CutStates turn states by before) (cut_of (byte ∷ row))
