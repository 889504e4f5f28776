-- What an accepted query means: its expressions have values in 64 bits on every record and pane in range, and its program stands for
-- the query that its text means.
use Rattle.std.specs.Prelude.{◌≡◌, ℕ, ◌≤◌, ◌≤ℤ◌, Bool, true, ◌&&◌, List, length, map, pos, Some, nat_lt}
use Rattle.std.specs.List.{AllByRecursion, list_all}
use Rattle.wsm_record.specs.declared.event.Value.{Value}
use Rattle.wsm_record.specs.Schema.{fit_fields}
use Rattle.wsm_fold.specs.Fold.{folds_of}
use Rattle.wsm_semantics.specs.Query.{Datum, Query as Meant}
use Rattle.wsm_machine.specs.Meaning.{updated, query_of}
use Rattle.wsm_query.specs.Tree.{Query, Expr}
use Rattle.wsm_check.specs.Checks.{IsChecked}
use Rattle.wsm_check.specs.Aggregates.{accumulators, in_option, fired}
use Rattle.wsm_compiler.specs.Meaning.{Scene, meaning, meets_i64, on_record, on_records}
use Rattle.wsm_check.specs.Parts.{schema_of}
use Rattle.wsm_compiler.specs.Program.{program_of}
use Rattle.wsm_compiler.specs.Folded.{Hold}
use Rattle.wsm_check.specs.Spelt.{IsSpelt}
use Rattle.wsm_compiler.specs.Means.{meant}
use Rattle.wsm_compiler.specs.Accepted.{is_accepted}

-- No check refuses it, its names are names and its numbers have 64 bits, and the verifier takes its program.
pub record IsAccepted (q : Query) : Type 0 where
  pub checked : IsChecked q
  pub spelt : IsSpelt q
  pub accepted : is_accepted q ≡ true

-- ---- ranges

-- a declared key, and a value in the range of its field for each field
abbrev pub record_in_range : Query → ℕ → List Value → Bool
record_in_range q key values = nat_lt key (length q.keys) && fit_fields (schema_of q).fields values

-- such records of a key: at least one, and at most as many as the query allows
pub record IsPane (q : Query) (key : ℕ) (records : List (List Value)) : Type 0 where
  pub some : 1 ≤ length records
  pub few : pos (length records) ≤ℤ q.clock.records
  pub each : list_all (record_in_range q key) records ≡ true

-- ---- values

-- it has a value, and every number that it meets has 64 bits
pub record HasValue (q : Query) (s : Scene) (e : Expr) : Type 0 where
  pub value : Value
  pub is : meaning q s e ≡ Some value
  pub in_i64 : meets_i64 q s 0 e ≡ true

-- WHERE and what aggregates are taken of, on each record
abbrev pub TotalOnRecords : Query → Type 0
TotalOnRecords q = IsAccepted q → (key : ℕ) (values : List Value) → record_in_range q key values ≡ true →
    AllByRecursion (HasValue q (on_record key values)) (in_option q.condition) × AllByRecursion (λ acc. HasValue q (on_record key values) acc.operand) (accumulators q)

-- the columns and HAVING, on each pane
abbrev pub TotalOnPanes : Query → Type 0
TotalOnPanes q = IsAccepted q → (key : ℕ) (records : List (List Value)) → IsPane q key records → AllByRecursion (HasValue q (on_records q key records)) (fired q)

-- ---- what is folded

-- the folds of what runs of UPDATE give of records in range are what each aggregate means on them
abbrev pub UpdatesHold : Query → Type 0
UpdatesHold q = IsAccepted q → (key : ℕ) (records : List (List Value)) (held : List Value) → list_all (record_in_range q key) records ≡ true →
    folds_of (program_of q).header.kinds (map (updated (program_of q) key) records) ≡ Some held → Hold q key records held 0 (accumulators q)

-- ---- queries

-- records of a key, with their values
abbrev pub AreOfKey : ℕ → List Datum → Type 0
AreOfKey key records = AllByRecursion (λ d. d.key ≡ key) records

-- They have the same clauses, select the same of the records in range, and have the same row over each pane.
pub record AreSame (q : Query) (a b : Meant) : Type 0 where
  pub clock : a.clock ≡ b.clock
  pub declared : a.declared ≡ b.declared
  pub shape : a.shape ≡ b.shape
  pub mode : a.mode ≡ b.mode
  pub early : a.early ≡ b.early
  pub late : a.late ≡ b.late
  pub form : a.form ≡ b.form
  pub selects : (key : ℕ) (values : List Value) → record_in_range q key values ≡ true → a.selects key values ≡ b.selects key values
  pub row : (key : ℕ) (records : List Datum) → AreOfKey key records → IsPane q key (map (λ d. d.values) records) → a.row key records ≡ b.row key records

-- the query that the program stands for is the one that the text means
abbrev pub StandsForMeant : Query → Type 0
StandsForMeant q = IsAccepted q → AreSame q (query_of (program_of q)) (meant q)
