-- What is true of the panes that are held while a verified program runs: what the accumulators of
-- each hold is the fold of as many rows, which UPDATE gave of records in range, as the next firing is
-- computed over.
use Rattle.std.specs.Prelude.{◌≡◌, ℕ, ◌<◌, ◌≤◌, List, length, Option, Some, None, IsTrue, unsigned_abs}
use Rattle.std.specs.List.{AllByRecursion, list_all}
use Rattle.wsm_record.specs.declared.event.Value.{Value}
use Rattle.wsm_windows.specs.declared.place.Place.{Place}
use Rattle.wsm_fold.specs.Fold.{folds_of}
use Rattle.wsm_semantics.specs.Query.{Datum}
use Rattle.wsm_semantics.specs.Summaries.{Pane, Fired, fired_count}
use Rattle.wsm_semantics.specs.HeldRecords.{AtMost}
use Rattle.wsm_semantics.specs.Steps.{State}
use Rattle.wsm_program.specs.declared.instr.SectionId.TheVariants.{Update, Fire}
use Rattle.wsm_program.specs.Program.{Program}
use Rattle.wsm_machine.specs.InRange.{in_range, is_word, are_folded_in}
use Rattle.wsm_machine.specs.Meaning.{record_inputs, pane_inputs}

-- the folds of so many rows
pub record AreFolds (p : Program) (n : ℕ) (held : List Value) : Type 0 where
  pub rows : List (List Value)
  pub folded : IsTrue (list_all (are_folded_in p) rows)
  pub words : IsTrue (list_all (list_all is_word) rows)
  pub count : length rows ≡ n
  pub folds : folds_of p.header.kinds rows ≡ Some held

-- the same, where no rows have no folds
abbrev pub AreFoldsOf : Program → ℕ → Option (List Value) → Type 0
AreFoldsOf p n None = n ≡ 0
AreFoldsOf p n (Some held) = AreFolds p n held

-- a pane's counts, and what its accumulators hold
pub record IsSoundPane (p : Program) (h : Pane (List Value)) : Type 0 where
  pub unshown : h.unshown ≤ h.count
  pub folds : AreFoldsOf p (fired_count p.header.mode h) h.folded

-- a pane of a declared key
pub record IsSoundEntry (p : Program) (e : Place × Pane (List Value)) : Type 0 where
  pub key : e.0.key < length p.header.schema.keys
  pub pane : IsSoundPane p e.1

-- panes that so many selected records can make
pub record AreSound (p : Program) (n : ℕ) (panes : List (Place × Pane (List Value))) : Type 0 where
  pub each : AllByRecursion (IsSoundEntry p) panes
  pub counts : AtMost p.header.shape n panes

-- a declared key, and values that fit the schema
abbrev pub IsDatumInRange : Program → Datum → Type 0
IsDatumInRange p d = IsTrue (in_range p Update (record_inputs d.key d.values))

-- what is kept of the events while the program runs
pub record IsSoundState (p : Program) (s : State (List Value)) : Type 0 where
  pub clock : s.admission.clock ≡ p.header.clock
  pub admitted : s.admission.admitted ≤ unsigned_abs s.admission.clock.records
  pub panes : AreSound p s.admission.admitted s.panes

-- FIRE may read what a firing is computed over
pub record MayFire (p : Program) (f : Fired (List Value)) : Type 0 where
  pub held : List Value
  pub folded : f.folded ≡ Some held
  pub ranged : IsTrue (in_range p Fire (pane_inputs f.place.key f.count held))
