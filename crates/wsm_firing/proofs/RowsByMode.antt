-- The rows of a turn by the mode and the form: what is withdrawn is written where panes retract, and
-- those are rows of panes.
use Rattle.std.proofs.Common.{◌≡◌, ℕ, ◌+◌, ◌^◌, ◌<◌, ◌≤◌, true, List, [], ◌++◌, length, refl, sym, subst, arith}
use Rattle.std.specs.Prelude.{filter_map}
use Rattle.wsm_record.specs.declared.event.Value.{Value}
use Rattle.wsm_record.specs.declared.cell.Cell.{Cell}
use Rattle.wsm_record.specs.declared.words.Form.{Form}
use Rattle.wsm_record.specs.declared.words.Form.TheVariants.{Panes, Istream, Dstream, Rstream}
use Rattle.wsm_record.specs.declared.words.Mode.{Mode}
use Rattle.wsm_record.specs.declared.words.Mode.TheVariants.{Discarding, Accumulating, Retracting}
use Rattle.wsm_record.specs.Modes.{may_write, retracts}
use Rattle.wsm_windows.specs.declared.place.Place.{Place}
use Rattle.wsm_semantics.specs.declared.out_row.OutRow.{OutRow}
use Rattle.wsm_semantics.specs.HeldBounds.{rows_of_panes}
use Rattle.wsm_semantics.specs.Relation.{chosen_rows}
use Rattle.wsm_semantics.specs.Retractions.{retracted, retracted_in}
use Rattle.wsm_semantics.specs.Summaries.{Fired, row_of}
use Rattle.wsm_program.specs.Program.{Program}
use Rattle.wsm_machine.specs.Meaning.{plan_of}
use Rattle.wsm_firing.specs.declared.tally.Tally.{Tally}
use Rattle.wsm_firing.specs.Tally.{nothing, tally_with}
use Rattle.wsm_firing.specs.Firing.{CanAdd, CanFire, rows_of, turn_rows}
use Rattle.wsm_firing.proofs.LeftToFire.{tally_all}

abbrev Written : Type 0
Written = List (Place × List Cell)

pub retracted_when : (m : Mode) → retracts m ≡ true → (ws : Written) → retracted_in m ws ≡ retracted ws
retracted_when Discarding h ws = absurd (cc)
retracted_when Accumulating h ws = absurd (cc)
retracted_when Retracting h ws = refl

pub retracted_none : (m : Mode) → retracted_in m [] ≡ []
retracted_none Discarding = refl
retracted_none Accumulating = refl
retracted_none Retracting = refl

-- ---- the most rows that so many panes write as they fire

pub room_when : (m : Mode) → retracts m ≡ true → (n : ℕ) → n + n ≤ rows_of_panes m n
room_when Discarding h n = absurd (cc)
room_when Accumulating h n = absurd (cc)
room_when Retracting h n = omega arith

pub room_least : (m : Mode) (n : ℕ) → n ≤ rows_of_panes m n
room_least Discarding n = omega arith
room_least Accumulating n = omega arith
room_least Retracting n = omega arith

-- two rows and those that a pane fewer writes are no more than all
pub room_two : (m : Mode) → retracts m ≡ true → (n k : ℕ) → n + 1 ≤ k → 2 + rows_of_panes m n ≤ rows_of_panes m k
room_two Discarding h n k fewer = absurd (cc)
room_two Accumulating h n k fewer = absurd (cc)
room_two Retracting h n k fewer = omega (arith, fewer)

-- ---- the rows

behind_rows : (m : Mode) (f : Form) → may_write m f ≡ true → (ws : Written) (rs : List OutRow) → retracted_in m ws ++ chosen_rows f rs [] ≡ chosen_rows f (retracted_in m ws ++ rs) []
behind_rows m Panes h ws rs = refl
behind_rows Discarding Istream h ws rs = refl
behind_rows Discarding Dstream h ws rs = refl
behind_rows Discarding Rstream h ws rs = refl
behind_rows Accumulating Istream h ws rs = refl
behind_rows Accumulating Dstream h ws rs = refl
behind_rows Accumulating Rstream h ws rs = refl
behind_rows Retracting Istream h ws rs = absurd (cc)
behind_rows Retracting Dstream h ws rs = absurd (cc)
behind_rows Retracting Rstream h ws rs = absurd (cc)

pub turn_is : (p : Program) → may_write p.header.mode p.header.form ≡ true → (ws : Written) (fs : List (Fired (List Value))) → retracted_in p.header.mode ws ++ rows_of p fs ≡ turn_rows p ws fs
turn_is p h ws fs = behind_rows p.header.mode p.header.form h ws (filter_map (row_of (plan_of p)) fs)

-- ---- the room

module _ (p : Program) (capacity n : ℕ) (fs : List (Fired (List Value))) (can : CanFire p capacity n fs) where
  total : (tally_with p nothing fs).steps_total < 2 ^ 64
  total = subst (λ (t : Tally). t.steps_total < 2 ^ 64) (sym (tally_all p fs)) can.steps

  -- where nothing is withdrawn
  pub can_write : CanAdd p capacity n nothing fs
  can_write = record { each = can.each; room = omega (arith, can.room, room_least p.header.mode (length fs)); fired = omega (arith, can.fired); steps = total }

  -- what is withdrawn, and then what fires
  module _ (retract : retracts p.header.mode ≡ true) where
    pub can_withdraw : n + length fs ≤ capacity
    can_withdraw = omega (arith, can.room, room_when p.header.mode retract (length fs))

    pub can_write_behind : (m : ℕ) → m ≤ n + length fs → CanAdd p capacity m nothing fs
    can_write_behind m few = record { each = can.each; room = omega (arith, can.room, room_when p.header.mode retract (length fs), few); fired = omega (arith, can.fired); steps = total }
