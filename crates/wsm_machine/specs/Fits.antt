-- When a state of the machine is one that the verifier's label of its place tells of.
use Rattle.std.specs.Prelude.{◌≡◌, ℕ, ◌<◌, ◌+◌, ◌⊎◌, false, List, [], ◌∷◌, length, map, Option, Some, None, is_some, option_map, slice_get, slice_index_or, IsTrue}
use Rattle.wsm_interval.specs.Interval.{Holds}
use Rattle.wsm_program.specs.declared.instr.Instr.{Instr}
use Rattle.wsm_program.specs.declared.instr.Instr.TheVariants.{PushInt, Field, Acc, Count, Return}
use Rattle.wsm_program.specs.declared.instr.SectionId.{SectionId}
use Rattle.wsm_program.specs.declared.instr.SectionId.TheVariants.{Where, Update, Fire}
use Rattle.wsm_record.specs.declared.event.Value.{Value}
use Rattle.wsm_program.specs.Program.{Program, section}
use Rattle.wsm_record.specs.Schema.{is_i64}
use Rattle.wsm_rules.specs.declared.known.Known.{Known}
use Rattle.wsm_rules.specs.declared.known.Known.TheVariants.{Number, Truth, NameOf}
use Rattle.wsm_rules.specs.Labels as labels
use Rattle.wsm_record.specs.declared.cell.Cell.{Cell}
use Rattle.wsm_record.specs.declared.cell.Cell.TheVariants.{Int, Bool, Enum}
use Rattle.wsm_machine.specs.Inputs.{Inputs}
use Rattle.wsm_machine.specs.Step.{State, setting, cell_of, overflows, Goes, Ends, step}

-- the value has the type, and lies in the interval
abbrev pub Fits : Known → Cell → Type 0
Fits (Number x) (Int n) = Holds x n
Fits Truth (Bool b) = Unit {0}
Fits (NameOf e) (Enum d i) = d ≡ e
Fits _ _ = ⊥

-- as many values, each as it is known; the last first
abbrev pub FitsAll : List Known → List Cell → Type 0
FitsAll [] [] = Unit {0}
FitsAll (k ∷ ks) (x ∷ xs) = Fits k x × FitsAll ks xs
FitsAll _ _ = ⊥

-- the value is there, a number has 64 bits, and it fits
abbrev pub FitsRead : Known → Option Cell → Type 0
FitsRead k None = ⊥
FitsRead k (Some x) = (overflows (Some x) ≡ false) × Fits k x

-- the record's value of each field is as it is known
abbrev pub FitFields : List Known → List Value → Type 0
FitFields ks vs = (f : ℕ) → f < length vs → FitsRead (slice_index_or ks f Truth) (option_map (cell_of (f + 1)) (slice_get vs f))

-- the same in a section that may read it
abbrev pub FitsRecord : SectionId → List Known → List Value → Type 0
FitsRecord Where ks vs = FitFields ks vs
FitsRecord Update ks vs = FitFields ks vs
FitsRecord Fire ks vs = Unit {0}

-- the stack, which accumulators are folded, and the record's values
pub record FitsState (c : SectionId) (d : Inputs) (s : labels.State) (m : State) : Type 0 where
  pub values : FitsAll s.stack m.stack
  pub flags : s.folded ≡ map is_some m.folds
  pub fields : FitsRecord c s.fields d.values

-- what the instruction reads of itself or of the inputs is in its range
abbrev pub ReadsFit : labels.Ranges → List Known → Inputs → Instr → Type 0
ReadsFit r ks d (PushInt n) = IsTrue (is_i64 n)
ReadsFit r ks d (Field f) = FitsRead (slice_index_or ks f Truth) (option_map (cell_of (f + 1)) (slice_get d.values f))
ReadsFit r ks d (Acc a) = FitsRead (slice_index_or r.accumulators a Truth) (option_map (cell_of 0) (slice_get d.accs a))
ReadsFit r ks d Count = FitsRead (Number r.count) (Some (Int d.count))
ReadsFit r ks d i = Unit {0}

-- The step goes along an edge of the instruction to a place of the section, and leaves a state that fits what the edge carries.
pub record GoesOn (p : Program) (c : SectionId) (r : labels.Ranges) (d : Inputs) (i : Instr) (s : labels.State) (m n : State) : Type 0 where
  pub goes : step (setting p c d) m i ≡ Goes n
  pub edge : IsTrue (labels.leads i m.place n.place)
  pub inside : n.place < length (section p c)
  pub fits : (t : labels.State) → labels.after r i s ≡ Some t → FitsState c d (labels.along i m.place n.place t) n

-- a return ends, and any other instruction goes on; no trap holds
abbrev pub Moves : Program → SectionId → labels.Ranges → Inputs → Instr → labels.State → State → Type 0
Moves p c r d i s m = ((i ≡ Return) × (step (setting p c d) m i ≡ Ends)) ⊎ ((n : State) × GoesOn p c r d i s m n)
