-- What is true of the engines of a program.
use Rattle.std.specs.Prelude.{◌≡◌, ◌≤◌, ◌^◌, Bool, length, IsTrue}
use Rattle.std.specs.List.{AllByRecursion}
use Rattle.wsm_record.specs.Event.{Event}
use Rattle.wsm_admission.specs.Clock.{fits_declared}
use Rattle.wsm_program.specs.Program.{Program, is_program}
use Rattle.wsm_bytecode.specs.Spelling.{spelling}
use Rattle.wsm_part_engines.specs.declared.engines.Engines.{Engines}
use Rattle.wsm_part_engines.specs.Slots.{AreOf}
use Rattle.wsm_part_engines.specs.Ordered.{IsRow}

-- the engines run the program, which the bytes spell, and each row that is told stands among those of its part
pub record IsReady (p : Program) (e : Engines) : Type 0 where
  pub bytes : e.bytes.items ≡ spelling p
  pub few : length e.slots.items ≤ 2 ^ 32
  pub of : AreOf p e.slots.items
  pub rows : AllByRecursion (IsRow e.slots.items) e.order.items

-- they are those of a program, and it is known whether the values of an event fit what it declares
pub record MayTake (fit : Bool) (e : Event) (engines : Engines) : Type 0 where
  pub program : Program
  pub lawful : IsTrue (is_program program)
  pub ready : IsReady program engines
  pub judged : fit ≡ fits_declared program.header.schema e
