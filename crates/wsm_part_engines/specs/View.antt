-- What the fields of parts come to, and what is true of them.
use Rattle.std.specs.Prelude.{◌≡◌, ◌≤◌, List, length, map, IsTrue}
use Rattle.wsm_record.specs.declared.limits.TheConstants.{MAX_SOURCES}
use Rattle.wsm_record.specs.declared.words.Form.TheVariants.{Panes}
use Rattle.wsm_record.specs.Event.{Event}
use Rattle.wsm_admission.specs.Admission.{Fits}
use Rattle.wsm_program.specs.Program.{is_program}
use Rattle.wsm_part_programs.specs.Keyless.{IsKeyless}
use Rattle.wsm_part_engines.specs.declared.parts.Parts.TheInside.{Inside}
use Rattle.wsm_part_engines.specs.State.{State}
use Rattle.wsm_part_engines.specs.Follows.{AllFollow}
use Rattle.wsm_part_engines.specs.Ordered.{row_at}
use Rattle.wsm_part_engines.specs.Ready.{IsReady}

abbrev pub state_of : Inside → State
state_of a = record {
  program = a.program;
  front = a.front;
  engines = a.engines.slots.items;
  fed = a.fed;
  fired = a.fired;
  rows = map (row_at (length a.program.header.schema.keys) a.engines.slots.items) a.engines.order.items;
}

-- the program is one of panes that reads no key, the front decides by it, the engines run it and go by the front, and the marks are
-- those of the front
pub record IsSound (a : Inside) : Type 0 where
  pub lawful : IsTrue (is_program a.program)
  pub panes : a.program.header.form ≡ Panes
  pub keyless : IsKeyless a.program
  pub clock : a.front.clock ≡ a.program.header.clock
  pub history : (past : List Event) × Fits a.program.header.shape a.program.header.schema a.front past
  pub marks : a.marks.items ≡ a.front.marks
  pub few : length a.marks.items ≤ MAX_SOURCES
  pub engines : IsReady a.program a.engines
  pub follow : AllFollow a.front a.engines.slots.items
