-- What a header and a program of the code stand for.
use Rattle.std.specs.Prelude.{List}
use Rattle.wsm_program.specs.declared.instr.Instr.{Instr}
use Rattle.wsm_program.specs.declared.program.Header.{Header as Held}
use Rattle.wsm_program.specs.Program.{Header, Program}

abbrev pub header_of : Held → Header
header_of h = record {
  schema = h.schema;
  clock = h.clock;
  shape = h.shape;
  mode = h.mode;
  early = h.early;
  late = h.late;
  form = h.form;
  kinds = h.kinds.items;
  columns = h.columns.items;
  budget = h.budget;
}

abbrev pub program_of : Held → List Instr → List Instr → List Instr → Program
program_of h selection update fire = record { header = header_of h; selection = selection; update = update; fire = fire }
