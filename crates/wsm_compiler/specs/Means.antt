-- What a query means over a history: its clauses, with what WHERE, the columns and HAVING mean.
use Rattle.std.specs.Prelude.{map, unsigned_abs}
use Rattle.wsm_semantics.specs.Query.{Query as Meant}
use Rattle.wsm_query.specs.Tree.{Query}
use Rattle.wsm_compiler.specs.Meaning.{selects, row}
use Rattle.wsm_check.specs.Parts.{schema_of}
use Rattle.wsm_compiler.specs.Program.{every}

abbrev pub meant : Query → Meant
meant q = record {
  clock = q.clock;
  declared = schema_of q;
  shape = q.output.shape;
  mode = q.output.mode;
  early = unsigned_abs (every q.output.early);
  late = unsigned_abs (every q.output.late);
  form = q.output.form;
  selects = selects q;
  row = λ key records. row q key (map (λ d. d.values) records);
}
