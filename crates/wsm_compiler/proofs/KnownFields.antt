-- What sections may read.
use Rattle.std.proofs.Common.{◌≡◌, Bool, true, false, cond, List, Ok, Err, refl, ap, arith}
use Rattle.wsm_record.specs.Name.{is_among}
use Rattle.wsm_program.specs.declared.SectionId.TheVariants.{Where, Update, Fire}
use Rattle.wsm_program.specs.declared.program.Costs.{Costs}
use Rattle.wsm_rules.specs.declared.known.Known.{Known}
use Rattle.wsm_rules.specs.Rules.{setting, ranges_of_record, ranges_with}
use Rattle.wsm_query.specs.Tree.{Name, Query}
use Rattle.wsm_check.specs.declared.refusal.CheckFault.TheVariants.{UnknownName}
use Rattle.wsm_check.specs.Names.{field_names, field_place, type_of}
use Rattle.wsm_record.specs.declared.words.CellType.{CellType}
use Rattle.wsm_check.specs.Types.{Typed, declared_ty, read_at, field_ty}
use Rattle.wsm_check.specs.declared.types.Around.{Around}
use Rattle.wsm_check.specs.declared.types.Around.TheVariants.{InWhere, InColumn, InAggregate}
use Rattle.wsm_compiler.specs.Program.{program_stating}
use Rattle.wsm_machine.proofs.FittingStacks.{no}
use Rattle.wsm_compiler.proofs.ExpressionRanges.{Reads}
use Rattle.wsm_compiler.proofs.NarrowedFields.{of_cond}

pub declared : (q : Query) (around : Around) (x : Name) (t : CellType) → field_ty q around x ≡ Ok t → is_among x (field_names q.fields) ≡ true
declared q around x t h = of_cond (is_among x (field_names q.fields)) (read_at around (declared_ty (field_place q.fields x) (type_of x q.fields))) UnknownName t h

abbrev pub in_column : Around → Bool
in_column InColumn = true
in_column x = false

pub reads_where : (q : Query) (b : Costs) → Reads (setting (program_stating q b) Where (ranges_of_record (program_stating q b))) q InWhere
reads_where q b = record { field = λ x t h. refl; count = λ h. no (ap in_column h) }

pub reads_update : (q : Query) (b : Costs) → Reads (setting (program_stating q b) Update (ranges_of_record (program_stating q b))) q InAggregate
reads_update q b = record { field = λ x t h. refl; count = λ h. no (ap in_column h) }

abbrev pub is_fine : Typed → Bool
is_fine (Ok t) = true
is_fine (Err f) = false

pub not_in_column : (b : Bool) (t : CellType) → is_fine (cond b (read_at InColumn t) (Err UnknownName)) ≡ false
not_in_column b t = grind arith

-- in FIRE, whatever is known of accumulators
pub reads_fire : (q : Query) (b : Costs) (ks : List Known) → Reads (setting (program_stating q b) Fire (ranges_with (program_stating q b) ks)) q InColumn
reads_fire q b ks = grind (arith, not_in_column)
