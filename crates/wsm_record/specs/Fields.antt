-- The declared fields of the code, as the definitions see them.
use Rattle.std.specs.Prelude.{ℕ, List, map}
use Rattle.wsm_record.specs.declared.schema.Ty.{Ty}
use Rattle.wsm_record.specs.declared.schema.Ty.TheVariants as ty
use Rattle.wsm_record.specs.declared.schema.Field.{Field}
use Rattle.wsm_record.specs.declared.schema.FieldType.{FieldType as Kept}
use Rattle.wsm_record.specs.declared.schema.FieldType.TheVariants as kept
use Rattle.wsm_record.specs.declared.schema.DeclaredField.{DeclaredField as KeptField}
use Rattle.wsm_record.specs.Schema.{FieldType, Int, Truth, Enum, DeclaredField, Declared}

-- a type as a query declares it
abbrev pub declared_type : Ty → FieldType
declared_type (ty.Int lo hi) = Int lo hi
declared_type ty.Bool = Truth
declared_type (ty.Enum names) = Enum names.items

abbrev pub declared_field : Field → DeclaredField
declared_field f = record { name = f.name; type = declared_type f.ty }

abbrev pub declared_of : List (List ℕ) → List Field → List (List ℕ) → Declared
declared_of keys fields sources = record { keys = keys; fields = map declared_field fields; sources = sources }

-- a type as it is kept
abbrev pub type_seen : Kept → FieldType
type_seen (kept.Int lo hi) = Int lo hi
type_seen kept.Bool = Truth
type_seen (kept.Enum names) = Enum names

abbrev pub field_seen : KeptField → DeclaredField
field_seen f = record { name = f.name; type = type_seen f.ty }

-- a schema as it is kept
abbrev pub kept_of : List (List ℕ) → List KeptField → List (List ℕ) → Declared
kept_of keys fields sources = record { keys = keys; fields = map field_seen fields; sources = sources }
