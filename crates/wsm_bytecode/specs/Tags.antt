-- The tags of shapes, modes, forms, kinds and types: the number that stands for each, and which one a number stands for.
use Rattle.std.specs.Prelude.{ℕ, Bool, true, false, List, [], ◌∷◌, Option, ◌==◌}
use Rattle.std.specs.List.{find}
use Rattle.wsm_record.specs.declared.Kind.{Kind}
use Rattle.wsm_record.specs.declared.Kind.TheVariants.{Sum, Min, Max, Any, All}
use Rattle.wsm_record.specs.declared.Mode.{Mode}
use Rattle.wsm_record.specs.declared.Mode.TheVariants.{Discarding, Accumulating, Retracting}
use Rattle.wsm_record.specs.declared.Form.{Form}
use Rattle.wsm_record.specs.declared.Form.TheVariants.{Panes, Istream, Dstream, Rstream}
use Rattle.wsm_windows.specs.declared.Shape.{Shape}
use Rattle.wsm_windows.specs.declared.Shape.TheVariants.{Fixed, Sliding, Session}
use Rattle.wsm_bytecode.specs.declared.tags.TypeTag.{TypeTag}
use Rattle.wsm_bytecode.specs.declared.tags.TypeTag.TheVariants as of

-- what stands behind it is the shape's
abbrev pub shape_tag : Shape → ℕ
shape_tag (Fixed size) = 0
shape_tag (Sliding size period) = 1
shape_tag (Session gap) = 2

-- the last tag of a shape; lateness isn't counted from the end of a session
abbrev pub last_shape_tag : Bool → ℕ
last_shape_tag true = 1
last_shape_tag false = 2

abbrev pub mode_tag : Mode → ℕ
mode_tag Discarding = 0
mode_tag Accumulating = 1
mode_tag Retracting = 2

abbrev pub modes : List Mode
modes = Discarding ∷ Accumulating ∷ Retracting ∷ []

unfoldable pub mode_by : ℕ → Option Mode
mode_by n = find (λ x. mode_tag x == n) modes

abbrev pub form_tag : Form → ℕ
form_tag Panes = 0
form_tag Istream = 1
form_tag Dstream = 2
form_tag Rstream = 3

abbrev pub forms : List Form
forms = Panes ∷ Istream ∷ Dstream ∷ Rstream ∷ []

unfoldable pub form_by : ℕ → Option Form
form_by n = find (λ x. form_tag x == n) forms

abbrev pub kind_tag : Kind → ℕ
kind_tag Sum = 0
kind_tag Min = 1
kind_tag Max = 2
kind_tag Any = 3
kind_tag All = 4

abbrev pub kinds : List Kind
kinds = Sum ∷ Min ∷ Max ∷ Any ∷ All ∷ []

unfoldable pub kind_by : ℕ → Option Kind
kind_by n = find (λ x. kind_tag x == n) kinds

-- what a field or a column is, without its bounds or its names
abbrev pub type_tag : TypeTag → ℕ
type_tag of.Int = 0
type_tag of.Bool = 1
type_tag of.Enum = 2

abbrev pub types : List TypeTag
types = of.Int ∷ of.Bool ∷ of.Enum ∷ []

unfoldable pub type_by : ℕ → Option TypeTag
type_by n = find (λ x. type_tag x == n) types
