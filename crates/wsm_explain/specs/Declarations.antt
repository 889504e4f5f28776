-- What a program declares, as JSON. Members stand in the order of their names.
use Rattle.std.specs.Prelude.{ℕ, List, ℤ, pos, cond, codes, Option}
use Rattle.std.specs.Ordering.{int_eq}
use Rattle.serde_json.specs.Data.{Data, null, boolean, string, object, member, no_members}
use Rattle.wsm_record.specs.Schema.{FieldType, Int, Truth, Enum, DeclaredField}
use Rattle.wsm_record.specs.declared.words.Mode.{Mode}
use Rattle.wsm_record.specs.declared.words.Form.{Form}
use Rattle.wsm_record.specs.declared.words.CellType.{CellType}
use Rattle.wsm_record.specs.declared.words.CellType.TheVariants as cells
use Rattle.wsm_windows.specs.declared.window.Shape.{Shape}
use Rattle.wsm_windows.specs.declared.window.Shape.TheVariants.{Fixed, Sliding, Session}
use Rattle.wsm_admission.specs.declared.clock.Clock.{Clock}
use Rattle.wsm_interval.specs.declared.Interval.{Interval}
use Rattle.wsm_program.specs.declared.program.Costs.{Costs}
use Rattle.wsm_query.specs.Print.{form_word, mode_word}
use Rattle.wsm_explain.specs.Json.{text_data, natural, or_null, whole, list_data}

-- both ends are inside
abbrev pub range_data : ℤ → ℤ → Data
range_data least greatest = object (member (codes "greatest") (whole greatest) (member (codes "least") (whole least) no_members))

abbrev pub interval_data : Interval → Data
interval_data x = range_data x.lo x.hi

abbrev pub typed_data : List ℕ → FieldType → Data
typed_data name (Int lo hi) =
    object
    (member (codes "name") (text_data name)
    (member (codes "range") (range_data lo hi)
    (member (codes "type") (string (codes "INT")) no_members)))
typed_data name Truth = object (member (codes "name") (text_data name) (member (codes "type") (string (codes "BOOL")) no_members))
typed_data name (Enum names) =
    object
    (member (codes "name") (text_data name)
    (member (codes "names") (list_data text_data names)
    (member (codes "type") (string (codes "ENUM")) no_members)))

abbrev pub field_data : DeclaredField → Data
field_data f = typed_data f.name f.type

abbrev pub clock_data : Clock → Data
clock_data c =
    object
    (member (codes "from_window") (boolean c.from_window)
    (member (codes "lateness") (whole c.lateness)
    (member (codes "records") (whole c.records)
    (member (codes "skew") (whole c.skew)
    (member (codes "start") (whole c.start) no_members)))))

-- a window begins at each multiple of the slide
abbrev pub window_data : Shape → Data
window_data (Fixed size) =
    object
    (member (codes "shape") (string (codes "FIXED"))
    (member (codes "size") (whole size)
    (member (codes "slide") (whole size) no_members)))
window_data (Sliding size slide) =
    object
    (member (codes "shape") (string (codes "SLIDING"))
    (member (codes "size") (whole size)
    (member (codes "slide") (whole slide) no_members)))
window_data (Session gap) = object (member (codes "gap") (whole gap) (member (codes "shape") (string (codes "SESSION")) no_members))

-- after how many unshown records a pane fires; 0 where it doesn't
abbrev pub trigger_data : ℤ → Data
trigger_data n = cond (int_eq n (pos 0)) null (whole n)

abbrev pub firing_data : Mode → ℤ → ℤ → Form → Data
firing_data mode early late form =
    object
    (member (codes "early") (trigger_data early)
    (member (codes "form") (string (form_word form))
    (member (codes "late") (trigger_data late)
    (member (codes "mode") (string (mode_word mode)) no_members))))

-- A column of a type, with its range where it is one of numbers; null where that isn't known. ENUM 0 is the keys, f + 1 the names of field f.
abbrev pub column_data : CellType → Option Interval → Data
column_data cells.Int range = object (member (codes "range") (or_null interval_data range) (member (codes "type") (string (codes "INT")) no_members))
column_data cells.Bool range = object (member (codes "type") (string (codes "BOOL")) no_members)
column_data (cells.Enum e) range = object (member (codes "enum") (natural e) (member (codes "type") (string (codes "ENUM")) no_members))

abbrev pub costs_data : Costs → Data
costs_data c =
    object
    (member (codes "held") (natural c.held)
    (member (codes "pane") (natural c.per_pane)
    (member (codes "record") (natural c.per_record) no_members)))
