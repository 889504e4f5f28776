-- What version 1 of the bytes has of its own: lateness from a window's end is a shape, several sources are a
-- form with their names behind it, and no instruction tests a field.
use Rattle.std.specs.Prelude.{ℕ, Bool, true, false, List, [], ◌∷◌, ◌++◌, ◌+◌, ◌-◌, nat_lt, Ok, if◌then◌else◌}
use Rattle.std.specs.Int.{w8}
use Rattle.wsm_record.specs.declared.Mode.{Mode}
use Rattle.wsm_record.specs.declared.Form.{Form}
use Rattle.wsm_record.specs.declared.limits.TheConstants.{MAX_SOURCES}
use Rattle.wsm_record.specs.Name.{is_between}
use Rattle.wsm_windows.specs.declared.Shape.{Shape}
use Rattle.wsm_program.specs.declared.instr.Instr.{Instr}
use Rattle.wsm_program.specs.declared.instr.Instr.TheVariants.{Test}
use Rattle.wsm_program.specs.Program.{Name}
use Rattle.wsm_bytecode.specs.declared.tags.TheConstants.{FORM_COUNT, SHAPE_COUNT}
use Rattle.wsm_bytecode.specs.Tags.{form_tag, shape_tag, last_shape_tag}
use Rattle.wsm_bytecode.specs.Parts.{Settings, byte, signed, mode, measures, sources}
use Rattle.wsm_bytecode.specs.Steps.{Read, ◌>>=◌, judged, number_at, windows_by, mode_at, triggers_at, form_of, sources_at}

-- ---- how it is spelled

abbrev pub window_tag : Bool → ℕ
window_tag false = 0
window_tag true = SHAPE_COUNT

abbrev pub windows : Bool → Shape → List ℕ
windows from_window s = byte (window_tag from_window + shape_tag s) ++ measures s

abbrev pub output : List Name → Form → List ℕ
output [] f = byte (form_tag f)
output (n ∷ ns) f = byte (FORM_COUNT + form_tag f) ++ sources (n ∷ ns)

abbrev pub settings : Settings → List ℕ
settings s = windows s.from_window s.shape ++ mode s.mode ++ signed s.early ++ signed s.late ++ output s.sources s.form

abbrev pub has : Instr → Bool
has (Test x t) = false
has i = true

-- ---- how it is read

unfoldable pub windows_at : List ℕ → Read (Shape × Bool)
windows_at bytes = do
  tag ← judged (is_between 0 (SHAPE_COUNT + last_shape_tag true)) (number_at w8 bytes)
  if nat_lt tag.0 SHAPE_COUNT then windows_by false tag.0 tag.1 else windows_by true (tag.0 - SHAPE_COUNT) tag.1

abbrev pub form_part : ℕ → ℕ
form_part tag = if nat_lt tag FORM_COUNT then tag else tag - FORM_COUNT

-- forms from their number on have sources
abbrev pub sources_by : ℕ → List ℕ → Read (List Name)
sources_by tag bytes = if nat_lt tag FORM_COUNT then Ok ([], bytes) else sources_at (is_between 2 MAX_SOURCES) bytes

-- judged beside the mode, before the sources
unfoldable pub output_at : Mode → List ℕ → Read (Form × List Name)
output_at m bytes = do
  tag ← number_at w8 bytes
  form ← form_of m (form_part tag.0)
  names ← sources_by tag.0 tag.1
  Ok ((form, names.0), names.1)

unfoldable pub settings_at : List ℕ → Read Settings
settings_at bytes = do
  windows ← windows_at bytes
  mode ← mode_at windows.1
  triggers ← triggers_at mode.1
  output ← output_at mode.0 triggers.1
  Ok (
    record { shape = windows.0.0; from_window = windows.0.1; mode = mode.0; early = triggers.0.0; late = triggers.0.1; form = output.0.0; sources = output.0.1 },
    output.1,
  )
