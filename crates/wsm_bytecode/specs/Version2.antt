-- What version 2 of the bytes has of its own: what lateness is counted from and the sources stand in front of the
-- shape, and each instruction is there.
use Rattle.std.specs.Prelude.{ℕ, ℤ, Bool, true, List, ◌++◌, Ok}
use Rattle.std.specs.Int.{w8}
use Rattle.wsm_record.specs.declared.Mode.{Mode}
use Rattle.wsm_record.specs.declared.Form.{Form}
use Rattle.wsm_record.specs.Name.{is_between}
use Rattle.wsm_record.specs.Schema.{is_source_count}
use Rattle.wsm_windows.specs.declared.Shape.{Shape}
use Rattle.wsm_program.specs.declared.instr.Instr.{Instr}
use Rattle.wsm_program.specs.Instructions.{truth}
use Rattle.wsm_bytecode.specs.Tags.{form_tag, shape_tag, last_shape_tag}
use Rattle.wsm_bytecode.specs.Parts.{Settings, byte, signed, mode, measures, sources}
use Rattle.wsm_bytecode.specs.Steps.{Read, ◌>>=◌, judged, number_at, truth_at, windows_by, mode_at, triggers_at, form_of, sources_at}

-- ---- how it is spelled

abbrev pub shape : Shape → List ℕ
shape s = byte (shape_tag s) ++ measures s

abbrev pub form : Form → List ℕ
form f = byte (form_tag f)

abbrev pub settings : Settings → List ℕ
settings s = byte (truth s.from_window) ++ sources s.sources ++ shape s.shape ++ mode s.mode ++ signed s.early ++ signed s.late ++ form s.form

abbrev pub has : Instr → Bool
has i = true

-- ---- how it is read

-- judged beside what lateness is counted from
unfoldable pub windows_at : Bool → List ℕ → Read (Shape × Bool)
windows_at from_window bytes = do
  tag ← judged (is_between 0 (last_shape_tag from_window)) (number_at w8 bytes)
  windows_by from_window tag.0 tag.1

-- judged beside the mode
unfoldable pub form_at : Mode → List ℕ → Read Form
form_at m bytes = do
  tag ← number_at w8 bytes
  form ← form_of m tag.0
  Ok (form, tag.1)

-- what stands behind the windows
unfoldable pub shown_at : List ℕ → Read (Mode × ((ℤ × ℤ) × Form))
shown_at bytes = do
  mode ← mode_at bytes
  triggers ← triggers_at mode.1
  form ← form_at mode.0 triggers.1
  Ok ((mode.0, (triggers.0, form.0)), form.1)

unfoldable pub settings_at : List ℕ → Read Settings
settings_at bytes = do
  from_window ← truth_at bytes
  names ← sources_at is_source_count from_window.1
  windows ← windows_at from_window.0 names.1
  shown ← shown_at windows.1
  Ok (
    record { shape = windows.0.0; from_window = windows.0.1; mode = shown.0.0; early = shown.0.1.0.0; late = shown.0.1.0.1; form = shown.0.1.1; sources = names.0 },
    shown.1,
  )
