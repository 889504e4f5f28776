-- Worked rows, computed by the definitions: a program, its bytes, and bytes with a fault.
use Rattle.std.specs.Prelude.{◌≡◌, refl, ℕ, zero, suc, Bool, true, false, ◌&&◌, List, [], ◌∷◌, ◌++◌, take, drop, length, map, pos, negsuc, Result, Ok, Err, codes, slice_set}
use Rattle.wsm_record.specs.Name.{is_reserved}
use Rattle.wsm_record.specs.Schema.{Int, is_schema}
use Rattle.wsm_record.specs.declared.Kind.TheVariants.{Sum}
use Rattle.wsm_record.specs.declared.Mode.TheVariants.{Accumulating, Retracting}
use Rattle.wsm_record.specs.declared.Form.TheVariants.{Panes}
use Rattle.wsm_interval.specs.declared.Comparison.TheVariants as compare
use Rattle.wsm_windows.specs.declared.Shape.{Shape}
use Rattle.wsm_windows.specs.declared.Shape.TheVariants.{Fixed, Sliding}
use Rattle.wsm_record.specs.declared.words.CellType.TheVariants as types
use Rattle.wsm_program.specs.declared.instr.Instr.{Instr}
use Rattle.wsm_program.specs.declared.instr.Instr.TheVariants.{PushBool, Field, Acc, Count, Compute, Neg, Compare, Not, Jump, Test, Fold, Return}
use Rattle.wsm_interval.specs.declared.arithmetic.Arithmetic.TheVariants.{Add, Sub, Mul, Div, Rem}
use Rattle.wsm_interval.specs.declared.comparison.Comparison.TheVariants.{Eq, Ne, Lt, Le, Gt, Ge}
use Rattle.wsm_program.specs.declared.refusal.DecodeRefusal.{DecodeRefusal}
use Rattle.wsm_program.specs.declared.refusal.DecodeRefusal.TheVariants.{BadMagic, Version, Truncated, UnknownOpcode, Operand, TrailingBytes}
use Rattle.wsm_program.specs.Program.{Program, is_header, is_section, is_program}
use Rattle.wsm_bytecode.specs.declared.version.Version.TheVariants.{One}
use Rattle.wsm_bytecode.specs.Parts.{long, signed, instr, code}
use Rattle.wsm_bytecode.specs.Tags.{mode_by, form_by, kind_by, type_by}
use Rattle.wsm_bytecode.specs.Steps.{truth_at, name_at, names_at, interval_at, enum_at, type_tag_at, field_type_at, new_field_at, fields_at, sources_at, times_at, fixed_at, sliding_at, session_at, windows_by, mode_at, triggers_at, kind_at, kinds_at, enum_number_at, enum_column_at, column_at, columns_at, budget_at}
use Rattle.wsm_bytecode.specs.Version1 as first
use Rattle.wsm_bytecode.specs.Version2 as second
use Rattle.wsm_bytecode.specs.Spelling.{header, spelling_in, spelling}
use Rattle.wsm_bytecode.specs.Reading.{after_magic, version_at, back_at, header_at, push_int_at, push_bool_at, push_enum_at, index_at, target_at, comparison_at, number_field_at, field_test_at, test_at, instr_by, instr_at, code_at, sections_at, parts_at, program_at, decode}
use Rattle.wsm_program.specs.Opcodes.{of_code}
use Rattle.wsm_program.specs.Comparisons.{comparison_of_number}
use Rattle.wsm_program.specs.Text.{Word, Letters, Number}
use Rattle.wsm_bytecode.specs.Text.{section_lines, lines}

-- counts the records of keys a and b in windows of 60, and sums their field n
abbrev pub base : Program
base = record {
  header = record {
    schema = record { keys = codes "a" ∷ codes "b" ∷ []; fields = record { name = codes "n"; type = Int (pos 0) (pos 100) } ∷ []; sources = [] };
    clock = record { start = pos 0; skew = pos 100; lateness = pos 10; from_window = false; records = pos 1000 };
    shape = Fixed (pos 60);
    mode = Accumulating;
    early = pos 0;
    late = pos 0;
    form = Panes;
    kinds = Sum ∷ [];
    columns = types.Int ∷ types.Int ∷ [];
    budget = record { per_record = 5; per_pane = 4; held = 6 };
  };
  selection = PushBool true ∷ Return ∷ [];
  update = Field 0 ∷ Fold 0 ∷ Return ∷ [];
  fire = Count ∷ Acc 0 ∷ PushBool true ∷ Return ∷ [];
}

-- magic, version, keys, field, start, skew, lateness, records
abbrev front_bytes : ℕ → List ℕ
front_bytes version =
    87 ∷ 83 ∷ 77 ∷ 80 ∷ version ∷ 2 ∷ 0 ∷ 1 ∷ 97 ∷ 1 ∷ 98
    ∷ 1 ∷ 1 ∷ 110 ∷ 0 ∷ 0 ∷ 0 ∷ 0 ∷ 0 ∷ 0 ∷ 0 ∷ 0 ∷ 0 ∷ 100 ∷ 0 ∷ 0 ∷ 0 ∷ 0 ∷ 0 ∷ 0 ∷ 0
    ∷ 0 ∷ 0 ∷ 0 ∷ 0 ∷ 0 ∷ 0 ∷ 0 ∷ 0 ∷ 100 ∷ 0 ∷ 0 ∷ 0 ∷ 0 ∷ 0 ∷ 0 ∷ 0 ∷ 10 ∷ 0 ∷ 0 ∷ 0 ∷ 0 ∷ 0 ∷ 0 ∷ 0 ∷ 232 ∷ 3 ∷ 0 ∷ 0 ∷ 0 ∷ 0 ∷ 0 ∷ 0 ∷ []

-- shape, mode, triggers, form
abbrev window_bytes : List ℕ
window_bytes = 0 ∷ 60 ∷ 0 ∷ 0 ∷ 0 ∷ 0 ∷ 0 ∷ 0 ∷ 0 ∷ 1 ∷ 0 ∷ 0 ∷ 0 ∷ 0 ∷ 0 ∷ 0 ∷ 0 ∷ 0 ∷ 0 ∷ 0 ∷ 0 ∷ 0 ∷ 0 ∷ 0 ∷ 0 ∷ 0 ∷ 0 ∷ []

-- accumulators, columns, budget
abbrev column_bytes : List ℕ
column_bytes =
    1 ∷ 0 ∷ 2 ∷ 0 ∷ 0
    ∷ 5 ∷ 0 ∷ 0 ∷ 0 ∷ 0 ∷ 0 ∷ 0 ∷ 0 ∷ 4 ∷ 0 ∷ 0 ∷ 0 ∷ 0 ∷ 0 ∷ 0 ∷ 0 ∷ 6 ∷ 0 ∷ 0 ∷ 0 ∷ 0 ∷ 0 ∷ 0 ∷ 0 ∷ []

-- the three sections
abbrev code_bytes : List ℕ
code_bytes = 2 ∷ 0 ∷ 2 ∷ 1 ∷ 80 ∷ 3 ∷ 0 ∷ 4 ∷ 0 ∷ 64 ∷ 0 ∷ 80 ∷ 4 ∷ 0 ∷ 7 ∷ 6 ∷ 0 ∷ 2 ∷ 1 ∷ 80 ∷ []

abbrev pub base_bytes : List ℕ
base_bytes = front_bytes 2 ++ (0 ∷ 0 ∷ (window_bytes ++ (column_bytes ++ code_bytes)))

-- the same program in version 1
abbrev pub first_bytes : List ℕ
first_bytes = front_bytes 1 ++ (window_bytes ++ (column_bytes ++ code_bytes))

base_length : length base_bytes ≡ 141
base_length = refl

first_length : length first_bytes ≡ 139
first_length = refl

base_spelled : spelling base ≡ base_bytes
unfolding spelling spelling_in header code instr long signed
base_spelled = refl

first_spelled : spelling_in One base ≡ first_bytes
unfolding spelling_in header code instr long signed
first_spelled = refl

base_allowed : is_program base ≡ true
unfolding is_program is_header is_section is_schema is_reserved
base_allowed = refl

-- ---- other settings of the base program

-- lateness is counted from the ends of its windows
abbrev from_windows : Shape → Program
from_windows shape = record base { header = record base.header { shape = shape; clock = record base.header.clock { from_window = true } } }

abbrev retracting : Program
retracting = record base { header = record base.header { mode = Retracting } }

-- two sources, x and y
abbrev of_sources : Program
of_sources = record base { header = record base.header { schema = record base.header.schema { sources = codes "x" ∷ codes "y" ∷ [] } } }

-- bytes in place of those from one place up to another
abbrev putting : List ℕ → ℕ → ℕ → List ℕ → List ℕ
putting bytes from to others = take from bytes ++ (others ++ drop to bytes)

-- 60, then 25
abbrev two_spans : List ℕ
two_spans = 60 ∷ 0 ∷ 0 ∷ 0 ∷ 0 ∷ 0 ∷ 0 ∷ 0 ∷ 25 ∷ 0 ∷ 0 ∷ 0 ∷ 0 ∷ 0 ∷ 0 ∷ 0 ∷ []

abbrev two_names : List ℕ
two_names = 2 ∷ 1 ∷ 120 ∷ 1 ∷ 121 ∷ []

-- so many sources, of one letter each
abbrev so_many_names : ℕ → ℕ → List ℕ
so_many_names zero letter = []
so_many_names (suc n) letter = 1 ∷ letter ∷ so_many_names n (suc letter)

-- bytes, and the program that they spell or their first fault
abbrev Readings : Type 0
Readings = List (List ℕ × Result Program DecodeRefusal)

abbrev readings_2 : Readings
readings_2 =
    (base_bytes, Ok base)
    -- bytes 63 and 65: lateness from the ends of fixed and of sliding windows
    ∷ (slice_set base_bytes 63 1, Ok (from_windows (Fixed (pos 60))))
    ∷ (putting (slice_set base_bytes 63 1) 65 74 (1 ∷ two_spans), Ok (from_windows (Sliding (pos 60) (pos 25))))
    -- byte 63 is no truth
    ∷ (take 64 (slice_set base_bytes 63 2), Err Operand)
    -- lateness from the ends of sessions, before the gap is read
    ∷ (take 66 (slice_set (slice_set base_bytes 63 1) 65 2), Err Operand)
    -- byte 64: sources
    ∷ (putting base_bytes 64 65 two_names, Ok of_sources)
    ∷ (putting base_bytes 64 65 (1 ∷ 1 ∷ 120 ∷ []), Err Operand)
    ∷ (putting base_bytes 64 65 (17 ∷ so_many_names 17 97), Err Operand)
    -- the second has the name of the first
    ∷ (take 69 (putting base_bytes 64 65 (2 ∷ 1 ∷ 120 ∷ 1 ∷ 120 ∷ [])), Err Operand)
    -- byte 65: shapes of version 1
    ∷ (slice_set base_bytes 65 3, Err Operand)
    ∷ (putting base_bytes 65 74 (4 ∷ two_spans), Err Operand)
    -- byte 74: the mode, which writes no stream
    ∷ (slice_set base_bytes 74 2, Ok retracting)
    ∷ (slice_set base_bytes 74 3, Err Operand)
    ∷ (slice_set (slice_set base_bytes 74 2) 91 1, Err Operand)
    -- byte 91: a form of version 1
    ∷ (putting base_bytes 91 92 (4 ∷ two_names), Err Operand)
    ∷ []

abbrev readings_1 : Readings
readings_1 =
    (first_bytes, Ok base)
    -- byte 63: shapes whose windows' ends lateness is counted from
    ∷ (slice_set first_bytes 63 3, Ok (from_windows (Fixed (pos 60))))
    ∷ (putting first_bytes 63 72 (4 ∷ two_spans), Ok (from_windows (Sliding (pos 60) (pos 25))))
    ∷ (slice_set first_bytes 63 5, Err Operand)
    -- byte 72: the mode, which writes no stream
    ∷ (slice_set first_bytes 72 2, Ok retracting)
    ∷ (slice_set (slice_set first_bytes 72 2) 89 1, Err Operand)
    -- byte 89: a form with sources
    ∷ (putting first_bytes 89 90 (4 ∷ two_names), Ok of_sources)
    ∷ (putting first_bytes 89 90 (4 ∷ 1 ∷ 1 ∷ 120 ∷ []), Err Operand)
    ∷ (putting first_bytes 89 90 (4 ∷ 17 ∷ so_many_names 17 97), Err Operand)
    ∷ (putting first_bytes 89 90 (4 ∷ 0 ∷ []), Err Operand)
    ∷ (putting first_bytes 89 90 (4 ∷ 2 ∷ 1 ∷ 120 ∷ 1 ∷ 120 ∷ []), Err Operand)
    -- a form that the mode doesn't write, before the number of sources is read
    ∷ (take 90 (slice_set (slice_set first_bytes 72 0) 89 5), Err Operand)
    ∷ (take 90 (slice_set (slice_set first_bytes 72 2) 89 7), Err Operand)
    ∷ (slice_set first_bytes 89 8, Err Operand)
    ∷ []

abbrev faults : Readings
faults =
    -- other versions
    (slice_set base_bytes 4 3, Err Version)
    ∷ (slice_set base_bytes 4 0, Err Version)
    -- byte 10 is that of the first key
    ∷ (slice_set base_bytes 10 97, Err Operand)
    -- byte 129 names a second field
    ∷ (slice_set base_bytes 129 1, Err Operand)
    -- byte 135 is no instruction
    ∷ (slice_set base_bytes 135 127, Err UnknownOpcode)
    -- one byte more
    ∷ (base_bytes ++ 0 ∷ [], Err TrailingBytes)
    ∷ (codes "WSMQ", Err BadMagic)
    -- fewer than four bytes, whatever they are
    ∷ (codes "XY", Err Truncated)
    -- a value is judged once its last byte was read, so the repeated key comes before the cut
    ∷ (take 11 (slice_set base_bytes 10 97), Err Operand)
    -- the same in version 1
    ∷ (slice_set first_bytes 10 97, Err Operand)
    ∷ (slice_set first_bytes 127 1, Err Operand)
    ∷ (slice_set first_bytes 133 127, Err UnknownOpcode)
    ∷ (first_bytes ++ 0 ∷ [], Err TrailingBytes)
    ∷ []

readings_2_read : map (λ t. (t.0, decode t.0)) readings_2 ≡ readings_2
unfolding truth_at mode_by form_by kind_by type_by name_at names_at interval_at enum_at type_tag_at field_type_at new_field_at fields_at sources_at times_at fixed_at sliding_at session_at windows_by mode_at triggers_at first.windows_at first.output_at first.settings_at second.windows_at second.form_at second.shown_at second.settings_at kind_at kinds_at enum_number_at enum_column_at column_at columns_at budget_at after_magic version_at back_at header_at push_int_at push_bool_at push_enum_at index_at target_at comparison_at number_field_at field_test_at test_at of_code comparison_of_number instr_by instr_at code_at sections_at parts_at program_at decode is_reserved
readings_2_read = refl

readings_1_read : map (λ t. (t.0, decode t.0)) readings_1 ≡ readings_1
unfolding truth_at mode_by form_by kind_by type_by name_at names_at interval_at enum_at type_tag_at field_type_at new_field_at fields_at sources_at times_at fixed_at sliding_at session_at windows_by mode_at triggers_at first.windows_at first.output_at first.settings_at second.windows_at second.form_at second.shown_at second.settings_at kind_at kinds_at enum_number_at enum_column_at column_at columns_at budget_at after_magic version_at back_at header_at push_int_at push_bool_at push_enum_at index_at target_at comparison_at number_field_at field_test_at test_at of_code comparison_of_number instr_by instr_at code_at sections_at parts_at program_at decode is_reserved
readings_1_read = refl

faults_read : map (λ t. (t.0, decode t.0)) faults ≡ faults
unfolding truth_at mode_by form_by kind_by type_by name_at names_at interval_at enum_at type_tag_at field_type_at new_field_at fields_at sources_at times_at fixed_at sliding_at session_at windows_by mode_at triggers_at first.windows_at first.output_at first.settings_at second.windows_at second.form_at second.shown_at second.settings_at kind_at kinds_at enum_number_at enum_column_at column_at columns_at budget_at after_magic version_at back_at header_at push_int_at push_bool_at push_enum_at index_at target_at comparison_at number_field_at field_test_at test_at of_code comparison_of_number instr_by instr_at code_at sections_at parts_at program_at decode is_reserved
faults_read = refl

abbrev is_truncated : Result Program DecodeRefusal → Bool
is_truncated (Err Truncated) = true
is_truncated _ = false

-- the first so many beginnings, the longest first
abbrev beginnings_truncated : List ℕ → ℕ → Bool
beginnings_truncated bytes zero = true
beginnings_truncated bytes (suc n) = is_truncated (decode (take n bytes)) && beginnings_truncated bytes n

each_beginning : beginnings_truncated base_bytes 141 ≡ true
unfolding truth_at mode_by form_by kind_by type_by name_at names_at interval_at enum_at type_tag_at field_type_at new_field_at fields_at sources_at times_at fixed_at sliding_at session_at windows_by mode_at triggers_at first.windows_at first.output_at first.settings_at second.windows_at second.form_at second.shown_at second.settings_at kind_at kinds_at enum_number_at enum_column_at column_at columns_at budget_at after_magic version_at back_at header_at push_int_at push_bool_at push_enum_at index_at target_at comparison_at number_field_at field_test_at test_at of_code comparison_of_number instr_by instr_at code_at sections_at parts_at program_at decode is_reserved
each_beginning = refl

nine_lines : lines base
    ≡ ((Letters (codes "where") ∷ Number (pos 0) ∷ Letters (codes "PUSHB") ∷ Number (pos 1) ∷ [])
    ∷ (Letters (codes "where") ∷ Number (pos 1) ∷ Letters (codes "RET") ∷ [])
    ∷ (Letters (codes "update") ∷ Number (pos 0) ∷ Letters (codes "FIELD") ∷ Number (pos 0) ∷ [])
    ∷ (Letters (codes "update") ∷ Number (pos 1) ∷ Letters (codes "FOLD") ∷ Number (pos 0) ∷ [])
    ∷ (Letters (codes "update") ∷ Number (pos 2) ∷ Letters (codes "RET") ∷ [])
    ∷ (Letters (codes "fire") ∷ Number (pos 0) ∷ Letters (codes "COUNT") ∷ [])
    ∷ (Letters (codes "fire") ∷ Number (pos 1) ∷ Letters (codes "ACC") ∷ Number (pos 0) ∷ [])
    ∷ (Letters (codes "fire") ∷ Number (pos 2) ∷ Letters (codes "PUSHB") ∷ Number (pos 1) ∷ [])
    ∷ (Letters (codes "fire") ∷ Number (pos 3) ∷ Letters (codes "RET") ∷ [])
    ∷ [])
nine_lines = refl

-- every operation, its code and its name

abbrev operations : List Instr
operations = map Compute (Add ∷ Sub ∷ Mul ∷ Div ∷ Rem ∷ []) ++ Neg ∷ map Compare (Eq ∷ Ne ∷ Lt ∷ Le ∷ Gt ∷ Ge ∷ []) ++ Not ∷ []

operations_spelled : code operations ≡ 13 ∷ 0 ∷ 16 ∷ 17 ∷ 18 ∷ 19 ∷ 20 ∷ 21 ∷ 32 ∷ 33 ∷ 34 ∷ 35 ∷ 36 ∷ 37 ∷ 40 ∷ []
unfolding code instr
operations_spelled = refl

abbrev line : ℕ → List ℕ → List Word
line place name = Letters (codes "fire") ∷ Number (pos place) ∷ Letters name ∷ []

operations_listed : section_lines (codes "fire") 0 operations
    ≡ line 0 (codes "ADD")
    ∷ line 1 (codes "SUB")
    ∷ line 2 (codes "MUL")
    ∷ line 3 (codes "DIV")
    ∷ line 4 (codes "REM")
    ∷ line 5 (codes "NEG")
    ∷ line 6 (codes "EQ")
    ∷ line 7 (codes "NE")
    ∷ line 8 (codes "LT")
    ∷ line 9 (codes "LE")
    ∷ line 10 (codes "GT")
    ∷ line 11 (codes "GE")
    ∷ line 12 (codes "NOT")
    ∷ []
operations_listed = refl

-- ---- a test

-- the base program, which selects the records whose n isn't -3
abbrev tested : Program
tested = record base {
  selection = Test (record { field = 0; comparison = compare.Ne; number = negsuc 2 }) 3 ∷ PushBool true ∷ Jump 4 ∷ PushBool false ∷ Return ∷ [];
}

abbrev tested_code : List ℕ
tested_code = 5 ∷ 0 ∷ 50 ∷ 0 ∷ 1 ∷ 253 ∷ 255 ∷ 255 ∷ 255 ∷ 255 ∷ 255 ∷ 255 ∷ 255 ∷ 3 ∷ 0 ∷ 2 ∷ 1 ∷ 48 ∷ 4 ∷ 0 ∷ 2 ∷ 0 ∷ 80 ∷ drop 5 code_bytes

abbrev tested_bytes : List ℕ
tested_bytes = front_bytes 2 ++ (0 ∷ 0 ∷ (window_bytes ++ (column_bytes ++ tested_code)))

tested_spelled : spelling tested ≡ tested_bytes
unfolding spelling spelling_in header code instr long signed
tested_spelled = refl

abbrev tests : Readings
tests =
    (tested_bytes, Ok tested)
    -- byte 124 names a second field
    ∷ (slice_set tested_bytes 124 1, Err Operand)
    -- byte 125 is no comparison
    ∷ (slice_set tested_bytes 125 6, Err Operand)
    -- a field is judged at its own byte, before the cut
    ∷ (take 125 (slice_set tested_bytes 124 1), Err Operand)
    ∷ (take 125 tested_bytes, Err Truncated)
    -- version 1 has no test
    ∷ (front_bytes 1 ++ (window_bytes ++ (column_bytes ++ tested_code)), Err UnknownOpcode)
    ∷ []

tests_read : map (λ t. (t.0, decode t.0)) tests ≡ tests
unfolding truth_at mode_by form_by kind_by type_by name_at names_at interval_at enum_at type_tag_at field_type_at new_field_at fields_at sources_at times_at fixed_at sliding_at session_at windows_by mode_at triggers_at first.windows_at first.output_at first.settings_at second.windows_at second.form_at second.shown_at second.settings_at kind_at kinds_at enum_number_at enum_column_at column_at columns_at budget_at after_magic version_at back_at header_at push_int_at push_bool_at push_enum_at index_at target_at comparison_at number_field_at field_test_at test_at of_code comparison_of_number instr_by instr_at code_at sections_at parts_at program_at decode is_reserved
tests_read = refl

tested_line : section_lines (codes "where") 0 (take 1 tested.selection)
    ≡ (Letters (codes "where") ∷ Number (pos 0) ∷ Letters (codes "TEST") ∷ Number (pos 0) ∷ Number (pos 1) ∷ Number (negsuc 2) ∷ Number (pos 3) ∷ []) ∷ []
tested_line = refl
