-- How many bytes so many keys take at most: this project's own measure. A trial compares it with what a run takes.
use Rattle.std.specs.Prelude.{◌≡◌, refl, ℕ, ◌+◌, ◌*◌, ◌==◌, length, if◌then◌else◌}
use Rattle.std.specs.Int.{div_ceil}
use Rattle.wsm_record.specs.declared.words.Mode.{Mode}
use Rattle.wsm_record.specs.Modes.{retracts}
use Rattle.wsm_admission.specs.Admission.{counter}
use Rattle.wsm_program.specs.Program.{Header, Program}
use Rattle.wsm_rules.specs.Costs.{needed}

-- of 64 bits, the greatest of which stands for all that is greater
abbrev pub plus : ℕ → ℕ → ℕ
plus a b = counter (a + b)

abbrev pub times : ℕ → ℕ → ℕ
times a b = counter (a * b)

-- a row of a turn, and where panes retract the one that it withdraws
abbrev pub rows_bytes : Mode → ℕ
rows_bytes mode = if retracts mode then 576 else 288

-- 16 for each accumulator, 8 for each column, its rows, and 96 for all else
abbrev pub pane_bytes : Header → ℕ
pane_bytes h = plus (plus (plus (times (length h.kinds) 16) (times (length h.columns) 8)) (rows_bytes h.mode)) 96

-- 512 for each place, all panes that it may hold, and 262,144 for all else
abbrev pub part_bytes : (places held pane : ℕ) → ℕ
part_bytes places held pane = plus (plus (times places 512) (times held pane)) 262144

abbrev pub parts_of : (places keys : ℕ) → ℕ
parts_of places keys = if places == 0 then 0 else div_ceil keys places

-- 1,280 for each name, and the parts
abbrev pub bytes_by : (places held pane keys : ℕ) → ℕ
bytes_by places held pane keys = plus (times keys 1280) (times (parts_of places keys) (part_bytes places held pane))

abbrev pub bytes_of : Program → ℕ → ℕ
bytes_of p keys = bytes_by (length p.header.schema.keys) (needed p).held (pane_bytes p.header) keys

-- ---- worked rows

one_more_part : parts_of 1000 50001 ≡ 51
one_more_part = refl

of_fifty_thousand : bytes_by 1000 3000 416 50000 ≡ 165107200
of_fifty_thousand = refl
