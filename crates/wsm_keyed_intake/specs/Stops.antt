-- How a run over a log by any number of names ends early: it isn't run, and nothing was written; or a beginning was.
use Rattle.std.specs.Prelude.{◌≡◌, ◌≢◌, ◌⊎◌, ℕ, false, List, Option}
use Rattle.std.specs.Io.KnownBytes.{Keeps}
use Rattle.wsm_record.specs.declared.words.Form.TheVariants.{Panes}
use Rattle.wsm_program.specs.Program.{Program}
use Rattle.wsm_lines.specs.Key.{are_same}
use Rattle.wsm_log_rows.specs.declared.end.LogEnd.{LogEnd}
use Rattle.wsm_log_rows.specs.declared.end.LogEnd.TheVariants as ends
use Rattle.wsm_part_programs.specs.Keyless.{IsKeyless}
use Rattle.wsm_ends.specs.declared.keyed_log.KeyedLogStop.{KeyedLogStop}
use Rattle.wsm_ends.specs.declared.keyed_log.KeyedLogStop.TheVariants as stops
use Rattle.wsm_keyed_intake.specs.KeyedLog.{KeyedLog}
use Rattle.wsm_keyed_intake.specs.Run.{KeyedLogBroken}
use Rattle.wsm_keyed_intake.specs.Turns.{AreNamed}

-- a program that isn't run by parts, or want of memory
abbrev pub IsUnopened : Program → KeyedLogStop → Type 0
IsUnopened p stops.Streams = p.header.form ≢ Panes
IsUnopened p stops.ReadsKey = IsKeyless p → ⊥
IsUnopened p (stops.End ends.Memory) = Unit {0}
IsUnopened p stop = ⊥

-- a log that isn't run over
abbrev pub IsUnrun : KeyedLog → KeyedLogStop → Type 0
IsUnrun g stops.KeyTable = are_same g.source.key.names ≡ false
IsUnrun g stops.KeyClocks = AreNamed g.clocks → ⊥
IsUnrun g stop = IsUnopened g.program stop

abbrev pub Stops : Option (List ℕ) → KeyedLog → Option (List ℕ) → Option (List ℕ) → KeyedLogStop → Type 0
Stops known g old new stop = (IsUnrun g stop × Keeps old new) ⊎ ((end : LogEnd) × (stop ≡ stops.End end) × KeyedLogBroken known g old new end)
