-- The table of versions: the number that stands for each, behind the magic bytes.
use Rattle.std.specs.Prelude.{ℕ, Option, Some, None, ◌==◌, if◌then◌else◌}
use Rattle.wsm_bytecode.specs.declared.version.Version.{Version}
use Rattle.wsm_bytecode.specs.declared.version.Version.TheVariants.{One, Two}

abbrev pub version_number : Version → ℕ
version_number One = 1
version_number Two = 2

abbrev pub version_of_number : ℕ → Option Version
version_of_number n = if n == version_number One then Some One else if n == version_number Two then Some Two else None
