-- Time zones: what offset a clock has at an instant, and which bytes are a zone.
use Rattle.std.specs.Prelude.{◌≡◌, ◌⊎◌, ℕ, List, ℤ, pos, Ok, Err}
use Rattle.jiff_core.specs.declared.error.TzifFault.{TzifFault}
use Rattle.jiff_tz.specs.Tzif as Tables
use Rattle.jiff_tz.specs.TzifReader.{read_tzif}
use Rattle.wsm_values.specs.declared.zone.Zone.{Zone}
use Rattle.wsm_values.specs.declared.zone.Zone.TheVariants.{Utc, Table}
use Rattle.wsm_values.specs.declared.zone.ZoneFault.{ZoneFault}
use Rattle.wsm_values.specs.declared.zone.ZoneFault.TheVariants.{NoTable, Memory}

-- how far a clock is ahead of UTC at an instant: seconds, at nanoseconds since 1970
unfoldable pub offset_in : Zone → ℤ → ℤ
offset_in Utc n = pos 0
offset_in (Table table) n = (Tables.offset_at table n).seconds

-- the zone is the table that a TZif file's bytes say, and its rule agrees with its last row
abbrev pub IsTable : List ℕ → Zone → Type 0
IsTable bytes Utc = ⊥
IsTable bytes (Table table) = (read_tzif bytes ≡ Ok (Tables.tzif_view table)) × Tables.RuleAgrees table

-- the bytes have a fault by RFC 9636
abbrev pub HasFault : List ℕ → Type 0
HasFault bytes = (fault : TzifFault) × (read_tzif bytes ≡ Err fault)

-- memory ran out; or the bytes have a fault, or their rule does not agree with their last row
abbrev pub IsRefused : List ℕ → ZoneFault → Type 0
IsRefused bytes Memory = Unit {0}
IsRefused bytes NoTable = HasFault bytes ⊎ Tables.HasBadRule (read_tzif bytes)
