-- How long it is since a journal was cut.
use Rattle.std.specs.Prelude.{ℕ, ◌-◌, ◌/◌, Option, Some, None}
use Rattle.std.specs.Time.{instant_nanos}
use Rattle.std.specs.declared.time.Instant.{Instant}
use Rattle.wsm_live_loop.specs.declared.cuts.Cuts.{Cuts}

-- how many seconds are gone since a time, none where it isn't known
abbrev pub seconds_since : Option Instant → Instant → ℕ
seconds_since None now = 0
seconds_since (Some time) now = (instant_nanos now - instant_nanos time) / 1000000000

-- since the last cut, or the start
abbrev pub age : Cuts → Instant → ℕ
age c now = seconds_since c.since now
