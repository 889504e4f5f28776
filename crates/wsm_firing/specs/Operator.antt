-- What a window operator needs of what it works on.
use Rattle.std.specs.Prelude.{◌≡◌, length}
use Rattle.wsm_record.specs.Modes.{retracts}
use Rattle.wsm_program.specs.Program.{Program}
use Rattle.wsm_panes.specs.Held.{Held, entries_of}
use Rattle.wsm_firing.specs.Streams.{CanTell, Told}

-- panes have room for what stands for them in a program, and the streams were told of it
pub record AreReady (p : Program) (held : Held) (streams : Told) : Type 0 where
  pub wide : held.widths.columns ≡ length p.header.columns
  pub windows : held.widths.windows ≡ retracts p.header.mode
  pub tells : CanTell streams (entries_of held)
