-- What is ready for the firings of a program still is once panes have fired.
use Rattle.std.proofs.Common.{ap, ◌∙◌}
use Rattle.wsm_program.specs.Program.{Program}
use Rattle.wsm_panes.specs.Held.{Held, IsKept, entries_of}
use Rattle.wsm_slots.specs.declared.widths.Widths.{Widths}
use Rattle.wsm_firing.specs.Streams.{Told, Tells}
use Rattle.wsm_firing.specs.Operator.{AreReady}
use Rattle.wsm_firing.proofs.StandingRows.{can_tell_on}

pub ready_on : (p : Program) (h k : Held) (s t : Told) → IsKept h k → Tells s t (entries_of h) (entries_of k) → AreReady p h s → AreReady p k t
ready_on p h k s t keeps tells ready = record {
  wide = ap (λ (w : Widths). w.columns) keeps.widths ∙ ready.wide;
  windows = ap (λ (w : Widths). w.windows) keeps.widths ∙ ready.windows;
  tells = can_tell_on s t (entries_of h) (entries_of k) tells ready.tells;
}
