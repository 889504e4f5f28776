-- What is kept of the panes that are held: the tables of a shape.
use Rattle.std.specs.Prelude.{◌≡◌, ◌≢◌, ◌*◌, ◌≤◌, ℕ, ℤ, List, []}
use Rattle.std.specs.Box.{boxed_slice_items}
use Rattle.std.specs.FinMap as map
use Rattle.wsm_record.specs.declared.event.Value.{Value}
use Rattle.wsm_windows.specs.declared.window.Shape.{Shape}
use Rattle.wsm_windows.specs.declared.window.Shape.TheVariants.{Session}
use Rattle.wsm_windows.specs.Windows.{IsShape, period_of, size_of}
use Rattle.wsm_windows.specs.Places.{place_cmp}
use Rattle.wsm_semantics.specs.Summaries.{Pane}
use Rattle.wsm_sessions.specs.Live.{Live}
use Rattle.wsm_panes.specs.declared.held.HeldPanes.TheInside.{Inside}
use Rattle.wsm_panes.specs.declared.held.Tables.{Tables}
use Rattle.wsm_panes.specs.declared.held.Tables.TheVariants.{Sessions, Grid}
use Rattle.wsm_slots.specs.declared.widths.Widths.{Widths}
use Rattle.wsm_panes.specs.OfKeys.{AreOfKeys}
use Rattle.wsm_ring.specs.RingState.{RingState}
use Rattle.wsm_list.specs.Table.{Table}

abbrev pub panes_in : Tables → map.FinMap place_cmp (Pane (List Value))
panes_in (Sessions list keys) = list.panes
panes_in (Grid ring) = ring.panes

abbrev pub widths_in : Tables → Widths
widths_in (Sessions list keys) = list.widths
widths_in (Grid ring) = ring.widths

-- there is room for the live windows of each key, and the sessions of a key are those of its panes
pub record AreSessions (shape : Shape) (keys live : ℕ) (list : Table (Pane (List Value))) (ss : List Live) : Type 0 where
  pub gap : ℤ
  pub shape_is : shape ≡ Session gap
  pub room : list.room ≡ keys * live
  pub of_keys : AreOfKeys gap keys live (map.entries list.panes) ss

-- the ring has a row of slots for each of so many windows, and no pane where there is room for none
pub record IsGrid (shape : Shape) (keys live : ℕ) (ring : RingState (Pane (List Value))) : Type 0 where
  pub grid : (gap : ℤ) → shape ≢ Session gap
  pub ring_is : 1 ≤ keys * live → ring.ring ≡ record { size = size_of shape; period = period_of shape; keys = keys; bound = live }
  pub none : keys * live ≡ 0 → map.entries ring.panes ≡ []

abbrev pub AreTables : Shape → ℕ → ℕ → Tables → Type 0
AreTables shape keys live (Sessions list ss) = AreSessions shape keys live list (boxed_slice_items ss)
AreTables shape keys live (Grid ring) = IsGrid shape keys live ring

-- the tables are those of the shape
pub record IsSound (a : Inside) : Type 0 where
  pub shape : IsShape a.shape
  pub tables : AreTables a.shape a.keys a.live a.tables
