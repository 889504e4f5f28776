-- Places of panes, in the order in which they fire.
use Rattle.std.specs.Prelude.{ℕ}
use Rattle.std.specs.Ordering.{int_cmp, nat_cmp, ordering_then}
use Rattle.std.specs.declared.cmp.Ordering.{Ordering}
use Rattle.wsm_windows.specs.declared.window.Window.{Window}
use Rattle.wsm_windows.specs.declared.place.Place.{Place}
use Rattle.wsm_windows.specs.Windows.{window}

-- by end, then start, then key
abbrev pub place_cmp : Place → Place → Ordering
place_cmp a b = ordering_then (int_cmp a.end b.end) (ordering_then (int_cmp a.start b.start) (nat_cmp a.key b.key))

abbrev pub at : ℕ → Window → Place
at key w = record { end = w.end; start = w.start; key = key }

abbrev pub window_of : Place → Window
window_of p = window p.start p.end
