-- A list of panes, as a clause sees it.
use Rattle.std.specs.Prelude.{ℕ, refl}
use Rattle.std.specs.FinMap as map
use Rattle.std.specs.Coded.{Coded, code_by, coded×, coded_ℕ}
use Rattle.wsm_windows.specs.Places.{place_cmp}
use Rattle.wsm_slots.specs.declared.widths.Widths.{Widths}
use Rattle.wsm_slots.specs.Place.{coded_place}
use Rattle.wsm_slots.specs.Widths.{coded_widths}

-- panes by their places, for how many there is room, and how wide they are
pub record Table (P : Type 0) : Type 0 where
  pub panes : map.FinMap place_cmp P
  pub room : ℕ
  pub widths : Widths

abbrev pub coded_table : {P : Type 0} → Coded P → Coded (Table P)
coded_table {P = P} c =
    code_by (map.FinMap place_cmp P × (ℕ × Widths)) (coded× (map.code coded_place c) (coded× coded_ℕ coded_widths)) (λ t. (t.panes, (t.room, t.widths))) (λ p. record { panes = p.0; room = p.1.0; widths = p.1.1 }) (λ _. refl)
