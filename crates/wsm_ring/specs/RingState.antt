-- A ring of panes, as a clause sees it.
use Rattle.std.specs.Prelude.{◌≡◌, ℕ, ℤ, refl}
use Rattle.std.specs.FinMap as map
use Rattle.std.specs.Coded.{Coded, code_by, coded×, coded_ℕ, coded_ℤ}
use Rattle.wsm_windows.specs.Places.{place_cmp}
use Rattle.wsm_ring.specs.declared.ring.Ring.{Ring}
use Rattle.wsm_slots.specs.declared.widths.Widths.{Widths}
use Rattle.wsm_slots.specs.Place.{coded_place}
use Rattle.wsm_slots.specs.Widths.{coded_widths}

-- panes by their places, the ring that they are kept in, and how wide they are
pub record RingState (P : Type 0) : Type 0 where
  pub panes : map.FinMap place_cmp P
  pub ring : Ring
  pub widths : Widths

-- the ring stays, and how wide panes are
pub record IsAsLarge {P : Type 0} (old new : RingState P) : Type 0 where
  pub ring : new.ring ≡ old.ring
  pub widths : new.widths ≡ old.widths

abbrev pub coded_ring : Coded Ring
coded_ring = code_by (ℤ × (ℤ × (ℕ × ℕ))) (coded× coded_ℤ (coded× coded_ℤ (coded× coded_ℕ coded_ℕ))) (λ r. (r.size, (r.period, (r.keys, r.bound)))) (λ t. record { size = t.0; period = t.1.0; keys = t.1.1.0; bound = t.1.1.1 }) (λ _. refl)

abbrev pub coded_ring_state : {P : Type 0} → Coded P → Coded (RingState P)
coded_ring_state {P = P} c =
    code_by (map.FinMap place_cmp P × (Ring × Widths)) (coded× (map.code coded_place c) (coded× coded_ring coded_widths)) (λ t. (t.panes, (t.ring, t.widths))) (λ p. record { panes = p.0; ring = p.1.0; widths = p.1.1 }) (λ _. refl)
