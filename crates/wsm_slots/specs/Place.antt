-- The places of panes, in order.
use Rattle.std.specs.Prelude.{ℕ, ℤ, Bool, int_lt, refl}
use Rattle.std.specs.Coded.{Coded, code_by, coded×, coded_ℕ, coded_ℤ}
use Rattle.wsm_windows.specs.declared.place.Place.{Place}

-- the end is past the limit
abbrev pub is_kept : ℤ → Place → Bool
is_kept limit place = int_lt limit place.end

-- a place as three numbers
abbrev pub coded_place : Coded Place
coded_place = code_by (ℤ × (ℤ × ℕ)) (coded× coded_ℤ (coded× coded_ℤ coded_ℕ)) (λ p. (p.end, (p.start, p.key))) (λ t. record { end = t.0; start = t.1.0; key = t.1.1 }) (λ _. refl)
