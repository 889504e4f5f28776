-- How wide panes are, as numbers.
use Rattle.std.specs.Prelude.{ℕ, Bool, refl}
use Rattle.std.specs.Coded.{Coded, code_by, coded×, coded_bool, coded_ℕ}
use Rattle.wsm_slots.specs.declared.widths.Widths.{Widths}

abbrev pub coded_widths : Coded Widths
coded_widths = code_by (ℕ × (ℕ × Bool)) (coded× coded_ℕ (coded× coded_ℕ coded_bool)) (λ w. (w.accumulators, (w.columns, w.windows))) (λ t. record { accumulators = t.0; columns = t.1.0; windows = t.1.1 }) (λ _. refl)
