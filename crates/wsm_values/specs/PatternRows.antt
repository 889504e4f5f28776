-- Patterns of `strptime`, computed.
use Rattle.std.specs.Prelude.{◌≡◌, true, false, codes, refl}
use Rattle.wsm_values.specs.Pattern.{is_pattern}

common : is_pattern (codes "%d/%b/%Y:%H:%M:%S %z") ≡ true
common = refl

with_a_fraction : is_pattern (codes "%Y-%m-%dT%H:%M:%S%.f%:z") ≡ true
with_a_fraction = refl

widths_and_flags : is_pattern (codes "%-d.%_m.%04Y %.3f %6N") ≡ true
widths_and_flags = refl

several : is_pattern (codes "%F %T") ≡ true
several = refl

a_percent_sign : is_pattern (codes "%d %% %H") ≡ true
a_percent_sign = refl

no_directive : is_pattern (codes "at noon") ≡ true
no_directive = refl

zone_by_its_name : is_pattern (codes "%F %T %Q") ≡ false
zone_by_its_name = refl

date_and_time : is_pattern (codes "%c") ≡ false
date_and_time = refl

not_of_strptime : is_pattern (codes "%L") ≡ false
not_of_strptime = refl

begun : is_pattern (codes "%F %") ≡ false
begun = refl

begun_width : is_pattern (codes "%F %3") ≡ false
begun_width = refl

wide : is_pattern (codes "%255d") ≡ true
wide = refl

too_wide : is_pattern (codes "%256d") ≡ false
too_wide = refl

four_colons : is_pattern (codes "%::::z") ≡ false
four_colons = refl

a_dot_of_another : is_pattern (codes "%.d") ≡ false
a_dot_of_another = refl
