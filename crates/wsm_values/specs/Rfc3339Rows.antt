-- Texts that have the form of RFC 3339, and texts that don't, computed.
use Rattle.std.specs.Prelude.{◌≡◌, [], true, false, codes, refl}
use Rattle.wsm_values.specs.Rfc3339.{is_rfc3339}

zulu : is_rfc3339 (codes "1985-04-12T23:20:50.52Z") ≡ true
zulu = refl

numeric : is_rfc3339 (codes "1996-12-19T16:39:57-08:00") ≡ true
numeric = refl

small : is_rfc3339 (codes "1990-12-31t23:59:60z") ≡ true
small = refl

spaced : is_rfc3339 (codes "1937-01-01 12:00:27.87+23:59") ≡ true
spaced = refl

-- an offset that was cut off
no_minutes : is_rfc3339 (codes "2026-03-11T20:00:00+02") ≡ false
no_minutes = refl

half_of_the_minutes : is_rfc3339 (codes "2026-03-11T20:00:00+02:0") ≡ false
half_of_the_minutes = refl

no_colon : is_rfc3339 (codes "2026-03-11T20:00:00+0200") ≡ false
no_colon = refl

no_offset : is_rfc3339 (codes "2026-03-11T20:00:00") ≡ false
no_offset = refl

seconds_of_an_offset : is_rfc3339 (codes "2026-03-11T20:00:00+02:00:30") ≡ false
seconds_of_an_offset = refl

hour_of_an_offset : is_rfc3339 (codes "2026-03-11T20:00:00+24:00") ≡ false
hour_of_an_offset = refl

no_seconds : is_rfc3339 (codes "2026-03-11T20:00Z") ≡ false
no_seconds = refl

basic_date : is_rfc3339 (codes "20260311T200000Z") ≡ false
basic_date = refl

date_alone : is_rfc3339 (codes "2026-03-11") ≡ false
date_alone = refl

year_of_six_digits : is_rfc3339 (codes "+002026-03-11T20:00:00Z") ≡ false
year_of_six_digits = refl

annotation : is_rfc3339 (codes "2026-03-11T20:00:00Z[Europe/Berlin]") ≡ false
annotation = refl

comma : is_rfc3339 (codes "2026-03-11T20:00:00,5Z") ≡ false
comma = refl

no_digit_of_a_fraction : is_rfc3339 (codes "2026-03-11T20:00:00.Z") ≡ false
no_digit_of_a_fraction = refl

two_spaces : is_rfc3339 (codes "2026-03-11  20:00:00Z") ≡ false
two_spaces = refl

something_behind : is_rfc3339 (codes "2026-03-11T20:00:00Z ") ≡ false
something_behind = refl

nothing : is_rfc3339 [] ≡ false
nothing = refl
