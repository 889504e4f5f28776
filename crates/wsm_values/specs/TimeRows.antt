-- Times with what they are in a clock's unit, computed. The seconds of the instants are those of Python's datetime.
use Rattle.std.specs.Prelude.{◌≡◌, pos, negsuc, Some, None, codes, refl}
use Rattle.wsm_values.specs.OnLiterals.{wsm_values_on_literals}
use Rattle.wsm_values.specs.declared.time.TimeForm.TheVariants.{Instant, Epoch, Fraction}
use Rattle.wsm_values.specs.declared.time.Unit.TheVariants.{Seconds, Milliseconds, Microseconds}
use Rattle.wsm_values.specs.Time.{time_of}

-- counts, in each unit
seconds : time_of (Epoch Seconds) Milliseconds (codes "1773255600") ≡ Some (pos 1773255600000)
unfolding wsm_values_on_literals
seconds = refl

milliseconds : time_of (Epoch Milliseconds) Seconds (codes "1773255600999") ≡ Some (pos 1773255600)
unfolding wsm_values_on_literals
milliseconds = refl

microseconds : time_of (Epoch Microseconds) Milliseconds (codes "1773255600123456") ≡ Some (pos 1773255600123)
unfolding wsm_values_on_literals
microseconds = refl

-- downward, before 1970 too
one_before_1970 : time_of (Epoch Milliseconds) Seconds (codes "-1") ≡ Some (negsuc 0)
unfolding wsm_values_on_literals
one_before_1970 = refl

a_second_before_1970 : time_of (Epoch Milliseconds) Seconds (codes "-1000") ≡ Some (negsuc 0)
unfolding wsm_values_on_literals
a_second_before_1970 = refl

more_than_a_second_before_1970 : time_of (Epoch Milliseconds) Seconds (codes "-1001") ≡ Some (negsuc 1)
unfolding wsm_values_on_literals
more_than_a_second_before_1970 = refl

-- what 64 bits don't hold in the clock's unit
too_late : time_of (Epoch Seconds) Microseconds (codes "9223372036855") ≡ None
unfolding wsm_values_on_literals
too_late = refl

latest : time_of (Epoch Seconds) Microseconds (codes "9223372036854") ≡ Some (pos 9223372036854000000)
unfolding wsm_values_on_literals
latest = refl

not_whole : time_of (Epoch Seconds) Seconds (codes "1773255600.5") ≡ None
unfolding wsm_values_on_literals
not_whole = refl

-- seconds with a fraction of one to nine digits, or none
fraction : time_of Fraction Milliseconds (codes "1773255600.123") ≡ Some (pos 1773255600123)
unfolding wsm_values_on_literals
fraction = refl

short_fraction : time_of Fraction Milliseconds (codes "1773255600.1") ≡ Some (pos 1773255600100)
unfolding wsm_values_on_literals
short_fraction = refl

seven_digits : time_of Fraction Microseconds (codes "1773255600.1234567") ≡ Some (pos 1773255600123456)
unfolding wsm_values_on_literals
seven_digits = refl

nine_of_a_fraction : time_of Fraction Microseconds (codes "1773255600.999999999") ≡ Some (pos 1773255600999999)
unfolding wsm_values_on_literals
nine_of_a_fraction = refl

ten_of_a_fraction : time_of Fraction Seconds (codes "1773255600.0000000000") ≡ None
unfolding wsm_values_on_literals
ten_of_a_fraction = refl

no_fraction : time_of Fraction Seconds (codes "1773255600") ≡ Some (pos 1773255600)
unfolding wsm_values_on_literals
no_fraction = refl

cut_off_fraction : time_of Fraction Seconds (codes "1773255600.") ≡ None
unfolding wsm_values_on_literals
cut_off_fraction = refl

two_points : time_of Fraction Seconds (codes "1773255600.1.2") ≡ None
unfolding wsm_values_on_literals
two_points = refl

only_a_fraction : time_of Fraction Seconds (codes ".5") ≡ None
unfolding wsm_values_on_literals
only_a_fraction = refl

a_sign_inside : time_of Fraction Seconds (codes "1773255600.-5") ≡ None
unfolding wsm_values_on_literals
a_sign_inside = refl

fraction_before_1970 : time_of Fraction Seconds (codes "-0.001") ≡ Some (negsuc 0)
unfolding wsm_values_on_literals
fraction_before_1970 = refl

a_nanosecond_before_1970 : time_of Fraction Microseconds (codes "-0.000000001") ≡ Some (negsuc 0)
unfolding wsm_values_on_literals
a_nanosecond_before_1970 = refl

fraction_too_late : time_of Fraction Microseconds (codes "9223372036854.775808") ≡ None
unfolding wsm_values_on_literals
fraction_too_late = refl

latest_fraction : time_of Fraction Microseconds (codes "9223372036854.775807999") ≡ Some (pos 9223372036854775807)
unfolding wsm_values_on_literals
latest_fraction = refl

earliest_fraction : time_of Fraction Microseconds (codes "-9223372036854.775808") ≡ Some (negsuc 9223372036854775807)
unfolding wsm_values_on_literals
earliest_fraction = refl

-- the examples of RFC 3339, section 5.8
with_a_fraction : time_of Instant Milliseconds (codes "1985-04-12T23:20:50.52Z") ≡ Some (pos 482196050520)
unfolding wsm_values_on_literals
with_a_fraction = refl

with_an_offset : time_of Instant Seconds (codes "1996-12-19T16:39:57-08:00") ≡ Some (pos 851042397)
unfolding wsm_values_on_literals
with_an_offset = refl

-- a leap second, with either offset: the second before it
leap_second : time_of Instant Seconds (codes "1990-12-31T23:59:60Z") ≡ Some (pos 662687999)
unfolding wsm_values_on_literals
leap_second = refl

leap_second_elsewhere : time_of Instant Seconds (codes "1990-12-31T15:59:60-08:00") ≡ Some (pos 662687999)
unfolding wsm_values_on_literals
leap_second_elsewhere = refl

-- before 1970 downward: 12:00:27.87 is behind :27
before_1970 : time_of Instant Seconds (codes "1937-01-01T12:00:27.87+00:20") ≡ Some (negsuc 1041337172)
unfolding wsm_values_on_literals
before_1970 = refl

-- further instants: small letters, a space, an offset of hours and minutes, the ends of the calendar
small_letters : time_of Instant Seconds (codes "2026-03-11t20:00:00z") ≡ Some (pos 1773259200)
unfolding wsm_values_on_literals
small_letters = refl

with_a_space : time_of Instant Seconds (codes "2026-03-11 20:00:00-11:30") ≡ Some (pos 1773300600)
unfolding wsm_values_on_literals
with_a_space = refl

unknown_offset : time_of Instant Seconds (codes "2026-03-11T20:00:00-00:00") ≡ Some (pos 1773259200)
unfolding wsm_values_on_literals
unknown_offset = refl

first_year : time_of Instant Seconds (codes "0001-01-01T00:00:00Z") ≡ Some (negsuc 62135596799)
unfolding wsm_values_on_literals
first_year = refl

last_second : time_of Instant Seconds (codes "9999-12-30T22:00:00Z") ≡ Some (pos 253402207200)
unfolding wsm_values_on_literals
last_second = refl

nine_digits : time_of Instant Microseconds (codes "1969-12-31T23:59:59.999999999Z") ≡ Some (negsuc 0)
unfolding wsm_values_on_literals
nine_digits = refl

-- what has the form, and is no time
no_such_day : time_of Instant Seconds (codes "2026-02-29T20:00:00Z") ≡ None
unfolding wsm_values_on_literals
no_such_day = refl

no_such_hour : time_of Instant Seconds (codes "2026-03-11T24:00:00Z") ≡ None
unfolding wsm_values_on_literals
no_such_hour = refl

no_such_second : time_of Instant Seconds (codes "2026-03-11T20:00:61Z") ≡ None
unfolding wsm_values_on_literals
no_such_second = refl

no_such_minute_of_an_offset : time_of Instant Seconds (codes "2026-03-11T20:00:00+02:60") ≡ None
unfolding wsm_values_on_literals
no_such_minute_of_an_offset = refl

ten_digits : time_of Instant Seconds (codes "2026-03-11T20:00:00.0123456789Z") ≡ None
unfolding wsm_values_on_literals
ten_digits = refl

-- what the library reads, and RFC 3339 hasn't
offset_cut_off : time_of Instant Seconds (codes "2026-03-11T20:00:00-11") ≡ None
unfolding wsm_values_on_literals
offset_cut_off = refl
