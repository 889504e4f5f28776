-- Local times with their instants, computed: Berlin in 2026, where the night of 29 March lacks an hour and that of 25 October
-- has one twice. The seconds are those of Python's zoneinfo.
use Rattle.std.specs.Prelude.{◌≡◌, ℕ, ℤ, pos, ◌*ℤ◌, List, int_lt, if◌then◌else◌, Option, Some, None, codes, refl}
use Rattle.wsm_values.specs.OnLiterals.{wsm_values_on_literals}
use Rattle.wsm_values.specs.declared.clock.Fold.{Fold}
use Rattle.wsm_values.specs.declared.clock.Fold.TheVariants.{Refused, First, Second}
use Rattle.wsm_values.specs.Clock.{Clock}
use Rattle.wsm_values.specs.Local.{pattern_instant}

-- an hour ahead of UTC; two from 1:00 UTC on 29 March to 1:00 UTC on 25 October
abbrev berlin : Clock
berlin n =
    if int_lt n (pos 1774746000000000000) then pos 3600
    else (if int_lt n (pos 1792890000000000000) then pos 7200 else pos 3600)

abbrev utc : Clock
utc n = pos 0

-- the instant of a day and a time in Berlin
abbrev there : Fold → List ℕ → Option ℤ
there fold text = pattern_instant berlin fold (codes "%Y-%m-%d %H:%M") text

abbrev seconds : ℤ → Option ℤ
seconds n = Some (n *ℤ pos 1000000000)

winter : there Refused (codes "2026-03-11 20:00") ≡ seconds (pos 1773255600)
unfolding wsm_values_on_literals
winter = refl

before_the_gap : there Refused (codes "2026-03-29 01:59") ≡ seconds (pos 1774745940)
unfolding wsm_values_on_literals
before_the_gap = refl

in_the_gap : there Refused (codes "2026-03-29 02:30") ≡ None
unfolding wsm_values_on_literals
in_the_gap = refl

first_in_the_gap : there First (codes "2026-03-29 02:30") ≡ None
unfolding wsm_values_on_literals
first_in_the_gap = refl

behind_the_gap : there Refused (codes "2026-03-29 03:00") ≡ seconds (pos 1774746000)
unfolding wsm_values_on_literals
behind_the_gap = refl

summer : there Refused (codes "2026-07-01 12:00") ≡ seconds (pos 1782900000)
unfolding wsm_values_on_literals
summer = refl

before_the_fold : there Refused (codes "2026-10-25 01:59") ≡ seconds (pos 1792886340)
unfolding wsm_values_on_literals
before_the_fold = refl

in_the_fold : there Refused (codes "2026-10-25 02:30") ≡ None
unfolding wsm_values_on_literals
in_the_fold = refl

first_in_the_fold : there First (codes "2026-10-25 02:30") ≡ seconds (pos 1792888200)
unfolding wsm_values_on_literals
first_in_the_fold = refl

second_in_the_fold : there Second (codes "2026-10-25 02:30") ≡ seconds (pos 1792891800)
unfolding wsm_values_on_literals
second_in_the_fold = refl

behind_the_fold : there Refused (codes "2026-10-25 03:00") ≡ seconds (pos 1792893600)
unfolding wsm_values_on_literals
behind_the_fold = refl

-- an offset in the text is the one that counts
by_its_offset : pattern_instant berlin Refused (codes "%d/%b/%Y:%H:%M:%S %z") (codes "11/Mar/2026:20:00:00 -1130") ≡ seconds (pos 1773300600)
unfolding wsm_values_on_literals
by_its_offset = refl

by_an_offset_cut_off : pattern_instant berlin Refused (codes "%d/%b/%Y:%H:%M:%S %z") (codes "11/Mar/2026:20:00:00 -11") ≡ None
unfolding wsm_values_on_literals
by_an_offset_cut_off = refl

in_the_evening : pattern_instant utc Refused (codes "%m/%d/%Y %I:%M %p") (codes "03/11/2026 08:00 PM") ≡ seconds (pos 1773259200)
unfolding wsm_values_on_literals
in_the_evening = refl

in_the_morning : pattern_instant utc Refused (codes "%m/%d/%Y %I:%M %p") (codes "03/11/2026 12:00 AM") ≡ seconds (pos 1773187200)
unfolding wsm_values_on_literals
in_the_morning = refl

no_such_day : pattern_instant utc Refused (codes "%Y-%m-%d %H:%M") (codes "2026-02-29 20:00") ≡ None
unfolding wsm_values_on_literals
no_such_day = refl

no_hour : pattern_instant utc Refused (codes "%Y-%m-%d") (codes "2026-03-11") ≡ None
unfolding wsm_values_on_literals
no_hour = refl
