-- What an answer unfolds to compute this crate's readers on a literal.
use Rattle.std.specs.Prelude.{⊤}
use Rattle.jiff_core.specs.Calendar.{days_from_civil, day_count, days_of_years, days_of_months}
use Rattle.jiff_fmt.proofs.OnLiterals.{jiff_fmt_on_literals}
use Rattle.jiff_strtime.proofs.OnLiterals.{jiff_strtime_on_literals}
use Rattle.wsm_values.specs.Decimal.{decimal_of}
use Rattle.wsm_values.specs.Fraction.{seconds_of}
use Rattle.wsm_values.specs.Time.{time_of}
use Rattle.wsm_values.specs.Zone.{offset_in}

unfoldable pub wsm_values_on_literals : ⊤
unfolding decimal_of seconds_of time_of offset_in jiff_fmt_on_literals jiff_strtime_on_literals days_from_civil day_count days_of_years days_of_months
wsm_values_on_literals = tt
