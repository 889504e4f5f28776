-- Rules of clocks, worked out by hand.
use Rattle.std.specs.Prelude.{◌≡◌, Some, None, refl}
use Rattle.wsm_turns.specs.Clocks.{rule_by}

two_of_three : rule_by 2 60 10 1000 7 ≡ Some (record { agree = 2; bound = 60; step = 10; forget = 1000; start = 7 })
two_of_three = refl

none_agrees : rule_by 0 60 10 1000 7 ≡ None
none_agrees = refl

too_many_agree : rule_by 1001 60 10 1000 7 ≡ None
too_many_agree = refl

no_step : rule_by 2 60 0 1000 7 ≡ None
no_step = refl
