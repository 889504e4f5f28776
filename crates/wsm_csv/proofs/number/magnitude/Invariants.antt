use Rattle.std.proofs.Common.{◌≡◌, ◌<◌, ◌^◌, take, true}
use Rattle.std.specs.List.{list_all}
use Rattle.wsm_record.specs.Name.{is_digit}
use Rattle.wsm_csv.specs.Number.{digits_value}
use Rattle.wsm_csv.proofs.number.magnitude.Given as goal

-- what the digits so far stand for
abbrev pub invariant-loop-digit : goal.invariant-loop-digit
invariant-loop-digit l = record {
  digits : list_all is_digit (take l.digit-index l.digits) ≡ true;
  fits : l.value < 2 ^ 64;
  value : l.value ≡ digits_value (take l.digit-index l.digits);
}
