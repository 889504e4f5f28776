use Rattle.std.proofs.Common.{◌≡◌, ◌+◌, ◌-◌, ◌*◌, ◌<◌, ◌^◌, length, take, true}
use Rattle.std.specs.List.{list_all}
use Rattle.wsm_record.specs.Name.{is_digit}
use Rattle.wsm_csv.specs.Number.{digits_value}
use Rattle.wsm_csv.proofs.number.magnitude_from.Given as goal

-- what the digits so far stand for behind the number, which leaves room for those to come
abbrev pub invariant-loop-byte : goal.invariant-loop-byte
invariant-loop-byte l = record {
  digits : list_all is_digit (take l.byte-index l.digits) ≡ true;
  below : l.value < 10 ^ (18 - length l.digits + l.byte-index);
  value : l.value ≡ l.front * 10 ^ l.byte-index + digits_value (take l.byte-index l.digits);
}
