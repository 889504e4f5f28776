use Rattle.std.proofs.Common.{◌-◌, length}
use Rattle.wsm_csv.proofs.NumberLemmas.{pow_ten_pos}
use Rattle.wsm_csv.proofs.number.short_magnitude.Goals as goal

pub magnitude_from-requires-clause-front : goal.magnitude_from-requires-clause-front
magnitude_from-requires-clause-front c = pow_ten_pos (18 - length c.args.digits.now)
