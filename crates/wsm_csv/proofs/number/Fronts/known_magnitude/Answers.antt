use Rattle.std.proofs.Common.{rules, ◌≡◌, ◌<◌, ◌-◌, ◌∷◌, [], Some, IfSome, length, take, drop, arith}
use Rattle.std.specs.List.{slice_index}
use Rattle.wsm_csv.specs.Number.{AreDigitsOf}
use Rattle.wsm_csv.proofs.NumberLemmas.{below-longer, magnitude-joined}
use Rattle.wsm_csv.proofs.WordLemmas.{first_eight}
use Rattle.wsm_csv.proofs.number.Fronts.known_magnitude.Goals as goal

pub magnitude_from-requires-clause-front : goal.magnitude_from-requires-clause-front
magnitude_from-requires-clause-front c =
    let read : c.known.result ≡ Some c.in_ok-front-in-len8-up.front = search rules in
    let few : length (take (length c.args.cell.now - 8) (drop 8 c.args.cell.now)) < 11 = search rules in
    below-longer c.in_ok-front-in-len8-up.front 8 _ (rw read at c.known.ensures.below) (omega (arith, few))

pub returns-in_ok-front-in-len8-up-clause-value : goal.returns-in_ok-front-in-len8-up-clause-value
returns-in_ok-front-in-len8-up-clause-value c =
    let xs = c.args.cell.now in
    let read : c.known.result ≡ Some c.in_ok-front-in-len8-up.front = search rules in
    let eight = slice_index xs 0 ∷ slice_index xs 1 ∷ slice_index xs 2 ∷ slice_index xs 3 ∷ slice_index xs 4 ∷ slice_index xs 5 ∷ slice_index xs 6 ∷ slice_index xs 7 ∷ [] in
    let value : IfSome c.known.result (λ n. AreDigitsOf eight n) = c.known.ensures.value in
    rw (first_eight xs c.in-len8-up.len_at_least) (magnitude-joined eight (take (length xs - 8) (drop 8 xs)) c.in_ok-front-in-len8-up.front c.magnitude_from.result (omega arith) (rw read at value) c.magnitude_from.ensures.value c.magnitude_from.ensures.below)
