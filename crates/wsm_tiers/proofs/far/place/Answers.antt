use Rattle.std.proofs.Common.{◌≡◌, ◌-◌, ◌∷◌, ◌++◌, deque_len, drop, length, take, arith, refl}
use Rattle.std.proofs.lemmas.List.{drop_at, take_at, length-drop}
use Rattle.wsm_tiers.proofs.Filled.{len_of}
use Rattle.wsm_tiers.proofs.far.place.Goals as goal

pub returns-clause-items : goal.returns-clause-items
returns-clause-items g c =
    let old = c.args.tier.now.items in
    let at = c.args.at in
    let turned = c.args.value ∷ drop at old in
    let count = deque_len c.push_front_reserved.new.self - at in
    let long : length turned ≡ count = omega (arith, length-drop at old, len_of c.args.tier.now, c.requires.at, c.rotate_left.ensures.len, c.push_front_reserved.ensures.len) in
    let items : c.push_front_reserved.new.self.items ≡ turned ++ take at old = rw c.push_front_reserved.ensures.items (rw c.rotate_left.ensures.items refl) in
    rw c.rotate_right.ensures.items (rw items (rw (drop_at turned (take at old) count long) (rw (take_at turned (take at old) count long) refl)))
