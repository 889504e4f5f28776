use Rattle.std.proofs.Common.{◌<◌, ◌≤◌, length, sym, arith, []}
use Rattle.std.proofs.lemmas.List.{get_or-map, get_or_past, length-map}
use Rattle.wsm_parts.specs.Seen.{access_seen}
use Rattle.wsm_parts.proofs.access.Access.at.Goals as goal

pub returns-then-place-lt-ACCESS_CELLS : goal.returns-then-place-lt-ACCESS_CELLS
returns-then-place-lt-ACCESS_CELLS c =
    let inside : c.args.place < length c.args.self.now.cells = omega arith in
    sym (get_or-map (λ s. s.now) c.args.self.now.cells c.args.place _ [] inside)

pub returns-else-place-lt-ACCESS_CELLS : goal.returns-else-place-lt-ACCESS_CELLS
returns-else-place-lt-ACCESS_CELLS c =
    let past : length (access_seen c.args.self.now) ≤ c.args.place = omega (arith, length-map c.args.self.now.cells (λ s. s.now)) in
    sym (get_or_past (access_seen c.args.self.now) c.args.place [] past)
