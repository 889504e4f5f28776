use Rattle.std.proofs.Common.{◌≡◌, ◌+◌, ◌-◌, ◌<◌, length, arith, refl, to_z-of_z}
use Rattle.std.proofs.lemmas.List.{drop-set}
use Rattle.wsm_csv.proofs.from_end.write_cell.Goals as goal

pub bounds-cells-start : goal.bounds-cells-start
bounds-cells-start c = omega (arith, c.requires.within, c.requires.room, c.write_number-start.ensures.start, c.write_number-start.auto.cells, c.write_number-start.ensures.begins)

pub returns-clause-written : goal.returns-clause-written
returns-clause-written c =
    let w = c.write_number-start in
    let e : w.result - 1 + 1 ≡ w.result = omega (arith, c.requires.room, w.ensures.start) in
    let within : w.result - 1 < length w.new.cells = omega (arith, c.requires.within, w.auto.cells, w.ensures.start, w.ensures.begins) in
    let back = to_z-of_z c.ranges.number in
    rw (drop-set w.new.cells (w.result - 1) 44 within, e, w.ensures.written, back) refl
