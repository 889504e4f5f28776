use Rattle.std.proofs.Common.{◌≤◌, ◌++◌, drop, length, map, codes, ◌∷◌, [], List, ℕ, arith}
use Rattle.std.proofs.lemmas.Slice.{between_to_end}
use Rattle.std.specs.Fmt.{signed_decimal}
use Rattle.wsm_semantics.specs.Text.{kind_word}
use Rattle.wsm_csv.specs.Lines.{number_text}
use Rattle.wsm_csv.proofs.LineLemmas.{appended, line_from_end}
use Rattle.wsm_csv.proofs.short_line.add_short_line.Goals as goal

pub returns : goal.returns
returns c =
    let numbers = c.write_numbers-columns in
    let start = c.write-start in
    let key = c.write_text-key in
    let first = c.write_first-first in
    let front = codes "pane" ++ 44 ∷ kind_word c.args.kind ++ 44 ∷ [] in
    let window : List (List ℕ) = signed_decimal c.args.window.now.start ∷ signed_decimal c.args.window.now.end ∷ [] in
    let written = line_from_end front c.args.name.now window (map number_text c.args.numbers.now)
    (drop numbers.result numbers.new.cells) (drop start.result start.new.cells) (drop key.result key.new.cells) (drop first.result first.new.cells)
    numbers.ensures.written start.ensures.written key.ensures.written first.ensures.written in
    let long : length first.new.cells ≤ 172 = omega (arith, numbers.auto.cells, start.auto.cells, key.auto.cells, first.auto.cells) in
    appended c.extend_from_slice.result c.args.out.now.items c.extend_from_slice.new.self.items _ _ c.extend_from_slice.ensures.items (rw (between_to_end first.new.cells first.result 172 long) written)
