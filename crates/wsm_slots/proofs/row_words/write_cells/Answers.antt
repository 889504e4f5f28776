use Rattle.std.proofs.Common.{◌≡◌, ◌<◌, ◌≤◌, ◌+◌, ◌-◌, ◌*◌, ◌^◌, ℕ, suc, ℤ, List, ◌∷◌, length, drop, set, get_or, rules, arith, ap, sym, ◌∙◌, w64, SFits, pos, length-set, to_z-of_z, drop-cons}
use Rattle.std.proofs.Math.Nat.{pow-le-pow_right, pow-suc}
use Rattle.std.proofs.lemmas.List.{drop-set}
use Rattle.std.proofs.lemmas.Nat.{div-mul-add, mod-mul-add}
use Rattle.wsm_record.specs.declared.cell.Cell.{Cell}
use Rattle.wsm_record.specs.declared.cell.Cell.TheVariants as cells
use Rattle.wsm_slots.specs.RowWords.{cell_by, cells_by, kind_of}
use Rattle.wsm_slots.proofs.row_words.write_cells.Goals as goal

kind_below : (cell : Cell) → kind_of cell < 3
kind_below (cells.Int n) = omega arith
kind_below (cells.Bool b) = omega arith
kind_below (cells.Enum e i) = omega arith

-- as many digits of base 4 as a row has cells are below 2 ^ 32
below : (digits : ℕ) → digits < 16 → 4 ^ digits ≤ 1073741824
below digits h = let few : digits ≤ 15 = omega (arith, h) in pow-le-pow_right {n = 4} (omega arith) few

-- one digit more
more : (kinds kind n digits : ℕ) → kinds < 4 ^ n → kind < 4 → digits ≡ suc n → kinds * 4 + kind < 4 ^ digits
more kinds kind n digits p q r = rw r (let power : 4 ^ suc n ≡ 4 ^ n * 4 = pow-suc 4 n in omega (arith, p, q, power))

-- one cell more
next : (kinds kind i : ℕ) (word : ℤ) (words : List ℤ) → kind < 4 → i < length words → cells_by (kinds * 4 + kind) (drop i (set words i word)) ≡ cell_by kind word ∷ cells_by kinds (drop (i + 1) words)
next kinds kind i word words h p =
    ap (cells_by (kinds * 4 + kind)) (drop-set words i word p) ∙ (λ k. cell_by (mod-mul-add kinds 4 kind h k) word ∷ cells_by (div-mul-add kinds 4 kind h k) (drop (i + 1) words))

pub overflow_mul-kinds : goal.overflow_mul-kinds
overflow_mul-kinds c =
    let small = below (length c.args.cells.now - c.loop-place.place) (omega (arith, c.requires.few, c.loop-place-test.true)) in
    omega (arith, small, c.loop-place.invariant.digits)

pub overflow_add-kinds : goal.overflow_add-kinds
overflow_add-kinds c =
    let small = below (length c.args.cells.now - c.loop-place.place) (omega (arith, c.requires.few, c.loop-place-test.true)) in
    omega (arith, small, c.loop-place.invariant.digits, c.kind_of.ensures, kind_below (get_or c.args.cells.now (c.loop-place.place - 1) (cells.Int (pos 0))))

pub loop-place-preserved : goal.loop-place-preserved
loop-place-preserved c =
    let i = c.loop-place.place - 1 in
    let cell = get_or c.args.cells.now i (cells.Int (pos 0)) in
    let word : SFits w64 c.word_of.result = search rules in
    let kind : c.kind_of.result < 4 = omega (arith, c.kind_of.ensures, kind_below cell) in
    let within : i < length c.loop-place.words = omega (arith, c.loop-place.invariant.long, c.loop-place-test.true, c.loop-place.auto.place) in
    let place : i + 1 ≡ c.loop-place.place = omega (arith, c.loop-place-test.true) in
    let from : suc i ≡ c.loop-place.place = omega (arith, c.loop-place-test.true) in
    record {
      long = length-set c.loop-place.words i _ ∙ c.loop-place.invariant.long;
      digits = more c.loop-place.kinds c.kind_of.result (length c.args.cells.now - c.loop-place.place) _ c.loop-place.invariant.digits kind (omega (arith, c.loop-place-test.true, c.loop-place.auto.place));
      cells =
          rw to_z-of_z
          (next c.loop-place.kinds c.kind_of.result i c.word_of.result c.loop-place.words kind within
          ∙ (λ k. cell_by (c.kind_of.ensures k) c.word_of.result ∷ cells_by c.loop-place.kinds (drop (place k) c.loop-place.words))
          ∙ (λ k. c.word_of.ensures k ∷ c.loop-place.invariant.cells k)
          ∙ sym (drop-cons c.args.cells.now i (cells.Int (pos 0)) (omega (arith, within, c.loop-place.invariant.long)) ∙ ap (λ n. cell ∷ drop n c.args.cells.now) from));
    }
