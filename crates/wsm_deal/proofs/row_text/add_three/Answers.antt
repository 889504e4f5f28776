use Rattle.std.proofs.Common.{◌∙◌, ◌++◌, ◌∷◌, [], List, ℕ, ap, arith, drop, length, sym}
use Rattle.std.proofs.lemmas.List.{take-append-drop}
use Rattle.csv.specs.Records.{fields_of}
use Rattle.wsm_deal.proofs.RowTexts.{first_behind, next_behind, start_kept}
use Rattle.wsm_deal.proofs.row_text.add_three.Goals as goal

pub returns-clause-adds : goal.returns-clause-adds
returns-clause-adds c =
    let f = fields_of c.args.row.now in
    let start = c.args.out.now.items in
    let mid = c.add_short.new.out.items in
    let one = first_behind f c.args.tag start c.push_two.new.out.items (omega (arith, c.requires.cells)) c.requires.tag c.push_two.ensures.items in
    let two =
    next_behind f 1 44 start c.push_two.new.out.items mid c.cell_at.result.now (omega arith) (omega (arith, c.requires.cells)) c.cell_at.ensures one
    (c.add_short.ensures.adds.all c.if-not-add_short.false) in
    let kept = start_kept start c.push_two.new.out.items mid (c.args.tag ∷ 44 ∷ []) c.push_two.ensures.items c.add_short.ensures.adds.kept in
    let longer = sym (take-append-drop (length start) mid) ∙ ap (λ (t : List ℕ). t ++ drop (length start) mid) kept in
    record {
      all = λ whole. next_behind f 2 44 start mid c.add_short-2.new.out.items c.cell_at-2.result.now (omega arith) (omega (arith, c.requires.cells)) c.cell_at-2.ensures two (c.add_short-2.ensures.adds.all whole);
      kept = start_kept start mid c.add_short-2.new.out.items (drop (length start) mid) longer c.add_short-2.ensures.adds.kept;
    }
