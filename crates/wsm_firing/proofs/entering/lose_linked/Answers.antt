use Rattle.std.proofs.Common.{pos, [], sym, ◌∙◌, SFits, w64, to_z-of_z, arith, subst}
use Rattle.wsm_semantics.specs.Replay.{datum}
use Rattle.wsm_panes.specs.Held.{entries_of}
use Rattle.wsm_firing.specs.Streams.{IsTold, rows_and, rows_with, standing_rows}
use Rattle.wsm_firing.proofs.StreamRows.{Rows, told_same}
use Rattle.wsm_firing.proofs.RowsAfterRecord.{ArePair, pair_is, rows_alone}
use Rattle.wsm_firing.proofs.entering.lose_linked.Goals as goal

pub lose_pair-requires : goal.lose_pair-requires
lose_pair-requires c =
    let es = entries_of c.args.held.now in let d = datum 0 (pos 0) c.args.key c.args.time [] in let sh = c.args.held.now.shape in let s = c.args.streams.now in let can = c.requires.tells in
    let v = c.in-Some.pair.0 in let w = c.in-Some.pair.1 in
    let time : SFits w64 c.args.time = c.ranges.time in
    let pair : ArePair sh d es v w = pair_is sh d es v w (simp to_z-of_z at c.joined.ensures.few) (sym (simp to_z-of_z at c.joined.ensures.pair) ∙ c.in-Some.is) in
    record {
      before = can.before;
      rest = rows_with sh d es;
      told = told_same s.form s.numbers can.before (standing_rows es) (rows_and v w (rows_with sh d es)) pair.counts can.told;
      within = record { few_before = can.few_before; few_now = omega (arith, pair.few, can.few) };
    }

pub returns-in-Some-clause-told : goal.returns-in-Some-clause-told
returns-in-Some-clause-told c = λ relation told.
    let es = entries_of c.args.held.now in let d = datum 0 (pos 0) c.args.key c.args.time [] in let sh = c.args.held.now.shape in let s = c.args.streams.now in
    let v = c.in-Some.pair.0 in let w = c.in-Some.pair.1 in
    let time : SFits w64 c.args.time = c.ranges.time in
    let pair : ArePair sh d es v w = pair_is sh d es v w (simp to_z-of_z at c.joined.ensures.few) (sym (simp to_z-of_z at c.joined.ensures.pair) ∙ c.in-Some.is) in
    c.lose_pair.ensures.told relation (rows_with sh d es) (told_same s.form s.numbers relation (standing_rows es) (rows_and v w (rows_with sh d es)) pair.counts told)

pub returns-in_default-clause-told : goal.returns-in_default-clause-told
returns-in_default-clause-told c = λ relation told.
    let es = entries_of c.args.held.now in let d = datum 0 (pos 0) c.args.key c.args.time [] in let sh = c.args.held.now.shape in
    let time : SFits w64 c.args.time = c.ranges.time in
    subst (λ (rs : Rows). IsTold c.args.streams.now relation rs) (sym (rows_alone sh d es (sym (simp to_z-of_z at c.joined.ensures.pair) ∙ c.in_default.is))) told
