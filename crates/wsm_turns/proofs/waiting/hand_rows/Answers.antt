use Rattle.std.proofs.Common.{List, [], ◌∷◌, map, sym, subst, take}
use Rattle.std.proofs.lemmas.List.{take_all}
use Rattle.wsm_watermarks.specs.declared.held.Timed.{Timed}
use Rattle.wsm_turns.specs.Numbered.{Numbered}
use Rattle.wsm_turns.proofs.Going.{one_more}
use Rattle.wsm_turns.proofs.waiting.hand_rows.Goals as goal

pub loop-row-init : goal.loop-row-init
loop-row-init g c = g.met.T.Taker.none c.args.taker.now

pub loop-row-preserved : goal.loop-row-preserved
loop-row-preserved g c =
    let so_far = map (λ r. r.row) (take c.loop-row.row-index c.args.rows.now) in
    subst (g.T.Taker.took c.args.taker.now c.hand.new.taker) (sym (one_more c.args.rows.now c.loop-row.row-index c.row-item.result c.loop-row-test.true c.row-item.is))
    (g.met.T.Taker.join c.args.taker.now c.loop-row.taker c.hand.new.taker so_far (c.row-item.result.row ∷ []) c.loop-row.invariant c.in_ok-hand.ensures)

pub returns : goal.returns
returns g c =
    subst (λ (rs : List (Timed Numbered)). g.T.Taker.took c.args.taker.now c.loop-row.taker (map (λ r. r.row) rs)) (take_all c.loop-row.row-index c.args.rows.now c.loop-row-test.false) c.loop-row.invariant
