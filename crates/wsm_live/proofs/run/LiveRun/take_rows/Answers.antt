use Rattle.std.proofs.Common.{◌≡◌, ◌∙◌, [], ◌∷◌, take, drop, ap, refl}
use Rattle.wsm_log.specs.LinesOf.{kept}
use Rattle.wsm_live.specs.Kept.{read_lines}
use Rattle.wsm_live.proofs.RunLemmas.{TakenTo-all, TakenTo-more, TakenTo-none, first_row, no_row}
use Rattle.wsm_live.proofs.run.LiveRun.take_rows.Goals as goal

pub loop-end-init : goal.loop-end-init
loop-end-init g c =
    let old = c.args.self.now in
    record { taken = TakenTo-none g.T.LineTaker.turn g.T.LineTaker.stands (read_lines old.longest c.args.rows.now) old old.told.items; longest = refl }

pub returns-clause-takes : goal.returns-clause-takes
returns-clause-takes g c =
    let old = c.args.self.now in
    let new = c.loop-end.self in
    let rest = c.loop-end.rest.now in
    TakenTo-all g.T.LineTaker.turn g.T.LineTaker.stands (read_lines old.longest c.args.rows.now) (read_lines old.longest rest) old new old.told.items new.told.items c.loop-end.invariant.taken (no_row old.longest rest c.in_default.ensures)

pub loop-end-preserved : goal.loop-end-preserved
loop-end-preserved g c =
    let old = c.args.self.now in
    let mid = c.loop-end.self in
    let new = c.take_line.new.self in
    let rest = c.loop-end.rest.now in
    let line = c.kept_part.result.now in
    let behind = c.behind_line-rest.result.now in
    let is : line ≡ kept old.longest (drop 1 (take c.in-Some.end rest)) =
    c.kept_part.ensures ∙ ap (λ n. kept n c.line_of.result.now) c.loop-end.invariant.longest ∙ ap (kept old.longest) (c.line_of.ensures ∙ ap (drop 1) c.in_front.ensures) in
    record {
      taken = TakenTo-more g.T.LineTaker.turn g.T.LineTaker.stands (read_lines old.longest c.args.rows.now) (read_lines old.longest rest) (line ∷ []) (read_lines old.longest behind) old mid new old.told.items mid.told.items new.told.items
          c.loop-end.invariant.taken (first_row old.longest rest c.in-Some.end line behind c.in-Some.ensures.1 is c.behind_line-rest.ensures) c.in_ok-take_line.ensures.takes;
      longest = c.take_line.ensures.longest ∙ c.loop-end.invariant.longest;
    }
