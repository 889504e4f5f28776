use Rattle.std.proofs.Common.{List, Option, ℕ}
use Rattle.std.proofs.lemmas.Result.{err_from_is_err_and}
use Rattle.wsm_csv.proofs.Written.{Keeps-Appends, TakesPart-all}
use Rattle.wsm_deal.specs.PartText.{part_text}
use Rattle.wsm_deal.specs.Parts.{Has}
use Rattle.wsm_deal.proofs.Outcomes.{on_err, on_ok}
use Rattle.wsm_deal.proofs.PartTexts.{Has-all}
use Rattle.wsm_deal.proofs.part.Part.finish.Goals as goal

pub returns-in_err-hand_on-clause-gives : goal.returns-in_err-hand_on-clause-gives
returns-in_err-hand_on-clause-gives g c =
    let e = err_from_is_err_and c.from_residual.result c.from_residual.ensures.1 in
    let broken = c.in_err-hand_on.ensures.gives in
    rw (e.1, e.2) (record { gives = λ before rows has. tt; part = broken.part; works = tt; fails = broken.fails })

pub returns-clause-gives : goal.returns-clause-gives
returns-clause-gives g c =
    let new = g.D.Device.taken c.flush.new.self in
    let all = λ (before : Option (List ℕ)) (rows : List (List (List ℕ))) (has : Has g.D.Device.taken before rows c.args.self.now).
    let whole = Has-all g.D.Device.taken before rows c.hand_on.new.self (c.in_ok-hand_on.ensures.gives.gives before rows has) c.in_ok-hand_on.ensures.empty in
    Keeps-Appends before (g.D.Device.taken c.hand_on.new.self.out) new (part_text rows) whole c.flush.ensures.kept in
    record {
      gives = λ before rows has. on_ok c.flush.result (all before rows has);
      part = λ before rows has. on_err c.flush.result (TakesPart-all before new (part_text rows) (all before rows has));
      works = c.flush.ensures.works;
      fails = c.flush.ensures.fails;
    }
