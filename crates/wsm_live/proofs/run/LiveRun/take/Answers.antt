use Rattle.std.proofs.Common.{◌∙◌, ◌++◌, List, ℕ, ap, refl, subst}
use Rattle.wsm_live.proofs.RunLemmas.{Took-from, Took-out}
use Rattle.wsm_live.specs.Kept.{read_lines}
use Rattle.wsm_live.specs.Live.{Took}
use Rattle.wsm_live.proofs.run.LiveRun.take.Goals as goal

pub returns-clause-takes : goal.returns-clause-takes
returns-clause-takes g c =
    let turn = g.T.LineTaker.turn in
    let stands = g.T.LineTaker.stands in
    let old = c.args.self.now in
    let mid = record old { told = c.clear.new.self } in
    let new = c.take_rows.new.self in
    let lines = read_lines old.longest c.args.rows.now in
    Took-from turn stands lines old mid new c.args.out.now.items c.extend_from_slice.new.self.items refl refl
    (Took-out turn stands lines mid new new.told.items c.args.out.now.items c.extend_from_slice.new.self.items
    (subst (λ (from : List ℕ). Took turn stands lines mid new from new.told.items) c.clear.ensures.items c.in_ok-take_rows.ensures.takes)
    (c.in_ok-extend_from_slice.ensures.items ∙ ap (λ (l : List ℕ). c.args.out.now.items ++ l) c.deref.ensures.value))
