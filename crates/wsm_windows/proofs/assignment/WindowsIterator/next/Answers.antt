use Rattle.std.proofs.Common.{rules, arith, sym, ◌∙◌}
use Rattle.std.proofs.lemmas.Int.{ints}
use Rattle.wsm_windows.proofs.Laws.{next_left}
use Rattle.wsm_windows.proofs.assignment.WindowsIterator.next.Goals as goal

pub returns-clause-steps : goal.returns-clause-steps
returns-clause-steps c = sym c.self.view_is ∙ next_left c.self.inside.period c.self.inside.size c.self.inside.start c.self.inside.time _ _ _ c.self.invariant.period_low (omega (arith, ints)) (omega (arith, ints)) (omega (arith, ints)) (omega (arith, ints))

pub returns-clause-goes : goal.returns-clause-goes
returns-clause-goes c = let e = returns-clause-steps c in rw e (search rules)
