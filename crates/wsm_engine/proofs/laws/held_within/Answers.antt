use Rattle.std.proofs.Common.{◌≤◌, length, arith}
use Rattle.wsm_semantics.specs.Panes.{held}
use Rattle.wsm_semantics.specs.HeldBounds.{most_panes}
use Rattle.wsm_semantics.proofs.HeldBound.{held_bounded}
use Rattle.wsm_rules.proofs.Lawful.{lawful}
use Rattle.wsm_machine.specs.Meaning.{query_of}
use Rattle.wsm_machine.proofs.CountedSessions.{sessions_by_event}
use Rattle.wsm_engine.proofs.Limits.{clock_within, panes_stated}
use Rattle.wsm_engine.proofs.laws.held_within.Goals as goal

pub returns : goal.returns
returns c p costs judged whole past =
    let few : length (held (query_of p) past) ≤ most_panes (query_of p) = held_bounded (query_of p) (lawful p whole).shape (sessions_by_event p whole) (clock_within p whole) past in
    let most : most_panes (query_of p) ≤ p.header.budget.held = panes_stated p costs judged in
    omega (arith, few, most)
