use Rattle.std.proofs.Common.{◌∙◌, ◌++◌, List, length, refl, sym, ap}
use Rattle.wsm_semantics.specs.Lines.{Line}
use Rattle.wsm_rules.proofs.Lawful.{lawful}
use Rattle.wsm_machine.specs.Meaning.{plan_of, query_of}
use Rattle.wsm_machine.proofs.QueryFolds.{plan_lawful, plan_runs}
use Rattle.wsm_machine.proofs.CountedSessions.{sessions_by_event}
use Rattle.wsm_turns.specs.Turns.{kept, setting_of}
use Rattle.wsm_head.specs.StandsFor.{records_left}
use Rattle.wsm_head.specs.Behind.{KeptFor, lines_written, needed_of}
use Rattle.wsm_head.proofs.NeededStand.{has_room, needed_stand}
use Rattle.wsm_head.proofs.Turning.{lines_alike, lines_all}
use Rattle.wsm_head.proofs.laws.writes_on.Goals as goal

pub returns-clause-on : goal.returns-clause-on
returns-clause-on g c = λ p whole records clocks before lines other alike.
    let q = query_of p in
    lines_all q clocks lines before
    ∙ ap (λ (ls : List Line). lines_written q clocks before ++ ls)
    (sym (lines_alike (plan_of p) (plan_lawful p) q (plan_runs p) (lawful p whole).shape (sessions_by_event p whole) (lawful p whole).lateness.low records clocks (kept (setting_of clocks q) before) other (length before) lines alike))

pub returns-clause-needed : goal.returns-clause-needed
returns-clause-needed g c = λ p whole clocks before lines few.
    let q = query_of p in
    let k = kept (setting_of clocks q) before in
    let alike : KeptFor (plan_of p) q (records_left q k.fed) k (needed_of q k) = record {
      others = refl;
      stands = needed_stand (plan_of p) (plan_lawful p) q (plan_runs p) (lawful p whole).shape (sessions_by_event p whole) (lawful p whole).lateness.low k.fed (has_room q k.fed few);
    } in
    lines_all q clocks lines before
    ∙ ap (λ (ls : List Line). lines_written q clocks before ++ ls)
    (sym (lines_alike (plan_of p) (plan_lawful p) q (plan_runs p) (lawful p whole).shape (sessions_by_event p whole) (lawful p whole).lateness.low (records_left q k.fed) clocks k (needed_of q k) (length before) lines alike))
