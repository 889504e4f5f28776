use Rattle.std.proofs.Common.{◌∷◌}
use Rattle.wsm_record.specs.Event.{Watermark}
use Rattle.wsm_semantics.proofs.KeptAlike.{follow_alike, thinned}
use Rattle.wsm_rules.proofs.Lawful.{lawful}
use Rattle.wsm_machine.specs.Meaning.{plan_of, query_of}
use Rattle.wsm_machine.proofs.QueryFolds.{plan_lawful, plan_runs}
use Rattle.wsm_machine.proofs.CountedSessions.{sessions_by_event}
use Rattle.wsm_engine.proofs.laws.kept_decides.Goals as goal

pub returns-clause-following : goal.returns-clause-following
returns-clause-following c p whole start records past other alike =
    follow_alike (plan_of p) (plan_lawful p) (query_of p) (plan_runs p) (lawful p whole).shape (sessions_by_event p whole) (lawful p whole).lateness.low start records past other alike

pub returns-clause-watermarks : goal.returns-clause-watermarks
returns-clause-watermarks c p whole past o r t u same =
    let q = query_of p in
    let v = Watermark o t in
    let w = Watermark r u in
    follow_alike (plan_of p) (plan_lawful p) q (plan_runs p) (lawful p whole).shape (sessions_by_event p whole) (lawful p whole).lateness.low q.clock.start q.clock.records (w ∷ v ∷ past) (w ∷ past)
    (thinned (plan_of p) q (lawful p whole).shape (sessions_by_event p whole) (lawful p whole).lateness.low past o r t u same)
