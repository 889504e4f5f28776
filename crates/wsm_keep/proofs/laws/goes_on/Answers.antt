use Rattle.std.proofs.Common.{◌≡◌, List, ◌∷◌, ◌++◌, map, sym, ap, subst, ◌∙◌, append-nil}
use Rattle.wsm_record.specs.Event.{Event}
use Rattle.wsm_semantics.specs.Query.{verdict_on}
use Rattle.wsm_semantics.specs.Relation.{turn_rows}
use Rattle.wsm_semantics.specs.Lines.{Row, events}
use Rattle.wsm_semantics.specs.FromWatermark.{begun_at, BothHaveRoom}
use Rattle.wsm_semantics.specs.FromKept.{FollowAlike}
use Rattle.wsm_semantics.specs.Needed.{needed, WritesAlike}
use Rattle.wsm_semantics.proofs.NeededEvents.{needed_follow, needed_writes}
use Rattle.wsm_keep.specs.Holds.{read}
use Rattle.wsm_keep.specs.Staying.{staying}
use Rattle.wsm_keep.proofs.StayingEvents.{staying_events}
use Rattle.wsm_keep.proofs.NextLines.{events-append, go_on}
use Rattle.wsm_keep.proofs.laws.goes_on.Goals as goal

pub returns-clause-needed : goal.returns-clause-needed
returns-clause-needed c q rows = staying_events read q rows

pub returns-clause-lines : goal.returns-clause-lines
returns-clause-lines c plan lawful q runs ok timely low records rows head none =
    let past : List Event = events (map read rows) in
    let some : List Row = map read (staying read q rows) ++ head in
    let is : needed q past ≡ events some =
    sym (events-append (map read (staying read q rows)) head ∙ ap (λ (es : List Event). events (map read (staying read q rows)) ++ es) none ∙ append-nil (events (map read (staying read q rows))) ∙ staying_events read q rows) in
    let follow : FollowAlike plan q q.clock.start records past (needed q past) =
    needed_follow plan lawful q runs ok timely low records past in
    let writes : WritesAlike q q.clock.start records past (needed q past) =
    needed_writes plan lawful q runs ok timely low records past in
    go_on q records (map read rows) some
    (λ es e room. subst (λ (other : List Event). BothHaveRoom q q.clock.start records (e ∷ es ++ past) (e ∷ es ++ other) → verdict_on (begun_at q.clock.start records q) (es ++ other) e ≡ verdict_on q (es ++ past) e) is (follow.verdict es e) room)
    (λ es e room. subst (λ (other : List Event). BothHaveRoom q q.clock.start records (e ∷ es ++ past) (e ∷ es ++ other) → turn_rows q (es ++ past) e ≡ turn_rows (begun_at q.clock.start records q) (es ++ other) e) is (writes es e) room)
