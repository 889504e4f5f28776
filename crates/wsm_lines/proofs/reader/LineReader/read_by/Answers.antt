use Rattle.wsm_lines.specs.Key.{declared_by}
use Rattle.wsm_lines.specs.Seen.{heading_seen}
use Rattle.wsm_lines.proofs.FaultLemmas.{events_as, faults_as, found_as, told_as}
use Rattle.wsm_lines.proofs.FirstLemmas.{clock_of-under, identifier_of-under, key_text_of-under, said_of-under}
use Rattle.wsm_lines.proofs.reader.LineReader.read_by.Goals as goal

pub returns-clause-event : goal.returns-clause-event
returns-clause-event c s before follows =
    let r = c.args.self.now in
    events_as c.read_line.result _ _ _ (said_of-under s r.source (declared_by c.args.lookup) before c.args.line.now c.bare.result.now (heading_seen r.heading) follows.source follows.heading c.bare.ensures) c.read_line.ensures.event

pub returns-clause-identifier : goal.returns-clause-identifier
returns-clause-identifier c s before follows =
    let r = c.args.self.now in
    found_as c.read_line.result _ _ _ (identifier_of-under s r.source before c.args.line.now c.bare.result.now (heading_seen r.heading) follows.source follows.heading c.bare.ensures) c.read_line.ensures.identifier

pub returns-clause-key : goal.returns-clause-key
returns-clause-key c later s before follows =
    let r = c.args.self.now in
    told_as c.read_line.result _ _ _ (key_text_of-under s r.source before c.args.line.now c.bare.result.now (heading_seen r.heading) follows.source follows.heading c.bare.ensures) (c.read_line.ensures.key later)

pub returns-clause-clock : goal.returns-clause-clock
returns-clause-clock c s before follows =
    let r = c.args.self.now in
    found_as c.read_line.result _ _ _ (clock_of-under s r.source before c.args.line.now c.bare.result.now (heading_seen r.heading) follows.source follows.heading c.bare.ensures) c.read_line.ensures.clock

pub returns-clause-fault : goal.returns-clause-fault
returns-clause-fault c s before follows =
    let r = c.args.self.now in
    faults_as c.read_line.result _ _ (said_of-under s r.source (declared_by c.args.lookup) before c.args.line.now c.bare.result.now (heading_seen r.heading) follows.source follows.heading c.bare.ensures) c.read_line.ensures.fault
