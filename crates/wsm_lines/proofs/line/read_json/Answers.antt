use Rattle.std.proofs.Common.{◌∙◌, ap, sym}
use Rattle.std.proofs.lemmas.Result.{on_ok_weaker}
use Rattle.std.specs.Prelude.{Ok}
use Rattle.json.specs.Value.{value_view}
use Rattle.wsm_lines.specs.Key.{declared_by}
use Rattle.wsm_lines.proofs.FaultLemmas.{events_as, faults_as}
use Rattle.wsm_lines.proofs.SiftedLemmas.{clock_by-sifted, event_by-sifted, identifier_by-sifted, key_by-sifted}
use Rattle.wsm_lines.proofs.line.read_json.Goals as goal

pub returns-in-Ok-clause-event : goal.returns-in-Ok-clause-event
returns-in-Ok-clause-event c =
    let v = value_view c.in-Ok.value in
    let same = event_by-sifted c.args.filter.now.buckets c.args.source.now c.requires (declared_by c.args.lookup) _ c.in_ok-text.text.now v (sym c.in_ok-text.ensures) c.in-Ok.ensures.ok in
    events_as c.read_taken.result _ _ _ same c.read_taken.ensures.event

pub returns-in-Ok-clause-identifier : goal.returns-in-Ok-clause-identifier
returns-in-Ok-clause-identifier c =
    let v = value_view c.in-Ok.value in
    let same = identifier_by-sifted c.args.filter.now.buckets c.args.source.now c.requires _ c.in_ok-text.text.now v (sym c.in_ok-text.ensures) c.in-Ok.ensures.ok in
    events_as c.read_taken.result _ _ _ same c.read_taken.ensures.identifier

pub returns-in-Ok-clause-key : goal.returns-in-Ok-clause-key
returns-in-Ok-clause-key c = λ later.
    let v = value_view c.in-Ok.value in
    let same = key_by-sifted c.args.filter.now.buckets c.args.source.now c.requires _ c.in_ok-text.text.now v (sym c.in_ok-text.ensures) c.in-Ok.ensures.ok in
    events_as c.read_taken.result _ _ _ same (c.read_taken.ensures.key later)

pub returns-in-Ok-clause-clock : goal.returns-in-Ok-clause-clock
returns-in-Ok-clause-clock c =
    let v = value_view c.in-Ok.value in
    let same = clock_by-sifted c.args.filter.now.buckets c.args.source.now c.requires _ c.in_ok-text.text.now v (sym c.in_ok-text.ensures) c.in-Ok.ensures.ok in
    on_ok_weaker c.read_taken.result (λ held. same ∙ ap Ok held) c.read_taken.ensures.clock

pub returns-in-Ok-clause-fault : goal.returns-in-Ok-clause-fault
returns-in-Ok-clause-fault c =
    let v = value_view c.in-Ok.value in
    let same = event_by-sifted c.args.filter.now.buckets c.args.source.now c.requires (declared_by c.args.lookup) _ c.in_ok-text.text.now v (sym c.in_ok-text.ensures) c.in-Ok.ensures.ok in
    faults_as c.read_taken.result _ _ same c.read_taken.ensures.fault
