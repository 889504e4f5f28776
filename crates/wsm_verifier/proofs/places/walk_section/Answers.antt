use Rattle.std.proofs.Common.{rules, ◌≡◌, None, replicate, refl, arith}
use Rattle.wsm_verifier.specs.Trying.{setting_of}
use Rattle.wsm_verifier.specs.Turning.{unfolded}
use Rattle.wsm_verifier.proofs.PassKept.{written}
use Rattle.wsm_verifier.proofs.PlacesKept.{ended_all, found_all, some_code, walked_begun, walked_turned}
use Rattle.wsm_verifier.proofs.places.walk_section.Goals as goal

pub index_mut-requires : goal.index_mut-requires
index_mut-requires c =
    let some = some_code (setting_of c.args.setting.now) (unfolded c.args.accumulators c.args.fields.now) c.args.setting.now.ranges.now c.args.code.now c.requires.faultless in
    grind (arith, some, c.in_ok-labels.ensures)

pub loop-place-init : goal.loop-place-init
loop-place-init c =
    let none : c.in_ok-folded.folded.items ≡ replicate c.args.accumulators None = search rules in
    walked_begun (setting_of c.args.setting.now) (unfolded c.args.accumulators c.args.fields.now) c.in_ok-entry.field-0 c.args.code.now c.in_ok-labels.labels.items c.index_mut.result.now c.join.new.self
    c.unreached-end.result c.args.accumulators c.in_ok-folded.folded.items c.in_ok-places.places.items
    c.requires.faultless c.in_ok-labels.ensures c.index_mut.ensures.value c.in_ok-entry.ensures c.join.ensures none c.in_ok-places.ensures.items c.unreached-end.ensures

pub loop-place-preserved : goal.loop-place-preserved
loop-place-preserved c =
    walked_turned (setting_of c.args.setting.now) (unfolded c.args.accumulators c.args.fields.now) c.args.code.now c.loop-place.place _ _
    c.loop-place.labels.items c.deref_mut.result.now c.turn.new.labels _ c.args.accumulators c.loop-place.folded.items c.deref_mut-in-loop-place.result.now c.turn.new.folded _
    c.loop-place.places.items c.push.new.self.items c.loop-place.end c.note_end.new.end c.index.result.now c.index-in-loop-place.result.now c.place_of.result c.in_ok-_rule._rule
    c.loop-place.invariant c.requires.faultless refl (omega arith)
    c.index.ensures c.place_of.ensures c.in_ok-push.ensures.items
    c.index-in-loop-place.ensures c.in_ok-note_end.ensures
    c.deref_mut.ensures.value c.deref_mut-in-loop-place.ensures.value
    c.in_ok-_rule.ensures.fault c.in_ok-_rule.ensures.labels c.in_ok-_rule.ensures.accumulators c.in_ok-_rule.ensures.folded
    (written c.loop-place.labels.len c.loop-place.labels.items c.turn.new.labels (omega arith) (omega arith))
    (written c.loop-place.folded.len c.loop-place.folded.items c.turn.new.folded (omega arith) (omega arith))

pub returns-clause-places : goal.returns-clause-places
returns-clause-places c = found_all (setting_of c.args.setting.now) (unfolded c.args.accumulators c.args.fields.now) c.args.code.now c.loop-place.place c.loop-place.places.items (omega arith) c.loop-place.invariant.found

pub returns-clause-end : goal.returns-clause-end
returns-clause-end c = ended_all (setting_of c.args.setting.now) (unfolded c.args.accumulators c.args.fields.now) c.args.code.now c.loop-place.place c.loop-place.end (omega arith) c.loop-place.invariant.ended
