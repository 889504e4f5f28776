use Rattle.std.proofs.Common.{rules, ◌≡◌, IfOk, List, length, subst, sym, ap, ◌∙◌, arith}
use Rattle.std.proofs.lemmas.List.{length-map}
use Rattle.wsm_program.specs.View.{header_of}
use Rattle.wsm_record.specs.Fields.{field_seen}
use Rattle.wsm_rules.specs.Labels.{Label}
use Rattle.wsm_rules.specs.Rules.{known_fields}
use Rattle.wsm_rules.proofs.Lawful.{lawful_seen}
use Rattle.wsm_verifier.specs.declared.places.Place.{Place}
use Rattle.wsm_verifier.specs.Trying.{setting_of}
use Rattle.wsm_verifier.proofs.PlacesKept.{end_is, faultless_in, places_are}
use Rattle.wsm_verifier.proofs.places.walked.Goals as goal

pub known_fields-requires : goal.known_fields-requires
known_fields-requires c =
    let few = (lawful_seen c.program-program.result.now (header_of c.header-header.result.now) c.header-header.ensures.header c.header-header.ensures.lawful).fields in
    let same : length c.fields.result.now ≡ length c.header-header.result.now.schema.fields = sym (length-map c.fields.result.now field_seen) ∙ ap length c.fields.ensures in
    omega (arith, few, same)

pub walk_section-requires-clause-faultless : goal.walk_section-requires-clause-faultless
walk_section-requires-clause-faultless c =
    let p = c.program-program.result.now in
    let kinds : c.len.result ≡ length p.header.kinds = search rules in
    let fields : c.deref-2.result.now ≡ known_fields 0 p.header.schema.fields = search rules in
    faultless_in p c.args.program.now c.args.id _ (setting_of c.setting-setting.result) c.in_ok-ranges.ranges c.section.result.now c.len.result c.deref-2.result.now
    c.program-program.ensures.program c.program-program.ensures.accepted c.setting-setting.ensures c.in_ok-ranges.ensures c.section.ensures.instructions kinds fields

pub returns-clause-places : goal.returns-clause-places
returns-clause-places c =
    let p = c.program-program.result.now in
    let kinds : c.len.result ≡ length p.header.kinds = search rules in
    let fields : c.deref-2.result.now ≡ known_fields 0 p.header.schema.fields = search rules in
    subst (λ (xs : List Place). IfOk c.walk_section.result (λ walk. walk.places.items ≡ xs))
    (places_are p c.args.program.now c.args.id (setting_of c.setting-setting.result) c.in_ok-ranges.ranges c.section.result.now c.len.result c.deref-2.result.now
    c.program-program.ensures.program c.setting-setting.ensures c.in_ok-ranges.ensures c.section.ensures.instructions kinds fields)
    c.walk_section.ensures.places

pub returns-clause-end : goal.returns-clause-end
returns-clause-end c =
    let p = c.program-program.result.now in
    let kinds : c.len.result ≡ length p.header.kinds = search rules in
    let fields : c.deref-2.result.now ≡ known_fields 0 p.header.schema.fields = search rules in
    subst (λ (l : Label). IfOk c.walk_section.result (λ walk. walk.end ≡ l))
    (end_is p c.args.program.now c.args.id (setting_of c.setting-setting.result) c.in_ok-ranges.ranges c.section.result.now c.len.result c.deref-2.result.now
    c.program-program.ensures.program c.setting-setting.ensures c.in_ok-ranges.ensures c.section.ensures.instructions kinds fields)
    c.walk_section.ensures.end
