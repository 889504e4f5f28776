use Rattle.std.proofs.Common.{◌≡◌, ◌<◌, ◌∙◌, ℕ, pos, Bool, List, length, map, get_or, ap, sym, arith}
use Rattle.std.proofs.lemmas.List.{length-map}
use Rattle.std.proofs.Math.ListN.{get_or-map}
use Rattle.wsm_record.specs.declared.event.Value.TheVariants.{Int}
use Rattle.wsm_record.specs.declared.schema.DeclaredField.{DeclaredField as KeptField}
use Rattle.wsm_record.specs.Schema.{DeclaredField}
use Rattle.wsm_record.specs.Fields.{field_seen}
use Rattle.wsm_machine.specs.Inputs.{is_of_field}
use Rattle.wsm_machine.proofs.Pairs.{unequal, fails_at, passes_at}
use Rattle.wsm_machine.proofs.Tested.{fields_tested}
use Rattle.wsm_machine.proofs.inputs.are_of_fields.Goals as goal

-- the test of a field that was read
test_at : (fields : List KeptField) (i : ℕ) (f : KeptField) (b : Bool) → f ≡ get_or fields i f
    → (test : DeclaredField → Bool) → test (field_seen f) ≡ b → test (get_or (map field_seen fields) i (field_seen f)) ≡ b
test_at fields i f b read test e = ap test (get_or-map field_seen fields i f ∙ sym (ap field_seen read)) ∙ e

pub returns-then-fields-values : goal.returns-then-fields-values
returns-then-fields-values c =
    sym (unequal fields_tested (map field_seen c.args.fields.now) c.args.values.now (λ e. c.if-fields-values.true (sym (length-map c.args.fields.now field_seen) ∙ e)))

pub returns-then-not-is_of_field : goal.returns-then-not-is_of_field
returns-then-not-is_of_field c =
    let fields = c.args.fields.now in
    let i = c.loop-i.i in
    let f = c.index-fields-i.result in
    let v = get_or c.args.values.now i (Int (pos 0)) in
    let within : i < length (map field_seen fields) = rw (length-map fields field_seen) (omega arith) in
    let unfit = test_at fields i f _ c.index-fields-i.is (λ g. is_of_field g.type v) (sym c.is_of_field.ensures ∙ c.if-not-is_of_field.true) in
    sym (fails_at fields_tested (map field_seen fields) c.args.values.now i (field_seen f) (Int (pos 0)) within (omega arith) unfit c.loop-i.invariant)

pub loop-i-preserved : goal.loop-i-preserved
loop-i-preserved c =
    let fields = c.args.fields.now in
    let i = c.loop-i.i in
    let f = c.index-fields-i.result in
    let v = get_or c.args.values.now i (Int (pos 0)) in
    let within : i < length (map field_seen fields) = rw (length-map fields field_seen) (omega arith) in
    let fits = test_at fields i f _ c.index-fields-i.is (λ g. is_of_field g.type v) (sym c.is_of_field.ensures ∙ c.if-not-is_of_field.false) in
    passes_at fields_tested (map field_seen fields) c.args.values.now i (field_seen f) (Int (pos 0)) within (omega arith) fits c.loop-i.invariant
