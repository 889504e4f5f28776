use Rattle.std.proofs.Common.{◌≡◌, ◌∙◌, false, true, [], length, sym, ap}
use Rattle.std.specs.Prelude.{nat_eq}
use Rattle.wsm_record.specs.Schema.{are_names_after, are_fields_after, is_schema}
use Rattle.wsm_record.specs.Fields.{declared_of, kept_of}
use Rattle.wsm_record.proofs.DeclaredFields.{few_names}
use Rattle.wsm_record.proofs.Schemas.{parts_lawful}
use Rattle.wsm_record.proofs.schema.Schema.new.Goals as goal

pub declare-requires : goal.declare-requires
declare-requires c = few_names c.args.keys.now c.args.fields.now c.args.sources.now (sym c.exceed.ensures ∙ c.if-exceed.false)

pub of_parts-requires : goal.of_parts-requires
of_parts-requires c =
    let d = declared_of c.args.keys.now c.args.fields.now c.args.sources.now in
    let made : kept_of c.in_ok-keys.keys c.in_ok-fields.fields.items c.in_ok-sources.sources ≡ d =
    λ i. record { keys = c.in_ok-keys.ensures.all i; fields = c.in_ok-fields.ensures.kept i; sources = c.in_ok-sources.ensures.all i } in
    let some : nat_eq (length c.args.keys.now) 0 ≡ false = sym c.is_empty.ensures ∙ c.if-is_empty.false in
    let keys : are_names_after [] d.keys ≡ true = ap (are_names_after []) (sym c.in_ok-keys.ensures.all) ∙ c.in_ok-keys.ensures.lawful in
    let fields : are_fields_after [] d.fields ≡ true = ap (are_fields_after []) (sym c.in_ok-fields.ensures.kept) ∙ c.in_ok-fields.ensures.lawful in
    let sources : are_names_after [] d.sources ≡ true = ap (are_names_after []) (sym c.in_ok-sources.ensures.all) ∙ c.in_ok-sources.ensures.lawful in
    ap is_schema made ∙ parts_lawful d some (sym c.exceed.ensures ∙ c.if-exceed.false) keys fields sources
