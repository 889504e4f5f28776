use Rattle.std.proofs.Common.{◌≡◌, ◌∙◌, ◌<◌, ◌+◌, ◌⊎◌, inl, inr, not, Bool, true, false, cond, List, [], length, map, take, drop, Option, Some, ap, ap₂, sym, arith, bytes_eq}
use Rattle.std.proofs.lemmas.Result.{err_from_is_err_and}
use Rattle.std.specs.List.{list_any}
use Rattle.wsm_record.specs.declared.schema.SchemaRefusal.{SchemaRefusal}
use Rattle.wsm_record.specs.declared.schema.SchemaRefusal.TheVariants.{DuplicateName, Memory}
use Rattle.wsm_record.specs.declared.schema.DeclaredField.{DeclaredField as KeptField}
use Rattle.wsm_record.specs.Name.{is_among}
use Rattle.wsm_record.specs.Schema.{DeclaredField, type_refusal, fields_refusal, or_else, are_fields_after}
use Rattle.wsm_record.specs.Fields.{declared_field, declared_type, field_seen}
use Rattle.std.proofs.lemmas.Bool.{and_from}
use Rattle.std.proofs.lemmas.List.{map_push}
use Rattle.wsm_record.proofs.Schemas.{fields_more}
use Rattle.wsm_record.proofs.DeclaredFields.{name_of, fields_refusal-next, among_kept, next_declared, next_within, kept_next}
use Rattle.wsm_record.proofs.schema.declare.Goals as goal

pub returns-then-has_field-clause-refused : goal.returns-then-has_field-clause-refused
returns-then-has_field-clause-refused c =
    let fields = c.args.fields.now in
    let i = c.loop-field.field-index in
    let f = c.field-item.result in
    let ds : List DeclaredField = map declared_field fields in
    let kept : List KeptField = c.loop-field.kept.items in
    let within : i < length fields = omega arith in
    let found : list_any (λ k. bytes_eq f.name k.name) kept ≡ true = ap (list_any (λ (k : KeptField). bytes_eq f.name k.name)) (sym c.deref.ensures.value) ∙ sym c.has_field.ensures ∙ c.if-has_field.true in
    let here : is_among f.name (map name_of (take i ds)) ≡ true = among_kept kept ds i f.name c.loop-field.invariant.kept ∙ found in
    let rest : Option SchemaRefusal = or_else (type_refusal (declared_type f.ty)) (fields_refusal (map name_of (take (i + 1) ds)) (drop (i + 1) ds)) in
    inr (sym c.loop-field.invariant.refusal ∙ fields_refusal-next ds i (declared_field f) (next_within fields i within) (next_declared fields i f c.field-item.is) ∙ ap (λ (b : Bool). cond b (Some DuplicateName) rest) here)

-- the fault of a type is that of the fields, where no name stands twice
err_of : (r m : SchemaRefusal) (t rest all : Option SchemaRefusal) → (r ≡ m) ⊎ (t ≡ Some r) → all ≡ or_else t rest → (r ≡ m) ⊎ (all ≡ Some r)
err_of r m t rest all (inl e) h = inl e
err_of r m t rest all (inr e) h = inr (h ∙ ap (λ (o : Option SchemaRefusal). or_else o rest) e)

pub returns-in_err-ty-clause-refused : goal.returns-in_err-ty-clause-refused
returns-in_err-ty-clause-refused c =
    let fields = c.args.fields.now in
    let i = c.loop-field.field-index in
    let f = c.field-item.result in
    let ds : List DeclaredField = map declared_field fields in
    let kept : List KeptField = c.loop-field.kept.items in
    let within : i < length fields = omega arith in
    let absent : list_any (λ k. bytes_eq f.name k.name) kept ≡ false = ap (list_any (λ (k : KeptField). bytes_eq f.name k.name)) (sym c.deref.ensures.value) ∙ sym c.has_field.ensures ∙ c.if-has_field.false in
    let here : is_among f.name (map name_of (take i ds)) ≡ false = among_kept kept ds i f.name c.loop-field.invariant.kept ∙ absent in
    let rest : Option SchemaRefusal = fields_refusal (map name_of (take (i + 1) ds)) (drop (i + 1) ds) in
    let next = sym c.loop-field.invariant.refusal ∙ fields_refusal-next ds i (declared_field f) (next_within fields i within) (next_declared fields i f c.field-item.is)
    ∙ ap (λ (b : Bool). cond b (Some DuplicateName) (or_else (type_refusal (declared_type f.ty)) rest)) here in
    let p = err_from_is_err_and c.from_residual-in_err-ty.result c.from_residual-in_err-ty.ensures.1 in
    rw (p.1, p.2) (err_of c.in_err-ty.field-0.0 Memory (type_refusal (declared_type f.ty)) rest (fields_refusal [] ds) c.in_err-ty.ensures.refused next)

pub loop-field-preserved : goal.loop-field-preserved
loop-field-preserved c =
    let fields = c.args.fields.now in
    let i = c.loop-field.field-index in
    let f = c.field-item.result in
    let ds : List DeclaredField = map declared_field fields in
    let kept : List KeptField = c.loop-field.kept.items in
    let within : i < length fields = omega arith in
    let absent : list_any (λ k. bytes_eq f.name k.name) kept ≡ false = ap (list_any (λ (k : KeptField). bytes_eq f.name k.name)) (sym c.deref.ensures.value) ∙ sym c.has_field.ensures ∙ c.if-has_field.false in
    let here : is_among f.name (map name_of (take i ds)) ≡ false = among_kept kept ds i f.name c.loop-field.invariant.kept ∙ absent in
    let rest : Option SchemaRefusal = fields_refusal (map name_of (take (i + 1) ds)) (drop (i + 1) ds) in
    let next = fields_refusal-next ds i (declared_field f) (next_within fields i within) (next_declared fields i f c.field-item.is)
    ∙ ap (λ (b : Bool). cond b (Some DuplicateName) (or_else (type_refusal (declared_type f.ty)) rest)) here ∙ ap (λ (r : Option SchemaRefusal). or_else r rest) c.in_ok-ty.ensures.accepted in
    let seen : field_seen (record { name = c.copied-name.result; ty = c.in_ok-ty.ty }) ≡ declared_field f = ap₂ (λ n t. record { name = n; type = t }) c.copied-name.ensures.same c.in_ok-ty.ensures.kept in
    let new : is_among c.copied-name.result (map name_of (map field_seen kept)) ≡ false = ap (λ n. is_among n (map name_of (map field_seen kept))) c.copied-name.ensures.same ∙ ap (λ ds. is_among f.name (map name_of ds)) c.loop-field.invariant.kept ∙ here in
    record {
      kept = ap (map field_seen) c.in_ok-push.ensures.items
          ∙ kept_next kept (record { name = c.copied-name.result; ty = c.in_ok-ty.ty }) ds i (declared_field f) c.loop-field.invariant.kept seen (next_within fields i within) (next_declared fields i f c.field-item.is);
      lawful = ap (λ (ks : List KeptField). are_fields_after [] (map field_seen ks)) c.in_ok-push.ensures.items
          ∙ ap (are_fields_after []) (map_push field_seen kept (record { name = c.copied-name.result; ty = c.in_ok-ty.ty }))
          ∙ fields_more [] (map field_seen kept) (field_seen (record { name = c.copied-name.result; ty = c.in_ok-ty.ty })) c.loop-field.invariant.lawful
          (and_from _ _ c.copied-name.ensures.name (and_from _ _ (ap not new) c.in_ok-ty.ensures.lawful));
      refusal = sym next ∙ c.loop-field.invariant.refusal;
    }
