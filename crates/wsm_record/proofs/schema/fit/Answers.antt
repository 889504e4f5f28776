use Rattle.std.proofs.Common.{◌≡◌, ◌∙◌, ◌<◌, ◌+◌, ◌&&◌, ℕ, pos, Bool, true, false, List, length, map, drop, get_or, ap, sym, arith}
use Rattle.std.proofs.lemmas.List.{length-map}
use Rattle.std.proofs.Math.ListN.{get_or-map}
use Rattle.wsm_record.specs.declared.event.Value.TheVariants.{Int}
use Rattle.wsm_record.specs.declared.schema.DeclaredField.{DeclaredField as KeptField}
use Rattle.wsm_record.specs.Schema.{DeclaredField, fits_type, fit_fields}
use Rattle.wsm_record.specs.Fields.{field_seen, type_seen}
use Rattle.wsm_record.proofs.FittingValues.{fit_fields-next, fit_fields-lengths}
use Rattle.wsm_record.proofs.schema.fit.Goals as goal

seen_at : (fields : List KeptField) (i : ℕ) (f : KeptField) → f ≡ get_or fields i f → field_seen f ≡ get_or (map field_seen fields) i (field_seen f)
seen_at fields i f e = ap field_seen e ∙ sym (get_or-map field_seen fields i f)

pub returns-then-fields-values : goal.returns-then-fields-values
returns-then-fields-values c =
    sym (fit_fields-lengths (map field_seen c.args.fields.now) c.args.values.now (λ e. c.if-fields-values.true (sym (length-map c.args.fields.now field_seen) ∙ e)))

pub returns-then-not-fits : goal.returns-then-not-fits
returns-then-not-fits c =
    let ds : List DeclaredField = map field_seen c.args.fields.now in
    let vs = c.args.values.now in
    let i = c.loop-i.i in
    let within : i < length ds = rw (length-map c.args.fields.now field_seen) (omega arith) in
    let unfit : fits_type (type_seen c.index-fields-i.result.ty) (get_or vs i (Int (pos 0))) ≡ false = sym c.fits.ensures ∙ c.if-not-fits.true in
    sym (
    sym c.loop-i.invariant ∙ fit_fields-next ds vs i (field_seen c.index-fields-i.result) (Int (pos 0)) within (omega arith) (seen_at c.args.fields.now i c.index-fields-i.result c.index-fields-i.is)
    ∙ ap (λ (b : Bool). b && fit_fields (drop (i + 1) ds) (drop (i + 1) vs)) unfit
    )

pub loop-i-preserved : goal.loop-i-preserved
loop-i-preserved c =
    let ds : List DeclaredField = map field_seen c.args.fields.now in
    let vs = c.args.values.now in
    let i = c.loop-i.i in
    let within : i < length ds = rw (length-map c.args.fields.now field_seen) (omega arith) in
    let fits : fits_type (type_seen c.index-fields-i.result.ty) (get_or vs i (Int (pos 0))) ≡ true = sym c.fits.ensures ∙ c.if-not-fits.false in
    sym (
    sym c.loop-i.invariant ∙ fit_fields-next ds vs i (field_seen c.index-fields-i.result) (Int (pos 0)) within (omega arith) (seen_at c.args.fields.now i c.index-fields-i.result c.index-fields-i.is)
    ∙ ap (λ (b : Bool). b && fit_fields (drop (i + 1) ds) (drop (i + 1) vs)) fits
    )
