use Rattle.std.proofs.Common.{◌≡◌, ◌∙◌, ◌+◌, ◌<◌, ◌&&◌, Bool, List, drop, length, map, take, Some, ap, ap₂, arith, sym}
use Rattle.std.specs.Prelude.{slice_get, option_map}
use Rattle.std.proofs.lemmas.List.{take_more_set}
use Rattle.std.proofs.lemmas.Result.{err_from_is_err_and}
use Rattle.std.proofs.lemmas.Option.{slice_get-map, slice_get_read}
use Rattle.csv.specs.Records.{fields_of}
use Rattle.wsm_record.specs.declared.event.Value.{Value}
use Rattle.wsm_record.specs.Fields.{field_seen}
use Rattle.wsm_record.specs.Schema.{fit_fields}
use Rattle.wsm_csv.proofs.CellLemmas.{fits-put, read_on, read_on-fault, read_on-value, slice_get-behind_head}
use Rattle.wsm_csv.proofs.row.read_values.Goals as goal

pub returns-in_err-fits-clause-fault : goal.returns-in_err-fits-clause-fault
returns-in_err-fits-clause-fault c =
    let p = err_from_is_err_and c.from_residual-in_err-fits.result c.from_residual-in_err-fits.ensures.1 in
    let field : slice_get (map field_seen c.args.fields.now) c.loop-place.place ≡ Some (field_seen c.index-fields-place.result) =
    slice_get-map field_seen c.args.fields.now c.loop-place.place ∙ ap (option_map field_seen) (slice_get_read c.args.fields.now (length c.args.fields.now) c.loop-place.place c.index-fields-place.result (omega arith) c.loop-place-test.true c.index-fields-place.is) in
    let cell = slice_get-behind_head (fields_of c.args.row.now) c.loop-place.place ∙ c.cell_at.ensures in
    rw (p.1, p.2) (c.loop-place.invariant.all ∙ read_on-fault (take c.loop-place.place c.loop-place.values.items) (map field_seen c.args.fields.now) (drop 3 (fields_of c.args.row.now)) c.loop-place.place (field_seen c.index-fields-place.result) c.cell_at.result.now _ field cell c.in_err-fits.ensures.fault)

pub loop-place-preserved : goal.loop-place-preserved
loop-place-preserved c =
    let fields = map field_seen c.args.fields.now in
    let cells = drop 3 (fields_of c.args.row.now) in
    let old = c.loop-place.values.items in
    let place = c.loop-place.place in
    let field : slice_get fields place ≡ Some (field_seen c.index-fields-place.result) =
    slice_get-map field_seen c.args.fields.now place ∙ ap (option_map field_seen) (slice_get_read c.args.fields.now (length c.args.fields.now) place c.index-fields-place.result (omega arith) c.loop-place-test.true c.index-fields-place.is) in
    let cell = slice_get-behind_head (fields_of c.args.row.now) place ∙ c.cell_at.ensures in
    let below : place < length old = omega (arith, c.loop-place-test.true, c.loop-place.invariant.count) in
    let (value, read, put) = c.in_ok-fits.ensures.value in record {
      all = c.loop-place.invariant.all ∙ read_on-value (take place old) fields cells place (field_seen c.index-fields-place.result) c.cell_at.result.now value field cell read
          ∙ ap (λ (vs : List Value). read_on vs (drop (place + 1) fields) (drop (place + 1) cells)) (sym (ap (take (place + 1)) put ∙ take_more_set old place value below));
      fits = ap₂ (λ (a b : Bool). a && b) c.loop-place.invariant.fits (c.in_ok-fits.ensures.fits value read) ∙ sym (ap (λ (vs : List Value). fit_fields (take (place + 1) fields) (take (place + 1) vs)) put ∙ fits-put fields old place (field_seen c.index-fields-place.result) value field below);
      count = c.in_ok-fits.ensures.count ∙ c.loop-place.invariant.count;
      kept = rw c.in_ok-fits.ensures.room c.loop-place.invariant.kept;
      few = rw c.in_ok-fits.ensures.room c.loop-place.invariant.few;
    }
