use Rattle.std.proofs.Common.{◌≡◌, ◌≤◌, length, drop, take, map, max, vec_capacity}
use Rattle.csv.specs.Records.{fields_of}
use Rattle.wsm_record.specs.Fields.{field_seen}
use Rattle.wsm_record.specs.Schema.{fit_fields}
use Rattle.wsm_csv.specs.Cells.{values_of}
use Rattle.wsm_csv.proofs.CellLemmas.{read_on}
use Rattle.wsm_csv.proofs.row.read_values.Given as goal

-- the values so far, with those of what is left, are all values
abbrev pub invariant-loop-place : goal.invariant-loop-place
invariant-loop-place l = record {
  all : values_of (map field_seen l.fields) (drop 3 (fields_of l.row)) ≡ read_on (take l.place l.values.items) (drop l.place (map field_seen l.fields)) (drop l.place (drop 3 (fields_of l.row)));
  fits : l.fits ≡ fit_fields (take l.place (map field_seen l.fields)) (take l.place l.values.items);
  count : length l.values.items ≡ length l.fields;
  kept : vec_capacity l.fn.values ≤ vec_capacity l.values;
  few : vec_capacity l.values ≤ max (vec_capacity l.fn.values) (length l.fields);
}
