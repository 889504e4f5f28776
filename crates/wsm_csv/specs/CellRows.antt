-- Rows with what they say, computed.
use Rattle.std.specs.Prelude.{◌≡◌, [], ◌∷◌, pos, negsuc, Some, None, Ok, Err, true, codes, refl}
use Rattle.wsm_record.specs.declared.event.Value.TheVariants as values
use Rattle.wsm_record.specs.declared.event.RowFault.TheVariants.{BadTag, CellCount, BadNumber, BadName}
use Rattle.wsm_record.specs.Event.{Record, Watermark}
use Rattle.wsm_record.specs.Schema.{Declared, Int, Truth, Enum}
use Rattle.wsm_csv.specs.Cells.{event_of_cells}

-- keys a and b; a number n, a truth f and a colour
abbrev shop : Declared
shop = record {
  keys = codes "a" ∷ codes "b" ∷ [];
  fields = record { name = codes "n"; type = Int (pos 0) (pos 100) }
      ∷ record { name = codes "f"; type = Truth }
      ∷ record { name = codes "c"; type = Enum (codes "red" ∷ codes "blue" ∷ []) }
      ∷ [];
  sources = [];
}

-- the same with the sources x and y
abbrev two_sources : Declared
two_sources = record {
  keys = shop.keys;
  fields = shop.fields;
  sources = codes "x" ∷ codes "y" ∷ [];
}

a_record : event_of_cells shop (codes "r" ∷ codes "b" ∷ codes "-5" ∷ codes "007" ∷ codes "true" ∷ codes "blue" ∷ []) ≡ Ok (Record (Some 1) (negsuc 4) (values.Int (pos 7) ∷ values.Bool true ∷ values.Enum 1 ∷ []))
a_record = refl

-- the interval of a field isn't asked here
a_number_past_its_interval : event_of_cells shop (codes "r" ∷ codes "a" ∷ codes "5" ∷ codes "101" ∷ codes "true" ∷ codes "red" ∷ []) ≡ Ok (Record (Some 0) (pos 5) (values.Int (pos 101) ∷ values.Bool true ∷ values.Enum 0 ∷ []))
a_number_past_its_interval = refl

a_key_not_declared : event_of_cells shop (codes "r" ∷ codes "c" ∷ codes "5" ∷ codes "1" ∷ codes "true" ∷ codes "red" ∷ []) ≡ Ok (Record None (pos 5) (values.Int (pos 1) ∷ values.Bool true ∷ values.Enum 0 ∷ []))
a_key_not_declared = refl

a_key_not_declared_and_a_bad_number : event_of_cells shop (codes "r" ∷ codes "c" ∷ codes "5" ∷ codes "x" ∷ codes "true" ∷ codes "red" ∷ []) ≡ Err BadNumber
a_key_not_declared_and_a_bad_number = refl

a_bad_time_before_a_bad_name : event_of_cells shop (codes "r" ∷ codes "a" ∷ codes "+5" ∷ codes "1" ∷ codes "yes" ∷ codes "red" ∷ []) ≡ Err BadNumber
a_bad_time_before_a_bad_name = refl

a_bad_truth_before_a_bad_name : event_of_cells shop (codes "r" ∷ codes "a" ∷ codes "5" ∷ codes "1" ∷ codes "True" ∷ codes "green" ∷ []) ≡ Err BadName
a_bad_truth_before_a_bad_name = refl

a_bad_colour : event_of_cells shop (codes "r" ∷ codes "a" ∷ codes "5" ∷ codes "1" ∷ codes "false" ∷ codes "Red" ∷ []) ≡ Err BadName
a_bad_colour = refl

a_cell_too_few : event_of_cells shop (codes "r" ∷ codes "a" ∷ codes "5x" ∷ codes "1" ∷ codes "true" ∷ []) ≡ Err CellCount
a_cell_too_few = refl

a_cell_too_many : event_of_cells shop (codes "r" ∷ codes "a" ∷ codes "5" ∷ codes "1" ∷ codes "true" ∷ codes "red" ∷ [] ∷ []) ≡ Err CellCount
a_cell_too_many = refl

a_tag_alone : event_of_cells shop (codes "r" ∷ []) ≡ Err CellCount
a_tag_alone = refl

a_watermark : event_of_cells shop (codes "w" ∷ codes "60" ∷ []) ≡ Ok (Watermark (Some 0) (pos 60))
a_watermark = refl

a_watermark_with_another_cell : event_of_cells shop (codes "w" ∷ codes "60" ∷ [] ∷ []) ≡ Err CellCount
a_watermark_with_another_cell = refl

a_watermark_of_no_number : event_of_cells shop (codes "w" ∷ [] ∷ []) ≡ Err BadNumber
a_watermark_of_no_number = refl

a_source_where_none_are_declared : event_of_cells shop (codes "w" ∷ codes "x" ∷ codes "60" ∷ []) ≡ Err CellCount
a_source_where_none_are_declared = refl

a_watermark_of_a_source : event_of_cells two_sources (codes "w" ∷ codes "y" ∷ codes "60" ∷ []) ≡ Ok (Watermark (Some 1) (pos 60))
a_watermark_of_a_source = refl

a_source_not_declared : event_of_cells two_sources (codes "w" ∷ codes "z" ∷ codes "70" ∷ []) ≡ Ok (Watermark None (pos 70))
a_source_not_declared = refl

a_source_not_declared_and_a_bad_number : event_of_cells two_sources (codes "w" ∷ codes "z" ∷ codes "5x" ∷ []) ≡ Err BadNumber
a_source_not_declared_and_a_bad_number = refl

a_watermark_of_no_source : event_of_cells two_sources (codes "w" ∷ codes "60" ∷ []) ≡ Err CellCount
a_watermark_of_no_source = refl

a_record_names_no_source : event_of_cells two_sources (codes "r" ∷ codes "a" ∷ codes "5" ∷ codes "1" ∷ codes "true" ∷ codes "red" ∷ []) ≡ Ok (Record (Some 0) (pos 5) (values.Int (pos 1) ∷ values.Bool true ∷ values.Enum 0 ∷ []))
a_record_names_no_source = refl

another_tag : event_of_cells shop (codes "x" ∷ codes "1" ∷ []) ≡ Err BadTag
another_tag = refl

an_empty_tag : event_of_cells shop ([] ∷ []) ≡ Err BadTag
an_empty_tag = refl

no_cell : event_of_cells shop [] ≡ Err BadTag
no_cell = refl
