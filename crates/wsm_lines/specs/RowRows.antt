-- Lines that are rows with what they say, computed.
use Rattle.std.specs.Prelude.{◌≡◌, [], ◌∷◌, ◌++◌, pos, negsuc, Some, None, Ok, Err, true, false, codes, refl}
use Rattle.std.specs.Char.{encode_utf8}
use Rattle.std.specs.Str.{is_utf8, chars}
use Rattle.wsm_record.specs.declared.event.Value.TheVariants as values
use Rattle.wsm_record.specs.Event.{Record}
use Rattle.wsm_record.specs.Schema.{Declared, Int, Truth}
use Rattle.wsm_values.specs.OnLiterals.{wsm_values_on_literals}
use Rattle.wsm_values.specs.declared.time.TimeForm.TheVariants.{Epoch}
use Rattle.wsm_values.specs.declared.time.Unit.TheVariants.{Seconds}
use Rattle.wsm_lines.specs.declared.fault.LineFault.TheVariants.{TooLong, NotRow, NoKey, BadTime, NoField, BadBool}
use Rattle.wsm_lines.specs.declared.source.Format.TheVariants.{Rows}
use Rattle.wsm_lines.specs.declared.source.KeyNames.TheVariants as names
use Rattle.wsm_lines.specs.declared.source.Kind.TheVariants as kind
use Rattle.wsm_lines.specs.declared.source.Place.TheVariants.{Column}
use Rattle.wsm_lines.specs.declared.source.Source.{Source}
use Rattle.wsm_lines.specs.Said.{said_of}
use Rattle.wsm_lines.specs.Text.{byte_order_mark}

-- keys a and b, a number and a truth
abbrev shop : Declared
shop = record {
  keys = codes "a" ∷ codes "b" ∷ [];
  fields = record { name = codes "n"; type = Int (pos 0) (pos 100) } ∷ record { name = codes "paid"; type = Truth } ∷ [];
  sources = [];
}

abbrev source : Source
source = record {
  format = Rows;
  longest = 20;
  key = record { at = Column 1; names = names.Same };
  time = record { at = Column 2; form = Epoch Seconds; unit = Seconds };
  fields = record { at = Column 3; kind = kind.Whole; default = None }
      ∷ record { at = Column 4; kind = kind.Bool (record { yes = codes "true"; no = codes "false" }); default = None }
      ∷ [];
  identifier = None;
  clock = None;
}

good : said_of source shop [] (codes "r,b,60,-7,true") ≡ Ok (Record (Some 1) (pos 60) (values.Int (negsuc 6) ∷ values.Bool true ∷ []))
unfolding is_utf8 chars encode_utf8 wsm_values_on_literals
good = refl

-- quotes count as in CSV, and the first line may have a byte order mark
quotes_and_a_mark : said_of source shop [] (byte_order_mark ++ codes "r,\"b\",60,8,false") ≡ Ok (Record (Some 1) (pos 60) (values.Int (pos 8) ∷ values.Bool false ∷ []))
unfolding is_utf8 chars encode_utf8 wsm_values_on_literals
quotes_and_a_mark = refl

a_key_not_declared : said_of source shop [] (codes "r,c,60,8,true" ++ 13 ∷ []) ≡ Ok (Record None (pos 60) (values.Int (pos 8) ∷ values.Bool true ∷ []))
unfolding is_utf8 chars encode_utf8 wsm_values_on_literals
a_key_not_declared = refl

-- ---- what is no row of a record

a_watermark : said_of source shop [] (codes "w,60") ≡ Err NotRow
unfolding is_utf8 chars encode_utf8 wsm_values_on_literals
a_watermark = refl

another_tag : said_of source shop [] (codes "R,b,60,8,true") ≡ Err NotRow
unfolding is_utf8 chars encode_utf8 wsm_values_on_literals
another_tag = refl

a_cell_too_few : said_of source shop [] (codes "r,b,60,8") ≡ Err NotRow
unfolding is_utf8 chars encode_utf8 wsm_values_on_literals
a_cell_too_few = refl

a_cell_too_many : said_of source shop [] (codes "r,b,60,8,true,") ≡ Err NotRow
unfolding is_utf8 chars encode_utf8 wsm_values_on_literals
a_cell_too_many = refl

an_open_quote : said_of source shop [] (codes "r,b,60,8,\"true") ≡ Err NotRow
unfolding is_utf8 chars encode_utf8 wsm_values_on_literals
an_open_quote = refl

no_byte : said_of source shop [] [] ≡ Err NotRow
unfolding is_utf8 chars encode_utf8 wsm_values_on_literals
no_byte = refl

too_long_before_no_row : said_of source shop [] (codes "w,12345678901234567890") ≡ Err TooLong
unfolding is_utf8 chars encode_utf8 wsm_values_on_literals
too_long_before_no_row = refl

-- ---- and of its cells as elsewhere

no_key : said_of source shop [] (codes "r,,60,8,true") ≡ Err NoKey
unfolding is_utf8 chars encode_utf8 wsm_values_on_literals
no_key = refl

a_header : said_of source shop [] (codes "r,key,time,n,paid") ≡ Err BadTime
unfolding is_utf8 chars encode_utf8 wsm_values_on_literals
a_header = refl

no_field : said_of source shop [] (codes "r,b,60,,true") ≡ Err NoField
unfolding is_utf8 chars encode_utf8 wsm_values_on_literals
no_field = refl

a_bad_field : said_of source shop [] (codes "r,b,60,8,yes") ≡ Err BadBool
unfolding is_utf8 chars encode_utf8 wsm_values_on_literals
a_bad_field = refl
