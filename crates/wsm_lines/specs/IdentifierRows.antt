-- Lines with their identifiers, computed.
use Rattle.std.specs.Prelude.{◌≡◌, [], ◌∷◌, ◌++◌, ℕ, List, pos, Some, None, Ok, Err, codes, refl}
use Rattle.std.specs.Char.{encode_utf8}
use Rattle.std.specs.Str.{is_utf8, chars}
use Rattle.json.proofs.OnLiterals.{json_on_literals}
use Rattle.wsm_record.specs.Event.{Record}
use Rattle.wsm_record.specs.Schema.{Declared}
use Rattle.wsm_values.specs.OnLiterals.{wsm_values_on_literals}
use Rattle.wsm_values.specs.declared.time.TimeForm.TheVariants.{Epoch}
use Rattle.wsm_values.specs.declared.time.Unit.TheVariants.{Seconds}
use Rattle.wsm_lines.specs.declared.fault.LineFault.TheVariants.{BadTime, BadIdentifier}
use Rattle.wsm_lines.specs.declared.source.Format.TheVariants as format
use Rattle.wsm_lines.specs.declared.source.KeyNames.TheVariants as names
use Rattle.wsm_lines.specs.declared.source.Place.TheVariants.{Path, Column}
use Rattle.wsm_lines.specs.declared.source.Source.{Source}
use Rattle.wsm_lines.specs.Identifier.{identifier_text}
use Rattle.wsm_lines.specs.Said.{identifier_of, said_of}

-- key a, and no field
abbrev shop : Declared
shop = record { keys = codes "a" ∷ []; fields = []; sources = [] }

-- ---- JSON: the identifier is the member's member

abbrev source : Source
source = record {
  format = format.Json;
  longest = 60;
  key = record { at = Path (codes "k" ∷ []); names = names.Same };
  time = record { at = Path (codes "t" ∷ []); form = Epoch Seconds; unit = Seconds };
  fields = [];
  identifier = Some (Path (codes "of" ∷ codes "id" ∷ []));
  clock = None;
}

a_text : identifier_of source [] (codes "{\"k\":\"a\",\"t\":60,\"of\":{\"id\":\"x-\\u00317\"}}") ≡ Some (codes "x-17")
unfolding is_utf8 chars encode_utf8 json_on_literals
a_text = refl

-- a number is taken as it is written
a_number : identifier_of source [] (codes "{\"k\":\"a\",\"t\":60,\"of\":{\"id\":1.50}}") ≡ Some (codes "1.50")
unfolding is_utf8 chars json_on_literals
a_number = refl

-- where nothing stands, or null, there is none, and the line says its event
none : identifier_of source [] (codes "{\"k\":\"a\",\"t\":60,\"of\":7}") ≡ None
unfolding is_utf8 chars json_on_literals
none = refl

null : identifier_of source [] (codes "{\"k\":\"a\",\"t\":60,\"of\":{\"id\":null}}") ≡ None
unfolding is_utf8 chars json_on_literals
null = refl

null_is_no_fault : said_of source shop [] (codes "{\"k\":\"a\",\"t\":60,\"of\":{\"id\":null}}") ≡ Ok (Record (Some 0) (pos 60) [])
unfolding is_utf8 chars json_on_literals wsm_values_on_literals
null_is_no_fault = refl

-- what stands there and has no text, or an empty one, is a fault, the last
an_array : said_of source shop [] (codes "{\"k\":\"a\",\"t\":60,\"of\":{\"id\":[1]}}") ≡ Err BadIdentifier
unfolding is_utf8 chars json_on_literals wsm_values_on_literals
an_array = refl

no_byte : said_of source shop [] (codes "{\"k\":\"a\",\"t\":60,\"of\":{\"id\":\"\"}}") ≡ Err BadIdentifier
unfolding is_utf8 chars json_on_literals wsm_values_on_literals
no_byte = refl

a_bad_time_before_a_bad_identifier : said_of source shop [] (codes "{\"k\":\"a\",\"t\":\"\",\"of\":{\"id\":[]}}") ≡ Err BadTime
unfolding is_utf8 chars json_on_literals wsm_values_on_literals
a_bad_time_before_a_bad_identifier = refl

abbrev sixteen : List ℕ
sixteen = codes "0123456789abcdef"

abbrev two_hundred_forty : List ℕ
two_hundred_forty =
    sixteen ++ sixteen ++ sixteen ++ sixteen ++ sixteen ++ sixteen ++ sixteen ++ sixteen
    ++ sixteen ++ sixteen ++ sixteen ++ sixteen ++ sixteen ++ sixteen ++ sixteen

the_longest : identifier_text (two_hundred_forty ++ codes "0123456789abcde") ≡ Ok (Some (two_hundred_forty ++ codes "0123456789abcde"))
the_longest = refl

a_byte_more : identifier_text (two_hundred_forty ++ sixteen) ≡ Err BadIdentifier
a_byte_more = refl

-- a source without a place for it
no_place : identifier_of (record source { identifier = None }) [] (codes "{\"k\":\"a\",\"t\":60,\"of\":{\"id\":\"x\"}}") ≡ None
unfolding is_utf8 chars json_on_literals
no_place = refl

-- ---- CSV: the identifier is the third column that is asked for

abbrev table : Source
table = record {
  format = format.Csv (record { separator = 44; names = codes "shop" ∷ codes "when" ∷ codes "order" ∷ [] });
  longest = 30;
  key = record { at = Column 0; names = names.Same };
  time = record { at = Column 1; form = Epoch Seconds; unit = Seconds };
  fields = [];
  identifier = Some (Column 2);
  clock = None;
}

a_cell : identifier_of table (codes "order,when,shop" ∷ []) (codes "\"a,\"\"1\",60,a") ≡ Some (codes "a,\"1")
unfolding is_utf8 chars encode_utf8
a_cell = refl

an_empty_cell : identifier_of table (codes "order,when,shop" ∷ []) (codes ",60,a") ≡ None
unfolding is_utf8 chars encode_utf8
an_empty_cell = refl

an_empty_cell_is_no_fault : said_of table shop (codes "order,when,shop" ∷ []) (codes ",60,a") ≡ Ok (Record (Some 0) (pos 60) [])
unfolding is_utf8 chars encode_utf8 wsm_values_on_literals
an_empty_cell_is_no_fault = refl

-- ---- access logs: the identifier is what a proxy wrote in place of the ident

abbrev access : Source
access = record {
  format = format.Access;
  longest = 80;
  key = record { at = Column 2; names = names.Same };
  time = record { at = Column 3; form = Epoch Seconds; unit = Seconds };
  fields = [];
  identifier = Some (Column 1);
  clock = None;
}

an_ident : identifier_of access [] (codes "h c0ffee a [60] \"GET / HTTP/1.0\" 200 23 \"-\" \"agent\"") ≡ Some (codes "c0ffee")
unfolding is_utf8 chars encode_utf8
an_ident = refl

a_dash : identifier_of access [] (codes "h - a [60] \"GET / HTTP/1.0\" 200 23 \"-\" \"agent\"") ≡ None
unfolding is_utf8 chars encode_utf8
a_dash = refl
