-- Lines of JSON with what they say, computed.
use Rattle.std.specs.Prelude.{◌≡◌, [], ◌∷◌, ◌++◌, ℕ, List, pos, negsuc, Some, None, Ok, Err, true, false, codes, refl}
use Rattle.std.specs.Str.{is_utf8, chars}
use Rattle.json.proofs.OnLiterals.{json_on_literals}
use Rattle.wsm_record.specs.declared.event.Value.TheVariants as values
use Rattle.wsm_record.specs.Event.{Record}
use Rattle.wsm_record.specs.Schema.{Declared, Int, Truth, Enum}
use Rattle.wsm_values.specs.OnLiterals.{wsm_values_on_literals}
use Rattle.wsm_values.specs.declared.decimal.DecimalForm.{DecimalForm}
use Rattle.wsm_values.specs.declared.time.TimeForm.TheVariants.{Epoch}
use Rattle.wsm_values.specs.declared.time.Unit.TheVariants.{Seconds}
use Rattle.wsm_lines.specs.declared.fault.LineFault.TheVariants.{TooLong, NotUtf8, NotJson, NoKey, BadKey, NoTime, BadTime, NoField, BadWhole, BadDecimal, BadBool, BadEnum}
use Rattle.wsm_lines.specs.declared.source.Format.TheVariants.{Json}
use Rattle.wsm_lines.specs.declared.source.KeyNames.TheVariants as names
use Rattle.wsm_lines.specs.declared.source.Kind.TheVariants as kind
use Rattle.wsm_lines.specs.declared.source.Place.TheVariants.{Path}
use Rattle.wsm_lines.specs.declared.source.Source.{Source}
use Rattle.wsm_lines.specs.Entries.{entry_with}
use Rattle.wsm_lines.specs.Said.{said_of}
use Rattle.wsm_lines.specs.Text.{byte_order_mark}

-- keys a and b; a number, an amount, a truth and a plan
abbrev shop : Declared
shop = record {
  keys = codes "a" ∷ codes "b" ∷ [];
  fields = record { name = codes "n"; type = Int (pos 0) (pos 100) }
      ∷ record { name = codes "amount"; type = Int (pos 0) (pos 100) }
      ∷ record { name = codes "paid"; type = Truth }
      ∷ record { name = codes "plan"; type = Enum (codes "free" ∷ codes "team" ∷ []) }
      ∷ [];
  sources = [];
}

abbrev european : DecimalForm
european = record { point = 44; group = Some 46; scale = 2 }

-- the key and the time by these names, seconds since 1970; the number is 5 where nothing stands, the amount is
-- written with a comma and in a member's member
abbrev source : Source
source = record {
  format = Json;
  longest = 90;
  key = record { at = Path (codes "k" ∷ []); names = names.Same };
  time = record { at = Path (codes "t" ∷ []); form = Epoch Seconds; unit = Seconds };
  fields = record { at = Path (codes "n" ∷ []); kind = kind.Whole; default = Some (values.Int (pos 5)) }
      ∷ record { at = Path (codes "bill" ∷ codes "sum" ∷ []); kind = kind.Decimal european; default = None }
      ∷ record { at = Path (codes "paid" ∷ []); kind = kind.Bool (record { yes = codes "ja"; no = codes "nein" }); default = None }
      ∷ record { at = Path (codes "plan" ∷ []); kind = kind.Enum (entry_with (codes "frei") 0 ∷ entry_with (codes "team") 1 ∷ []); default = None }
      ∷ [];
  identifier = None;
  clock = None;
}

-- the rest of a good line
abbrev rest : List ℕ
rest = codes "\"bill\":{\"sum\":\"1.234,5\"},\"paid\":\"ja\",\"plan\":\"frei\"}"

good : said_of source shop [] (codes "{\"k\":\"b\",\"t\":60,\"n\":\"-7\"," ++ rest) ≡ Ok (Record (Some 1) (pos 60) (values.Int (negsuc 6) ∷ values.Int (pos 123450) ∷ values.Bool true ∷ values.Enum 0 ∷ []))
unfolding is_utf8 chars json_on_literals wsm_values_on_literals
good = refl

-- a carriage return at the end goes first
a_carriage_return : said_of source shop [] (codes "{\"k\":\"b\",\"t\":60,\"n\":8," ++ rest ++ 13 ∷ []) ≡ Ok (Record (Some 1) (pos 60) (values.Int (pos 8) ∷ values.Int (pos 123450) ∷ values.Bool true ∷ values.Enum 0 ∷ []))
unfolding is_utf8 chars json_on_literals wsm_values_on_literals
a_carriage_return = refl

-- where nothing stands, or null, the default counts
a_default : said_of source shop [] (codes "{\"k\":\"a\",\"t\":\"61\"," ++ rest) ≡ Ok (Record (Some 0) (pos 61) (values.Int (pos 5) ∷ values.Int (pos 123450) ∷ values.Bool true ∷ values.Enum 0 ∷ []))
unfolding is_utf8 chars json_on_literals wsm_values_on_literals
a_default = refl

null_with_a_default : said_of source shop [] (codes "{\"k\":\"a\",\"t\":61,\"n\":null," ++ rest) ≡ Ok (Record (Some 0) (pos 61) (values.Int (pos 5) ∷ values.Int (pos 123450) ∷ values.Bool true ∷ values.Enum 0 ∷ []))
unfolding is_utf8 chars json_on_literals wsm_values_on_literals
null_with_a_default = refl

null_with_no_default : said_of source shop [] (codes "{\"k\":\"a\",\"t\":61,\"bill\":{\"sum\":null}}") ≡ Err NoField
unfolding is_utf8 chars json_on_literals wsm_values_on_literals
null_with_no_default = refl

-- of a name that comes twice the last member counts
twice : said_of source shop [] (codes "{\"n\":1,\"k\":\"b\",\"t\":1,\"n\":2," ++ rest) ≡ Ok (Record (Some 1) (pos 1) (values.Int (pos 2) ∷ values.Int (pos 123450) ∷ values.Bool true ∷ values.Enum 0 ∷ []))
unfolding is_utf8 chars json_on_literals wsm_values_on_literals
twice = refl

-- also where the last is null
twice_and_null : said_of source shop [] (codes "{\"k\":\"b\",\"t\":1,\"k\":null}") ≡ Err NoKey
unfolding is_utf8 chars json_on_literals wsm_values_on_literals
twice_and_null = refl

-- what JSON itself writes as a number has a point and no groups, whatever the form says
a_number_of_json : said_of source shop [] (codes "{\"k\":\"b\",\"t\":1,\"bill\":{\"sum\":1.5},\"paid\":\"nein\",\"plan\":\"team\"}") ≡ Ok (Record (Some 1) (pos 1) (values.Int (pos 5) ∷ values.Int (pos 150) ∷ values.Bool false ∷ values.Enum 1 ∷ []))
unfolding is_utf8 chars json_on_literals wsm_values_on_literals
a_number_of_json = refl

a_group_in_a_number_of_json : said_of source shop [] (codes "{\"k\":\"b\",\"t\":1,\"bill\":{\"sum\":1.234}}") ≡ Err BadDecimal
unfolding is_utf8 chars json_on_literals wsm_values_on_literals
a_group_in_a_number_of_json = refl

a_group_in_a_text : said_of source shop [] (codes "{\"k\":\"b\",\"t\":1,\"bill\":{\"sum\":\"1.234\"}}") ≡ Err NoField
unfolding is_utf8 chars json_on_literals wsm_values_on_literals
a_group_in_a_text = refl

a_key_not_declared : said_of source shop [] (codes "{\"k\":\"c\",\"t\":60,\"n\":8," ++ rest) ≡ Ok (Record None (pos 60) (values.Int (pos 8) ∷ values.Int (pos 123450) ∷ values.Bool true ∷ values.Enum 0 ∷ []))
unfolding is_utf8 chars json_on_literals wsm_values_on_literals
a_key_not_declared = refl

-- what has no text is bad, and not missing; a default doesn't count for it
an_array_for_a_number : said_of source shop [] (codes "{\"k\":\"b\",\"t\":1,\"n\":[]}") ≡ Err BadWhole
unfolding is_utf8 chars json_on_literals wsm_values_on_literals
an_array_for_a_number = refl

an_object_for_a_key : said_of source shop [] (codes "{\"k\":{}}") ≡ Err BadKey
unfolding is_utf8 chars json_on_literals wsm_values_on_literals
an_object_for_a_key = refl

-- ninety bytes may be, and a carriage return behind them
not_too_long : said_of (record source { longest = 2 }) shop [] (codes "{}" ++ 13 ∷ []) ≡ Err NoKey
unfolding is_utf8 chars json_on_literals wsm_values_on_literals
not_too_long = refl

-- ---- the faults in their order

too_long : said_of (record source { longest = 2 }) shop [] (255 ∷ codes "{}") ≡ Err TooLong
unfolding is_utf8 chars json_on_literals wsm_values_on_literals
too_long = refl

two_carriage_returns : said_of (record source { longest = 2 }) shop [] (codes "{}" ++ 13 ∷ 13 ∷ []) ≡ Err TooLong
unfolding is_utf8 chars json_on_literals wsm_values_on_literals
two_carriage_returns = refl

not_utf8 : said_of source shop [] (255 ∷ []) ≡ Err NotUtf8
unfolding is_utf8 chars json_on_literals wsm_values_on_literals
not_utf8 = refl

cut_off : said_of source shop [] (codes "{\"k\":\"b\",\"t\":6") ≡ Err NotJson
unfolding is_utf8 chars json_on_literals wsm_values_on_literals
cut_off = refl

two_values : said_of source shop [] (codes "{}{}") ≡ Err NotJson
unfolding is_utf8 chars json_on_literals wsm_values_on_literals
two_values = refl

no_byte : said_of source shop [] [] ≡ Err NotJson
unfolding is_utf8 chars json_on_literals wsm_values_on_literals
no_byte = refl

no_key_before_no_time : said_of source shop [] (codes "{\"n\":\"x\"}") ≡ Err NoKey
unfolding is_utf8 chars json_on_literals wsm_values_on_literals
no_key_before_no_time = refl

no_object : said_of source shop [] (codes "7") ≡ Err NoKey
unfolding is_utf8 chars json_on_literals wsm_values_on_literals
no_object = refl

an_empty_key : said_of source shop [] (codes "{\"k\":\"\"}") ≡ Err BadKey
unfolding is_utf8 chars json_on_literals wsm_values_on_literals
an_empty_key = refl

a_key_of_two_lines : said_of source shop [] (codes "{\"k\":\"a\\nb\",\"t\":1}") ≡ Err BadKey
unfolding is_utf8 chars json_on_literals wsm_values_on_literals
a_key_of_two_lines = refl

no_time_before_a_bad_field : said_of source shop [] (codes "{\"k\":\"a\",\"n\":\"x\"}") ≡ Err NoTime
unfolding is_utf8 chars json_on_literals wsm_values_on_literals
no_time_before_a_bad_field = refl

a_bad_time_before_a_bad_field : said_of source shop [] (codes "{\"n\":\"x\",\"k\":\"a\",\"t\":1.5}") ≡ Err BadTime
unfolding is_utf8 chars json_on_literals wsm_values_on_literals
a_bad_time_before_a_bad_field = refl

a_bad_number_before_no_amount : said_of source shop [] (codes "{\"k\":\"a\",\"t\":1,\"n\":1.0}") ≡ Err BadWhole
unfolding is_utf8 chars json_on_literals wsm_values_on_literals
a_bad_number_before_no_amount = refl

no_amount_before_a_bad_truth : said_of source shop [] (codes "{\"k\":\"a\",\"t\":1,\"bill\":7,\"paid\":true}") ≡ Err NoField
unfolding is_utf8 chars json_on_literals wsm_values_on_literals
no_amount_before_a_bad_truth = refl

a_bad_truth_before_a_bad_plan : said_of source shop [] (codes "{\"k\":\"a\",\"t\":1,\"bill\":{\"sum\":1},\"paid\":true,\"plan\":\"Team\"}") ≡ Err BadBool
unfolding is_utf8 chars json_on_literals wsm_values_on_literals
a_bad_truth_before_a_bad_plan = refl

a_bad_plan : said_of source shop [] (codes "{\"k\":\"a\",\"t\":1,\"bill\":{\"sum\":1},\"paid\":\"ja\",\"plan\":\"Team\"}") ≡ Err BadEnum
unfolding is_utf8 chars json_on_literals wsm_values_on_literals
a_bad_plan = refl

-- ---- keys by tables and prefixes

abbrev by_table : Source
by_table = record source {
  key = record { at = Path (codes "k" ∷ []); names = names.Table (entry_with (codes "x1") 1 ∷ entry_with (codes "x2") 0 ∷ entry_with (codes "x1") 0 ∷ []) None };
  fields = [];
}

abbrev by_prefix : Source
by_prefix = record source {
  key = record { at = Path (codes "k" ∷ []); names = names.Prefixes (entry_with (codes "/api/") 1 ∷ entry_with (codes "/api/v2/") 0 ∷ []) (Some 0) };
  fields = [];
}

the_first_entry_counts : said_of by_table shop [] (codes "{\"k\":\"x1\",\"t\":1}") ≡ Ok (Record (Some 1) (pos 1) [])
unfolding is_utf8 chars json_on_literals wsm_values_on_literals
the_first_entry_counts = refl

not_in_the_table : said_of by_table shop [] (codes "{\"k\":\"x\",\"t\":1}") ≡ Ok (Record None (pos 1) [])
unfolding is_utf8 chars json_on_literals wsm_values_on_literals
not_in_the_table = refl

the_first_prefix_counts : said_of by_prefix shop [] (codes "{\"k\":\"/api/v2/a\",\"t\":1}") ≡ Ok (Record (Some 1) (pos 1) [])
unfolding is_utf8 chars json_on_literals wsm_values_on_literals
the_first_prefix_counts = refl

no_prefix : said_of by_prefix shop [] (codes "{\"k\":\"/api\",\"t\":1}") ≡ Ok (Record (Some 0) (pos 1) [])
unfolding is_utf8 chars json_on_literals wsm_values_on_literals
no_prefix = refl

-- ---- a byte order mark is no part of the first line, but counts for how long it is

a_mark : said_of by_table shop [] (byte_order_mark ++ codes "{\"k\":\"x1\",\"t\":1}") ≡ Ok (Record (Some 1) (pos 1) [])
unfolding is_utf8 chars json_on_literals wsm_values_on_literals
a_mark = refl

a_mark_alone : said_of by_table shop [] byte_order_mark ≡ Err NotJson
unfolding is_utf8 chars json_on_literals wsm_values_on_literals
a_mark_alone = refl

a_second_mark : said_of by_table shop [] (byte_order_mark ++ byte_order_mark ++ codes "{}") ≡ Err NotJson
unfolding is_utf8 chars json_on_literals wsm_values_on_literals
a_second_mark = refl

a_mark_on_a_second_line : said_of by_table shop ([] ∷ []) (byte_order_mark ++ codes "{}") ≡ Err NotJson
unfolding is_utf8 chars json_on_literals wsm_values_on_literals
a_mark_on_a_second_line = refl

a_part_of_a_mark : said_of by_table shop [] (239 ∷ 187 ∷ codes "{}") ≡ Err NotUtf8
unfolding is_utf8 chars json_on_literals wsm_values_on_literals
a_part_of_a_mark = refl

too_long_with_a_mark : said_of (record source { longest = 4 }) shop [] (byte_order_mark ++ codes "{}") ≡ Err TooLong
unfolding is_utf8 chars json_on_literals wsm_values_on_literals
too_long_with_a_mark = refl
