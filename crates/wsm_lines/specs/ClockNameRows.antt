-- Lines with the clocks that they name, computed.
use Rattle.std.specs.Prelude.{◌≡◌, [], ◌∷◌, ◌++◌, ℕ, List, pos, Some, None, Ok, codes, refl}
use Rattle.std.specs.Char.{encode_utf8}
use Rattle.std.specs.Str.{is_utf8, chars}
use Rattle.json.proofs.OnLiterals.{json_on_literals}
use Rattle.wsm_record.specs.Event.{Record}
use Rattle.wsm_record.specs.Schema.{Declared}
use Rattle.wsm_values.specs.OnLiterals.{wsm_values_on_literals}
use Rattle.wsm_values.specs.declared.time.TimeForm.TheVariants.{Epoch}
use Rattle.wsm_values.specs.declared.time.Unit.TheVariants.{Seconds}
use Rattle.wsm_lines.specs.declared.source.Format.TheVariants as format
use Rattle.wsm_lines.specs.declared.source.KeyNames.TheVariants as names
use Rattle.wsm_lines.specs.declared.source.Place.TheVariants.{Path, Column}
use Rattle.wsm_lines.specs.declared.source.Source.{Source}
use Rattle.wsm_lines.specs.ClockName.{clock_text}
use Rattle.wsm_lines.specs.Said.{clock_of, said_of}

-- key a, and no field
abbrev shop : Declared
shop = record { keys = codes "a" ∷ []; fields = []; sources = [] }

-- ---- JSON: the clock is the gateway's

abbrev source : Source
source = record {
  format = format.Json;
  longest = 60;
  key = record { at = Path (codes "k" ∷ []); names = names.Same };
  time = record { at = Path (codes "t" ∷ []); form = Epoch Seconds; unit = Seconds };
  fields = [];
  identifier = None;
  clock = Some (Path (codes "via" ∷ codes "gw" ∷ []));
}

a_text : clock_of source [] (codes "{\"k\":\"a\",\"t\":60,\"via\":{\"gw\":\"north\"}}") ≡ Some (codes "north")
unfolding is_utf8 chars encode_utf8 json_on_literals
a_text = refl

-- a number is taken as it is written
a_number : clock_of source [] (codes "{\"k\":\"a\",\"t\":60,\"via\":{\"gw\":7}}") ≡ Some (codes "7")
unfolding is_utf8 chars json_on_literals
a_number = refl

-- where nothing stands, or what has no text, or an empty one, the line names no clock
none : clock_of source [] (codes "{\"k\":\"a\",\"t\":60}") ≡ None
unfolding is_utf8 chars json_on_literals
none = refl

an_array : clock_of source [] (codes "{\"k\":\"a\",\"t\":60,\"via\":{\"gw\":[1]}}") ≡ None
unfolding is_utf8 chars json_on_literals
an_array = refl

no_byte : clock_of source [] (codes "{\"k\":\"a\",\"t\":60,\"via\":{\"gw\":\"\"}}") ≡ None
unfolding is_utf8 chars json_on_literals
no_byte = refl

-- which is no fault
no_clock_is_no_fault : said_of source shop [] (codes "{\"k\":\"a\",\"t\":60,\"via\":{\"gw\":[1]}}") ≡ Ok (Record (Some 0) (pos 60) [])
unfolding is_utf8 chars json_on_literals wsm_values_on_literals
no_clock_is_no_fault = refl

abbrev sixteen : List ℕ
sixteen = codes "0123456789abcdef"

abbrev two_hundred_forty : List ℕ
two_hundred_forty =
    sixteen ++ sixteen ++ sixteen ++ sixteen ++ sixteen ++ sixteen ++ sixteen ++ sixteen
    ++ sixteen ++ sixteen ++ sixteen ++ sixteen ++ sixteen ++ sixteen ++ sixteen

the_longest : clock_text (two_hundred_forty ++ codes "0123456789abcde") ≡ Some (two_hundred_forty ++ codes "0123456789abcde")
the_longest = refl

a_byte_more : clock_text (two_hundred_forty ++ sixteen) ≡ None
a_byte_more = refl

-- ---- CSV: the clock is the third column that is asked for

abbrev table : Source
table = record {
  format = format.Csv (record { separator = 44; names = codes "shop" ∷ codes "when" ∷ codes "till" ∷ [] });
  longest = 30;
  key = record { at = Column 0; names = names.Same };
  time = record { at = Column 1; form = Epoch Seconds; unit = Seconds };
  fields = [];
  identifier = None;
  clock = Some (Column 2);
}

a_cell : clock_of table (codes "till,when,shop" ∷ []) (codes "\"t,1\",60,a") ≡ Some (codes "t,1")
unfolding is_utf8 chars encode_utf8
a_cell = refl

an_empty_cell : clock_of table (codes "till,when,shop" ∷ []) (codes ",60,a") ≡ None
unfolding is_utf8 chars encode_utf8
an_empty_cell = refl

-- the header says nothing
a_header : clock_of table [] (codes "till,when,shop") ≡ None
unfolding is_utf8 chars encode_utf8
a_header = refl
