-- Texts with what they say of a source, or the fault that they have, computed.
use Rattle.std.specs.Prelude.{◌≡◌, ℕ, List, ◌∷◌, [], ◌++◌, false, pos, Some, None, Ok, Err, codes, refl}
use Rattle.toml.proofs.OnLiterals.{toml_on_literals}
use Rattle.wsm_values.specs.declared.clock.Fold.TheVariants.{First}
use Rattle.wsm_values.specs.declared.time.Unit.TheVariants.{Seconds, Milliseconds}
use Rattle.wsm_description.specs.declared.description.DefaultValue.TheVariants as default
use Rattle.wsm_description.specs.declared.description.Description.{Description}
use Rattle.wsm_description.specs.declared.description.DecimalDescription.{DecimalDescription}
use Rattle.wsm_description.specs.declared.description.Entry.{Entry}
use Rattle.wsm_description.specs.declared.description.FormDescription.TheVariants.{Epoch, Stamped, Local}
use Rattle.wsm_description.specs.declared.description.Format.TheVariants.{Json, Access, Csv, Rows}
use Rattle.wsm_description.specs.declared.description.KeyNaming.TheVariants.{Same, File, Prefixes}
use Rattle.wsm_description.specs.declared.refusal.Refusal.TheVariants.{Fault}
use Rattle.wsm_description.specs.declared.refusal.SourceFault.TheVariants.{NotToml, UnknownKey, MissingKey, BadType, BadRange, BadWord, Conflict}
use Rattle.wsm_description.specs.KeyPart.{entry_of}
use Rattle.wsm_description.specs.Whole.{described}

-- no digits behind the point, a point and no groups, as nothing is said
abbrev unsaid : DecimalDescription
unsaid = record { scale = None; point = None; group = None }

-- a key and a time, as short as can be
abbrev rest : List ℕ
rest = codes "key.at = \"k\"\n" ++ codes "time = { at = \"t\", form = \"rfc3339\" }\n"

-- JSON, with a file of names, local times, a decimal, watermarks and identifiers
abbrev json_text : List ℕ
json_text =
    codes "format = \"json\"\n" ++ codes "longest = 65536\n" ++ codes "[key]\n" ++ codes "at = \"/customer/id\"\n"
    ++ codes "names = \"customers.csv\"\n" ++ codes "other = \"web\"\n" ++ codes "[time]\n" ++ codes "at = \"time\"\n"
    ++ codes "form = \"%d.%m.%Y %H:%M\"\n" ++ codes "zone = \"Europe/Berlin\"\n" ++ codes "fold = \"first\"\n"
    ++ codes "unit = \"milliseconds\"\n" ++ codes "[fields.amount]\n" ++ codes "at = \"/bill/amount\"\n" ++ codes "scale = 2\n"
    ++ codes "point = \",\"\n" ++ codes "group = \".\"\n" ++ codes "default = 0\n" ++ codes "[clock]\n" ++ codes "agree = 2\n"
    ++ codes "bound = 120\n" ++ codes "at = \"/via/gateway\"\n" ++ codes "[identifier]\n" ++ codes "at = \"/event/id\"\n"

abbrev json_says : Description
json_says = record {
  format = Json;
  longest = 65536;
  keys = None;
  key = record { at = codes "/customer/id"; naming = File (codes "customers.csv") (Some (codes "web")) };
  time = record { at = codes "time"; form = Local (codes "%d.%m.%Y %H:%M") (codes "Europe/Berlin") First; unit = Milliseconds };
  fields = record {
    name = codes "amount";
    at = codes "/bill/amount";
    decimal = record { scale = Some 2; point = Some 44; group = Some 46 };
    default = Some (default.Whole (pos 0));
    truths = None;
    words = None;
  } ∷ [];
  clock = Some (record {
    agree = 2;
    bound = 120;
    step = 1;
    forget = 1000000;
    room = 1000;
    named = Some (record { at = codes "/via/gateway"; most = 10000 });
  });
  identifier = Some (codes "/event/id");
}

json : described json_text ≡ Ok json_says
unfolding toml_on_literals
json = refl

abbrev by_path : List Entry
by_path = entry_of (codes "/api/") (codes "api") ∷ entry_of (codes "/") (codes "site") ∷ []

-- lines of an access log; the longer prefix stands in front
abbrev access_text : List ℕ
access_text =
    codes "format = \"access\"\n" ++ codes "[key]\n" ++ codes "at = \"path\"\n"
    ++ codes "prefixes = { \"/\" = \"site\", \"/api/\" = \"api\" }\n" ++ codes "other = \"site\"\n" ++ codes "[time]\n"
    ++ codes "at = \"time\"\n" ++ codes "form = \"%d/%b/%Y:%H:%M:%S %z\"\n"
    ++ codes "[clock]\n" ++ codes "bound = 0\n" ++ codes "step = 30\n" ++ codes "forget = 5\n" ++ codes "room = 0\n" ++ codes "at = \"host\"\n"
    ++ codes "clocks = 90\n"

abbrev access_says : Description
access_says = record {
  format = Access;
  longest = 1048576;
  keys = None;
  key = record { at = codes "path"; naming = Prefixes by_path (Some (codes "site")) };
  time = record { at = codes "time"; form = Stamped (codes "%d/%b/%Y:%H:%M:%S %z"); unit = Seconds };
  fields = [];
  clock = Some (record { agree = 1; bound = 0; step = 30; forget = 5; room = 0; named = Some (record { at = codes "host"; most = 90 }) });
  identifier = None;
}

access : described access_text ≡ Ok access_says
unfolding toml_on_literals
access = refl

-- CSV, by the names of a file; fields come in the order of their names
abbrev csv_text : List ℕ
csv_text =
    codes "format = \"csv\"\n" ++ codes "separator = \";\"\n" ++ codes "keys = \"payers\"\n" ++ codes "key.at = \"who\"\n"
    ++ codes "time = { at = \"when\", form = \"seconds\" }\n" ++ codes "[fields.paid]\n" ++ codes "true = \"ja\"\n"
    ++ codes "false = \"nein\"\n" ++ codes "default = false\n" ++ codes "[fields.plan]\n" ++ codes "words = { frei = \"free\" }\n"
    ++ codes "default = \"free\"\n"

abbrev csv_says : Description
csv_says = record {
  format = Csv 59;
  longest = 1048576;
  keys = Some (codes "payers");
  key = record { at = codes "who"; naming = Same };
  time = record { at = codes "when"; form = Epoch Seconds; unit = Seconds };
  fields = record {
    name = codes "paid";
    at = codes "paid";
    decimal = unsaid;
    default = Some (default.Truth false);
    truths = Some (record { yes = codes "ja"; no = codes "nein" });
    words = None;
  } ∷ record {
    name = codes "plan";
    at = codes "plan";
    decimal = unsaid;
    default = Some (default.Name (codes "free"));
    truths = None;
    words = Some (entry_of (codes "frei") (codes "free") ∷ []);
  } ∷ [];
  clock = None;
  identifier = None;
}

csv : described csv_text ≡ Ok csv_says
unfolding toml_on_literals
csv = refl

-- rows, of which all else is known
abbrev rows_says : Description
rows_says = record {
  format = Rows;
  longest = 1000;
  keys = None;
  key = record { at = codes "key"; naming = Same };
  time = record { at = codes "time"; form = Epoch Seconds; unit = Seconds };
  fields = [];
  clock = Some (record { agree = 1; bound = 60; step = 1; forget = 1000000; room = 1000; named = None });
  identifier = None;
}

rows : described (codes "format = \"rows\"\n" ++ codes "longest = 1000\n" ++ codes "clock.bound = 60\n") ≡ Ok rows_says
unfolding toml_on_literals
rows = refl

-- ---- faults

not_toml : described (codes "format = \n") ≡ Err (Fault NotToml [])
unfolding toml_on_literals
not_toml = refl

unknown_key : described (codes "format = \"json\"\ncolour = 1\n" ++ rest) ≡ Err (Fault UnknownKey (codes "colour"))
unfolding toml_on_literals
unknown_key = refl

unknown_in_field : described (codes "format = \"json\"\n" ++ rest ++ codes "[fields.n]\nscal = 2\n") ≡ Err (Fault UnknownKey (codes "fields.n.scal"))
unfolding toml_on_literals
unknown_in_field = refl

missing_format : described rest ≡ Err (Fault MissingKey (codes "format"))
unfolding toml_on_literals
missing_format = refl

missing_key : described (codes "format = \"json\"\n") ≡ Err (Fault MissingKey (codes "key"))
unfolding toml_on_literals
missing_key = refl

missing_bound : described (codes "format = \"json\"\n" ++ rest ++ codes "[clock]\n") ≡ Err (Fault MissingKey (codes "clock.bound"))
unfolding toml_on_literals
missing_bound = refl

missing_place : described (codes "format = \"json\"\n" ++ rest ++ codes "[identifier]\n") ≡ Err (Fault MissingKey (codes "identifier.at"))
unfolding toml_on_literals
missing_place = refl

unknown_in_identifier :
    described (codes "format = \"json\"\n" ++ rest ++ codes "identifier = { at = \"id\", within = 9 }\n")
    ≡ Err (Fault UnknownKey (codes "identifier.within"))
unfolding toml_on_literals
unknown_in_identifier = refl

bad_type : described (codes "format = 1\n" ++ rest) ≡ Err (Fault BadType (codes "format"))
unfolding toml_on_literals
bad_type = refl

prefix_of_a_number :
    described (codes "format = \"json\"\n" ++ codes "key = { at = \"k\", prefixes = { a = 1 } }\n")
    ≡ Err (Fault BadType (codes "key.prefixes.a"))
unfolding toml_on_literals
prefix_of_a_number = refl

bad_range : described (codes "format = \"json\"\nlongest = 0\n" ++ rest) ≡ Err (Fault BadRange (codes "longest"))
unfolding toml_on_literals
bad_range = refl

below_zero : described (codes "format = \"json\"\n" ++ rest ++ codes "fields.n.scale = -1\n") ≡ Err (Fault BadRange (codes "fields.n.scale"))
unfolding toml_on_literals
below_zero = refl

room_above_a_million :
    described (codes "format = \"json\"\n" ++ rest ++ codes "clock = { bound = 1, room = 1000001 }\n")
    ≡ Err (Fault BadRange (codes "clock.room"))
unfolding toml_on_literals
room_above_a_million = refl

named_above_a_million :
    described (codes "format = \"json\"\n" ++ rest ++ codes "clock = { bound = 1, at = \"g\", clocks = 1000001 }\n")
    ≡ Err (Fault BadRange (codes "clock.clocks"))
unfolding toml_on_literals
named_above_a_million = refl

-- how many clocks there may be is of no account where none is named
clocks_without_a_place :
    described (codes "format = \"json\"\n" ++ rest ++ codes "clock = { bound = 1, clocks = 9 }\n")
    ≡ Err (Fault Conflict (codes "clock.clocks"))
unfolding toml_on_literals
clocks_without_a_place = refl

scale_above_18 : described (codes "format = \"json\"\n" ++ rest ++ codes "fields.n.scale = 19\n") ≡ Err (Fault BadRange (codes "fields.n.scale"))
unfolding toml_on_literals
scale_above_18 = refl

bad_format : described (codes "format = \"xml\"\n" ++ rest) ≡ Err (Fault BadWord (codes "format"))
unfolding toml_on_literals
bad_format = refl

bad_form :
    described (codes "format = \"json\"\n" ++ codes "key.at = \"k\"\n" ++ codes "time = { at = \"t\", form = \"iso\" }\n")
    ≡ Err (Fault BadWord (codes "time.form"))
unfolding toml_on_literals
bad_form = refl

-- a zone by its name is not looked up
zone_by_its_name :
    described (codes "format = \"json\"\n" ++ codes "key.at = \"k\"\n" ++ codes "time = { at = \"t\", form = \"%F %T %Q\", zone = \"UTC\" }\n")
    ≡ Err (Fault BadWord (codes "time.form"))
unfolding toml_on_literals
zone_by_its_name = refl

open_directive :
    described (codes "format = \"json\"\n" ++ codes "key.at = \"k\"\n" ++ codes "time = { at = \"t\", form = \"%F %T %\", zone = \"UTC\" }\n")
    ≡ Err (Fault BadWord (codes "time.form"))
unfolding toml_on_literals
open_directive = refl

bad_unit :
    described (codes "format = \"json\"\n" ++ codes "key.at = \"k\"\n" ++ codes "time = { at = \"t\", form = \"rfc3339\", unit = \"days\" }\n")
    ≡ Err (Fault BadWord (codes "time.unit"))
unfolding toml_on_literals
bad_unit = refl

bad_fold :
    described (codes "format = \"json\"\n" ++ codes "key.at = \"k\"\n" ++ codes "time = { at = \"t\", form = \"%H\", zone = \"UTC\", fold = \"last\" }\n")
    ≡ Err (Fault BadWord (codes "time.fold"))
unfolding toml_on_literals
bad_fold = refl

digit_for_a_point : described (codes "format = \"json\"\n" ++ rest ++ codes "fields.n.point = \"0\"\n") ≡ Err (Fault BadWord (codes "fields.n.point"))
unfolding toml_on_literals
digit_for_a_point = refl

separator_of_json : described (codes "format = \"json\"\nseparator = \";\"\n" ++ rest) ≡ Err (Fault Conflict (codes "separator"))
unfolding toml_on_literals
separator_of_json = refl

key_of_rows : described (codes "format = \"rows\"\n" ++ rest) ≡ Err (Fault Conflict (codes "key"))
unfolding toml_on_literals
key_of_rows = refl

identifier_of_rows : described (codes "format = \"rows\"\n" ++ codes "identifier.at = \"id\"\n") ≡ Err (Fault Conflict (codes "identifier"))
unfolding toml_on_literals
identifier_of_rows = refl

clock_of_rows : described (codes "format = \"rows\"\n" ++ codes "clock = { bound = 1, at = \"g\" }\n") ≡ Err (Fault Conflict (codes "clock.at"))
unfolding toml_on_literals
clock_of_rows = refl

separator_of_rows : described (codes "format = \"rows\"\nseparator = \";\"\n") ≡ Err (Fault Conflict (codes "separator"))
unfolding toml_on_literals
separator_of_rows = refl

names_and_prefixes :
    described (codes "format = \"json\"\n" ++ codes "key = { at = \"k\", names = \"n.csv\", prefixes = {} }\n")
    ≡ Err (Fault Conflict (codes "key.prefixes"))
unfolding toml_on_literals
names_and_prefixes = refl

other_of_all : described (codes "format = \"json\"\n" ++ codes "key = { at = \"k\", other = \"a\" }\n") ≡ Err (Fault Conflict (codes "key.other"))
unfolding toml_on_literals
other_of_all = refl

zone_of_an_instant :
    described (codes "format = \"json\"\n" ++ codes "key.at = \"k\"\n" ++ codes "time = { at = \"t\", form = \"rfc3339\", zone = \"UTC\" }\n")
    ≡ Err (Fault Conflict (codes "time.zone"))
unfolding toml_on_literals
zone_of_an_instant = refl

zone_beside_an_offset :
    described (codes "format = \"json\"\n" ++ codes "key.at = \"k\"\n" ++ codes "time = { at = \"t\", form = \"%H%z\", zone = \"UTC\" }\n")
    ≡ Err (Fault Conflict (codes "time.zone"))
unfolding toml_on_literals
zone_beside_an_offset = refl

no_zone :
    described (codes "format = \"json\"\n" ++ codes "key.at = \"k\"\n" ++ codes "time = { at = \"t\", form = \"%H %%z\" }\n")
    ≡ Err (Fault Conflict (codes "time.form"))
unfolding toml_on_literals
no_zone = refl

true_alone : described (codes "format = \"json\"\n" ++ rest ++ codes "fields.n.true = \"ja\"\n") ≡ Err (Fault Conflict (codes "fields.n.true"))
unfolding toml_on_literals
true_alone = refl

group_and_point : described (codes "format = \"json\"\n" ++ rest ++ codes "fields.n.group = \".\"\n") ≡ Err (Fault Conflict (codes "fields.n.group"))
unfolding toml_on_literals
group_and_point = refl
