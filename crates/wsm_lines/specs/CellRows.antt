-- Lines of access logs and of CSV with what they say, computed.
use Rattle.std.specs.Prelude.{◌≡◌, [], ◌∷◌, ◌++◌, ℕ, List, pos, Some, None, Ok, Err, codes, refl}
use Rattle.std.specs.Char.{encode_utf8}
use Rattle.std.specs.Str.{is_utf8, chars}
use Rattle.wsm_record.specs.declared.event.Value.TheVariants as values
use Rattle.wsm_record.specs.Event.{Record}
use Rattle.wsm_record.specs.Schema.{Declared, Int}
use Rattle.wsm_values.specs.OnLiterals.{wsm_values_on_literals}
use Rattle.wsm_values.specs.declared.time.TimeForm.TheVariants.{Epoch}
use Rattle.wsm_values.specs.declared.time.Unit.TheVariants.{Seconds}
use Rattle.wsm_lines.specs.declared.fault.LineFault.TheVariants.{TooLong, NotUtf8, NotAccess, NotCsv, Header, BadHeader, CellCount, NoKey, BadTime, NoField, BadDecimal}
use Rattle.wsm_lines.specs.declared.source.Format.TheVariants as format
use Rattle.wsm_lines.specs.declared.source.KeyNames.TheVariants as names
use Rattle.wsm_lines.specs.declared.source.Kind.TheVariants as kind
use Rattle.wsm_lines.specs.declared.source.Place.TheVariants.{Path, Column}
use Rattle.wsm_lines.specs.declared.source.Source.{Source}
use Rattle.wsm_lines.specs.Entries.{entry_with}
use Rattle.wsm_lines.specs.Said.{said_of}
use Rattle.wsm_lines.specs.Text.{byte_order_mark}

-- keys a and b, and a number
abbrev shop : Declared
shop = record {
  keys = codes "a" ∷ codes "b" ∷ [];
  fields = record { name = codes "n"; type = Int (pos 0) (pos 100) } ∷ [];
  sources = [];
}

-- ---- access logs: what the path begins with, seconds for a time, and the bytes

abbrev access : Source
access = record {
  format = format.Access;
  longest = 80;
  key = record { at = Column 10; names = names.Prefixes (entry_with (codes "/api/") 1 ∷ []) (Some 0) };
  time = record { at = Column 3; form = Epoch Seconds; unit = Seconds };
  fields = record { at = Column 6; kind = kind.Whole; default = None } ∷ [];
  identifier = None;
  clock = None;
}

good_access : said_of access shop [] (codes "h - - [60] \"GET /api/x HTTP/1.0\" 200 23 \"-\" \"agent\"") ≡ Ok (Record (Some 1) (pos 60) (values.Int (pos 23) ∷ []))
unfolding is_utf8 chars encode_utf8 wsm_values_on_literals
good_access = refl

another_path : said_of access shop [] (codes "h - - [60] \"GET / HTTP/1.0\" 200 23 \"-\" \"agent\"" ++ 13 ∷ []) ≡ Ok (Record (Some 0) (pos 60) (values.Int (pos 23) ∷ []))
unfolding is_utf8 chars encode_utf8 wsm_values_on_literals
another_path = refl

-- a dash stands for nothing
a_dash : said_of access shop [] (codes "h - - [60] \"GET / HTTP/1.0\" 200 - \"-\" \"agent\"") ≡ Err NoField
unfolding is_utf8 chars encode_utf8 wsm_values_on_literals
a_dash = refl

no_words : said_of access shop [] (codes "h - - [x] \"-\" 400 0 \"-\" \"agent\"") ≡ Err NoKey
unfolding is_utf8 chars encode_utf8 wsm_values_on_literals
no_words = refl

not_access : said_of access shop [] (codes "h - - [60] \"GET / HTTP/1.0\" 200 23") ≡ Err NotAccess
unfolding is_utf8 chars encode_utf8 wsm_values_on_literals
not_access = refl

-- names of members lead nowhere in cells
a_path_in_cells : said_of (record access { key = record { at = Path []; names = names.Same } }) shop [] (codes "h - - [x] \"r\" 400 0 \"-\" \"agent\"") ≡ Err NoKey
unfolding is_utf8 chars encode_utf8 wsm_values_on_literals
a_path_in_cells = refl

-- ---- CSV: customer, when and amount, wherever the header has them

abbrev table : Source
table = record {
  format = format.Csv (record { separator = 59; names = codes "customer" ∷ codes "when" ∷ codes "amount" ∷ [] });
  longest = 30;
  key = record { at = Column 0; names = names.Same };
  time = record { at = Column 1; form = Epoch Seconds; unit = Seconds };
  fields = record { at = Column 2; kind = kind.Decimal (record { point = 44; group = Some 46; scale = 2 }); default = None } ∷ [];
  identifier = None;
  clock = None;
}

abbrev header : List ℕ
header = codes "when;x;\"customer\";amount"

the_header : said_of table shop [] header ≡ Err Header
unfolding is_utf8 chars encode_utf8 wsm_values_on_literals
the_header = refl

good_row : said_of table shop (header ∷ []) (codes "60;;b;1.234,5") ≡ Ok (Record (Some 1) (pos 60) (values.Int (pos 123450) ∷ []))
unfolding is_utf8 chars encode_utf8 wsm_values_on_literals
good_row = refl

quotes : said_of table shop (codes "60;;b;1" ∷ header ∷ []) (codes "60;\"a;b\"\"c\";\"b\";\"0,5\"") ≡ Ok (Record (Some 1) (pos 60) (values.Int (pos 50) ∷ []))
unfolding is_utf8 chars encode_utf8 wsm_values_on_literals
quotes = refl

-- the header may end in a carriage return, and rows too
carriage_returns : said_of table shop ((header ++ 13 ∷ []) ∷ []) (codes "60;;b;1" ++ 13 ∷ []) ≡ Ok (Record (Some 1) (pos 60) (values.Int (pos 100) ∷ []))
unfolding is_utf8 chars encode_utf8 wsm_values_on_literals
carriage_returns = refl

the_header_once_more : said_of table shop (codes "60;;b;1" ∷ header ∷ []) (header ++ 13 ∷ []) ≡ Err Header
unfolding is_utf8 chars encode_utf8 wsm_values_on_literals
the_header_once_more = refl

-- only byte for byte
another_header : said_of table shop (header ∷ []) (codes "when;x;customer;amount") ≡ Err BadTime
unfolding is_utf8 chars encode_utf8 wsm_values_on_literals
another_header = refl

a_cell_too_few : said_of table shop (header ∷ []) (codes "60;;b") ≡ Err CellCount
unfolding is_utf8 chars encode_utf8 wsm_values_on_literals
a_cell_too_few = refl

a_cell_too_many : said_of table shop (header ∷ []) (codes "60;;b;1;") ≡ Err CellCount
unfolding is_utf8 chars encode_utf8 wsm_values_on_literals
a_cell_too_many = refl

an_open_quote : said_of table shop (header ∷ []) (codes "60;;\"b;1") ≡ Err NotCsv
unfolding is_utf8 chars encode_utf8 wsm_values_on_literals
an_open_quote = refl

an_empty_cell : said_of table shop (header ∷ []) (codes "60;;\"\";1") ≡ Err NoKey
unfolding is_utf8 chars encode_utf8 wsm_values_on_literals
an_empty_cell = refl

a_number_of_another_form : said_of table shop (header ∷ []) (codes "60;;b;1.5") ≡ Err BadDecimal
unfolding is_utf8 chars encode_utf8 wsm_values_on_literals
a_number_of_another_form = refl

-- ---- a log without a header

a_name_that_is_missing : said_of table shop [] (codes "when;customer") ≡ Err BadHeader
unfolding is_utf8 chars encode_utf8 wsm_values_on_literals
a_name_that_is_missing = refl

a_header_with_an_open_quote : said_of table shop [] (codes "when;\"customer") ≡ Err BadHeader
unfolding is_utf8 chars encode_utf8 wsm_values_on_literals
a_header_with_an_open_quote = refl

a_row_below_no_header : said_of table shop (codes "60;;b;1" ∷ codes "when;customer" ∷ []) (codes "60;;b;1") ≡ Err BadHeader
unfolding is_utf8 chars encode_utf8 wsm_values_on_literals
a_row_below_no_header = refl

a_header_that_is_too_long : said_of table shop [] (header ++ codes ";more;more") ≡ Err TooLong
unfolding is_utf8 chars encode_utf8 wsm_values_on_literals
a_header_that_is_too_long = refl

a_row_below_one_that_is_too_long : said_of table shop ((header ++ codes ";more;more") ∷ []) (codes "60;;b;1;2;3") ≡ Err BadHeader
unfolding is_utf8 chars encode_utf8 wsm_values_on_literals
a_row_below_one_that_is_too_long = refl

a_broken_row_below_no_header : said_of table shop (codes "when" ∷ []) (255 ∷ []) ≡ Err NotUtf8
unfolding is_utf8 chars encode_utf8 wsm_values_on_literals
a_broken_row_below_no_header = refl

-- ---- a byte order mark is no part of the first line

a_mark_and_an_access_line : said_of access shop [] (byte_order_mark ++ codes "h - - [60] \"GET /api/x HTTP/1.0\" 200 23 \"-\" \"agent\"") ≡ Ok (Record (Some 1) (pos 60) (values.Int (pos 23) ∷ []))
unfolding is_utf8 chars encode_utf8 wsm_values_on_literals
a_mark_and_an_access_line = refl

a_mark_and_the_header : said_of table shop [] (byte_order_mark ++ header) ≡ Err Header
unfolding is_utf8 chars encode_utf8 wsm_values_on_literals
a_mark_and_the_header = refl

a_row_below_a_mark : said_of table shop ((byte_order_mark ++ header) ∷ []) (codes "60;;b;1") ≡ Ok (Record (Some 1) (pos 60) (values.Int (pos 100) ∷ []))
unfolding is_utf8 chars encode_utf8 wsm_values_on_literals
a_row_below_a_mark = refl

the_header_without_its_mark : said_of table shop ((byte_order_mark ++ header) ∷ []) header ≡ Err Header
unfolding is_utf8 chars encode_utf8 wsm_values_on_literals
the_header_without_its_mark = refl

two_marks_and_the_header : said_of table shop [] (byte_order_mark ++ byte_order_mark ++ header) ≡ Err BadHeader
unfolding is_utf8 chars encode_utf8 wsm_values_on_literals
two_marks_and_the_header = refl
