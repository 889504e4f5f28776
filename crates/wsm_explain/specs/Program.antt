-- A program and what it needs, as JSON.
use Rattle.std.specs.Prelude.{ℕ, zero, suc, List, [], ◌∷◌, ◌++◌, length, map, codes, Option, None, slice_index_or}
use Rattle.serde_json.specs.Data.{Data, string, array, object, member, no_members}
use Rattle.serde_json.specs.View.{items_of}
use Rattle.wsm_interval.specs.declared.Interval.{Interval}
use Rattle.wsm_record.specs.declared.words.Kind.{Kind}
use Rattle.wsm_record.specs.declared.words.CellType.{CellType}
use Rattle.wsm_record.specs.declared.words.CellType.TheVariants as cells
use Rattle.wsm_program.specs.declared.instr.Instr.{Instr}
use Rattle.wsm_program.specs.declared.SectionId.TheVariants.{Where, Update, Fire}
use Rattle.wsm_program.specs.declared.program.Costs.{Costs}
use Rattle.wsm_program.specs.Program.{Header, Program}
use Rattle.wsm_program.specs.Text.{instr_text}
use Rattle.wsm_query.specs.Print.{kind_word}
use Rattle.wsm_sums.specs.Crc.{sum_of}
use Rattle.wsm_bytecode.specs.Spelling.{spelling}
use Rattle.wsm_rules.specs.Costs.{needed}
use Rattle.wsm_rules.specs.Rules.{range}
use Rattle.wsm_verifier.specs.declared.places.Place.{Place}
use Rattle.wsm_verifier.specs.Places.{column_ranges, places_in}
use Rattle.wsm_record.specs.Schema.{Declared}
use Rattle.wsm_explain.specs.Json.{natural, or_null, text_data, list_data}
use Rattle.wsm_explain.specs.Declarations.{clock_data, costs_data, field_data, firing_data, interval_data, column_data, window_data}

abbrev pub kind_data : Kind → Data
kind_data k = string (kind_word k)

-- an instruction, and the interval of the number that it pushes; null where it pushes none, or none is known
abbrev pub place_data : Place → Data
place_data x = object (member (codes "range") (or_null interval_data x.number) (member (codes "text") (string (instr_text x.instr)) no_members))

-- the accumulators are what FOLD and ACC name
abbrev pub code_of : List Kind → List Place → List Place → List Place → Data
code_of kinds fire update selection =
    object
    (member (codes "accumulators") (list_data kind_data kinds)
    (member (codes "fire") (list_data place_data fire)
    (member (codes "update") (list_data place_data update)
    (member (codes "where") (list_data place_data selection) no_members))))

-- of a program that is accepted
abbrev pub code_data : Program → Data
code_data p = code_of p.header.kinds (places_in p Fire) (places_in p Update) (places_in p Where)

-- of the numbers of another one nothing is known
abbrev pub bare : Instr → Place
bare i = record { instr = i; number = None }

abbrev pub bare_code : Program → Data
bare_code p = code_of p.header.kinds (map bare p.fire) (map bare p.update) (map bare p.selection)

-- those of so many columns, from the first on, by their types and ranges
abbrev pub columns_up_to : List CellType → List (Option Interval) → ℕ → List Data
columns_up_to ts xs zero = []
columns_up_to ts xs (suc n) = columns_up_to ts xs n ++ column_data (slice_index_or ts n cells.Int) (slice_index_or xs n None) ∷ []

abbrev pub columns_data : List CellType → List (Option Interval) → Data
columns_data ts xs = array (items_of (columns_up_to ts xs (length ts)))

-- what an accumulator may hold in a firing; null where it is none of numbers
abbrev pub range_data : Program → ℕ → Data
range_data p a = or_null interval_data (range p a)

-- those of so many accumulators, from the first on
abbrev pub ranges_up_to : Program → ℕ → List Data
ranges_up_to p zero = []
ranges_up_to p (suc n) = ranges_up_to p n ++ range_data p n ∷ []

abbrev pub ranges_data : Program → Data
ranges_data p = array (items_of (ranges_up_to p (length p.header.kinds)))

abbrev pub declares_data : Declared → Data
declares_data d =
    object
    (member (codes "fields") (list_data field_data d.fields)
    (member (codes "keys") (list_data text_data d.keys)
    (member (codes "sources") (list_data text_data d.sources) no_members)))

abbrev pub output_data : Header → Data → Data
output_data h columns =
    object
    (member (codes "columns") columns
    (member (codes "firing") (firing_data h.mode h.early h.late h.form)
    (member (codes "window") (window_data h.shape) no_members)))

-- the numbers that it needs, and those that it states
abbrev pub both_data : Costs → Costs → Data
both_data needs states = object (member (codes "needs") (costs_data needs) (member (codes "states") (costs_data states) no_members))

-- the sum is that of its bytes in the version that is written
abbrev pub program_data : Program → Costs → Data → Data → Data
program_data p needs code columns =
    object
    (member (codes "clock") (clock_data p.header.clock)
    (member (codes "code") code
    (member (codes "costs") (both_data needs p.header.budget)
    (member (codes "declares") (declares_data p.header.schema)
    (member (codes "output") (output_data p.header columns)
    (member (codes "sum") (natural (sum_of (spelling p))) no_members))))))

abbrev pub accepted_data : Program → Data
accepted_data p = program_data p (needed p) (code_data p) (columns_data p.header.columns (column_ranges p))

abbrev pub rejected_data : Program → Data
rejected_data p = program_data p (needed p) (bare_code p) (columns_data p.header.columns [])
