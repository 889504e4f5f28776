-- The command that the program has, and the job that a parse of its words asks for.
use Rattle.std.specs.Prelude.{◌≡◌, ◌≢◌, ◌++◌, ◌∷◌, List, [], map, Bool, true, false, Option, Some, None, Result, Ok, Err, String, codes, bytes_eq, if◌then◌else◌, option_map, string_bytes, ⊤}
use Rattle.clap.specs.Simple.{new_shape}
use Rattle.clap.specs.Words.{App, Row, Rule, Shape, Text, IsAmong, Kinds, first_of, kind_of, one_of, new_app, new_rule, with_subcommand}
use Rattle.clap.specs.declared.builder.ArgAction.TheVariants.{SetTrue}
use Rattle.clap.specs.declared.error.Error.{Error}
use Rattle.clap.specs.declared.error.kind.ErrorKind.TheVariants.{OutOfMemory}
use Rattle.wsm_words.specs.declared.arguments.Argument.{Argument}
use Rattle.wsm_words.specs.declared.arguments.Argument.TheVariants.{Flag, Valued, Needed, File, OtherFile, RowsFile}
use Rattle.wsm_words.specs.declared.commands.Subcommand.{Subcommand}
use Rattle.wsm_words.specs.declared.commands.Subcommand.TheVariants as sub
use Rattle.wsm_words.specs.declared.commands.Usage.{Usage}
use Rattle.wsm_words.specs.declared.job.Agreement.{Agreement}
use Rattle.wsm_words.specs.declared.job.Named.{Named}
use Rattle.wsm_words.specs.declared.job.Job.{Job}
use Rattle.wsm_words.specs.declared.job.Job.TheVariants.{Run, Compile, Migrate, Verify, Explain, Deal, Rows, Keep, Watermarks, Live}
use Rattle.wsm_words.specs.declared.refusal.WordsRefusal.{WordsRefusal}
use Rattle.wsm_words.specs.declared.refusal.WordsRefusal.TheVariants.{Words, Memory}

-- a file that has to be named
unfoldable pub file_rule : Text → Rule
file_rule id = record (new_rule id) { value_names = 1; required = true }

-- a file that may be named
unfoldable pub other_rule : Text → Rule
other_rule id = record (new_rule id) { value_names = 1 }

-- a flag, by its name
unfoldable pub flag_rule : Text → Rule
flag_rule name = record (new_rule name) { long = Some name; action = Some SetTrue }

-- an option with one value, by its name
unfoldable pub option_rule : Text → Rule
option_rule name = record (new_rule name) { long = Some name; value_names = 1 }

-- an option that has to be given
unfoldable pub needed_rule : Text → Rule
needed_rule name = record (new_rule name) { long = Some name; value_names = 1; required = true }

-- [ROWS]
unfoldable pub rows_rule : Rule
rows_rule = record (new_rule (codes "rows")) { value_names = 1 }

-- what a command takes of these words
abbrev pub rule_by : Argument → Rule
rule_by (Flag name help) = flag_rule name.now
rule_by (Valued name value help) = option_rule name.now
rule_by (Needed name value help) = needed_rule name.now
rule_by (File id name help) = file_rule id.now
rule_by (OtherFile id name help) = other_rule id.now
rule_by (RowsFile name help) = rows_rule

-- a command, and with rules behind those that it has
abbrev pub with_rules : App → List Rule → App
with_rules a rules = record a { top = record a.top { rules = a.top.rules ++ rules } }

-- and with subcommands behind those that it has
abbrev pub with_shapes : App → List Shape → App
with_shapes a [] = a
with_shapes a (shape ∷ shapes) = with_shapes (with_subcommand a shape) shapes

-- a command of this name that takes these words
abbrev pub usage_shape : Usage → Shape
usage_shape usage = record (new_shape usage.name.now) { rules = map rule_by usage.arguments.now }

-- run [--program] [--from SOURCE] [--metrics FILE] [--keys FILE] [--new-keys] [--most-keys N] QUERY [ROWS]
abbrev pub run_shape : Shape
run_shape = record (new_shape (codes "run")) {
  rules =
      flag_rule (codes "program") ∷ option_rule (codes "from") ∷ option_rule (codes "metrics") ∷ option_rule (codes "keys")
      ∷ flag_rule (codes "new-keys") ∷ option_rule (codes "most-keys") ∷ file_rule (codes "query") ∷ rows_rule ∷ [];
}

-- compile QUERY OUT
abbrev pub compile_shape : Shape
compile_shape = record (new_shape (codes "compile")) { rules = file_rule (codes "query") ∷ file_rule (codes "out") ∷ [] }

-- migrate PROGRAM OUT
abbrev pub migrate_shape : Shape
migrate_shape = record (new_shape (codes "migrate")) { rules = file_rule (codes "program") ∷ file_rule (codes "out") ∷ [] }

-- verify [--query] [--from SOURCE] [--keys N] PROGRAM
abbrev pub verify_shape : Shape
verify_shape = record (new_shape (codes "verify")) {
  rules =
      flag_rule (codes "query") ∷ option_rule (codes "from") ∷ option_rule (codes "keys") ∷ file_rule (codes "program") ∷ [];
}

-- explain [--json] [--query] PROGRAM
abbrev pub explain_shape : Shape
explain_shape = record (new_shape (codes "explain")) {
  rules =
      flag_rule (codes "json") ∷ flag_rule (codes "query") ∷ file_rule (codes "program") ∷ [];
}

-- deal [--keys-of] KEYS PARTS OUT [ROWS]
abbrev pub deal_shape : Shape
deal_shape = record (new_shape (codes "deal")) {
  rules =
      flag_rule (codes "keys-of") ∷ file_rule (codes "keys") ∷ file_rule (codes "parts") ∷ file_rule (codes "out") ∷ rows_rule ∷ [];
}

-- rows [--program] SOURCE QUERY [ROWS]
abbrev pub rows_shape : Shape
rows_shape = record (new_shape (codes "rows")) {
  rules =
      flag_rule (codes "program") ∷ file_rule (codes "source") ∷ file_rule (codes "query") ∷ rows_rule ∷ [];
}

-- keep [--program] [--taken LINES] [--most BYTES] QUERY [ROWS]
abbrev pub keep_shape : Shape
keep_shape = record (new_shape (codes "keep")) {
  rules =
      flag_rule (codes "program") ∷ option_rule (codes "taken") ∷ option_rule (codes "most") ∷ file_rule (codes "query") ∷ rows_rule ∷ [];
}

-- watermarks [--program] [--agree K] --bound BOUND [--step STEP] [--forget N] [--room N] [--source NAME] [--once CELL] [--last] [--metrics FILE] QUERY [ROWS]
abbrev pub watermarks_shape : Shape
watermarks_shape = record (new_shape (codes "watermarks")) {
  rules =
      flag_rule (codes "program") ∷ option_rule (codes "agree") ∷ needed_rule (codes "bound") ∷ option_rule (codes "step")
      ∷ option_rule (codes "forget") ∷ option_rule (codes "room") ∷ option_rule (codes "source") ∷ option_rule (codes "once") ∷ flag_rule (codes "last")
      ∷ option_rule (codes "metrics") ∷ file_rule (codes "query") ∷ rows_rule ∷ [];
}

-- live [--program] [--from SOURCE] [--keys FILE] [--new-keys] [--most-keys N] [--lost WHERE] [--health FILE] [--patience SECONDS] [--cut BYTES] [--position] DIR [QUERY] [LOG]
abbrev pub live_shape : Shape
live_shape = record (new_shape (codes "live")) {
  rules =
      flag_rule (codes "program") ∷ option_rule (codes "from") ∷ option_rule (codes "keys") ∷ flag_rule (codes "new-keys")
      ∷ option_rule (codes "most-keys") ∷ option_rule (codes "lost") ∷ option_rule (codes "health") ∷ option_rule (codes "patience")
      ∷ option_rule (codes "cut") ∷ flag_rule (codes "position") ∷ file_rule (codes "dir") ∷ other_rule (codes "query") ∷ other_rule (codes "log") ∷ [];
}

-- a subcommand
abbrev pub shape_by : Subcommand → Shape
shape_by sub.Run = run_shape
shape_by sub.Compile = compile_shape
shape_by sub.Migrate = migrate_shape
shape_by sub.Verify = verify_shape
shape_by sub.Explain = explain_shape
shape_by sub.Deal = deal_shape
shape_by sub.Rows = rows_shape
shape_by sub.Keep = keep_shape
shape_by sub.Watermarks = watermarks_shape
shape_by sub.Live = live_shape

-- the program's command, which wants a subcommand and tells its version
abbrev pub required_app : App
required_app = let a = new_app (codes "wsm") in record a { top = record a.top { has_version = true; subcommand_required = true } }

-- with its subcommands
abbrev pub the_app : App
the_app =
    with_shapes required_app
    (run_shape ∷ compile_shape ∷ migrate_shape ∷ verify_shape ∷ explain_shape ∷ deal_shape ∷ rows_shape ∷ keep_shape ∷ watermarks_shape ∷ live_shape ∷ [])

-- what a flag's text says: one of these, or there is none
abbrev pub SaysFlag : Option Text → Bool → Type 0
SaysFlag text flag = (text ≡ None → flag ≡ false) × (text ≡ Some (codes "true") → flag ≡ true) × (text ≡ Some (codes "false") → flag ≡ false)

-- the entry of an argument is the file
abbrev pub Names : {Z : Type 0} → List Row → Text → String Z → Type 0
Names entries id file = first_of id entries ≡ Some (string_bytes file)

-- the entry of an option is its value, and there is none where it is not given
abbrev pub HasOption : {Z : Type 0} → List Row → Text → Option (String Z) → Type 0
HasOption entries name value = option_map string_bytes value ≡ first_of name entries

-- the file of the rows, if one is named: `-` is the standard input
abbrev pub rows_named : Option Text → Option Text
rows_named None = None
rows_named (Some name) = if bytes_eq name (codes "-") then None else Some name

-- the entry of the rows is the file of the rows, or of the log
abbrev pub NamesRows : {Z : Type 0} → List Row → Option (String Z) → Type 0
NamesRows entries rows = option_map string_bytes rows ≡ rows_named (first_of (codes "rows") entries)

-- it has what the entries say of clocks that agree
abbrev pub IsAgreement : List Row → Agreement → Type 0
IsAgreement entries a =
    HasOption entries (codes "agree") a.agree × Names entries (codes "bound") a.bound × HasOption entries (codes "step") a.step
    × HasOption entries (codes "forget") a.forget × HasOption entries (codes "room") a.room

-- it has what the entries say of keys
abbrev pub IsNamed : List Row → Named → Type 0
IsNamed entries n = HasOption entries (codes "keys") n.file × SaysFlag (one_of (codes "new-keys") entries) n.takes_new × HasOption entries (codes "most-keys") n.most

-- the job has what the entries of the command of its name have
abbrev pub IsJob : Text → List Row → Job → Type 0
IsJob name entries (Run job) =
    (name ≡ codes "run") × SaysFlag (one_of (codes "program") entries) job.program
    × HasOption entries (codes "from") job.from × HasOption entries (codes "metrics") job.metrics × IsNamed entries job.keys
    × Names entries (codes "query") job.query × NamesRows entries job.rows
IsJob name entries (Compile job) = (name ≡ codes "compile") × Names entries (codes "query") job.query × Names entries (codes "out") job.out
IsJob name entries (Migrate job) = (name ≡ codes "migrate") × Names entries (codes "program") job.program × Names entries (codes "out") job.out
IsJob name entries (Verify job) =
    (name ≡ codes "verify") × SaysFlag (one_of (codes "query") entries) job.query
    × HasOption entries (codes "from") job.from × HasOption entries (codes "keys") job.keys × Names entries (codes "program") job.program
IsJob name entries (Explain job) =
    (name ≡ codes "explain") × SaysFlag (one_of (codes "json") entries) job.json
    × SaysFlag (one_of (codes "query") entries) job.query × Names entries (codes "program") job.program
IsJob name entries (Deal job) =
    (name ≡ codes "deal") × SaysFlag (one_of (codes "keys-of") entries) job.keys_of
    × Names entries (codes "keys") job.keys × Names entries (codes "parts") job.parts × Names entries (codes "out") job.out × NamesRows entries job.rows
IsJob name entries (Rows job) =
    (name ≡ codes "rows") × SaysFlag (one_of (codes "program") entries) job.program
    × Names entries (codes "source") job.source × Names entries (codes "query") job.query × NamesRows entries job.rows
IsJob name entries (Keep job) =
    (name ≡ codes "keep") × SaysFlag (one_of (codes "program") entries) job.program
    × HasOption entries (codes "taken") job.taken × HasOption entries (codes "most") job.most
    × Names entries (codes "query") job.query × NamesRows entries job.rows
IsJob name entries (Watermarks job) =
    (name ≡ codes "watermarks") × SaysFlag (one_of (codes "program") entries) job.program × IsAgreement entries job.agreement
    × HasOption entries (codes "source") job.source × HasOption entries (codes "once") job.once × SaysFlag (one_of (codes "last") entries) job.last
    × HasOption entries (codes "metrics") job.metrics × Names entries (codes "query") job.query × NamesRows entries job.rows
IsJob name entries (Live job) =
    (name ≡ codes "live") × SaysFlag (one_of (codes "program") entries) job.program × HasOption entries (codes "from") job.from × IsNamed entries job.keys
    × HasOption entries (codes "lost") job.lost × HasOption entries (codes "health") job.health × HasOption entries (codes "patience") job.patience
    × HasOption entries (codes "cut") job.cut × SaysFlag (one_of (codes "position") entries) job.position
    × Names entries (codes "dir") job.dir × HasOption entries (codes "query") job.query × HasOption entries (codes "log") job.log

-- a job is that of the subcommand and its entries
abbrev pub IsJobOf : Option (Text × List Row) → Job → Type 0
IsJobOf None job = ⊥
IsJobOf (Some found) job = IsJob found.0 found.1 job

-- want of memory, and no refusal of the words
abbrev pub IsMemory : WordsRefusal → Type 0
IsMemory (Words e) = ⊥
IsMemory Memory = Unit {0}

-- an error is told as itself, and as want of memory exactly where it is one for that
abbrev pub Tells : Error → WordsRefusal → Type 0
Tells e (Words told) = (told ≡ e) × (kind_of e ≢ OutOfMemory)
Tells e Memory = kind_of e ≡ OutOfMemory

-- a refusal of the words is by one of these faults
abbrev pub IsByFault : Kinds → WordsRefusal → Type 0
IsByFault faults (Words e) = IsAmong (kind_of e) faults
IsByFault faults Memory = ⊤

-- words with no fault may have a job, and others are refused by one of their faults or for want of memory
abbrev pub AnswersFaults : Kinds → Result Job WordsRefusal → Type 0
AnswersFaults faults (Ok job) = faults ≡ []
AnswersFaults faults (Err e) = IsByFault faults e
