-- What the verifier knows behind the columns of a query: their ranges, each on those before.
use Rattle.std.specs.Prelude.{◌≡◌, ℕ, ◌+◌, true, List, [], ◌∷◌, pos}
use Rattle.wsm_interval.specs.Interval.{interval}
use Rattle.wsm_rules.specs.declared.known.Known.{Known}
use Rattle.wsm_rules.specs.declared.known.Known.TheVariants.{Number, Truth, NameOf}
use Rattle.wsm_rules.specs.Labels.{Label, Reached, label_at}
use Rattle.wsm_rules.specs.Rules.{entry, ranges_of_pane, update_visits}
use Rattle.wsm_query.specs.Tree.{Query, Expr}
use Rattle.wsm_check.specs.Checks.{IsChecked}
use Rattle.wsm_check.specs.Aggregates.{aggregates}
use Rattle.wsm_record.specs.declared.words.CellType.{CellType}
use Rattle.wsm_record.specs.declared.words.CellType.TheVariants as types
use Rattle.wsm_check.specs.Types.{typed}
use Rattle.wsm_check.specs.declared.types.Around.TheVariants.{InColumn}
use Rattle.wsm_compiler.specs.Code.{size, fire_section}
use Rattle.wsm_compiler.specs.Ranges.{Range, Unfit, NoNumber, Within, range, ranges_fit}
use Rattle.wsm_check.specs.Parts.{type_or_int}
use Rattle.wsm_compiler.specs.Program.{program_of}

-- a number is in its range; where it has none no label is claimed
abbrev pub number_as : Range → Known
number_as (Within i) = Number i
number_as NoNumber = Number (interval (pos 0) (pos 0))
number_as Unfit = Number (interval (pos 0) (pos 0))

-- a value of a type and a range, as the verifier knows it
abbrev pub known_as : CellType → Range → Known
known_as types.Int r = number_as r
known_as types.Bool r = Truth
known_as (types.Enum e) r = NameOf e

-- behind the code of each column, from place k on, its range is known on top of what is below; their first aggregate is the a-th
abbrev pub ColumnLabels : Query → (ℕ → Label) → ℕ → ℕ → List Expr → List Known → Type 0
ColumnLabels q label k a [] below = Unit {0}
ColumnLabels q label k a (e ∷ es) below =
    let x = known_as (type_or_int (typed q InColumn e)) (range q e) in
    (label (k + size q a e) ≡ Reached (record (entry (program_of q)) { stack = x ∷ below })) × ColumnLabels q label (k + size q a e) (a + aggregates e) es (x ∷ below)

abbrev pub LabelsAreRanges : Query → Type 0
LabelsAreRanges q = IsChecked q → ranges_fit q ≡ true →
    ColumnLabels q (label_at (entry (program_of q)) (ranges_of_pane (program_of q) (update_visits (program_of q))) (fire_section q)) 0 0 q.columns []
