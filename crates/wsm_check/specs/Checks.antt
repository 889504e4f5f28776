-- The checks of a query, in their order: the first refusal decides, and names its part.
use Rattle.std.specs.Prelude.{◌≡◌, ℕ, suc, ◌*◌, Bool, true, ◌&&◌, not, cond, List, [], ◌∷◌, ◌++◌, length, ℤ, pos, int_le, nat_le, nat_lt, Option, Some, None, Result, Ok, Err, ◌⊎◌}
use Rattle.wsm_record.specs.declared.limits.TheConstants.{MAX_ACCUMULATORS, MAX_COLUMNS, MAX_FIELDS, MAX_NAMES, MAX_PANES, MAX_SECTION, MAX_STACK, MAX_STATED}
use Rattle.wsm_record.specs.Name.{is_among}
use Rattle.wsm_record.specs.Modes.{may_write}
use Rattle.wsm_windows.specs.Life.{live_bound}
use Rattle.wsm_windows.specs.Limits.{is_shape, is_size}
use Rattle.wsm_record.specs.Schema.{FieldType, DeclaredField, is_source_count, is_within}
use Rattle.wsm_record.specs.Schema as field_types
use Rattle.wsm_admission.specs.Clock.{is_limited, is_timely}
use Rattle.wsm_query.specs.declared.query.Budget.{Budget}
use Rattle.wsm_query.specs.Tree.{Name, Query, Expr}
use Rattle.wsm_check.specs.declared.refusal.CheckFault.{CheckFault}
use Rattle.wsm_check.specs.declared.refusal.CheckFault.TheVariants.{Duplicate, Limit, Exceeds, StreamNeedsAccumulating, SessionLateness}
use Rattle.wsm_check.specs.declared.refusal.CodeLimit.{CodeLimit}
use Rattle.wsm_check.specs.declared.refusal.CodeLimit.TheVariants.{Accumulators, Where, Update, Fire, Stack, Panes}
use Rattle.wsm_check.specs.declared.refusal.Part.{Part}
use Rattle.wsm_check.specs.declared.refusal.Part.TheVariants as part
use Rattle.wsm_check.specs.declared.refusal.CheckRefusal.{CheckRefusal}
use Rattle.wsm_check.specs.declared.refusal.CheckRefusal.TheVariants.{Fault, Memory}
use Rattle.wsm_check.specs.Names.{has_repeats}
use Rattle.wsm_check.specs.Types.{Around, InWhere, InColumn, Typed, typed, typed_condition}
use Rattle.wsm_check.specs.Spelt.{IsSpelt}
use Rattle.wsm_check.specs.Parts.{Parts, parts_of}
use Rattle.wsm_check.specs.Sizes.{ending_size, foldings_size, firing_size, need_of, counted}

-- a refusal where the condition fails
abbrev pub unless : Bool → CheckFault → Part → Option CheckRefusal
unless b f p = cond b None (Some (Fault f p))

-- the first of two, and of many
abbrev pub or_else : Option CheckRefusal → Option CheckRefusal → Option CheckRefusal
or_else None r = r
or_else (Some x) r = Some x

abbrev pub first : List (Option CheckRefusal) → Option CheckRefusal
first [] = None
first (r ∷ rs) = or_else r (first rs)

-- 1 to 1,000 names, none of them twice
abbrev pub names_refusal : Part → List Name → Option CheckRefusal
names_refusal p xs = first (unless (nat_le 1 (length xs) && nat_le (length xs) MAX_NAMES) Limit p ∷ unless (not (has_repeats xs)) Duplicate p ∷ [])

abbrev pub ty_refusal : Part → FieldType → Option CheckRefusal
ty_refusal p (field_types.Int lo hi) = unless (int_le lo hi) Limit p
ty_refusal p field_types.Truth = None
ty_refusal p (field_types.Enum names) = names_refusal p names

-- of a field behind those with the names: at most 16, and none of a name twice
abbrev pub field_refusal : List Name → DeclaredField → Option CheckRefusal
field_refusal names d =
    let p = part.Field (suc (length names)) in
    first (unless (nat_lt (length names) MAX_FIELDS) Limit p ∷ unless (not (is_among d.name names)) Duplicate p ∷ ty_refusal p d.type ∷ [])

-- of the fields behind those with the names
abbrev pub fields_refusal : List Name → List DeclaredField → Option CheckRefusal
fields_refusal names [] = None
fields_refusal names (d ∷ ds) = or_else (field_refusal names d) (fields_refusal (names ++ d.name ∷ []) ds)

-- where sources are declared, 2 to 16 of them, none of them twice
abbrev pub sources_refusal : List Name → Option CheckRefusal
sources_refusal xs = first (unless (is_source_count (length xs)) Limit part.Sources ∷ unless (not (has_repeats xs)) Duplicate part.Sources ∷ [])

abbrev pub is_cost : ℤ → Bool
is_cost n = is_within (pos 1) (pos MAX_STATED) n

abbrev pub budget_fits : Option Budget → Bool
budget_fits None = true
budget_fits (Some b) = is_cost b.per_record && (is_cost b.per_pane && is_within (pos 1) (pos MAX_PANES) b.held)

abbrev pub every_fits : Option ℤ → Bool
every_fits None = true
every_fits (Some n) = is_size n

abbrev pub typed_refusal : Part → Typed → Option CheckRefusal
typed_refusal p (Ok t) = None
typed_refusal p (Err f) = Some (Fault f p)

abbrev pub condition_refusal : Query → Around → Part → Option Expr → Option CheckRefusal
condition_refusal q around p None = None
condition_refusal q around p (Some e) = typed_refusal p (typed_condition q around e)

-- of the columns behind the first i: 1 to 16 of them
abbrev pub columns_refusal : Query → ℕ → List Expr → Option CheckRefusal
columns_refusal q i [] = unless (nat_lt 0 i) Limit (part.Column 1)
columns_refusal q i (e ∷ es) =
    let p = part.Column (suc i) in
    first (unless (nat_lt i MAX_COLUMNS) Limit p ∷ typed_refusal p (typed q InColumn e) ∷ columns_refusal q (suc i) es ∷ [])

-- more than there may be of what a limit is of
abbrev pub exceeds : CodeLimit → ℕ → ℕ → Option CheckRefusal
exceeds limit n allowed = unless (nat_le n allowed) (Exceeds limit n allowed) part.Code

-- at most 16 accumulators
abbrev pub foldings_refusal : Parts → Option CheckRefusal
foldings_refusal p = exceeds Accumulators (length p.foldings) MAX_ACCUMULATORS

-- at most 1,000 instructions in a section, 32 places on the stack, and 100,000 panes at once
abbrev pub sizes_refusal : Parts → Option CheckRefusal
sizes_refusal p =
    first (
    exceeds Where (counted (ending_size p.condition)) MAX_SECTION
    ∷ exceeds Update (counted (foldings_size p.foldings)) MAX_SECTION
    ∷ exceeds Fire (counted (firing_size p.having p.columns)) MAX_SECTION
    ∷ exceeds Stack (counted (need_of p)) MAX_STACK
    ∷ exceeds Panes (counted (length p.schema.keys * live_bound p.output.shape p.clock.skew p.clock.lateness)) MAX_PANES
    ∷ [])

-- of what the query declares
abbrev pub declared_refusal : Query → Option CheckRefusal
declared_refusal q = first (names_refusal part.Keys q.keys ∷ fields_refusal [] q.fields ∷ sources_refusal q.sources ∷ [])

-- of its numbers, and of the form
abbrev pub numbers_refusal : Query → Option CheckRefusal
numbers_refusal q =
    first (
    unless (is_limited q.clock) Limit part.Clock
    ∷ unless (budget_fits q.budget) Limit part.Budget
    ∷ unless (is_shape q.output.shape) Limit part.Window
    ∷ unless (is_timely q.clock.from_window q.output.shape) SessionLateness part.Window
    ∷ unless (every_fits q.output.early && every_fits q.output.late) Limit part.Trigger
    ∷ unless (may_write q.output.mode q.output.form) StreamNeedsAccumulating part.Emit
    ∷ [])

-- of its expressions
abbrev pub expressions_refusal : Query → Option CheckRefusal
expressions_refusal q =
    first (
    condition_refusal q InWhere part.Where q.condition
    ∷ columns_refusal q 0 q.columns
    ∷ condition_refusal q InColumn part.Having q.having
    ∷ [])

-- of what is behind the declarations, up to the accumulators, whose number says whether terms may be numbered
abbrev pub rest_refusal : Query → Option CheckRefusal
rest_refusal q = first (numbers_refusal q ∷ expressions_refusal q ∷ foldings_refusal (parts_of q) ∷ [])

abbrev pub refusal : Query → Option CheckRefusal
refusal q = first (declared_refusal q ∷ rest_refusal q ∷ sizes_refusal (parts_of q) ∷ [])

-- no check refuses the query
abbrev pub IsChecked : Query → Type 0
IsChecked q = refusal q ≡ None

-- these are the parts of a query that no check refuses
pub record ArePartsOfChecked (p : Parts) : Type 0 where
  pub query : Query
  pub checked : IsChecked query
  pub spelt : IsSpelt query
  pub is : p ≡ parts_of query

-- what the code answers of a check, unless memory ran out
abbrev pub Judges : {A : Type 0} → Result A CheckRefusal → Option CheckRefusal → Type 0
Judges (Ok a) r = r ≡ None
Judges (Err e) r = (e ≡ Memory) ⊎ (r ≡ Some e)
