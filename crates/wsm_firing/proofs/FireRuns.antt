-- FIRE run on a pane's numbers gives the columns and the instructions of its firing.
use Rattle.std.proofs.Common.{◌≡◌, ℕ, ◌<◌, ◌^◌, Bool, true, false, cond, List, [], ◌∷◌, reverse, Option, Some, None, pos, sym, ap, subst, ◌∙◌, SFits, w64, to_z, arith}
use Rattle.std.proofs.lemmas.Int.{ints, to_z_pos}
use Rattle.std.specs.Prelude.{IfSome, option_map}
use Rattle.std.specs.Option.{option_and_then}
use Rattle.wsm_record.specs.declared.event.Value.{Value}
use Rattle.wsm_record.specs.declared.cell.Cell.{Cell}
use Rattle.wsm_record.specs.declared.cell.Cell.TheVariants as cells
use Rattle.wsm_semantics.specs.Summaries.{columns}
use Rattle.wsm_program.specs.declared.instr.SectionId.TheVariants.{Fire}
use Rattle.wsm_program.specs.Program.{Program}
use Rattle.wsm_machine.specs.declared.outcome.Outcome.TheVariants.{Done}
use Rattle.wsm_machine.specs.Inputs.{Inputs}
use Rattle.wsm_machine.specs.Run.{run}
use Rattle.wsm_machine.specs.Meaning.{pane_inputs, row, plan_of, fire_steps}
use Rattle.wsm_slots.proofs.Written.{if_mapped}
use Rattle.wsm_machine.proofs.RunAnswers.{row_is}

-- what an option that is read holds
pub read : {A B : Type 0} (f : A → B) (o : Option A) (x : A) (y : B) (p : Option B) → o ≡ Some x → option_map f o ≡ p → p ≡ Some y → f x ≡ y
read {A} {B} f o x y p is maps there =
    let value : Option B → B = λ o. elim o [ None ↦ y | Some z ↦ z ] in
    ap value (ap (option_map f) (sym is) ∙ maps ∙ there)

if_some : (P : List Cell → Type 0) (b : Bool) (cells : List Cell) → P cells → IfSome (cond b (Some cells) None) P
if_some P true cells h = h
if_some P false cells h = tt

-- what holds of a row's cells holds of them where the row is written
pub if_row : {A : Type 0} (f : A → List Cell) (P : List Cell → Type 0) (b : Bool) (cells : List Cell) (o : Option A) → option_map f o ≡ cond b (Some cells) None → P cells → IfSome o (λ x. P (f x))
if_row f P b cells o is h = if_mapped f P o (subst (λ (r : Option (List Cell)). IfSome r P) (sym is) (if_some P b cells h))

pub same_inputs : (key n m : ℕ) (accs held : List Value) → m ≡ n → accs ≡ held → SFits w64 (pos n) →
    (let i : Inputs = record { key = key; values = []; count = to_z w64 m; accs = accs } in i) ≡ pane_inputs key n held
same_inputs key n m accs held count same fits =
    let small : m < 2 ^ 63 = grind (arith, ints, fits) in
    let cast : to_z w64 m ≡ pos n = to_z_pos w64 m small ∙ ap pos count in
    λ i. record { key = key; values = []; count = cast i; accs = same i }

module _ (p : Program) (key n : ℕ) (o : Option (List Value)) (held : List Value) (there : o ≡ Some held) (i : Inputs) (same : i ≡ pane_inputs key n held) where
  pub steps_are : (s : ℕ) → (run p Fire i).steps ≡ s → s ≡ fire_steps p key n o
  steps_are s is = sym is ∙ ap (λ j. (run p Fire j).steps) same ∙ ap (fire_steps p key n) (sym there)

  pub columns_are : (b : Bool) (columns_run : List Cell) → (run p Fire i).outcome ≡ Done → (run p Fire i).stack ≡ cells.Bool b ∷ reverse columns_run →
      cond b (Some columns_run) None ≡ columns (plan_of p) key n o
  columns_are b columns_run done left =
      sym (row_is p key n held b columns_run (ap (λ j. (run p Fire j).outcome) (sym same) ∙ done) (ap (λ j. (run p Fire j).stack) (sym same) ∙ left))
      ∙ ap (option_and_then (row p key n)) (sym there)
