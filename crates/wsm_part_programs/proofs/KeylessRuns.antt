-- A section that doesn't push the key runs alike of any key.
use Rattle.std.proofs.Common.{◌≡◌, ℕ, zero, suc, Bool, true, false, not, List, [], ◌∷◌, length, map, Some, None, refl, sym, ap, ◌∙◌}
use Rattle.std.proofs.lemmas.Bool.{true≢false, and_parts}
use Rattle.std.specs.Prelude.{◌-◌, slice_get}
use Rattle.std.specs.Option.{option_and_then}
use Rattle.wsm_record.specs.declared.event.Value.{Value}
use Rattle.wsm_fold.specs.Fold.{folds_of}
use Rattle.wsm_semantics.specs.Query.{Datum}
use Rattle.wsm_semantics.specs.ByNumber.{Numbers, datum_by}
use Rattle.wsm_semantics.proofs.Lists.{length_each}
use Rattle.wsm_semantics.proofs.Each.{all-any, map-each, map-map}
use Rattle.wsm_program.specs.declared.instr.Instr.{Instr}
use Rattle.wsm_program.specs.declared.instr.Instr.TheVariants.{PushInt, PushBool, PushEnum, Field, Key, Acc, Count, Compute, Neg, Compare, Not, Jump, JumpIfFalse, Test, Fold, Return}
use Rattle.wsm_program.specs.declared.instr.SectionId.TheVariants.{Where, Update, Fire}
use Rattle.wsm_program.specs.Program.{Program}
use Rattle.wsm_machine.specs.declared.run.Ran.{Ran}
use Rattle.wsm_machine.specs.Inputs.{Inputs}
use Rattle.wsm_machine.specs.InRange.{folded_value}
use Rattle.wsm_machine.specs.Step.{Setting, setting, State, step}
use Rattle.wsm_machine.specs.Run.{act, go_on, run_from, entry}
use Rattle.wsm_machine.specs.Meaning.{query_of, record_inputs, pane_inputs, where_run, update_run, fire_run, says_true, columns_of, updated, folded}
use Rattle.wsm_key_parts.specs.Parts.{IgnoresKeys}
use Rattle.wsm_part_programs.specs.Keyless.{reads_key, is_keyless, IsKeyless}

passes_not : (b : Bool) → not b ≡ true → b ≡ false
passes_not true h = absurd (true≢false (sym h))
passes_not false h = refl

same_some : {A : Type 0} (x y : A) → Some x ≡ Some y → x ≡ y
same_some x y h = cc h

-- an instruction of the code
reads_none : (code : List Instr) → is_keyless code ≡ true → (n : ℕ) (x : Instr) → slice_get code n ≡ Some x → reads_key x ≡ false
reads_none [] all n x h = absurd (cc)
reads_none (y ∷ ys) all zero x h = ap reads_key (sym (same_some y x h)) ∙ passes_not (reads_key y) (and_parts _ _ all).0
reads_none (y ∷ ys) all (suc n) x h = reads_none ys (and_parts _ _ all).1 n x h

-- ---- a step

module _ (c : Setting) (key : ℕ) where
  abbrev with_key : Setting
  with_key = record c { inputs = record c.inputs { key = key } }

  step_alike : (s : State) (x : Instr) → reads_key x ≡ false → step with_key s x ≡ step c s x
  step_alike s (PushInt n) h = refl
  step_alike s (PushBool b) h = refl
  step_alike s (PushEnum e n) h = refl
  step_alike s (Field f) h = refl
  step_alike s Key h = absurd (true≢false h)
  step_alike s (Acc a) h = refl
  step_alike s Count h = refl
  step_alike s (Compute a) h = refl
  step_alike s Neg h = refl
  step_alike s (Compare o) h = refl
  step_alike s Not h = refl
  step_alike s (Jump t) h = refl
  step_alike s (JumpIfFalse t) h = refl
  step_alike s (Test test t) h = refl
  step_alike s (Fold a) h = refl
  step_alike s Return h = refl

  run_alike : is_keyless c.code ≡ true → (n : ℕ) (s : State) → run_from with_key n s ≡ run_from c n s
  run_alike all zero s = refl
  run_alike all (suc n) s =
      elim (slice_get c.code s.place) as (λ o. slice_get c.code s.place ≡ o → act with_key (run_from with_key n) s o ≡ act c (run_from c n) s o) [
        | None ↦ λ _. refl
        | Some x ↦ λ h. λ j. go_on (λ t. run_alike all n t j) s (step_alike s x (reads_none c.code all s.place x h) j)
      ] refl

-- ---- what a program's sections answer

module _ (p : Program) (keyless : IsKeyless p) where
  where_alike : (j k : ℕ) (values : List Value) → where_run p j values ≡ where_run p k values
  where_alike j k values = let c : Setting = setting p Where (record_inputs k values) in run_alike c j keyless.selection (length c.code - 0) (entry c)

  update_alike : (j k : ℕ) (values : List Value) → update_run p j values ≡ update_run p k values
  update_alike j k values = let c : Setting = setting p Update (record_inputs k values) in run_alike c j keyless.update (length c.code - 0) (entry c)

  fire_alike : (j k n : ℕ) (accs : List Value) → fire_run p j n accs ≡ fire_run p k n accs
  fire_alike j k n accs = let c : Setting = setting p Fire (pane_inputs k n accs) in run_alike c j keyless.fire (length c.code - 0) (entry c)

  updated_alike : (j k : ℕ) (values : List Value) → updated p j values ≡ updated p k values
  updated_alike j k values = ap (λ (r : Ran). map folded_value r.folds) (update_alike j k values)

  folded_alike : (number : Numbers) (ds : List Datum) → folded p (map (datum_by number) ds) ≡ folded p ds
  folded_alike number ds =
      ap (folds_of p.header.kinds) (
      map-map (λ d. updated p d.key d.values) (datum_by number) ds
      ∙ map-each (λ d. updated p (number d.key) d.values) (λ d. updated p d.key d.values) ds (all-any (λ d. updated p (number d.key) d.values ≡ updated p d.key d.values) (λ d. updated_alike (number d.key) d.key d.values) ds))

  pub ignores_keys : IgnoresKeys (query_of p)
  ignores_keys = record {
    selects = λ j k values. ap says_true (where_alike j k values);
    row = λ number j k ds i. option_and_then (λ held. columns_of (fire_alike j k (length_each (datum_by number) ds i) held i)) (folded_alike number ds i);
  }
