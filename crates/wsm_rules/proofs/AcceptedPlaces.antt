-- What acceptance says of each place of each section.
use Rattle.std.proofs.Common.{◌≡◌, ℕ, suc, Bool, true, false, ◌&&◌, not, cond, List, [], ◌∷◌, length, Option, Some, None, Result, Ok, Err, refl, sym, ap}
use Rattle.std.proofs.lemmas.Bool.{true≢false}
use Rattle.std.specs.Prelude.{nat_eq, nat_lt, is_none, option_map}
use Rattle.wsm_program.specs.declared.Instr.{Instr}
use Rattle.wsm_rules.specs.declared.rejection.Rule.{Rule}
use Rattle.wsm_rules.specs.declared.rejection.Rejection.{Rejection}
use Rattle.wsm_program.specs.declared.program.Costs.{Costs}
use Rattle.wsm_program.specs.declared.SectionId.TheVariants.{Where, Update, Fire}
use Rattle.wsm_program.specs.Program.{Program}
use Rattle.wsm_rules.specs.Costs.{needed}
use Rattle.wsm_rules.specs.Labels.{State, Label, Unreached, Differing, Reached, Visit, pops, pushed}
use Rattle.wsm_program.specs.Instructions.{may_stand, goes_on, bad_jump}
use Rattle.wsm_rules.specs.Rules.{Setting, types_fit, folds_again, may_divide_by_zero, accumulator_leaves, overflows, fold_missing, first_of, tests, fault_of, fault_at, or_then, first_fault, fault_in, code_fault, fault, unless, judge, budget_fault, ranges_of_record, ranges_of_pane, update_visits}

none≢some : {A X : Type 0} {a : A} → Some a ≡ None → X
none≢some {A} {X} {a} e = let tag : Option A → Bool = λ o. elim o [ None ↦ true | Some x ↦ false ] in absurd (true≢false (sym (ap tag e)))

-- no rule holds of the instruction at place p, before which s is known
pub record Passes (c : Setting) (p : ℕ) (i : Instr) (s : State) : Type 0 where
  pub stands : not (may_stand c.section i) ≡ false
  pub enough : nat_lt (length s.stack) (pops i) ≡ false
  pub types : not (types_fit c.kinds c.ends i s.stack) ≡ false
  pub folds_once : folds_again i s.folded ≡ false
  pub divides : may_divide_by_zero i s.stack ≡ false
  pub has_interval : is_none (pushed c.ranges i s) ≡ false
  pub sums : accumulator_leaves c.records c.kinds i s.stack ≡ false
  pub has_room : overflows s.stack (pushed c.ranges i s) (pops i) ≡ false
  pub all_folded : fold_missing c.section i s.folded ≡ false
  pub jumps : bad_jump c.n p i ≡ false
  pub ends : (goes_on i && nat_eq (suc p) c.n) ≡ false

abbrev NoneHolds : List (Rule × Bool) → Type 0
NoneHolds [] = Unit {0}
NoneHolds (t ∷ ts) = (t.1 ≡ false) × NoneHolds ts

none_holds : (ts : List (Rule × Bool)) → first_of ts ≡ None → NoneHolds ts
none_holds [] e = tt
none_holds (t ∷ ts) e =
    elim (t.1) as (λ b. t.1 ≡ b → cond b (Some (t.0)) (first_of ts) ≡ None → (t.1 ≡ false) × NoneHolds ts) [
      | true ↦ λ b e. none≢some e
      | false ↦ λ b e. (b, none_holds ts e)
    ] refl e

-- a place without a fault is reached, and no rule holds there
pub passes : (c : Setting) (p : ℕ) (i : Instr) (l : Label) → fault_of c p i l ≡ None → (s : State) × (l ≡ Reached s) × Passes c p i s
passes c p i Unreached e = none≢some e
passes c p i Differing e = none≢some e
passes c p i (Reached s) e =
    let h = none_holds (tests c p i s) e in (
      s,
      refl,
      record {
        stands = h.0;
        enough = h.1.0;
        types = h.1.1.0;
        folds_once = h.1.1.1.0;
        divides = h.1.1.1.1.0;
        has_interval = h.1.1.1.1.1.0;
        sums = h.1.1.1.1.1.1.0;
        has_room = h.1.1.1.1.1.1.1.0;
        all_folded = h.1.1.1.1.1.1.1.1.0;
        jumps = h.1.1.1.1.1.1.1.1.1.0;
        ends = h.1.1.1.1.1.1.1.1.1.1.0;
      },
    )

or_none : (a b : Option Rejection) → or_then a b ≡ None → (a ≡ None) × (b ≡ None)
or_none None b e = (refl, e)
or_none (Some r) b e = none≢some e

map_none : {A B : Type 0} (f : A → B) (o : Option A) → option_map f o ≡ None → o ≡ None
map_none f None e = refl
map_none f (Some x) e = none≢some e

-- a fact of every visit
abbrev pub Each : (Visit → Type 0) → List Visit → Type 0
Each P [] = Unit {0}
Each P (v ∷ vs) = P v × Each P vs

-- in a section without a fault every place is without one
pub each_passes : (c : Setting) (vs : List Visit) → first_fault c vs ≡ None → Each (λ v. fault_of c v.place v.instr v.label ≡ None) vs
each_passes c [] e = tt
each_passes c (v ∷ vs) e =
    let h = or_none (first_fault c vs) (fault_at c v) e in
    (map_none _ (fault_of c v.place v.instr v.label) h.1, each_passes c vs h.0)

accepted_none : (need n : Costs) (o : Option Rejection) → unless need o ≡ Ok n → (o ≡ None) × (n ≡ need)
accepted_none need n None e = let of : Result Costs Rejection → Costs = λ r. elim r [ Ok x ↦ x | Err x ↦ need ] in (refl, sym (ap of e))
accepted_none need n (Some r) e = let tag : Result Costs Rejection → Bool = λ r. elim r [ Ok x ↦ true | Err x ↦ false ] in absurd (true≢false (sym (ap tag e)))

-- an accepted program has no fault in any section, states enough, and its numbers are those that it needs
pub record Accepted (p : Program) (n : Costs) : Type 0 where
  pub selection : fault_in p Where (ranges_of_record p) ≡ None
  pub update : fault_in p Update (ranges_of_record p) ≡ None
  pub fire : fault_in p Fire (ranges_of_pane p (update_visits p)) ≡ None
  pub budget : budget_fault p.header.budget (needed p) ≡ None
  pub costs : n ≡ needed p

pub accepted : (p : Program) (n : Costs) → judge p ≡ Ok n → Accepted p n
accepted p n e =
    let h = accepted_none (needed p) n (fault p) e in
    let sections = or_none (code_fault p) (budget_fault p.header.budget (needed p)) h.0 in
    let first = or_none (fault_in p Where (ranges_of_record p)) _ sections.0 in
    let second = or_none (fault_in p Update (ranges_of_record p)) _ first.1 in
    record { selection = first.0; update = second.0; fire = second.1; budget = sections.1; costs = h.1 }
